use Rattle.format_model.proofs.IndexLemmas.{no_index-stands_twice}
use Rattle.format_model.proofs.laws.no_index_stands_twice.Goals as goal

pub returns : goal.returns
returns c = no_index-stands_twice
