use Rattle.format_model.proofs.AgreeLemmas.{lists-the_stored_values}
use Rattle.format_model.proofs.laws.lists_the_stored_values.Goals as goal

pub returns : goal.returns
returns c = lists-the_stored_values
