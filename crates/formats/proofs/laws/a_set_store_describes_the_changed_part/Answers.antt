use Rattle.formats.proofs.BuildLemmas.{set_describes}
use Rattle.formats.proofs.laws.a_set_store_describes_the_changed_part.Goals as goal

pub returns : goal.returns
returns c s t single outer old new element value is globals order = set_describes s t single outer old new element value is globals order
