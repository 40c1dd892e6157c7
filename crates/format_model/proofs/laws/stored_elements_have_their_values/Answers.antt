use Rattle.format_model.proofs.AgreeLemmas.{stored_elements-have_their_values}
use Rattle.format_model.proofs.laws.stored_elements_have_their_values.Goals as goal

pub returns : goal.returns
returns c = stored_elements-have_their_values
