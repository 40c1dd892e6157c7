use Rattle.whole_laws.proofs.ChangeLemmas.{changed-states-are_held}
use Rattle.whole_laws.proofs.laws.changed_states_are_held.Goals as goal

pub returns : goal.returns
returns c = changed-states-are_held
