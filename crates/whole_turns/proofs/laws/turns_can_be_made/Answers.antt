use Rattle.whole_turns.proofs.TurnLemmas.{turns-can-be_made}
use Rattle.whole_turns.proofs.laws.turns_can_be_made.Goals as goal

pub returns : goal.returns
returns c = turns-can-be_made
