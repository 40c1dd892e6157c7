use Rattle.whole_turns.proofs.TurnLemmas.{turns-are_held}
use Rattle.whole_turns.proofs.laws.turns_are_held.Goals as goal

pub returns : goal.returns
returns c = turns-are_held
