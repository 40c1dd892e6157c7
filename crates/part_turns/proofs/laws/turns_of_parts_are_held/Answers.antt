use Rattle.part_turns.proofs.TurnLemmas.{turns-of_parts-are_held}
use Rattle.part_turns.proofs.laws.turns_of_parts_are_held.Goals as goal

pub returns : goal.returns
returns c = turns-of_parts-are_held
