use Rattle.part_turns.proofs.TurnLemmas.{turns-of_parts-can_be_made}
use Rattle.part_turns.proofs.laws.turns_of_parts_can_be_made.Goals as goal

pub returns : goal.returns
returns c = turns-of_parts-can_be_made
