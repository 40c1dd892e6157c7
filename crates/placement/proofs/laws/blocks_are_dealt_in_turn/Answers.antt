use Rattle.placement.specs.CyclicLaws.{blocks-are-dealt-in-turn}
use Rattle.placement.proofs.laws.blocks_are_dealt_in_turn.Goals as goal

pub returns : goal.returns
returns c = blocks-are-dealt-in-turn
