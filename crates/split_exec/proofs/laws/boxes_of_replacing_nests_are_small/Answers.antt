use Rattle.split_exec.proofs.SmallLemmas.{boxes_are_small}
use Rattle.split_exec.proofs.laws.boxes_of_replacing_nests_are_small.Goals as goal

pub returns : goal.returns
returns c = boxes_are_small
