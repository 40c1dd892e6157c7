use Rattle.formats.proofs.ReachLemmas.{any_reached}
use Rattle.formats.proofs.laws.lines_hang_below_the_root.Goals as goal

pub returns : goal.returns
returns c = any_reached
