use Rattle.placement.specs.CyclicLaws.{length-cyclic}
use Rattle.placement.proofs.cyclic.Cyclic.new.Goals as goal

pub returns-clause-extent : goal.returns-clause-extent
returns-clause-extent c = length-cyclic c.args.extent c.args.ranks c.args.block
