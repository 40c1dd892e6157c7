use Rattle.std.proofs.Common.{map, ap}
use Rattle.job_rules.specs.Known.{seen}
use Rattle.job_rules.proofs.names.Names.new.Goals as goal

pub returns : goal.returns
returns c = ap (map seen) c.new.ensures.empty
