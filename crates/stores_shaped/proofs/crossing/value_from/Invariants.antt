use Rattle.std.proofs.Common.{◌-◌, length}
use Rattle.stores_shaped.specs.Crossings.{IsSeen}
use Rattle.stores_shaped.proofs.crossing.value_from.Given as goal

abbrev pub invariant-passing : goal.invariant-passing
invariant-passing l = IsSeen l.part l.number l.at

abbrev pub decreases-passing : goal.decreases-passing
decreases-passing l = length l.part.entries - l.at
