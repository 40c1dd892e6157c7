use Rattle.std.proofs.Common.{sym, subst, ◌<◌}
use Rattle.placement.specs.CyclicLaws.{owner-cyclic, length-cyclic}
use Rattle.placement.proofs.cyclic.CyclicPlacement.owner.Goals as goal

pub returns : goal.returns
returns c =
    let s = c.args.self.now in
    sym (owner-cyclic s.extent s.ranks s.block c.args.i (subst (λ n. c.args.i < n) (length-cyclic s.extent s.ranks s.block) c.requires))
