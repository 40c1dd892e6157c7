use Rattle.std.proofs.Common.{◌<◌, ◌/◌, ◌*◌, ◌+◌, ◌-◌, sym, subst, ap, ◌∙◌}
use Rattle.std.proofs.Math.Nat.{div-div-eq-div-mul, mod-eq-sub-div-mul}
use Rattle.placement.specs.CyclicLaws.{owner-cyclic, local-cyclic, length-cyclic}
use Rattle.placement.proofs.cyclic.CyclicPlacement.seat.Goals as goal

pub returns-clause-owner : goal.returns-clause-owner
returns-clause-owner c =
    let s = c.args.self.now in
    sym (owner-cyclic s.extent s.ranks s.block c.args.i (subst (λ n. c.args.i < n) (length-cyclic s.extent s.ranks s.block) c.requires))

pub returns-clause-local : goal.returns-clause-local
returns-clause-local c =
    let s = c.args.self.now in
    let i = c.args.i in
    ap (λ t. t * s.block + (i - i / s.block * s.block)) (div-div-eq-div-mul i s.block s.ranks)
    ∙ ap (λ r. i / (s.block * s.ranks) * s.block + r) (sym (mod-eq-sub-div-mul i s.block))
    ∙ sym (local-cyclic s.extent s.ranks s.block i (subst (λ n. i < n) (length-cyclic s.extent s.ranks s.block) c.requires))
