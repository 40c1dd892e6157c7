use Rattle.std.proofs.Common.{sym, subst, ◌<◌, ◌∙◌, ap, ◌/◌, ◌*◌, ◌+◌, ◌%◌, arith}
use Rattle.placement.specs.CyclicLaws.{local-cyclic, local-le, length-cyclic}
use Rattle.placement.proofs.cyclic.CyclicPlacement.local.Goals as goal

pub overflow_cast-result-4 : goal.overflow_cast-result-4
overflow_cast-result-4 c =
    let s = c.args.self.now in
    rw c.turn.ensures.turn (omega (arith, local-le s.ranks s.block c.args.i s.some_rank))

pub returns : goal.returns
returns c =
    let s = c.args.self.now in
    ap (λ w. c.args.i / w * s.block + c.args.i % s.block) c.turn.ensures.turn
    ∙ sym (local-cyclic s.extent s.ranks s.block c.args.i (subst (λ n. c.args.i < n) (length-cyclic s.extent s.ranks s.block) c.requires))
