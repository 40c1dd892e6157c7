use Rattle.std.proofs.Common.{◌≡◌, ◌++◌, subst, sym, arith}
use Rattle.bern_top.proofs.WritingLemmas.{writes_more}
use Rattle.bern_top.proofs.writing.write_whole.Goals as goal

pub loop-rest-preserved : goal.loop-rest-preserved
loop-rest-preserved g c =
    let more = writes_more _ _ _ c.args.bytes.now c.loop-rest.rest.now c.split_at.result.0.now c.loop-rest.invariant.part.0 c.min.result c.in-Ok.count
    c.loop-rest.invariant.part.1 c.split_at.ensures.front c.in-Ok.ensures.bound c.loop-rest.invariant.part.2 c.in-Ok.ensures.bytes in
    record {
      later = omega (arith, c.loop-rest.invariant.later, c.in-Ok.ensures.cause.later);
      part = (more.0, subst (λ t. c.args.bytes.now ≡ more.0 ++ t) (sym c.split_at-in-Ok.ensures.back) more.1, more.2);
    }
