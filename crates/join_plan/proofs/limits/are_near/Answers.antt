use Rattle.std.proofs.Common.{◌≡◌, ◌+◌, take, get_or, sym, subst, arith}
use Rattle.std.specs.List.{All}
use Rattle.std.proofs.lemmas.List.{take_all, take_more}
use Rattle.std.proofs.lemmas.List.Elements.{All-push}
use Rattle.bern_base.specs.declared.job.Span.{Span}
use Rattle.job_model.specs.Runnable.{IsNear}
use Rattle.join_plan.proofs.limits.are_near.Goals as goal

pub loop-span-preserved : goal.loop-span-preserved
loop-span-preserved c =
    let item : Span = c.span-item.result in
    let here : Span = get_or c.args.spans.now c.loop-span.span-index item in
    subst (All IsNear) (sym (take_more c.args.spans.now c.loop-span.span-index item c.loop-span-test.true))
    (All-push IsNear (take c.loop-span.span-index c.args.spans.now) here c.loop-span.invariant (subst IsNear c.span-item.is (c.is_near.ensures c.if-not-is_near.false)))

pub returns : goal.returns
returns c = λ is. subst (All IsNear) (take_all c.loop-span.span-index c.args.spans.now (omega (arith, c.loop-span-test.false))) c.loop-span.invariant
