use Rattle.std.proofs.Common.{◌≡◌, ◌+◌, take, get_or, sym, subst, arith}
use Rattle.std.specs.List.{All}
use Rattle.std.proofs.lemmas.List.{take_all, take_more}
use Rattle.std.proofs.lemmas.List.Elements.{All-push}
use Rattle.bern_base.specs.declared.job.Ref.{Ref}
use Rattle.join_plan.specs.Costs.{stats_at}
use Rattle.join_plan.specs.Tasks.{AreSlight}
use Rattle.join_plan.proofs.limits.are_all_slight.Goals as goal

pub loop-reference-preserved : goal.loop-reference-preserved
loop-reference-preserved c =
    let item : Ref = c.reference-item.result in
    let here : Ref = get_or c.args.references.now c.loop-reference.reference-index item in
    subst (All (λ ref. AreSlight (stats_at c.args.stats.now ref.array))) (sym (take_more c.args.references.now c.loop-reference.reference-index item c.loop-reference-test.true))
    (All-push (λ ref. AreSlight (stats_at c.args.stats.now ref.array)) (take c.loop-reference.reference-index c.args.references.now) here c.loop-reference.invariant (subst (λ ref. AreSlight (stats_at c.args.stats.now ref.array)) c.reference-item.is (c.is_slight.ensures c.if-not-is_slight.false)))

pub returns : goal.returns
returns c = λ is. subst (All (λ ref. AreSlight (stats_at c.args.stats.now ref.array))) (take_all c.loop-reference.reference-index c.args.references.now (omega (arith, c.loop-reference-test.false))) c.loop-reference.invariant
