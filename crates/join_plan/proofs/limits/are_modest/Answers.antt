use Rattle.std.proofs.Common.{◌≡◌, ◌+◌, take, get_or, sym, subst, arith}
use Rattle.std.specs.List.{All}
use Rattle.std.proofs.lemmas.List.{take_all, take_more}
use Rattle.std.proofs.lemmas.List.Elements.{All-push}
use Rattle.join_plan.specs.Tasks.{IsModest}
use Rattle.join_plan.proofs.limits.are_modest.Goals as goal

pub loop-stat-preserved : goal.loop-stat-preserved
loop-stat-preserved c =
    subst (All IsModest) (sym (take_more c.args.stats.now c.loop-stat.stat-index _ c.loop-stat-test.true))
    (All-push IsModest (take c.loop-stat.stat-index c.args.stats.now) _ c.loop-stat.invariant (c.is_modest.ensures c.if-not-is_modest.false))

pub returns : goal.returns
returns c = λ is. subst (All IsModest) (take_all c.loop-stat.stat-index c.args.stats.now (omega (arith, c.loop-stat-test.false))) c.loop-stat.invariant
