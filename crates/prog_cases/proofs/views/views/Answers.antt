use Rattle.std.proofs.Common.{◌∙◌, ◌+◌, length, length-append, ap}
use Rattle.prog_cases.proofs.ViewLemmas.{view_more}
use Rattle.prog_cases.proofs.views.views.Goals as goal

pub loop-number-preserved : goal.loop-number-preserved
loop-number-preserved c = record {
  count = ap length c.in_ok-push.ensures.ok ∙ length-append c.loop-number.views _ ∙ ap (λ n. n + 1) c.loop-number.invariant.count;
  each = view_more _ c.args.loaded.now.job c.loop-number.views c.push.new.self c.in_ok-view_of.field-0 c.loop-number.number c.in_ok-push.ensures.ok c.loop-number.invariant.count c.loop-number.invariant.each c.in_ok-view_of.ensures;
}
