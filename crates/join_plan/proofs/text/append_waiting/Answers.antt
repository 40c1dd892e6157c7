use Rattle.std.proofs.Common.{◌≡◌, ◌∙◌, ◌++◌, ◌&&◌, ℕ, Bool, List, take, sym, ap, arith}
use Rattle.std.specs.List.{filter, flat_map}
use Rattle.term_model.specs.Plans.{four, has_factor, is_free}
use Rattle.join_plan.specs.PlanText.{variable_word}
use Rattle.join_plan.proofs.TextLemmas.{waited_more}
use Rattle.join_plan.proofs.text.append_waiting.Goals as goal

pub vars-preserved : goal.vars-preserved
vars-preserved c = (
  omega (arith, c.vars-test.true),
  λ vs marks.
      waited_more (variable_word c.args.nest.now) (λ v. is_free vs v && has_factor c.args.form.now v) c.vars.var c.is_waiting.result c.args.out.now c.vars.out _ c.vars-test.true
      (c.is_waiting.ensures vs marks) (c.vars.invariant.1 vs marks) c.in_ok-append_where.ensures,
)

pub returns : goal.returns
returns c = λ vs marks.
    let all : c.vars.var ≡ 4 = omega (arith, c.vars.invariant.0, c.vars-test.false) in
    c.vars.invariant.1 vs marks
    ∙ ap (λ n. c.args.out.now ++ flat_map (variable_word c.args.nest.now) (filter (λ v. is_free vs v && has_factor c.args.form.now v) (take n four))) all
