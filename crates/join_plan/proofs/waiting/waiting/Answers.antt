use Rattle.std.proofs.Common.{◌≡◌, ◌∙◌, ℕ, suc, ◌-◌, ◌<◌, ◌&&◌, Bool, true, false, List, length, get_or, sym, ap, arith}
use Rattle.term_model.specs.Plans.{has_factor, is_free}
use Rattle.join_plan.proofs.WaitingLemmas.{left, left_all, left_none, more_false, more_true}
use Rattle.join_plan.proofs.waiting.waiting.Goals as goal

pub vars-init : goal.vars-init
vars-init c = (
  omega arith,
  omega arith,
  λ vs marks.
      (ap length (sym (left_none (λ v. is_free vs v && has_factor c.args.form.now v))), ap (λ xs. get_or xs 0 4) (sym (left_none (λ v. is_free vs v && has_factor c.args.form.now v)))),
)

pub vars-preserved-then-is_waiting : goal.vars-preserved-then-is_waiting
vars-preserved-then-is_waiting c = (
  omega (arith, c.vars.invariant.0),
  omega (arith, c.vars.invariant.0, c.vars.invariant.1, c.vars-test.true),
  λ vs marks.
      let p : ℕ → Bool = λ v. is_free vs v && has_factor c.args.form.now v in
      let more = more_true p c.vars.var (c.vars.var - 1) (omega (arith, c.vars.invariant.0, c.vars-test.true)) (omega (arith, c.vars-test.true)) (sym (c.is_waiting.ensures vs marks) ∙ c.if-is_waiting.true) in
      (omega (arith, ap length more, (c.vars.invariant.2 vs marks).0), ap (λ xs. get_or xs 0 4) (sym more)),
)

pub vars-preserved : goal.vars-preserved
vars-preserved c = (
  omega (arith, c.vars.invariant.0),
  omega (arith, c.vars.invariant.0, c.vars.invariant.1, c.vars-test.true),
  λ vs marks.
      let p : ℕ → Bool = λ v. is_free vs v && has_factor c.args.form.now v in
      let more = more_false p c.vars.var (c.vars.var - 1) (omega (arith, c.vars.invariant.0, c.vars-test.true)) (omega (arith, c.vars-test.true)) (sym (c.is_waiting.ensures vs marks) ∙ c.if-is_waiting.false) in
      ((c.vars.invariant.2 vs marks).0 ∙ ap length (sym more), (c.vars.invariant.2 vs marks).1 ∙ ap (λ xs. get_or xs 0 4) (sym more)),
)

pub returns-clause-count : goal.returns-clause-count
returns-clause-count c = λ vs marks.
    let p : ℕ → Bool = λ v. is_free vs v && has_factor c.args.form.now v in
    let none : c.vars.var ≡ 0 = omega (arith, c.vars-test.false) in
    (c.vars.invariant.2 vs marks).0 ∙ ap (λ v. length (left p v)) none ∙ ap length (left_all p)

pub returns-clause-first : goal.returns-clause-first
returns-clause-first c = λ vs marks.
    let p : ℕ → Bool = λ v. is_free vs v && has_factor c.args.form.now v in
    let none : c.vars.var ≡ 0 = omega (arith, c.vars-test.false) in
    (c.vars.invariant.2 vs marks).1 ∙ ap (λ v. get_or (left p v) 0 4) none ∙ ap (λ xs. get_or xs 0 4) (left_all p)

pub returns-clause-few : goal.returns-clause-few
returns-clause-few c = omega (arith, c.vars.invariant.0, c.vars.invariant.1)
