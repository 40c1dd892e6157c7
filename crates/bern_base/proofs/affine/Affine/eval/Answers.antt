use Rattle.std.proofs.Common.{◌≡◌, ◌+ℤ◌, ap, ◌∙◌, subst, sym, refl, arith}
use Rattle.std.proofs.lemmas.Int.{ints}
use Rattle.bern_base.specs.Affine.{AffineForm, IsWithin}
use Rattle.bern_base.proofs.AffineLemmas.{word}
use Rattle.bern_base.proofs.affine.Affine.eval.Goals as goal

pub overflow_add-result-2 : goal.overflow_add-result-2
overflow_add-result-2 c = omega (arith, ints, c.self.invariant.constant, c.term.ensures.within, c.term-2.ensures.within)

pub overflow_add-result-3 : goal.overflow_add-result-3
overflow_add-result-3 c = omega (arith, ints, c.self.invariant.constant, c.term.ensures.within, c.term-2.ensures.within, c.term-3.ensures.within)

pub overflow_add-result-4 : goal.overflow_add-result-4
overflow_add-result-4 c = omega (arith, ints, c.self.invariant.constant, c.term.ensures.within, c.term-2.ensures.within, c.term-3.ensures.within, c.term-4.ensures.within)

total : (c : goal.After-term-4) →
    word (word (word (word (word c.self.inside.c0 +ℤ word c.term.result) +ℤ word c.term-2.result) +ℤ word c.term-3.result) +ℤ word c.term-4.result) ≡
    c.self.inside.c0 +ℤ c.term.result +ℤ c.term-2.result +ℤ c.term-3.result +ℤ c.term-4.result
total c = omega (arith, ints, c.self.invariant.constant, c.term.ensures.within, c.term-2.ensures.within, c.term-3.ensures.within, c.term-4.ensures.within)

pub returns-clause-value : goal.returns-clause-value
returns-clause-value c = total c ∙ rw (ap (λ (form : AffineForm). form.c0) c.self.view_is, c.term.ensures.term, c.term-2.ensures.term, c.term-3.ensures.term, c.term-4.ensures.term) refl

pub returns-clause-within : goal.returns-clause-within
returns-clause-within c = subst (IsWithin 35188667056127) (sym (total c)) (omega (arith, ints, c.self.invariant.constant, c.term.ensures.within, c.term-2.ensures.within, c.term-3.ensures.within, c.term-4.ensures.within))
