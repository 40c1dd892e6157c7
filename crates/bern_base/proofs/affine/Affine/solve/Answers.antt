use Rattle.std.proofs.Common.{◌≡◌, ◌-ℤ◌, ◌*ℤ◌, ap, ◌∙◌, sym, arith}
use Rattle.std.proofs.lemmas.Int.{ints}
use Rattle.bern_base.specs.Affine.{number_of, term, value_at}
use Rattle.bern_base.proofs.AffineLemmas.{word, word_kept, solved, solves, some_then}
use Rattle.bern_base.proofs.affine.Affine.solve.Goals as goal

pub overflow_sub-index : goal.overflow_sub-index
overflow_sub-index c = omega (arith, ints, c.requires.index, c.eval.ensures.within, c.term.ensures.within)

pub quotient-requires-clause-product : goal.quotient-requires-clause-product
quotient-requires-clause-product c = omega (arith, ints, c.requires.index, c.eval.ensures.within, c.term.ensures.within)

-- what the code asks for is what the index asks for
due : (c : goal.After-quotient) → word (word c.args.index -ℤ word (word c.eval.result -ℤ word c.term.result)) ≡
    c.args.index -ℤ (value_at c.args.self.now c.args.point.now -ℤ term c.args.self.now c.args.point.now c.args.var)
due c =
    let plain : word (word c.args.index -ℤ word (word c.eval.result -ℤ word c.term.result)) ≡ c.args.index -ℤ (c.eval.result -ℤ c.term.result) =
    omega (arith, ints, c.requires.index, c.eval.ensures.within, c.term.ensures.within) in
    plain ∙ ap (λ z. c.args.index -ℤ (z -ℤ c.term.result)) c.eval.ensures.value ∙ ap (λ z. c.args.index -ℤ (value_at c.args.self.now c.args.point.now -ℤ z)) c.term.ensures.term

factor : (c : goal.After-quotient) → word c.factor.result ≡ number_of c.args.self.now.coef c.args.var
factor c = word_kept 2097151 c.factor.result (omega arith) c.factor.ensures.within ∙ c.factor.ensures.factor

pub returns-clause-some : goal.returns-clause-some
returns-clause-some c = some_then c.quotient.result _ _ (λ x is.
    solved c.args.self.now c.args.point.now c.args.var x c.args.index c.term.ensures.four c.requires.var (ap (λ f. f *ℤ x) (sym (factor c)) ∙ is ∙ due c))
    c.quotient.ensures.some

pub returns-clause-none : goal.returns-clause-none
returns-clause-none c = λ none x is.
    c.quotient.ensures.none none x (ap (λ f. f *ℤ x) (factor c) ∙ solves c.args.self.now c.args.point.now c.args.var x c.args.index c.term.ensures.four c.requires.var is ∙ sym (due c))
