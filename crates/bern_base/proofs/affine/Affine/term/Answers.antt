use Rattle.std.proofs.Common.{◌≡◌, ℤ, ◌*ℤ◌, w64, FitsSigned, ap, ◌∙◌, subst, sym, arith}
use Rattle.bern_base.specs.Affine.{IsWithin, number_of}
use Rattle.std.proofs.lemmas.Int.{ints}
use Rattle.bern_base.proofs.AffineLemmas.{word, word_kept, word_product, product_within}
use Rattle.bern_base.proofs.affine.Affine.term.Goals as goal

whole : (c : goal.After-value) → IsWithin 8796093022207 (c.factor.result *ℤ c.value.result)
whole c = product_within c.factor.result c.value.result c.factor.ensures.within c.value.ensures.within

words : (c : goal.After-value) → word c.factor.result *ℤ word c.value.result ≡ c.factor.result *ℤ c.value.result
words c = word_product c.factor.result c.value.result c.factor.ensures.within c.value.ensures.within

kept : (c : goal.After-value) → word (word c.factor.result *ℤ word c.value.result) ≡ c.factor.result *ℤ c.value.result
kept c = ap word (words c) ∙ word_kept 8796093022207 (c.factor.result *ℤ c.value.result) (omega arith) (whole c)

pub overflow_mul-result : goal.overflow_mul-result
overflow_mul-result c = subst (FitsSigned w64) (sym (words c)) (fits (c.factor.result *ℤ c.value.result) (whole c))
  where
    fits : (z : ℤ) → IsWithin 8796093022207 z → FitsSigned w64 z
    fits z within = omega (arith, ints, within)

pub returns-clause-term : goal.returns-clause-term
returns-clause-term c = kept c ∙ ap (λ f. f *ℤ c.value.result) c.factor.ensures.factor ∙ ap (λ v. number_of c.args.self.now.coef c.args.var *ℤ v) c.value.ensures.value

pub returns-clause-within : goal.returns-clause-within
returns-clause-within c = subst (IsWithin 8796093022207) (sym (kept c)) (whole c)
