-- How many terms an expression has, and how many references each of them.
use Rattle.std.specs.Prelude.{ℕ, ◌+◌, List, [], ◌∷◌, Bool, zero, suc, nat_lt, ◌||◌, length, min, max}
use Rattle.job_rules.specs.declared.terms.Size.{Size}
use Rattle.std.specs.List.{fold, flat_map, list_any}
use Rattle.bern_base.specs.declared.limits.TheConstants.{MOST_REFERENCES, MOST_TERMS}
use Rattle.job_model.specs.References.{joined}
use Rattle.bern_base.specs.declared.raw.RawExpr.{RawExpr, out-RawExpr}
use Rattle.bern_base.specs.declared.raw.RawProduct.{RawProduct}
use Rattle.bern_base.specs.declared.raw.RawFactor.{RawFactor}
use Rattle.bern_base.specs.declared.raw.RawFactor.TheVariants as factor

-- for each term, in order, how many references it has; `inner` is that list for what stands in parentheses
module _ (inner : RawExpr → List ℕ) where
  abbrev pub factor_terms : RawFactor → List ℕ
  factor_terms (factor.Num n) = 0 ∷ []
  factor_terms (factor.Read ref) = 1 ∷ []
  factor_terms (factor.Group e) = inner e

  -- a product of no factors would be one term without references
  abbrev pub product_terms : RawProduct → List ℕ
  product_terms product = fold (λ terms f. joined terms (factor_terms f)) (0 ∷ []) product.factors

unfoldable pub terms_of : ℕ → RawExpr → List ℕ
terms_of zero e = []
terms_of (suc n) e = flat_map (product_terms (terms_of n)) (out-RawExpr e).sums

-- too many terms, or too many references in one of them
abbrev pub has_too_many : List ℕ → Bool
has_too_many terms = nat_lt MOST_TERMS (length terms) || list_any (nat_lt MOST_REFERENCES) terms

-- the most references of a term
abbrev pub most : List ℕ → ℕ
most [] = 0
most (term ∷ terms) = max term (most terms)

-- how many terms there are and the most references of one, where past the limits one number serves for all
abbrev pub size_of : List ℕ → Size
size_of terms = record { terms = min (MOST_TERMS + 1) (length terms); most = min (MOST_REFERENCES + 1) (most terms) }
