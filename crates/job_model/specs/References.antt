-- The references of an expression, and how many of them each of its terms has when its products are multiplied out.
use Rattle.std.specs.Prelude.{ℕ, ◌+◌, List, [], ◌∷◌, map}
use Rattle.std.specs.List.{flat_map, fold}
use Rattle.bern_base.specs.Expressions.{by_levels}
use Rattle.bern_base.specs.declared.job.Expr.{Expr, out-Expr}
use Rattle.bern_base.specs.declared.job.Factor.{Factor}
use Rattle.bern_base.specs.declared.job.Factor.TheVariants as factor
use Rattle.bern_base.specs.declared.job.Product.{Product}
use Rattle.bern_base.specs.declared.job.Ref.{Ref}

-- `inner` are the references of what stands in parentheses
module _ (inner : Expr → List Ref) where
  abbrev pub factor_refs : Factor → List Ref
  factor_refs (factor.Num n) = []
  factor_refs (factor.Read ref) = ref ∷ []
  factor_refs (factor.Group e) = inner e

  abbrev pub product_refs : Product → List Ref
  product_refs product = flat_map factor_refs product.factors

  abbrev pub products_refs : Expr → List Ref
  products_refs e = flat_map product_refs (out-Expr e).sums

-- the references of an expression, in order
abbrev pub refs_of : ℕ → Expr → List Ref
refs_of levels e = by_levels [] products_refs levels e

-- all choices of one term from each side, the left one changing slowest: the references of both
abbrev pub joined : List ℕ → List ℕ → List ℕ
joined left right = flat_map (λ a. map (λ b. a + b) right) left

-- `inner` are the sizes of the terms of what stands in parentheses
module _ (inner : Expr → List ℕ) where
  abbrev pub factor_sizes : Factor → List ℕ
  factor_sizes (factor.Num n) = 0 ∷ []
  factor_sizes (factor.Read ref) = 1 ∷ []
  factor_sizes (factor.Group e) = inner e

  -- a product of no factors is one term without references
  abbrev pub product_sizes : Product → List ℕ
  product_sizes product = fold (λ terms f. joined terms (factor_sizes f)) (0 ∷ []) product.factors

  abbrev pub products_sizes : Expr → List ℕ
  products_sizes e = flat_map product_sizes (out-Expr e).sums

-- for each term of an expression, in order, how many references it has
abbrev pub sizes_of : ℕ → Expr → List ℕ
sizes_of levels e = by_levels [] products_sizes levels e
