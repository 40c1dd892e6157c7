-- The value of an expression at a point, in a state.
use Rattle.std.specs.Prelude.{ℕ, ◌*◌, ◌%◌, ◌^◌, List, [], ◌∷◌, ℤ, map, if◌then◌else◌}
use Rattle.std.specs.List.{sum_by}
use Rattle.bern_base.specs.Expressions.{by_levels}
use Rattle.bern_base.specs.Ring.{ring_neg}
use Rattle.bern_base.specs.declared.job.ArrayDecl.{ArrayDecl}
use Rattle.bern_base.specs.declared.job.Expr.{Expr, out-Expr}
use Rattle.bern_base.specs.declared.job.Factor.{Factor}
use Rattle.bern_base.specs.declared.job.Factor.TheVariants as factor
use Rattle.bern_base.specs.declared.job.Product.{Product}
use Rattle.bern_base.specs.declared.job.Ref.{Ref}
use Rattle.bern_base.specs.declared.limits.TheConstants.{EXPRESSION_LEVELS}
use Rattle.job_model.specs.State.{State, read}
use Rattle.job_model.specs.Elements.{element_of}

abbrev pub product_of : List ℕ → ℕ
product_of [] = 1
product_of (n ∷ ns) = n * product_of ns

-- `element` is the value of a reference, and `inner` that of what stands in parentheses
module _ (element : Ref → ℕ) (inner : Expr → ℕ) where
  abbrev pub factor_value : Factor → ℕ
  factor_value (factor.Num n) = n
  factor_value (factor.Read ref) = element ref
  factor_value (factor.Group e) = inner e

  abbrev pub unsigned_value : Product → ℕ
  unsigned_value product = product_of (map factor_value product.factors) % 2 ^ 64

  -- with a minus it is the negative
  abbrev pub product_value : Product → ℕ
  product_value product = if product.minus then ring_neg (unsigned_value product) else unsigned_value product

  abbrev pub products_value : Expr → ℕ
  products_value e = sum_by product_value (out-Expr e).sums % 2 ^ 64

-- the sum of its products
abbrev pub sum_value : (Ref → ℕ) → ℕ → Expr → ℕ
sum_value element levels e = by_levels 0 (products_value element) levels e

-- a reference is read from the state
abbrev pub read_at : List ArrayDecl → State → List ℤ → Ref → ℕ
read_at arrays state point ref = read state ref.array (element_of arrays ref point)

abbrev pub value_in : List ArrayDecl → State → List ℤ → Expr → ℕ
value_in arrays state point e = sum_value (read_at arrays state point) EXPRESSION_LEVELS e
