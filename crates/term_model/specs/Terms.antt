-- The terms of an expression: what it comes to, in order, when its products are multiplied out.
use Rattle.std.specs.Prelude.{ℕ, List, [], ◌∷◌, ◌++◌, Bool, false, Option, Some, None, ℤ, if◌then◌else◌, map, slice_get}
use Rattle.std.specs.List.{flat_map, fold}
use Rattle.bern_base.specs.Expressions.{by_levels}
use Rattle.bern_base.specs.Ring.{ring_mul, ring_neg}
use Rattle.bern_base.specs.declared.job.ArrayDecl.{ArrayDecl}
use Rattle.bern_base.specs.declared.job.Checked.{Checked}
use Rattle.bern_base.specs.declared.job.Expr.{Expr, out-Expr}
use Rattle.bern_base.specs.declared.job.Factor.{Factor}
use Rattle.bern_base.specs.declared.job.Factor.TheVariants as factor
use Rattle.bern_base.specs.declared.job.FormatDecl.{FormatDecl}
use Rattle.bern_base.specs.declared.job.Product.{Product}
use Rattle.bern_base.specs.declared.job.Ref.{Ref}
use Rattle.bern_base.specs.declared.limits.TheConstants.{EXPRESSION_LEVELS}
use Rattle.job_model.specs.Runnable.{is_dense}
use Rattle.job_model.specs.State.{State}
use Rattle.job_model.specs.Values.{product_of, read_at}
use Rattle.term_model.specs.declared.term.Term.{Term}

-- a number is a term without references
abbrev pub number_term : ℕ → Term
number_term n = record { factor = n; dense = []; sparse = [] }

-- a reference is a term with the factor 1
abbrev pub read_term : Bool → Ref → Term
read_term dense ref = if dense then record { factor = 1; dense = ref ∷ []; sparse = [] } else record { factor = 1; dense = []; sparse = ref ∷ [] }

-- the product of two terms: the product of the factors, and the references of both, in order
abbrev pub times : Term → Term → Term
times a b = record { factor = ring_mul a.factor b.factor; dense = a.dense ++ b.dense; sparse = a.sparse ++ b.sparse }

-- all choices of a term from each side, multiplied, the left one changing slowest
abbrev pub choices : List Term → List Term → List Term
choices left right = flat_map (λ a. map (times a) right) left

-- what a product begins with: 1, and with a minus the negative of 1
abbrev pub sign_of : Bool → ℕ
sign_of minus = if minus then ring_neg 1 else 1

-- `dense` tells whether a reference is a dense one, and `inner` are the terms of what stands in parentheses
module _ (dense : Ref → Bool) (inner : Expr → List Term) where
  abbrev pub factor_terms : Factor → List Term
  factor_terms (factor.Num n) = number_term n ∷ []
  factor_terms (factor.Read ref) = read_term (dense ref) ref ∷ []
  factor_terms (factor.Group e) = inner e

  -- all choices of a term from each factor, the leftmost factor changing slowest
  abbrev pub product_terms : Product → List Term
  product_terms product = fold (λ terms f. choices terms (factor_terms f)) (number_term (sign_of product.minus) ∷ []) product.factors

  abbrev pub products_terms : Expr → List Term
  products_terms e = flat_map product_terms (out-Expr e).sums

-- the terms of its products, in order
abbrev pub terms_by : (Ref → Bool) → ℕ → Expr → List Term
terms_by dense levels e = by_levels [] (products_terms dense) levels e

-- a job tells a dense reference from a sparse one: all levels of its array's format are dense
abbrev pub is_whole : List FormatDecl → Option ArrayDecl → Bool
is_whole formats None = false
is_whole formats (Some array) = is_dense formats array

abbrev pub is_dense_in : Checked → Ref → Bool
is_dense_in job ref = is_whole job.formats (slice_get job.arrays ref.array)

-- the terms of an expression of a nest
abbrev pub terms_of : Checked → Expr → List Term
terms_of job e = terms_by (is_dense_in job) EXPRESSION_LEVELS e

-- the references of a term by their places in it, the dense ones first
abbrev pub references_of : Term → List Ref
references_of t = t.dense ++ t.sparse

-- the value of a term: its factor times the values of its references
abbrev pub term_value : (Ref → ℕ) → Term → ℕ
term_value element t = ring_mul t.factor (product_of (map element (references_of t)))

-- with each reference read from the state
abbrev pub value_of_term : List ArrayDecl → State → List ℤ → Term → ℕ
value_of_term arrays state point t = term_value (read_at arrays state point) t
