-- The product that a job would do, by the arrays that its first nest names.
use Rattle.std.specs.Prelude.{ℕ, Option, Some, None, slice_get}
use Rattle.bern_base.specs.declared.job.ArrayDecl.{ArrayDecl}
use Rattle.bern_base.specs.declared.job.Checked.{Checked}
use Rattle.bern_base.specs.declared.job.Expr.{out-Expr}
use Rattle.bern_base.specs.declared.job.Nest.{Nest}
use Rattle.bern_base.specs.declared.job.Product.{Product}
use Rattle.rank_node.specs.Jobs.{array_read}
use Rattle.rank_product.specs.declared.shape.ProductShape.{ProductShape}

-- the size and the place are those of the target
abbrev pub shape_at : ℕ → Option ℕ → Option ℕ → Option ArrayDecl → Option ProductShape
shape_at target (Some stored) (Some source) (Some array) =
    Some (record { size = array.rows; place = array.place; target = target; stored = stored; source = source })
shape_at target (Some stored) (Some source) None = None
shape_at target (Some stored) None found = None
shape_at target None source found = None

abbrev pub shape_of_term : Checked → ℕ → Option Product → Option ProductShape
shape_of_term job target None = None
shape_of_term job target (Some product) =
    shape_at target (array_read product.factors 0) (array_read product.factors 1) (slice_get job.arrays target)

abbrev pub shape_of_nest : Checked → Option Nest → Option ProductShape
shape_of_nest job None = None
shape_of_nest job (Some nest) = shape_of_term job nest.target.array (slice_get (out-Expr nest.body).sums 0)
