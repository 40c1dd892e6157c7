-- The job with numbers for names: what a line adds.
use Rattle.std.specs.Prelude.{ℕ, List, [], ◌∷◌, ◌++◌, length, map, zero, suc, if◌then◌else◌, pos, ◌&&◌, ◌≤◌, unsigned_abs}
use Rattle.bern_base.specs.Affine.{AffineForm}
use Rattle.bern_base.specs.declared.job.ArrayDecl.{ArrayDecl}
use Rattle.bern_base.specs.declared.job.ExtentDecl.{ExtentDecl}
use Rattle.bern_base.specs.declared.job.Expr.{Expr, roll-Expr}
use Rattle.bern_base.specs.declared.job.Factor.{Factor}
use Rattle.bern_base.specs.declared.job.Factor.TheVariants as checked
use Rattle.bern_base.specs.declared.job.FormatDecl.{FormatDecl}
use Rattle.bern_base.specs.declared.job.Guard.{Guard}
use Rattle.bern_base.specs.declared.job.Nest.{Nest}
use Rattle.bern_base.specs.declared.job.PlaceDecl.{PlaceDecl}
use Rattle.bern_base.specs.declared.job.PlaceKind.{PlaceKind}
use Rattle.bern_base.specs.declared.job.PlaceKind.TheVariants as dealt
use Rattle.bern_base.specs.declared.job.Product.{Product, roll-Product}
use Rattle.bern_base.specs.declared.job.Ref.{Ref}
use Rattle.bern_base.specs.declared.shape.Shape.{Shape}
use Rattle.bern_base.specs.declared.shape.Shape.TheVariants as shaped
use Rattle.bern_base.specs.declared.job.Span.{Span}
use Rattle.bern_base.specs.declared.limits.TheConstants.{EXPRESSION_LEVELS, MOST_BOUND}
use Rattle.bern_base.specs.declared.raw.Form.{Form}
use Rattle.bern_base.specs.declared.raw.Form.TheVariants as form
use Rattle.bern_base.specs.declared.raw.RawExpr.{RawExpr, out-RawExpr}
use Rattle.bern_base.specs.declared.raw.RawFactor.{RawFactor}
use Rattle.bern_base.specs.declared.raw.RawFactor.TheVariants as factor
use Rattle.bern_base.specs.declared.raw.RawGuard.{RawGuard}
use Rattle.bern_base.specs.declared.raw.RawKind.{RawKind}
use Rattle.bern_base.specs.declared.raw.RawKind.TheVariants as kind
use Rattle.bern_base.specs.declared.raw.RawNest.{RawNest}
use Rattle.bern_base.specs.declared.raw.RawProduct.{RawProduct}
use Rattle.bern_base.specs.declared.raw.RawRef.{RawRef}
use Rattle.bern_base.specs.declared.raw.RawShape.{RawShape}
use Rattle.bern_base.specs.declared.raw.RawShape.TheVariants as shape
use Rattle.bern_base.specs.declared.raw.RawVar.{RawVar}
use Rattle.job_rules.specs.declared.names.Named.TheVariants as named
use Rattle.job_rules.specs.declared.resolved.ResolvedRef.{ResolvedRef}
use Rattle.job_rules.specs.Known.{lookup}
use Rattle.job_rules.specs.State.{State, number_of, extent_size}
use Rattle.job_rules.specs.Looked.{Scope, scope_of, sum_of, ref_of}
use Rattle.job_rules.specs.Sums.{Sum, constant_of, is_within, affine_of, difference_of}

abbrev pub kind_of : RawKind → PlaceKind
kind_of kind.Block = dealt.Block
kind_of (kind.Cyclic block) = dealt.Cyclic block
kind_of (kind.Listed file) = dealt.Listed file

abbrev pub shape_of : RawShape → Shape
shape_of shape.DenseOne = shaped.DenseOne
shape_of shape.PackedOne = shaped.PackedOne
shape_of shape.ListOne = shaped.ListOne
shape_of (shape.DenseDense outer) = shaped.DenseDense outer
shape_of (shape.DensePacked outer) = shaped.DensePacked outer
shape_of (shape.PackedPacked outer) = shaped.PackedPacked outer
shape_of shape.ListTwo = shaped.ListTwo
shape_of shape.Jagged = shaped.Jagged
shape_of (shape.Diagonal offsets) = shaped.Diagonal offsets
shape_of (shape.Permute file) = shaped.Permute file

-- the size of the extent of a name
abbrev pub size_of : State → List ℕ → ℕ
size_of state name = extent_size state.job.extents (number_of (lookup name state.names))

-- the number of rows, and of columns: one where there is one extent
abbrev pub rows_of : State → List (List ℕ) → ℕ
rows_of state [] = 1
rows_of state (rows ∷ names) = size_of state rows

abbrev pub cols_of : State → List (List ℕ) → ℕ
cols_of state [] = 1
cols_of state (rows ∷ []) = 1
cols_of state (rows ∷ cols ∷ names) = size_of state cols

-- the constant and the coefficients; a sum past its limits, which no accepted nest has, is 0
abbrev pub no_form : AffineForm
no_form = record { c0 = pos 0; coef = pos 0 ∷ pos 0 ∷ pos 0 ∷ pos 0 ∷ [] }

unfoldable pub narrow_of : Sum → AffineForm
narrow_of sum = if is_within sum then affine_of sum else no_form

unfoldable pub narrow_ref : ResolvedRef → Ref
narrow_ref ref = record { array = number_of ref.array; row = narrow_of ref.row; col = narrow_of ref.col }

unfoldable pub checked_ref : Scope → RawRef → Ref
checked_ref scope ref = narrow_ref (ref_of scope ref)

-- the left side minus the right side, where both are within their limits
unfoldable pub narrow_difference : Sum → Sum → AffineForm
narrow_difference left right = if is_within left && is_within right then difference_of left right else no_form

unfoldable pub checked_guard : Scope → RawGuard → Guard
checked_guard scope guard = record { left = narrow_difference (sum_of scope guard.left) (sum_of scope guard.right); rel = guard.rel }

-- the bounds are within their limits
abbrev pub IsNear : Scope → RawVar → Type 0
IsNear scope var = (unsigned_abs (constant_of (sum_of scope var.lo)) ≤ MOST_BOUND) × (unsigned_abs (constant_of (sum_of scope var.hi)) ≤ MOST_BOUND)

unfoldable pub checked_span : Scope → RawVar → Span
checked_span scope var = record { name = var.name; lo = constant_of (sum_of scope var.lo); hi = constant_of (sum_of scope var.hi) }

-- an expression with numbers for names; `inner` is that for what stands in parentheses
module _ (scope : Scope) (inner : RawExpr → Expr) where
  abbrev pub checked_factor : RawFactor → Factor
  checked_factor (factor.Num n) = checked.Num n
  checked_factor (factor.Read ref) = checked.Read (checked_ref scope ref)
  checked_factor (factor.Group e) = checked.Group (inner e)

  unfoldable pub checked_product : RawProduct → Product
  checked_product product = roll-Product (record { minus = product.minus; factors = map checked_factor product.factors })

unfoldable pub checked_expr : Scope → ℕ → RawExpr → Expr
checked_expr scope zero e = roll-Expr (record { sums = [] })
checked_expr scope (suc n) e = roll-Expr (record { sums = map (checked_product scope (checked_expr scope n)) (out-RawExpr e).sums })

abbrev pub checked_nest : Scope → ℕ → RawNest → Nest
checked_nest scope line nest = record {
  line = line;
  vars = map (checked_span scope) nest.vars;
  guards = map (checked_guard scope) nest.guards;
  target = checked_ref scope nest.target;
  replace = nest.replace;
  body = checked_expr scope EXPRESSION_LEVELS nest.body;
}

abbrev pub with_extent : State → ExtentDecl → State
with_extent state decl = record {
  names = state.names ++ (decl.name, named.Extent (length state.job.extents)) ∷ [];
  job = record state.job { extents = state.job.extents ++ decl ∷ [] };
}

abbrev pub with_place : State → PlaceDecl → State
with_place state decl = record {
  names = state.names ++ (decl.name, named.Place (length state.job.places)) ∷ [];
  job = record state.job { places = state.job.places ++ decl ∷ [] };
}

abbrev pub with_format : State → FormatDecl → State
with_format state decl = record {
  names = state.names ++ (decl.name, named.Format (length state.job.formats)) ∷ [];
  job = record state.job { formats = state.job.formats ++ decl ∷ [] };
}

abbrev pub with_array : State → ArrayDecl → State
with_array state decl = record {
  names = state.names ++ (decl.name, named.Array (length state.job.arrays)) ∷ [];
  job = record state.job { arrays = state.job.arrays ++ decl ∷ [] };
}

-- what stands after a line that breaks no rule: its names are known from the next line on, and a nest is the next turn
abbrev pub after : State → ℕ → Form → State
after state line (form.Extent name size) = with_extent state (record { name = name; size = size })
after state line (form.Place name extent how) =
    with_place state (record {
      name = name;
      extent = number_of (lookup extent state.names);
      kind = kind_of how;
      arrays_before = length state.job.arrays;
    })
after state line (form.Format name how) = with_format state (record { name = name; shape = shape_of how })
after state line (form.Array name extents format axis place file) = with_array state (record {
  name = name;
  dims = length extents;
  rows = rows_of state extents;
  cols = cols_of state extents;
  format = number_of (lookup format state.names);
  axis = axis;
  place = number_of (lookup place state.names);
  file = file;
})
after state line (form.Nest nest) = record {
  names = state.names;
  job = record state.job {
    nests = state.job.nests ++ checked_nest (scope_of state nest) line nest ∷ [];
    turns = state.job.turns ++ length state.job.nests ∷ [];
  };
}
after state line (form.Print name) = record {
  names = state.names;
  job = record state.job { prints = state.job.prints ++ number_of (lookup name state.names) ∷ [] };
}
