-- What the rules of a job and the checks of its files leave of an array, and that its parts can be built.
use Rattle.std.specs.Prelude.{◌≡◌, ℕ, ◌+◌, ◌≤◌, ◌<ℤ◌, true, List, None, length, unsigned_abs}
use Rattle.std.specs.List.{All, AllPairs, range_with_len}
use Rattle.std.specs.List.Sorted.{IsPermutation}
use Rattle.bern_base.specs.Matrix.{IsMatrix}
use Rattle.bern_base.specs.Shapes.{dims_of, is_by_row}
use Rattle.bern_base.specs.declared.axes.Axis.TheVariants as axis
use Rattle.bern_base.specs.declared.job.ArrayDecl.{ArrayDecl}
use Rattle.bern_base.specs.declared.job.FormatDecl.{FormatDecl}
use Rattle.bern_base.specs.declared.limits.TheConstants.{MOST_OFFSET, MOST_OFFSETS, MOST_SIDE, MOST_WEIGHT}
use Rattle.bern_base.specs.declared.matrix.Matrix.{Matrix}
use Rattle.bern_base.specs.declared.shape.Shape.{Shape}
use Rattle.bern_base.specs.declared.shape.Shape.TheVariants as shape
use Rattle.format_model.specs.Checks.{shape_rule}
use Rattle.format_model.specs.Laws.{IsSide}
use Rattle.format_model.specs.Weights.{shape_weight}
use Rattle.format_model.specs.Trees.{Describes}
use Rattle.formats.specs.AnyStores.{any_tree}
use Rattle.formats.specs.Builds.{CanBuild}
use Rattle.formats.specs.declared.any_store.AnyStore.{AnyStore}
use Rattle.local_views.specs.Views.{Fits, cut_of}
use Rattle.placement.specs.Part.{extent_on, part_of}
use Rattle.placement.specs.Placement.{IsPlacement, Triple}

-- the levels that a job can give a format: the outer one of rows or columns, and offsets that rise within their limits
abbrev pub HasLevels : Shape → Type 0
HasLevels (shape.DenseDense outer) = IsSide outer
HasLevels (shape.DensePacked outer) = IsSide outer
HasLevels (shape.PackedPacked outer) = IsSide outer
HasLevels (shape.Diagonal offsets) =
    (length offsets ≤ MOST_OFFSETS) × All (λ offset. unsigned_abs offset ≤ MOST_OFFSET) offsets × AllPairs (λ a b. a <ℤ b) offsets
HasLevels other = Unit {0}

-- a permute format has an order of all rows of the array, as the check of its file answers
abbrev pub HasOrder : Shape → ℕ → List ℕ → Type 0
HasOrder (shape.Permute file) rows order = IsPermutation (range_with_len 0 rows) order
HasOrder other rows order = Unit {0}

-- an array that keeps the rules on its format and its split axis (J6) and on its sizes (J15), with a whole matrix that passed the
-- check of its sizes and diagonals (F1, F2) and an order that passed its own (F3), and that weighs no more than all may (F7)
pub record IsAdmitted (decl : ArrayDecl) (format : FormatDecl) (ranks : ℕ) (order : List ℕ) (m : Matrix) : Type 0 where
  pub rows : decl.rows ≤ MOST_SIDE
  pub cols : decl.cols ≤ MOST_SIDE
  pub side : IsSide decl.axis
  pub levels : HasLevels format.shape
  pub dims : decl.dims ≡ dims_of format.shape
  pub by_row : is_by_row format.shape ≡ true → decl.axis ≡ axis.Row
  pub flat : decl.dims ≡ 1 → (decl.cols ≡ 1) × (decl.axis ≡ axis.Row)
  pub matrix : IsMatrix m
  pub checked : shape_rule decl format m ≡ None
  pub listed : HasOrder format.shape decl.rows order
  pub weight : shape_weight format.shape ranks decl + length m.entries ≤ MOST_WEIGHT

-- the part of each rank of such an array can be built
abbrev pub PartsCanBeBuilt : Type 0
PartsCanBeBuilt =
    (decl : ArrayDecl) (format : FormatDecl) (ranks : ℕ) (order : List ℕ) (m : Matrix) (ts : List Triple) (p : ℕ) →
    IsAdmitted decl format ranks order m → IsPlacement ranks ts → extent_on decl.axis m.rows m.cols ≡ length ts →
    CanBuild format.shape (part_of decl.axis ts p m).globals order (part_of decl.axis ts p m).matrix

-- and a store that describes such a part can be seen in the indices of the array
abbrev pub PartsCanBeViewed : Type 0
PartsCanBeViewed =
    (decl : ArrayDecl) (format : FormatDecl) (ranks : ℕ) (order : List ℕ) (m : Matrix) (ts : List Triple) (p : ℕ) (s : AnyStore) →
    IsAdmitted decl format ranks order m → IsPlacement ranks ts → extent_on decl.axis m.rows m.cols ≡ length ts →
    Describes (any_tree s) format.shape (part_of decl.axis ts p m).globals order (part_of decl.axis ts p m).matrix →
    Fits (cut_of decl.axis decl.cols ts p) (any_tree s)
