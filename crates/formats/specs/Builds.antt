-- What a part has to be for its format's store, and what is built of it.
use Rattle.std.specs.Prelude.{◌≡◌, ℕ, ◌*◌, ◌^◌, ◌<◌, ◌≤◌, ◌<ℤ◌, Bool, true, false, List, Option, Some, None, length, ℤ}
use Rattle.std.specs.List.{All, AllPairs}
use Rattle.bern_base.specs.Matrix.{IsMatrix}
use Rattle.bern_base.specs.declared.axes.Axis.{Axis}
use Rattle.bern_base.specs.declared.axes.Axis.TheVariants as axis
use Rattle.bern_base.specs.declared.matrix.Matrix.{Matrix}
use Rattle.bern_base.specs.declared.shape.Shape.{Shape}
use Rattle.bern_base.specs.declared.shape.Shape.TheVariants as shape
use Rattle.format_model.specs.declared.limits.TheConstants.{MOST_INDEX}
use Rattle.format_model.specs.Grids.{Grid}
use Rattle.format_model.specs.Laws.{IsSide, OrdersRows, Suits}
use Rattle.format_model.specs.Stored.{stored_elements}
use Rattle.stores_flat.specs.Dense.{grid_of}
use Rattle.stores_shaped.specs.Diagonals.{IsOffset, diagonal_count}

-- a diagonal format has offsets within their limit, and its store takes the row of the array for each row of the part
abbrev pub HasDiagonals : Shape → List ℕ → Matrix → Type 0
HasDiagonals (shape.Diagonal offsets) globals m = (length globals ≡ m.rows) × All IsOffset offsets
HasDiagonals other globals m = Unit {0}

-- a part that can be built: it suits the format, has elements that 32 bits can number, and no index past the largest
pub record CanBuild (s : Shape) (globals order : List ℕ) (m : Matrix) : Type 0 where
  pub matrix : IsMatrix m
  pub suits : Suits s globals order m
  pub few : length (stored_elements s globals m) < 2 ^ 32
  pub small : m.rows * m.cols ≤ MOST_INDEX
  pub diagonals : HasDiagonals s globals m

-- the elements of a part that is kept whole; a sparse one has none
abbrev pub part_grid : Shape → Matrix → Option Grid
part_grid shape.DenseOne m = Some (grid_of true axis.Row m)
part_grid (shape.DenseDense outer) m = Some (grid_of false outer m)
part_grid other m = None

-- what a store of dense levels needs of a part
pub record CanDense (outer : Axis) (single : Bool) (m : Matrix) : Type 0 where
  pub matrix : IsMatrix m
  pub few : m.rows * m.cols < 2 ^ 32
  pub outer_side : IsSide outer
  pub single_axis : single ≡ true → outer ≡ axis.Row
  pub single_cols : single ≡ true → m.cols ≡ 1

-- what a list needs
pub record CanList (flat : Bool) (m : Matrix) : Type 0 where
  pub matrix : IsMatrix m
  pub few : length m.entries < 2 ^ 32
  pub small : m.rows * m.cols ≤ MOST_INDEX
  pub single : flat ≡ false → m.cols ≡ 1

-- what a store of packed levels needs
pub record CanPack (outer : Axis) (single : Bool) (m : Matrix) : Type 0 where
  pub matrix : IsMatrix m
  pub few : length m.entries < 2 ^ 32
  pub outer_side : IsSide outer
  pub column : single ≡ true → m.cols ≡ 1

-- what a store of listed diagonals needs
pub record CanDiagonal (offsets : List ℤ) (globals : List ℕ) (m : Matrix) : Type 0 where
  pub matrix : IsMatrix m
  pub rows : length globals ≡ m.rows
  pub rise : AllPairs (λ a b. a <ℤ b) offsets
  pub offsets_small : All IsOffset offsets
  pub few : diagonal_count m.cols offsets globals < 2 ^ 32

-- what a store of rows in an order needs
pub record CanPermute (globals order : List ℕ) (m : Matrix) : Type 0 where
  pub matrix : IsMatrix m
  pub few : length m.entries < 2 ^ 32
  pub orders : OrdersRows globals order m (length order)
