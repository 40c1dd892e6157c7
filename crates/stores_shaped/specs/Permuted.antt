-- A store whose rows are taken in an order, as a tree: place q of the store within has row order[q].
use Rattle.std.specs.Prelude.{◌≡◌, ℕ, zero, suc, ◌<◌, List, ◌∷◌, drop, length, map, slice_index, slice_index_or}
use Rattle.std.specs.List.{range_with_len}
use Rattle.bern_base.specs.declared.axes.Axis.TheVariants as axis
use Rattle.bern_base.specs.declared.matrix.Matrix.{Matrix}
use Rattle.bern_base.specs.declared.shape.Shape.TheVariants as shape
use Rattle.format_model.specs.Content.{in_line, leaf_on, local_rows}
use Rattle.format_model.specs.Levels.{Level, arranged_level, dense_level, level_at}
use Rattle.format_model.specs.Made.{made}
use Rattle.format_model.specs.Trees.{Describes, Tree}

-- the outer level has every row, rising, so many of them
pub record HasDenseRows (t : Tree) (rows : ℕ) : Type 0 where
  pub level : level_at t.levels 0 ≡ dense_level axis.Row
  pub indices : (parent : ℕ) → parent < t.nodes 0 → map (λ c. c.0) (t.children 0 parent) ≡ range_with_len 0 rows

-- the child at a place of the outer level
abbrev pub child_of : Tree → ℕ → ℕ → ℕ
child_of t parent place = (slice_index_or (t.children 0 parent) place (0, 0)).1

abbrev pub permuted_children : Tree → List ℕ → ℕ → ℕ → List (ℕ × ℕ)
permuted_children t order zero parent = made (slice_index order) (child_of t parent) 0 (length order)
permuted_children t order (suc level) parent = t.children (suc level) parent

-- the outer level is one with every row in an order of its own; below it all is as it is within
abbrev pub permuted_levels : List Level → List Level
permuted_levels levels = arranged_level ∷ drop 1 levels

abbrev pub permuted_tree : Tree → List ℕ → Tree
permuted_tree t order = record {
  levels = permuted_levels t.levels;
  nodes = t.nodes;
  start = t.start;
  children = permuted_children t order;
  value = t.value;
}

-- the columns and values of a row, as its entries come
abbrev pub row_leaves : Matrix → ℕ → List (ℕ × ℕ)
row_leaves m row = map (leaf_on axis.Col m.cols) (in_line axis.Row m.cols row m.entries)

-- a matrix has the rows of another one in an order: its row q is row order[q] of that one
pub record HasRowsInOrder (order : List ℕ) (m arranged : Matrix) : Type 0 where
  pub rows : arranged.rows ≡ length order
  pub leaves : (place : ℕ) → place < length order → row_leaves arranged place ≡ row_leaves m (slice_index order place)

-- a store with dense rows holds the rows of a part in the order in which a whole order has them
pub record HoldsInOrder (t : Tree) (order globals whole : List ℕ) (m arranged : Matrix) : Type 0 where
  pub described : Describes t (shape.DensePacked axis.Row) globals whole arranged
  pub rows : HasRowsInOrder order m arranged
  pub order_is : order ≡ local_rows globals whole
