-- A store of the rows by falling count of entries: the d-th entries of all rows stand together, on jagged diagonal d.
use Rattle.std.specs.Prelude.{◌≡◌, ℕ, zero, suc, ◌+◌, ◌^◌, ◌<◌, ◌≤◌, List, length, slice_index}
use Rattle.bern_base.specs.declared.shape.Shape.TheVariants as shape
use Rattle.format_model.specs.Levels.{levels_of}
use Rattle.format_model.specs.Made.{made}
use Rattle.format_model.specs.Trees.{Tree}
use Rattle.stores_packed.specs.Packed.{RisesBetween, placed}
use Rattle.stores_shaped.specs.Orders.{IsInverse}

-- where the d-th entry of the row at a place stands: a jagged diagonal has one entry for each of the first places
abbrev pub jagged_leaf : List ℕ → ℕ → ℕ → ℕ
jagged_leaf starts place d = slice_index starts d + place

-- its column
abbrev pub jagged_index : List ℕ → List ℕ → ℕ → ℕ → ℕ
jagged_index starts indices place d = slice_index indices (jagged_leaf starts place d)

abbrev pub jagged_nodes : ℕ → ℕ → ℕ → ℕ
jagged_nodes rows leaves zero = 1
jagged_nodes rows leaves (suc zero) = rows
jagged_nodes rows leaves (suc (suc level)) = leaves

-- `order` has the row at each place, and `counts` how many entries that row has
abbrev pub jagged_children : List ℕ → List ℕ → List ℕ → List ℕ → ℕ → ℕ → List (ℕ × ℕ)
jagged_children order counts starts indices zero parent = placed (slice_index order) 0 (length order)
jagged_children order counts starts indices (suc level) parent =
    made (jagged_index starts indices parent) (jagged_leaf starts parent) 0 (slice_index counts parent)

abbrev pub jagged_tree : List ℕ → List ℕ → List ℕ → List ℕ → List ℕ → Tree
jagged_tree order counts starts indices values = record {
  levels = levels_of shape.Jagged;
  nodes = jagged_nodes (length order) (length indices);
  start = λ level parent. 0;
  children = jagged_children order counts starts indices;
  value = slice_index values;
}

-- what holds of the arrays of each jagged store
pub record IsJagged (order inverse counts starts indices values : List ℕ) : Type 0 where
  pub few : length order < 2 ^ 32
  pub undo : IsInverse order inverse
  pub counts_long : length counts ≡ length order
  pub leaves : length indices < 2 ^ 32
  pub values_long : length values ≡ length indices
  pub diagonals : (place : ℕ) → place < length order → slice_index counts place ≤ length starts
  pub within : (place d : ℕ) → place < length order → d < slice_index counts place → jagged_leaf starts place d < length indices
  pub small : (place d : ℕ) → place < length order → d < slice_index counts place → jagged_index starts indices place d < 2 ^ 32
  pub rises : (place : ℕ) → place < length order → RisesBetween (jagged_index starts indices place) 0 (slice_index counts place)
