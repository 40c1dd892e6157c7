-- Entries in one level, in the order in which they come.
use Rattle.std.specs.Prelude.{ℕ, zero, suc, Bool, true, false, List, [], ◌∷◌, length, slice_index}
use Rattle.bern_base.specs.declared.axes.Axis.{Axis}
use Rattle.bern_base.specs.declared.axes.Axis.TheVariants as axis
use Rattle.bern_base.specs.declared.shape.Shape.{Shape}
use Rattle.bern_base.specs.declared.shape.Shape.TheVariants as shape
use Rattle.format_model.specs.Levels.{list_level}
use Rattle.format_model.specs.Made.{made}
use Rattle.format_model.specs.Trees.{Tree}
use Rattle.stores_flat.specs.declared.indices.Indices.{Indices}
use Rattle.stores_flat.specs.declared.indices.Indices.TheVariants.{Rows, Elements}

-- the format of entries by element number, and that of entries by row
abbrev pub flat_shape : Bool → Shape
flat_shape true = shape.ListTwo
flat_shape false = shape.ListOne

abbrev pub flat_axis : Bool → Axis
flat_axis true = axis.Both
flat_axis false = axis.Row

abbrev pub list_axis : Indices → Axis
list_axis (Rows rows) = axis.Row
list_axis (Elements numbers) = axis.Both

abbrev pub index_list : Indices → List ℕ
index_list (Rows rows) = rows
index_list (Elements numbers) = numbers

abbrev pub list_nodes : ℕ → ℕ → ℕ
list_nodes entries zero = 1
list_nodes entries (suc level) = entries

-- one level: each entry's index, with its place as its leaf
abbrev pub list_tree : Axis → List ℕ → List ℕ → Tree
list_tree a indices values = record {
  levels = list_level a ∷ [];
  nodes = list_nodes (length indices);
  start = λ level parent. 0;
  children = λ level parent. made (slice_index indices) (λ place. place) 0 (length indices);
  value = slice_index values;
}
