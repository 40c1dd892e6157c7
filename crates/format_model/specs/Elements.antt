-- What a format lists, as elements of the part.
use Rattle.std.specs.Prelude.{ℕ, ◌/◌, ◌%◌, ◌==◌, List, [], ◌∷◌, map, Option, None}
use Rattle.std.specs.List.{find, flat_map}
use Rattle.std.specs.Map.{lookup}
use Rattle.std.specs.Option.{option_and_then, option_map}
use Rattle.bern_base.specs.declared.axes.Axis.{Axis}
use Rattle.bern_base.specs.declared.axes.Axis.TheVariants as axis
use Rattle.bern_base.specs.declared.matrix.Entry.{Entry}
use Rattle.bern_base.specs.declared.shape.Shape.{Shape}
use Rattle.format_model.specs.Axes.{index_of}
use Rattle.format_model.specs.Content.{Content, One, Two}
use Rattle.format_model.specs.Levels.{level_at, levels_of}
use Rattle.format_model.specs.Stored.{stands_at}
use Rattle.format_model.specs.Trees.{child_at}

abbrev pub entry_at : ℕ → ℕ → ℕ → Entry
entry_at row col value = record { row = row; col = col; value = value }

-- the element of an index and a value in the one level of a format: in a vector the other index is 0
abbrev pub leaf_element : Axis → ℕ → ℕ × ℕ → Entry
leaf_element axis.Row cols leaf = entry_at leaf.0 0 leaf.1
leaf_element axis.Col cols leaf = entry_at 0 leaf.0 leaf.1
leaf_element axis.Both cols leaf = entry_at (leaf.0 / cols) (leaf.0 % cols) leaf.1

-- the element of an index and a value in a line, which is a row or a column by the axis of the outer level
abbrev pub line_element : Axis → ℕ → ℕ × ℕ → Entry
line_element axis.Row line leaf = entry_at line leaf.0 leaf.1
line_element axis.Col line leaf = entry_at leaf.0 line leaf.1
line_element axis.Both line leaf = entry_at line leaf.0 leaf.1

abbrev pub line_elements : Axis → ℕ × List (ℕ × ℕ) → List Entry
line_elements outer line = map (line_element outer line.0) line.1

abbrev pub elements_on : Axis → ℕ → Content → List Entry
elements_on outer cols (One leaves) = map (leaf_element outer cols) leaves
elements_on outer cols (Two lines) = flat_map (line_elements outer) lines

-- the elements that a format lists, in its order, of a part with this many columns
abbrev pub elements_of : Shape → ℕ → Content → List Entry
elements_of s cols listed = elements_on (level_at (levels_of s) 0).axis cols listed

-- the indices by which an element is looked up, the outer one first
abbrev pub path_of : Shape → ℕ → ℕ → ℕ → List ℕ
path_of s cols row col = map (λ l. index_of l.axis cols (entry_at row col 0)) (levels_of s)

-- the line of an index, where one has it
abbrev pub line_at : List (ℕ × List (ℕ × ℕ)) → ℕ → Option (List (ℕ × ℕ))
line_at lines line = lookup (λ l. l == line) lines

-- the value that is listed at these indices; none where none is
abbrev pub value_at : Content → List ℕ → Option ℕ
value_at (One leaves) (i ∷ []) = child_at leaves i
value_at (Two lines) (line ∷ i ∷ []) = option_and_then (λ leaves. child_at leaves i) (line_at lines line)
value_at listed path = None

-- the value of the first element at a row and column; none where none is
abbrev pub value_among : List Entry → ℕ → ℕ → Option ℕ
value_among elements row col = option_map (λ e. e.value) (find (stands_at row col) elements)
