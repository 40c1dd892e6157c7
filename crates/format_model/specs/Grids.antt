-- Parts that are stored whole, by their elements.
use Rattle.std.specs.Prelude.{◌≡◌, ℕ, ◌+◌, ◌*◌, ◌<◌, Bool, List, Option, Some, None, if◌then◌else◌, length, map, slice_index, slice_set}
use Rattle.std.specs.List.{range_with_len}
use Rattle.bern_base.specs.declared.axes.Axis.{Axis}
use Rattle.bern_base.specs.declared.axes.Axis.TheVariants as axis
use Rattle.format_model.specs.Content.{Content, One, Two}
use Rattle.format_model.specs.Trees.{Tree, content}

-- a part that is stored whole: whether it has one level, the axis of its outer level, the index of each of its rows and columns,
-- and its values by local element number, which is the place of the row * the number of columns + the place of the column
pub record Grid : Type 0 where
  pub single : Bool
  pub outer : Axis
  pub rows : List ℕ
  pub cols : List ℕ
  pub values : List ℕ

abbrev pub grid_value : Grid → ℕ → ℕ → ℕ
grid_value g r c = slice_index g.values (r * length g.cols + c)

-- row r of a grid: each of its columns with the value there
abbrev pub grid_row : Grid → ℕ → ℕ × List (ℕ × ℕ)
grid_row g r = (slice_index g.rows r, map (λ c. (slice_index g.cols c, grid_value g r c)) (range_with_len 0 (length g.cols)))

abbrev pub grid_col : Grid → ℕ → ℕ × List (ℕ × ℕ)
grid_col g c = (slice_index g.cols c, map (λ r. (slice_index g.rows r, grid_value g r c)) (range_with_len 0 (length g.rows)))

abbrev pub grid_lines : Axis → Grid → List (ℕ × List (ℕ × ℕ))
grid_lines axis.Row g = map (grid_row g) (range_with_len 0 (length g.rows))
grid_lines axis.Col g = map (grid_col g) (range_with_len 0 (length g.cols))
grid_lines axis.Both g = map (grid_row g) (range_with_len 0 (length g.rows))

-- what a grid lists
abbrev pub grid_content : Grid → Content
grid_content g =
    if g.single then One (map (λ r. (slice_index g.rows r, grid_value g r 0)) (range_with_len 0 (length g.rows)))
    else Two (grid_lines g.outer g)

-- an element of a part that is stored whole, by its local number; a part that is not has none
abbrev pub HasElement : Option Grid → ℕ → Type 0
HasElement None element = ⊥
HasElement (Some g) element = element < length g.values

-- and its value
abbrev pub value_of_element : Option Grid → ℕ → ℕ
value_of_element None element = 0
value_of_element (Some g) element = slice_index g.values element

-- the part with another value at one element
abbrev pub with_element : Option Grid → ℕ → ℕ → Option Grid
with_element None element value = None
with_element (Some g) element value = Some (record g { values = slice_set g.values element value })

-- a tree lists the part that is stored whole
abbrev pub Lists : Tree → Option Grid → Type 0
Lists t None = Unit {0}
Lists t (Some g) = content t ≡ grid_content g

-- two trees are alike but for the values at their leaves
pub record SameBranches (old new : Tree) : Type 0 where
  pub levels : new.levels ≡ old.levels
  pub nodes : (level : ℕ) → new.nodes level ≡ old.nodes level
  pub start : (level parent : ℕ) → new.start level parent ≡ old.start level parent
  pub children : (level parent : ℕ) → new.children level parent ≡ old.children level parent
