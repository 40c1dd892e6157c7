-- The tree and the elements of a part in the indices of the whole array.
use Rattle.std.specs.Prelude.{◌≡◌, ◌≢◌, ℕ, ◌+◌, ◌*◌, ◌/◌, ◌%◌, ◌<◌, ◌≤◌, Bool, true, false, ◌&&◌, if◌then◌else◌, List, length, map, slice_index_or, Option, Some, None}
use Rattle.std.specs.List.{All}
use Rattle.bern_base.specs.Matrix.{IsMatrix}
use Rattle.bern_base.specs.declared.axes.Axis.{Axis}
use Rattle.bern_base.specs.declared.axes.Axis.TheVariants as axis
use Rattle.bern_base.specs.declared.limits.TheConstants.{MOST_SIDE}
use Rattle.bern_base.specs.declared.matrix.Matrix.{Matrix}
use Rattle.bern_base.specs.declared.shape.Shape.{Shape}
use Rattle.format_model.specs.Axes.{same_axis}
use Rattle.format_model.specs.Content.{Content, One, Two}
use Rattle.format_model.specs.Grids.{Grid}
use Rattle.format_model.specs.Levels.{Level, level_at}
use Rattle.format_model.specs.Laws.{Suits}
use Rattle.format_model.specs.Trees.{Describes, IsParent, IsTree, Tree, axis_at, depth_of}
use Rattle.format_model.specs.declared.limits.TheConstants.{MOST_INDEX}
use Rattle.placement.specs.Placement.{IsPlacement, Triple, global_of, owned_of}

-- a part of an array that is split along an axis: the columns of the array and those of the part, how many indices of the split
-- axis the rank owns, and which each of them is
pub record Cut : Type 0 where
  pub axis : Axis
  pub cols : ℕ
  pub own : ℕ
  pub owned : ℕ
  pub global : ℕ → ℕ

-- the columns of the part of a rank
abbrev pub own_cols : Axis → ℕ → ℕ → ℕ
own_cols axis.Row cols owned = cols
own_cols axis.Col cols owned = owned
own_cols axis.Both cols owned = cols

abbrev pub cut_of : Axis → ℕ → List Triple → ℕ → Cut
cut_of a cols ts rank = record { axis = a; cols = cols; own = own_cols a cols (owned_of ts rank); owned = owned_of ts rank; global = global_of ts rank }

-- the row of the array for a row of the part
abbrev pub row_by : Axis → (ℕ → ℕ) → ℕ → ℕ
row_by axis.Row global row = global row
row_by axis.Col global row = row
row_by axis.Both global row = row

-- and the column
abbrev pub col_by : Axis → (ℕ → ℕ) → ℕ → ℕ
col_by axis.Row global col = col
col_by axis.Col global col = global col
col_by axis.Both global col = col

abbrev pub global_row : Cut → ℕ → ℕ
global_row cut row = row_by cut.axis cut.global row

abbrev pub global_col : Cut → ℕ → ℕ
global_col cut col = col_by cut.axis cut.global col

-- the index of the array for an index of the part, in a level on this axis; an element number is row * columns + column
abbrev pub global_index : Cut → Axis → ℕ → ℕ
global_index cut axis.Row i = global_row cut i
global_index cut axis.Col i = global_col cut i
global_index cut axis.Both i = global_row cut (i / cut.own) * cut.cols + global_col cut (i % cut.own)

-- the rank owns a row or column, where its axis is the split one
abbrev pub IsOwnBy : Axis → Axis → ℕ → ℕ → Type 0
IsOwnBy axis.Row axis.Row owned i = i < owned
IsOwnBy axis.Col axis.Col owned i = i < owned
IsOwnBy split level owned i = Unit {0}

-- an index of the part in a level on this axis: the rank owns what it is on the split axis
abbrev pub IsInCut : Cut → Axis → ℕ → Type 0
IsInCut cut axis.Row i = IsOwnBy cut.axis axis.Row cut.owned i
IsInCut cut axis.Col i = IsOwnBy cut.axis axis.Col cut.owned i
IsInCut cut axis.Both i = (0 < cut.own) × IsOwnBy cut.axis axis.Row cut.owned (i / cut.own) × IsOwnBy cut.axis axis.Col cut.owned (i % cut.own)

abbrev pub moved_children : (ℕ → ℕ) → List (ℕ × ℕ) → List (ℕ × ℕ)
moved_children f children = map (λ c. (f c.0, c.1)) children

-- the tree of a part with global indices
abbrev pub view_tree : Cut → Tree → Tree
view_tree cut t = record {
  levels = t.levels;
  nodes = t.nodes;
  start = t.start;
  children = λ level parent. moved_children (global_index cut (axis_at t level)) (t.children level parent);
  value = t.value;
}

-- a store of a part can be seen so: the rank owns all its indices on the split axis, and none becomes greater than the largest
pub record Fits (cut : Cut) (t : Tree) : Type 0 where
  pub side : cut.axis ≢ axis.Both
  pub inside : (level parent : ℕ) → IsParent t level parent → All (λ c. IsInCut cut (axis_at t level) c.0) (t.children level parent)
  pub small : (level parent : ℕ) → IsParent t level parent → All (λ c. global_index cut (axis_at t level) c.0 ≤ MOST_INDEX) (t.children level parent)

-- what a content lists, with other indices in each level
abbrev pub moved_content : (ℕ → ℕ) → (ℕ → ℕ) → Content → Content
moved_content outer inner (One leaves) = One (moved_children outer leaves)
moved_content outer inner (Two lines) = Two (map (λ l. (outer l.0, moved_children inner l.1)) lines)

-- the levels of a part that is stored whole go by its rows and columns, as its elements do
abbrev pub goes_by : Bool → Axis → List Level → Bool
goes_by true outer levels = same_axis (level_at levels 0).axis axis.Row
goes_by false axis.Row levels = same_axis (level_at levels 0).axis axis.Row && same_axis (level_at levels 1).axis axis.Col
goes_by false axis.Col levels = same_axis (level_at levels 0).axis axis.Col && same_axis (level_at levels 1).axis axis.Row
goes_by false axis.Both levels = false

abbrev pub moved_grid : (ℕ → ℕ) → (ℕ → ℕ) → Grid → Grid
moved_grid row col g = record { single = g.single; outer = g.outer; rows = map row g.rows; cols = map col g.cols; values = g.values }

-- the elements of a part that is stored whole, with global rows and columns and local element numbers
abbrev pub view_grid : Cut → List Level → Option Grid → Option Grid
view_grid cut levels None = None
view_grid cut levels (Some g) = if goes_by g.single g.outer levels then Some (moved_grid (global_row cut) (global_col cut) g) else None

-- the indices of a rank rise, and the columns of the part are columns of the array
pub record IsCut (cut : Cut) : Type 0 where
  pub rises : (k l : ℕ) → k < l → l < cut.owned → cut.global k < cut.global l
  pub narrow : (col : ℕ) → col < cut.own → global_col cut col < cut.cols

-- one more than the greatest index that the rank owns, or 0
pub record IsEnd (cut : Cut) (extent end : ℕ) : Type 0 where
  pub above : (l : ℕ) → l < cut.owned → cut.global l < end
  pub within : end ≤ extent

-- the index of the part for an index of the array
pub record IsLocal (cut : Cut) (level : Axis) (index local : ℕ) : Type 0 where
  pub inside : IsInCut cut level local
  pub is : global_index cut level local ≡ index

-- the part has no index for one of the array
abbrev pub IsElsewhere : Cut → Axis → ℕ → Type 0
IsElsewhere cut level index = (local : ℕ) → IsInCut cut level local → global_index cut level local ≢ index

-- ---- which stores can be seen so

-- each line hangs below the root: the parents of level 1 are children of the root
abbrev pub IsReached : Tree → Type 0
IsReached t = (node : ℕ) → 1 < depth_of t → node < t.nodes 1 → (k : ℕ) × (k < length (t.children 0 0)) × ((slice_index_or (t.children 0 0) k (0, 0)).1 ≡ node)

-- the part of a rank of an array of so many rows and columns, within the limits of a job, that is split along an axis
pub record IsPartOf (split : Axis) (rows cols : ℕ) (ts : List Triple) (rank : ℕ) (part : Matrix) : Type 0 where
  pub side : split ≢ axis.Both
  pub few_rows : rows ≤ MOST_SIDE
  pub few_cols : cols ≤ MOST_SIDE
  pub by_row : split ≡ axis.Row → (length ts ≡ rows) × (part.rows ≡ owned_of ts rank) × (part.cols ≡ cols)
  pub by_col : split ≡ axis.Col → (length ts ≡ cols) × (part.cols ≡ owned_of ts rank) × (part.rows ≡ rows)

-- a store that describes the part of a rank can be seen in the indices of the array
abbrev pub DescribedPartsFit : Type 0
DescribedPartsFit =
    (t : Tree) (s : Shape) (globals order : List ℕ) (split : Axis) (rows cols ranks rank : ℕ) (ts : List Triple) (part : Matrix) →
    IsTree t → IsReached t → Describes t s globals order part → IsMatrix part → Suits s globals order part →
    IsPlacement ranks ts → IsPartOf split rows cols ts rank part → Fits (cut_of split cols ts rank) t
