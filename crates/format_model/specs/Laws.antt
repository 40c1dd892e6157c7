-- Laws of the table of formats and of trees.
use Rattle.std.specs.Prelude.{◌≡◌, ◌==◌, true, ◌≢◌, ℕ, suc, ◌*◌, ◌<◌, ◌≤◌, ◌<ℤ◌, List, [], ◌∷◌, length, Option, Some, None, ◌^◌, if◌then◌else◌}
use Rattle.std.specs.List.{All, AllPairs, count_by, range_with_len}
use Rattle.std.specs.List.Sorted.{IsPermutation, IsStrictlyIncreasing}
use Rattle.std.specs.Option.{option_and_then, option_map}
use Rattle.bern_base.specs.Matrix.{IsMatrix, element, number}
use Rattle.bern_base.specs.declared.axes.Axis.{Axis}
use Rattle.bern_base.specs.declared.axes.Axis.TheVariants as axis
use Rattle.bern_base.specs.declared.matrix.Matrix.{Matrix}
use Rattle.bern_base.specs.declared.shape.Shape.{Shape}
use Rattle.bern_base.specs.declared.shape.Shape.TheVariants as shape
use Rattle.format_model.specs.Content.{Content, One, Two, content_of}
use Rattle.format_model.specs.Elements.{elements_of, entry_at, path_of, value_among, value_at}
use Rattle.format_model.specs.Levels.{Level, bits, level_at, levels_of}
use Rattle.format_model.specs.Stored.{has_entry_at, is_stored, stored_elements}
use Rattle.format_model.specs.Trees.{Describes, Tree, child_at, content, depth_of}

-- ---- searches

-- the node to which searches for these indices lead, one level after another, from a node of a level on
abbrev pub reached : Tree → ℕ → ℕ → List ℕ → Option ℕ
reached t level node [] = Some node
reached t level node (index ∷ path) = option_and_then (λ child. reached t (suc level) child path) (child_at (t.children level node) index)

-- the value to which they lead from the root
abbrev pub searched : Tree → List ℕ → Option ℕ
searched t path = option_map t.value (reached t 0 0 path)

-- searching each level for its index finds a leaf where the tree's list has these indices, with the value there
abbrev pub SearchesFindTheContent : Type 0
SearchesFindTheContent = (t : Tree) (path : List ℕ) → 0 < depth_of t → depth_of t ≤ 2 → length path ≡ depth_of t → searched t path ≡ value_at (content t) path

-- the digits of a number in base 2 are as many as `bits` says: the power of two of that many is above it, and that of one less is not
abbrev pub BitsCountDigits : Type 0
BitsCountDigits = (n : ℕ) → (n < 2 ^ bits n) × (0 < n → 2 ^ bits n ≤ 2 * n)

-- ---- what a part must be for a format

abbrev pub IsSide : Axis → Type 0
IsSide a = a ≢ axis.Both

-- an order of all rows of an array, and the rows of a part among them
pub record OrdersRows (globals order : List ℕ) (m : Matrix) (rows : ℕ) : Type 0 where
  pub each_once : IsPermutation (range_with_len 0 rows) order
  pub rising : IsStrictlyIncreasing globals
  pub within : All (λ g. g < rows) globals
  pub long : length globals ≡ m.rows

-- what a format needs of a part: one column for a vector, rows or columns as lines, rising offsets, an order of the rows
abbrev pub Suits : Shape → List ℕ → List ℕ → Matrix → Type 0
Suits shape.DenseOne globals order m = m.cols ≡ 1
Suits shape.PackedOne globals order m = m.cols ≡ 1
Suits shape.ListOne globals order m = m.cols ≡ 1
Suits (shape.DenseDense outer) globals order m = IsSide outer
Suits (shape.DensePacked outer) globals order m = IsSide outer
Suits (shape.PackedPacked outer) globals order m = IsSide outer
Suits shape.ListTwo globals order m = Unit {0}
Suits shape.Jagged globals order m = Unit {0}
Suits (shape.Diagonal offsets) globals order m = AllPairs (λ a b. a <ℤ b) offsets
Suits (shape.Permute file) globals order m = (rows : ℕ) × OrdersRows globals order m rows

-- ---- what a format lists

-- a format lists every stored element once, and nothing else
abbrev pub EachStoredElementOnce : Type 0
EachStoredElementOnce =
    (s : Shape) (globals order : List ℕ) (m : Matrix) → IsMatrix m → Suits s globals order m →
    IsPermutation (stored_elements s globals m) (elements_of s m.cols (content_of s globals order m))

-- at the indices of an element the value is listed that it is stored with, and none where it is not stored
abbrev pub ListsTheStoredValues : Type 0
ListsTheStoredValues =
    (s : Shape) (globals order : List ℕ) (m : Matrix) → IsMatrix m → Suits s globals order m → (row col : ℕ) → row < m.rows → col < m.cols →
    value_at (content_of s globals order m) (path_of s m.cols row col) ≡ value_among (stored_elements s globals m) row col

-- a stored element has the value of the matrix there, where values fit 64 bits
abbrev pub StoredElementsHaveTheirValues : Type 0
StoredElementsHaveTheirValues =
    (s : Shape) (globals : List ℕ) (m : Matrix) → IsMatrix m → All (λ e. e.value < 2 ^ 64) m.entries → (row col : ℕ) → row < m.rows → col < m.cols →
    value_among (stored_elements s globals m) row col ≡
    (if has_entry_at (stored_elements s globals m) row col then Some (element m.cols m.entries (number m.cols (entry_at row col 0))) else None)

-- the test of one element of a whole matrix agrees with the list of its stored elements
abbrev pub TheTestAgreesWithTheList : Type 0
TheTestAgreesWithTheList =
    (s : Shape) (m : Matrix) (row col : ℕ) → row < m.rows → col < m.cols →
    has_entry_at (stored_elements s (range_with_len 0 m.rows) m) row col ≡ is_stored s m.entries row col

-- in a content with these levels, indices rise strictly where the level is ordered
abbrev pub RisesIn : List Level → Content → Type 0
RisesIn levels (One leaves) = (level_at levels 0).ordered ≡ true → AllPairs (λ a b. a.0 < b.0) leaves
RisesIn levels (Two lines) =
    ((level_at levels 0).ordered ≡ true → AllPairs (λ a b. a.0 < b.0) lines)
    × ((level_at levels 1).ordered ≡ true → All (λ line. AllPairs (λ a b. a.0 < b.0) line.1) lines)

-- what the table says of order is so
abbrev pub OrderedLevelsRise : Type 0
OrderedLevelsRise = (s : Shape) (globals order : List ℕ) (m : Matrix) → IsMatrix m → Suits s globals order m → RisesIn (levels_of s) (content_of s globals order m)

-- no index stands twice among these
abbrev pub HasEachOnce : {X : Type 0} → List (ℕ × X) → Type 0
HasEachOnce children = (index : ℕ) → count_by (λ c. c.0 == index) children ≤ 1

abbrev pub HasEachIndexOnce : Content → Type 0
HasEachIndexOnce (One leaves) = HasEachOnce leaves
HasEachIndexOnce (Two lines) = HasEachOnce lines × All (λ line. HasEachOnce line.1) lines

-- no format lists an index twice below a parent
abbrev pub NoIndexStandsTwice : Type 0
NoIndexStandsTwice = (s : Shape) (globals order : List ℕ) (m : Matrix) → IsMatrix m → Suits s globals order m → HasEachIndexOnce (content_of s globals order m)

-- ---- trees that describe a part

-- the paths of a tree, turned into elements of the part, are the stored elements, each once with its value, and searches for the
-- indices of an element find its value where it is stored
pub record HoldsTheStoredElements (t : Tree) (s : Shape) (globals : List ℕ) (m : Matrix) : Type 0 where
  pub once : IsPermutation (stored_elements s globals m) (elements_of s m.cols (content t))
  pub found : (row col : ℕ) → row < m.rows → col < m.cols → searched t (path_of s m.cols row col) ≡ value_among (stored_elements s globals m) row col

abbrev pub DescribedPartsAreHeld : Type 0
DescribedPartsAreHeld =
    (t : Tree) (s : Shape) (globals order : List ℕ) (m : Matrix) → Describes t s globals order m → IsMatrix m → Suits s globals order m →
    HoldsTheStoredElements t s globals m
