-- The elements of an array by their numbers, row * cols + col, where the array is split along its rows or its columns.
use Rattle.std.specs.Prelude.{◌≡◌, ℕ, ◌*◌, ◌/◌, ◌%◌, ◌==◌, List, filter, length}
use Rattle.std.specs.List.{range_with_len, flat_map}
use Rattle.std.specs.List.Sorted.{IsPermutation}
use Rattle.bern_base.specs.declared.axes.Axis.{Axis}
use Rattle.bern_base.specs.declared.axes.Axis.TheVariants.{Row, Col, Both}
use Rattle.bern_base.specs.declared.matrix.Entry.{Entry}
use Rattle.bern_base.specs.Matrix.{number, IsInside}
use Rattle.placement.specs.Placement.{Triple, IsPlacement, owner_of}
use Rattle.placement.specs.Part.{extent_on, owner_of_entry}

-- the index of an element on the split axis; no array is split along Both
abbrev pub element_index : Axis → ℕ → ℕ → ℕ
element_index Row cols n = n / cols
element_index Col cols n = n % cols
element_index Both cols n = n / cols

-- the rank that owns an element; the home of a point of a loop nest is the owner of its target element
abbrev pub owner_of_element : Axis → List Triple → ℕ → ℕ → ℕ
owner_of_element axis ts cols n = owner_of ts (element_index axis cols n)

-- the elements that a rank owns, rising
abbrev pub owned_elements : Axis → List Triple → ℕ → ℕ → ℕ → List ℕ
owned_elements axis ts rows cols p = filter (λ n. owner_of_element axis ts cols n == p) (range_with_len 0 (rows * cols))

-- over all ranks each element is owned once, and the entry at an element has the same owner
pub record AreOwnedOnce (axis : Axis) (ranks : ℕ) (ts : List Triple) (rows cols : ℕ) : Type 0 where
  pub once : IsPermutation (range_with_len 0 (rows * cols)) (flat_map (owned_elements axis ts rows cols) (range_with_len 0 ranks))
  pub entry : (e : Entry) → IsInside rows cols e → owner_of_element axis ts cols (number cols e) ≡ owner_of_entry axis ts e

abbrev pub ElementsAreOwnedOnce : Type 0
ElementsAreOwnedOnce =
    (axis : Axis) (ranks : ℕ) (ts : List Triple) (rows cols : ℕ) →
    IsPlacement ranks ts → extent_on axis rows cols ≡ length ts → AreOwnedOnce axis ranks ts rows cols
