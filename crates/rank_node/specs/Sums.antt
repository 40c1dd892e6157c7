-- What the points of a rank add to its sums, over its own part.
use Rattle.std.specs.Prelude.{◌≡◌, ℕ, ◌+◌, ◌*◌, ◌%◌, ◌^◌, ◌<◌, ◌==◌, Bool, if◌then◌else◌, List, length, slice_index, map}
use Rattle.std.specs.List.{sum_by, range_with_len}
use Rattle.bern_base.specs.declared.matrix.Entry.{Entry}
use Rattle.bern_base.specs.Ring.{ring_add}
use Rattle.placement.specs.Placement.{Triple, owner_of, local_of}

-- the point reads an element of D that the rank owns itself
abbrev pub is_inner : List Triple → ℕ → Entry → Bool
is_inner place rank e = owner_of place e.col == rank

-- what a stored element adds to the sum l, by the rank's own values of D
abbrev pub inner_term : List Triple → ℕ → List ℕ → ℕ → Entry → ℕ
inner_term place rank own l e =
    if is_inner place rank e then (if e.row == l then e.value * slice_index own (local_of place e.col) else 0) else 0

-- the same at a point that is not inner, by values of D for its element numbers
abbrev pub outer_term : List Triple → ℕ → List ℕ → ℕ → Entry → ℕ
outer_term place rank known l e =
    if is_inner place rank e then 0 else (if e.row == l then e.value * slice_index known e.col else 0)

-- each sum has grown by its terms at these entries, modulo 2^64
pub record HaveGrown (term : ℕ → Entry → ℕ) (entries : List Entry) (old new : List ℕ) : Type 0 where
  pub long : length new ≡ length old
  pub sums : (l : ℕ) → l < length old → slice_index new l % 2 ^ 64 ≡ (slice_index old l + sum_by (term l) entries) % 2 ^ 64

-- two lists added element by element
abbrev pub sums_of : List ℕ → List ℕ → List ℕ
sums_of values sums = map (λ l. ring_add (slice_index values l) (slice_index sums l)) (range_with_len 0 (length values))
