-- What a rank owns of a matrix that is split along its rows or its columns.
use Rattle.std.specs.Prelude.{◌≡◌, ℕ, Bool, ◌==◌, List, map, filter, length, slice_index}
use Rattle.std.specs.List.{range_with_len, flat_map}
use Rattle.std.specs.List.Sorted.{IsPermutation}
use Rattle.bern_base.specs.declared.axes.Axis.{Axis}
use Rattle.bern_base.specs.declared.axes.Axis.TheVariants.{Row, Col, Both}
use Rattle.bern_base.specs.declared.matrix.Entry.{Entry}
use Rattle.bern_base.specs.declared.matrix.Matrix.{Matrix}
use Rattle.bern_base.specs.Matrix.{IsMatrix}
use Rattle.placement.specs.declared.part.Part.{Part}
use Rattle.placement.specs.Placement.{Triple, IsPlacement, owner_of, local_of, owned_of, owned_indices}

-- the index of an entry on the split axis; no matrix is split along Both
abbrev pub index_on : Axis → Entry → ℕ
index_on Row e = e.row
index_on Col e = e.col
index_on Both e = e.row

-- the size of an array of these rows and columns on the split axis
abbrev pub extent_on : Axis → ℕ → ℕ → ℕ
extent_on Row rows cols = rows
extent_on Col rows cols = cols
extent_on Both rows cols = rows

-- the entry with another index on the split axis
abbrev pub with_index : Axis → Entry → ℕ → Entry
with_index Row e i = record { row = i; col = e.col; value = e.value }
with_index Col e i = record { row = e.row; col = i; value = e.value }
with_index Both e i = record { row = i; col = e.col; value = e.value }

-- the sizes of the part of a rank that owns n indices
abbrev pub part_rows : Axis → Matrix → ℕ → ℕ
part_rows Row m n = n
part_rows Col m n = m.rows
part_rows Both m n = n

abbrev pub part_cols : Axis → Matrix → ℕ → ℕ
part_cols Row m n = m.cols
part_cols Col m n = n
part_cols Both m n = m.cols

-- the rank that owns an entry
abbrev pub owner_of_entry : Axis → List Triple → Entry → ℕ
owner_of_entry axis ts e = owner_of ts (index_on axis e)

abbrev pub is_owned : Axis → List Triple → ℕ → Entry → Bool
is_owned axis ts p e = owner_of_entry axis ts e == p

-- an entry as its owner has it
abbrev pub localized : Axis → List Triple → Entry → Entry
localized axis ts e = with_index axis e (local_of ts (index_on axis e))

-- the entries of a rank in the order of the matrix, with local indices, and the indices that the rank owns
abbrev pub part_of : Axis → List Triple → ℕ → Matrix → Part
part_of axis ts p m = record {
  matrix = record {
    rows = part_rows axis m (owned_of ts p);
    cols = part_cols axis m (owned_of ts p);
    entries = map (localized axis ts) (filter (is_owned axis ts p) m.entries);
  };
  globals = owned_indices ts p;
}

-- for each of so many keys what has it, in the order of the list
abbrev pub dealt : {X Y : Type 0} → (X → ℕ) → (X → Y) → ℕ → List X → List (List Y)
dealt key f n xs = map (λ k. map f (filter (λ x. key x == k) xs)) (range_with_len 0 n)

-- an entry of a part with the index for which its local index stands
abbrev pub globalized : Axis → List ℕ → Entry → Entry
globalized axis globals e = with_index axis e (slice_index globals (index_on axis e))

-- a rank, and an entry of its part
pub record Held : Type 0 where
  pub rank : ℕ
  pub entry : Entry

abbrev pub held_by : ℕ → Entry → Held
held_by p e = record { rank = p; entry = e }

-- each entry at its owner, with its local index
abbrev pub shared_out : Axis → List Triple → Matrix → List Held
shared_out axis ts m = map (λ e. held_by (owner_of_entry axis ts e) (localized axis ts e)) m.entries

-- what the parts of all ranks hold, rank after rank
abbrev pub held : Axis → List Triple → ℕ → Matrix → List Held
held axis ts ranks m = flat_map (λ p. map (held_by p) (part_of axis ts p m).matrix.entries) (range_with_len 0 ranks)

-- the parts hold each entry at its owner, once, with its local index; and the globals of a part lead back to the entries
pub record IsSharedOut (axis : Axis) (ranks : ℕ) (ts : List Triple) (m : Matrix) : Type 0 where
  pub once : IsPermutation (shared_out axis ts m) (held axis ts ranks m)
  pub back : (p : ℕ) →
      map (globalized axis (part_of axis ts p m).globals) (part_of axis ts p m).matrix.entries ≡ filter (is_owned axis ts p) m.entries

-- whatever the placement and the matrix
abbrev pub PartsShareAMatrix : Type 0
PartsShareAMatrix =
    (ranks : ℕ) (ts : List Triple) (axis : Axis) (m : Matrix) →
    IsPlacement ranks ts → IsMatrix m → extent_on axis m.rows m.cols ≡ length ts → IsSharedOut axis ranks ts m
