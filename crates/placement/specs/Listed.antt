-- Places that a matrix lists: an entry at (index, rank) puts the index at the rank, whatever its value.
use Rattle.std.specs.Prelude.{◌≡◌, ℕ, All, ◌==◌, ◌&&◌, Bool, nat_lt, if◌then◌else◌, List, map, filter, length, Option, Some, None, ⊤}
use Rattle.std.specs.List.{list_any, enumerate_from, range_with_len}
use Rattle.bern_base.specs.declared.matrix.Entry.{Entry}
use Rattle.bern_base.specs.declared.matrix.Matrix.{Matrix}
use Rattle.bern_base.specs.declared.refusal.Rule.{Rule}
use Rattle.bern_base.specs.declared.refusal.Rule.TheVariants.{F4, F5, F6}
use Rattle.placement.specs.declared.listed.ListedError.{ListedError}
use Rattle.placement.specs.declared.listed.ListedError.TheVariants as by
use Rattle.placement.specs.declared.place.Seat.{Seat}
use Rattle.bern_base.specs.Matrix.{IsMatrix}
use Rattle.placement.specs.Placement.{Triple, IsPlacement, owner_of}

-- a row for each index and a column for each rank
abbrev pub is_sized : ℕ → ℕ → Matrix → Bool
is_sized extent ranks m = m.rows == extent && m.cols == ranks

-- how many ranks an index has; in a matrix no element stands twice, so they differ
abbrev pub ranks_of : List Entry → ℕ → ℕ
ranks_of entries i = length (filter (λ e. e.row == i) entries)

abbrev pub has_no_rank : List Entry → ℕ → Bool
has_no_rank entries i = ranks_of entries i == 0

abbrev pub has_two_ranks : List Entry → ℕ → Bool
has_two_ranks entries i = nat_lt 1 (ranks_of entries i)

-- rule F4: each index has a rank; and then rule F5: none has two
abbrev pub ranks_rule : ℕ → List Entry → Option Rule
ranks_rule extent entries =
    if list_any (has_no_rank entries) (range_with_len 0 extent) then Some F4
    else (if list_any (has_two_ranks entries) (range_with_len 0 extent) then Some F5 else None)

-- the first rule that a matrix breaks as the places of so many indices at so many ranks: F6, it has these sizes; F4; F5
abbrev pub listed_rule : ℕ → ℕ → Matrix → Option Rule
listed_rule extent ranks m = if is_sized extent ranks m then ranks_rule extent m.entries else Some F6

-- why a matrix gives no places: the first rule that it breaks; want of memory is free
abbrev pub IsWhyNot : Option Rule → ListedError → Type 0
IsWhyNot rule (by.Broken broken) = rule ≡ Some broken
IsWhyNot rule by.NoMemory = ⊤

-- the entries of the indices below this one
abbrev pub entries_below : ℕ → List Entry → List Entry
entries_below i entries = filter (λ e. nat_lt e.row i) entries

-- the triple of an entry: its local number is how many indices below it are at its rank
abbrev pub listed_triple : List Entry → Entry → Triple
listed_triple entries e = record { index = e.row; rank = e.col; local = length (filter (λ f. f.col == e.col) (entries_below e.row entries)) }

-- the triples of the places that a matrix of these entries lists
abbrev pub listed_triples : List Entry → List Triple
listed_triples entries = map (listed_triple entries) entries

-- the triples of the indices that have these seats, from index 0 on
abbrev pub seat_triple : ℕ × Seat → Triple
seat_triple seat = record { index = seat.0; rank = seat.1.owner; local = seat.1.local }

abbrev pub seat_triples : List Seat → List Triple
seat_triples seats = map seat_triple (enumerate_from 0 seats)

-- a matrix that lists one rank for each index: its rows are the indices, rising
pub record IsSeating (extent ranks : ℕ) (m : Matrix) : Type 0 where
  pub rows : m.rows ≡ extent
  pub cols : m.cols ≡ ranks
  pub indices : map (λ e. e.row) m.entries ≡ range_with_len 0 extent

-- each index is at the rank that is listed for it
pub record IsAsListed (extent ranks : ℕ) (entries : List Entry) (ts : List Triple) : Type 0 where
  pub extent_is : length ts ≡ extent
  pub placement : IsPlacement ranks ts
  pub owners : All (λ e. owner_of ts e.row ≡ e.col) entries

-- whatever the matrix, where it breaks no rule
abbrev pub PlacesAreListed : Type 0
PlacesAreListed =
    (extent ranks : ℕ) (m : Matrix) → IsMatrix m → listed_rule extent ranks m ≡ None → IsAsListed extent ranks m.entries (listed_triples m.entries)
