-- Where the indices of an axis stand: which rank owns each, and its number there.
use Rattle.std.specs.Prelude.{◌≡◌, ℕ, ◌<◌, ◌==◌, List, map, filter, length, slice_index, slice_index_or, All}
use Rattle.std.specs.List.{range_with_len}

-- an index, the rank that owns it, and its number among the indices of that rank
pub record Triple : Type 0 where
  pub index : ℕ
  pub rank : ℕ
  pub local : ℕ

-- the triples of a rank
abbrev pub at_rank : ℕ → List Triple → List Triple
at_rank p ts = filter (λ t. t.rank == p) ts

-- each index stands in one triple, and the triples rise with it; owners are ranks;
-- the local numbers of a rank, as its indices rise, are 0, 1, 2 and so on
pub record IsPlacement (ranks : ℕ) (ts : List Triple) : Type 0 where
  pub indices : map (λ t. t.index) ts ≡ range_with_len 0 (length ts)
  pub owners : All (λ t. t.rank < ranks) ts
  pub locals : (p : ℕ) → p < ranks → map (λ t. t.local) (at_rank p ts) ≡ range_with_len 0 (length (at_rank p ts))

-- what stands for the triple of a number that is no index
abbrev pub no_triple : Triple
no_triple = record { index = 0; rank = 0; local = 0 }

-- the triple of an index
abbrev pub triple_of : List Triple → ℕ → Triple
triple_of ts i = slice_index_or ts i no_triple

-- the rank that owns an index
unfoldable pub owner_of : List Triple → ℕ → ℕ
owner_of ts i = (triple_of ts i).rank

-- the number of an index among those of its owner
unfoldable pub local_of : List Triple → ℕ → ℕ
local_of ts i = (triple_of ts i).local

-- the indices that a rank owns, rising
unfoldable pub owned_indices : List Triple → ℕ → List ℕ
owned_indices ts p = map (λ t. t.index) (at_rank p ts)

-- how many indices a rank owns
unfoldable pub owned_of : List Triple → ℕ → ℕ
owned_of ts p = length (at_rank p ts)

-- the index with this local number at a rank
unfoldable pub global_of : List Triple → ℕ → ℕ → ℕ
global_of ts p l = slice_index (owned_indices ts p) l
