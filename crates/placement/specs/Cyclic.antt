-- Blocks of indices dealt to the ranks in turn.
use Rattle.std.specs.Prelude.{◌≡◌, ℕ, ◌<◌, ◌+◌, ◌*◌, ◌/◌, ◌%◌, List, map}
use Rattle.std.specs.List.{range_with_len}
use Rattle.placement.specs.Placement.{Triple, owner_of, local_of, owned_of, global_of}

-- the blocks go to the ranks in turn; a turn deals block * ranks indices, and block of them to each rank
abbrev pub cyclic_triple : ℕ → ℕ → ℕ → Triple
cyclic_triple ranks block i = record { index = i; rank = i / block % ranks; local = i / (block * ranks) * block + i % block }

abbrev pub cyclic_triples : ℕ → ℕ → ℕ → List Triple
cyclic_triples extent ranks block = map (cyclic_triple ranks block) (range_with_len 0 extent)

-- owners, local numbers and the way back by their formulas
pub record IsDealtInTurn (extent ranks block : ℕ) (ts : List Triple) : Type 0 where
  pub owner : (i : ℕ) → i < extent → owner_of ts i ≡ i / block % ranks
  pub local : (i : ℕ) → i < extent → local_of ts i ≡ i / (block * ranks) * block + i % block
  pub global : (p l : ℕ) → l < owned_of ts p → global_of ts p l ≡ l / block * (block * ranks) + p * block + l % block

abbrev pub BlocksAreDealtInTurn : Type 0
BlocksAreDealtInTurn =
    (extent ranks block : ℕ) → 0 < ranks → 0 < block → IsDealtInTurn extent ranks block (cyclic_triples extent ranks block)
