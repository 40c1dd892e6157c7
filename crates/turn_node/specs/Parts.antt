-- What a node asks of the part of the arrays that it holds.
use Rattle.std.specs.Prelude.{◌≡◌, ◌≢◌, ℕ, ◌+◌, ◌<◌, true, List, [], Some, length, map, slice_get, slice_index, slice_index_or}
use Rattle.std.specs.List.{range_with_len}
use Rattle.bern_base.specs.declared.letter.Letter.{Letter}
use Rattle.bern_base.specs.declared.letter.Needs.{Needs}
use Rattle.turn_model.specs.Runs.{Run, asked, part_values}
use Rattle.turn_node.specs.Positions.{due_values}

-- a rank of a run before a turn
pub record At : Type 0 where
  pub run : Run
  pub rank : ℕ
  pub turn : ℕ

-- before the turn that follows
abbrev pub next : At → At
next at = record { run = at.run; rank = at.rank; turn = at.turn + 1 }

-- the turn is one, and does this nest
abbrev pub Turns : At → ℕ → Type 0
Turns at nest = slice_get at.run.turns at.turn ≡ Some nest

-- what rank p needs of each rank, by owner
abbrev pub needs_from : Run → ℕ → ℕ → Needs
needs_from run p q = record { sets = asked run p q }

abbrev pub all_asks : Run → ℕ → List Needs
all_asks run p = map (needs_from run p) (range_with_len 0 run.ranks)

-- another rank asks the part's rank for these sets, and the turn does this nest
pub record MaySend (at : At) (nest : ℕ) (needs : Needs) : Type 0 where
  pub nest_is : Turns at nest
  pub asker : ℕ
  pub there : asker < at.run.ranks
  pub other : asker ≢ at.rank
  pub asks : needs ≡ needs_from at.run asker at.rank

-- the first letter of each rank that owes values of the turn is the one with these
abbrev pub HaveArrived : At → List (List Letter) → Type 0
HaveArrived at mail =
    (q : ℕ) (letter : Letter) → q < at.run.ranks → due_values at.run at.turn q at.rank ≡ Some letter →
    slice_get (slice_index_or mail q []) 0 ≡ Some letter

-- the rank has what its outer points read: the turn does this nest, the rank asked for these sets, and the letters came
pub record MayApply (at : At) (nest : ℕ) (asks : List Needs) (mail : List (List Letter)) : Type 0 where
  pub nest_is : Turns at nest
  pub asks_are : asks ≡ all_asks at.run at.rank
  pub arrived : HaveArrived at mail

-- an element of an array that is stored whole, by its number in the rank's part
pub record IsCell (at : At) (array element : ℕ) : Type 0 where
  pub whole : at.run.whole array ≡ true
  pub there : element < length (part_values at.run at.turn array at.rank)

-- and its value before the turn
abbrev pub IsValue : At → ℕ → ℕ → ℕ → Type 0
IsValue at array element value = value ≡ slice_index (part_values at.run at.turn array at.rank) element
