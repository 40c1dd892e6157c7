-- A run over turns: what each rank needs of others, the state before each turn, and so the letters of each turn.
use Rattle.std.specs.Prelude.{ℕ, ◌+◌, ◌-◌, ◌*◌, ◌^◌, ◌<◌, ◌≤◌, ◌==◌, ◌&&◌, Bool, not, List, length, filter, slice_index_or}
use Rattle.std.specs.List.{flat_map, list_any, range_with_len, sum_by}
use Rattle.bern_base.specs.declared.letter.Letter.{Letter}
use Rattle.bern_base.specs.declared.letter.NeedSet.{NeedSet}
use Rattle.bern_base.specs.declared.limits.TheConstants.{MOST_RANKS}
use Rattle.job_model.specs.State.{State}
use Rattle.rank_scripts.specs.Ranks.{sum_below}
use Rattle.rank_scripts.specs.Scripts.{Scripts, book, letters}
use Rattle.turn_model.specs.Schedules.{Schedule, scripts_of, values_at, values_in}

-- how many steps the works of a rank may take: its inspection, by rank, and the inner and the outer points of a turn, by
-- turn and rank
pub record Budget : Type 0 where
  pub inspect : ℕ → ℕ
  pub inner : ℕ → ℕ → ℕ
  pub outer : ℕ → ℕ → ℕ

-- what contracts see of a run: the ranks, the nest of each turn, what each rank needs of all others, the state before
-- each turn (the one after the last turn is that before turn `length turns`), which elements of an array a rank holds, in
-- the order in which it holds them, by array and rank, which arrays are stored whole, and the steps that works may take
pub record Run : Type 0 where
  pub ranks : ℕ
  pub turns : List ℕ
  pub needs : ℕ → List NeedSet
  pub state : ℕ → State
  pub held : ℕ → ℕ → List ℕ
  pub whole : ℕ → Bool
  pub budget : Budget

abbrev pub turns_of : Run → ℕ
turns_of run = length run.turns

-- the nest of a turn
abbrev pub nest_at : Run → ℕ → ℕ
nest_at run t = slice_index_or run.turns t 0

-- so many turns a run may have at most
abbrev pub most_turns : ℕ
most_turns = 10000

-- sets with this owner; sets for this nest
abbrev pub is_from : ℕ → NeedSet → Bool
is_from owner set = set.owner == owner

abbrev pub is_for : ℕ → NeedSet → Bool
is_for nest set = set.nest == nest

-- what rank p asks of rank q, for all nests, and for one of them
abbrev pub asked : Run → ℕ → ℕ → List NeedSet
asked run p q = filter (is_from q) (run.needs p)

abbrev pub asked_for : Run → ℕ → ℕ → ℕ → List NeedSet
asked_for run nest p q = filter (is_for nest) (asked run p q)

-- the set has an element for this nest
abbrev pub is_due_in : ℕ → NeedSet → Bool
is_due_in nest set = set.nest == nest && not (length set.elements == 0)

-- some set has one
abbrev pub some_due : ℕ → List NeedSet → Bool
some_due nest sets = list_any (is_due_in nest) sets

-- the values of a set's elements in a state, and those of several sets, one after another
abbrev pub set_values : State → NeedSet → List ℕ
set_values state set = values_at state set.array set.elements

abbrev pub all_values : State → List NeedSet → List ℕ
all_values state sets = flat_map (set_values state) sets

-- the part of an array that a rank holds before turn t
abbrev pub part_values : Run → ℕ → ℕ → ℕ → List ℕ
part_values run t array p = values_at (run.state t) array (run.held array p)

-- the communication schedule: in each turn a rank has for another one the values, before the turn, that this one needs
-- for the turn's nest
abbrev pub schedule : Run → Schedule
schedule run = record {
  ranks = run.ranks;
  turns = turns_of run;
  needs = asked run;
  values = λ t p q. all_values (run.state t) (asked_for run (nest_at run t) q p);
}

abbrev pub scripts : Run → Scripts Letter
scripts run = scripts_of (schedule run)

-- how many events the run has: each rank inspects, and works twice in each turn; each letter is posted and taken
abbrev pub events : Run → ℕ
events run = run.ranks * (1 + 2 * turns_of run) + 2 * letters (scripts run)

-- a run has no more ranks and turns than a job may have, and each book has fewer values than a word can count
pub record IsRun (run : Run) : Type 0 where
  pub ranks : run.ranks ≤ MOST_RANKS
  pub turns : turns_of run ≤ most_turns
  pub values : (p q : ℕ) → p < run.ranks → q < run.ranks → sum_by values_in (book (scripts run) p q) < 2 ^ 64

-- the steps that rank r may take in a turn, in turn t and all later ones, and in the whole run; those of all ranks
abbrev pub turn_budget : Run → ℕ → ℕ → ℕ
turn_budget run r t = run.budget.inner t r + run.budget.outer t r

abbrev pub turns_budget : Run → ℕ → ℕ → ℕ
turns_budget run r t = sum_by (turn_budget run r) (range_with_len t (turns_of run - t))

abbrev pub rank_budget : Run → ℕ → ℕ
rank_budget run r = run.budget.inspect r + turns_budget run r 0

abbrev pub run_budget : Run → ℕ
run_budget run = sum_below run.ranks (rank_budget run)
