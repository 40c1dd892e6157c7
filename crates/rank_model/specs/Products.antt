-- A run of one product: one turn of T[v] += S[v,w] * D[w] over the whole extent of v and w, on some ranks.
use Rattle.std.specs.Prelude.{◌≡◌, ◌≢◌, ℕ, ◌+◌, ◌*◌, ◌%◌, ◌^◌, ◌<◌, ◌≤◌, ◌==◌, Bool, true, ◌&&◌, not, if◌then◌else◌, List, [], ◌∷◌, length, filter, map, slice_set}
use Rattle.std.specs.List.{All, range_with_len, list_any, sum_by}
use Rattle.bern_base.specs.Matrix.{IsInside}
use Rattle.bern_base.specs.declared.axes.Axis.TheVariants.{Row}
use Rattle.bern_base.specs.declared.letter.Letter.{Letter}
use Rattle.bern_base.specs.declared.limits.TheConstants.{MOST_RANKS, MOST_SIDE}
use Rattle.bern_base.specs.declared.letter.NeedSet.{NeedSet}
use Rattle.bern_base.specs.declared.matrix.Entry.{Entry}
use Rattle.job_model.specs.State.{State, values_in, read}
use Rattle.placement.specs.Part.{localized}
use Rattle.placement.specs.Placement.{Triple, IsPlacement, owner_of, owned_indices}
use Rattle.rank_scripts.specs.Scripts.{Scripts}
use Rattle.turn_model.specs.Schedules.{Schedule, scripts_of, values_at}

-- what contracts see of such a run: the ranks, the place of the extent, the numbers of T, S and D among the arrays, the
-- stored elements of S, which arrays are stored whole, which elements each rank holds of such an array, by their
-- numbers there, and the first state
pub record Run : Type 0 where
  pub ranks : ℕ
  pub place : List Triple
  pub target : ℕ
  pub stored : ℕ
  pub source : ℕ
  pub entries : List Entry
  pub dense : ℕ → Bool
  pub held : ℕ → ℕ → List ℕ
  pub first : State

abbrev pub extent_of : Run → ℕ
extent_of run = length run.place

-- the home of a point (v, w) is the rank that owns T[v]
abbrev pub is_home : Run → ℕ → Entry → Bool
is_home run p e = owner_of run.place e.row == p

-- the points with home p at which the product has a stored element: these elements, by row and column
abbrev pub answer : Run → ℕ → List Entry
answer run p = filter (is_home run p) run.entries

-- the same as rank p has them, with its own numbers of the rows
abbrev pub answer_part : Run → ℕ → List Entry
answer_part run p = map (localized Row run.place) (answer run p)

-- the values that rank p holds of an array in a state, by its own numbers of the elements
abbrev pub part_values : Run → State → ℕ → ℕ → List ℕ
part_values run state array p = values_at state array (run.held array p)

-- T and D are two arrays of one column that are placed as the rows of S are
pub record IsRun (run : Run) : Type 0 where
  pub some : 0 < run.ranks
  pub most : run.ranks ≤ MOST_RANKS
  pub placed : IsPlacement run.ranks run.place
  pub extent : length run.place ≤ MOST_SIDE
  pub inside : All (IsInside (length run.place) (length run.place)) run.entries
  pub apart : run.target ≢ run.source
  pub target : run.target < length run.first
  pub source : run.source < length run.first
  pub dense_within : (array : ℕ) → run.dense array ≡ true → array < length run.first
  pub target_dense : run.dense run.target ≡ true
  pub source_dense : run.dense run.source ≡ true
  pub target_long : length (values_in run.first run.target) ≡ length run.place
  pub target_held : (p : ℕ) → run.held run.target p ≡ owned_indices run.place p
  pub source_held : (p : ℕ) → run.held run.source p ≡ owned_indices run.place p

-- some of these points reads D[w]
abbrev pub reads : List Entry → ℕ → Bool
reads points w = list_any (λ e. e.col == w) points

-- rank q owns D[w], these points of rank p read it, and the two are different
abbrev pub is_received : List Triple → List Entry → ℕ → ℕ → ℕ → Bool
is_received place points p q w = reads points w && (owner_of place w == q && not (q == p))

-- the elements of D that rank p uses, rising
abbrev pub used : Run → ℕ → List ℕ
used run p = filter (reads (answer run p)) (range_with_len 0 (extent_of run))

-- those that another rank q owns: the receive set of p from q
abbrev pub receive : Run → ℕ → ℕ → List ℕ
receive run p q = filter (is_received run.place (answer run p) p q) (range_with_len 0 (extent_of run))

-- those that p sends to q
abbrev pub send : Run → ℕ → ℕ → List ℕ
send run p q = receive run q p

-- the state before the one turn
abbrev pub state_before : Run → State
state_before run = run.first

-- what a stored element adds to T[v]
abbrev pub term_at : Run → ℕ → Entry → ℕ
term_at run v e = if e.row == v then e.value * read run.first run.source e.col else 0

-- T[v] after the turn
abbrev pub end_value : Run → ℕ → ℕ
end_value run v = (read run.first run.target v + sum_by (term_at run v) run.entries) % 2 ^ 64

-- the state at the end: T has grown by its sums over the stored elements, and all else is as before
abbrev pub end_state : Run → State
end_state run = slice_set run.first run.target (map (end_value run) (range_with_len 0 (extent_of run)))

-- a set of needs, and none where there are no elements
abbrev pub need_sets : ℕ → ℕ → ℕ → List ℕ → List NeedSet
need_sets nest owner array [] = []
need_sets nest owner array (w ∷ ws) = record { nest = nest; owner = owner; array = array; elements = w ∷ ws } ∷ []

-- the schedule of the run: nest 0 alone, done in one turn, in which D alone is read of other ranks
abbrev pub schedule : Run → Schedule
schedule run = record {
  ranks = run.ranks;
  turns = 1;
  needs = λ p q. need_sets 0 q run.source (receive run p q);
  values = λ turn p q. values_at (state_before run) run.source (send run p q);
}

abbrev pub scripts : Run → Scripts Letter
scripts run = scripts_of (schedule run)
