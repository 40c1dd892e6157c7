-- What a rank has still to do at each stage.
use Rattle.std.specs.Prelude.{◌≡◌, ◌≢◌, ℕ, suc, ◌+◌, ◌-◌, ◌<◌, Bool, true, false, List, [], ◌∷◌, ◌++◌, Option, Some, ⊤, map, if◌then◌else◌, nat_lt}
use Rattle.std.specs.List.{range_with_len}
use Rattle.bern_base.specs.declared.letter.Letter.{Letter}
use Rattle.rank_scripts.specs.Acts.{Act, Work, Post, Wait}
use Rattle.rank_scripts.specs.Nodes.{Position, has_all, past_waits}
use Rattle.rank_scripts.specs.Rounds.{acts_of_all, due_of, posts_between, request_round, turn_round}
use Rattle.turn_model.specs.Runs.{Run, rank_budget, schedule, scripts, turns_budget, turns_of}
use Rattle.turn_model.specs.Schedules.{request, values_letter}
use Rattle.turn_node.specs.declared.stage.Stage.{Stage}
use Rattle.turn_node.specs.declared.stage.Stage.TheVariants.{Inspect, Request, AwaitRequests, Values, Inner, AwaitValues, Outer, Done}
use Rattle.turn_node.specs.declared.stage.Want.{Want}
use Rattle.turn_node.specs.declared.stage.Want.TheVariants as want

-- the letters that are due from rank r to each other one: the Requests, and the values of turn t
abbrev pub due_request : Run → ℕ → ℕ → Option Letter
due_request run r q = due_of r q (request_round (request (schedule run)))

abbrev pub due_values : Run → ℕ → ℕ → ℕ → Option Letter
due_values run t r q = due_of r q (turn_round (values_letter (schedule run)) t)

-- turn t and all later ones
abbrev pub from_turn : Run → ℕ → ℕ → List (Act Letter)
from_turn run r t = acts_of_all run.ranks r (map (turn_round (values_letter (schedule run))) (range_with_len t (turns_of run - t)))

-- the outer points of turn t, and what comes after them; the inner points and the wait
abbrev pub from_outer : Run → ℕ → ℕ → List (Act Letter)
from_outer run r t = Work ∷ from_turn run r (t + 1)

abbrev pub from_inner : Run → ℕ → ℕ → List (Act Letter)
from_inner run r t = Work ∷ Wait ∷ from_outer run r t

-- the posts to the ranks from `to` on, and what comes after them
abbrev pub from_values : Run → ℕ → ℕ → ℕ → List (Act Letter)
from_values run r t to = posts_between (due_values run t r) to (run.ranks - to) ++ from_inner run r t

abbrev pub from_requests : Run → ℕ → ℕ → List (Act Letter)
from_requests run r to = posts_between (due_request run r) to (run.ranks - to) ++ Wait ∷ from_turn run r 0

-- what rank r has still to do
abbrev pub todo_of : Run → ℕ → Stage → List (Act Letter)
todo_of run r Inspect = Work ∷ from_requests run r 0
todo_of run r (Request to) = from_requests run r to
todo_of run r AwaitRequests = Wait ∷ from_turn run r 0
todo_of run r (Values turn to) = from_values run r turn to
todo_of run r (Inner turn) = from_inner run r turn
todo_of run r (AwaitValues turn) = Wait ∷ from_outer run r turn
todo_of run r (Outer turn) = from_outer run r turn
todo_of run r Done = []

-- how many waits it has passed
abbrev pub passed_of : Run → Stage → ℕ
passed_of run Inspect = 0
passed_of run (Request to) = 0
passed_of run AwaitRequests = 0
passed_of run (Values turn to) = suc turn
passed_of run (Inner turn) = suc turn
passed_of run (AwaitValues turn) = suc turn
passed_of run (Outer turn) = suc (suc turn)
passed_of run Done = suc (turns_of run)

abbrev pub position_of : Run → ℕ → Stage → Position Letter
position_of run r stage = record { passed = passed_of run stage; todo = todo_of run r stage }

-- the turn in which, or before which, it stands
abbrev pub turn_of : Run → Stage → ℕ
turn_of run Inspect = 0
turn_of run (Request to) = 0
turn_of run AwaitRequests = 0
turn_of run (Values turn to) = turn
turn_of run (Inner turn) = turn
turn_of run (AwaitValues turn) = turn
turn_of run (Outer turn) = turn
turn_of run Done = turns_of run

-- the stage with which a turn begins; after the last turn there is no more to do
abbrev pub begin : Run → ℕ → Stage
begin run t = if nat_lt t (turns_of run) then Values t 0 else Done

-- the turn of the stage is one of the run's
abbrev pub IsComing : Run → Stage → Type 0
IsComing run Inspect = ⊤
IsComing run (Request to) = ⊤
IsComing run AwaitRequests = ⊤
IsComing run (Values turn to) = turn < turns_of run
IsComing run (Inner turn) = turn < turns_of run
IsComing run (AwaitValues turn) = turn < turns_of run
IsComing run (Outer turn) = turn < turns_of run
IsComing run Done = ⊤

-- a rank posts to another one; values, in a turn in which some are due to that one
pub record PostsTo (run : Run) (r to : ℕ) : Type 0 where
  pub there : to < run.ranks
  pub other : to ≢ r

pub record SendsTo (run : Run) (r turn to : ℕ) : Type 0 where
  pub turns : turn < turns_of run
  pub there : to < run.ranks
  pub letter : Letter
  pub due : due_values run turn r to ≡ Some letter

-- rank r can stand at the stage
abbrev pub IsStage : Run → ℕ → Stage → Type 0
IsStage run r Inspect = ⊤
IsStage run r (Request to) = PostsTo run r to
IsStage run r AwaitRequests = ⊤
IsStage run r (Values turn to) = SendsTo run r turn to
IsStage run r (Inner turn) = turn < turns_of run
IsStage run r (AwaitValues turn) = turn < turns_of run
IsStage run r (Outer turn) = turn < turns_of run
IsStage run r Done = ⊤

-- it has found what it needs
abbrev pub is_inspected : Stage → Bool
is_inspected Inspect = false
is_inspected (Request to) = true
is_inspected AwaitRequests = true
is_inspected (Values turn to) = true
is_inspected (Inner turn) = true
is_inspected (AwaitValues turn) = true
is_inspected (Outer turn) = true
is_inspected Done = true

-- how far its part of the arrays has come: it has not found what the rank needs, it has, or it holds the sums of a turn's inner points
pub data Phase : Type 0 where
  New : Phase
  Ready : Phase
  Summed : Phase

abbrev pub phase_of : Stage → Phase
phase_of Inspect = New
phase_of (Request to) = Ready
phase_of AwaitRequests = Ready
phase_of (Values turn to) = Ready
phase_of (Inner turn) = Ready
phase_of (AwaitValues turn) = Summed
phase_of (Outer turn) = Summed
phase_of Done = Ready

-- the steps that its works may still take
abbrev pub steps_left : Run → ℕ → Stage → ℕ
steps_left run r Inspect = rank_budget run r
steps_left run r (Request to) = turns_budget run r 0
steps_left run r AwaitRequests = turns_budget run r 0
steps_left run r (Values turn to) = turns_budget run r turn
steps_left run r (Inner turn) = turns_budget run r turn
steps_left run r (AwaitValues turn) = run.budget.outer turn r + turns_budget run r (turn + 1)
steps_left run r (Outer turn) = run.budget.outer turn r + turns_budget run r (turn + 1)
steps_left run r Done = 0

-- rank r has gone past each wait that it can pass, from the first stage to the second
pub record GoesTo (run : Run) (r : ℕ) (given : ℕ → List Letter) (from to : Stage) : Type 0 where
  pub position : past_waits (has_all (scripts run) r given) (passed_of run from) (todo_of run r from) ≡ position_of run r to
  pub stage : IsStage run r to
  pub inspected : is_inspected to ≡ is_inspected from
  pub phase : phase_of to ≡ phase_of from
  pub turn : turn_of run to ≡ turn_of run from
  pub steps : steps_left run r to ≡ steps_left run r from

-- what is wanted next, by what there is to do
abbrev pub want_of : List (Act Letter) → Want
want_of [] = want.Done
want_of (Work ∷ acts) = want.Work
want_of (Post to letter ∷ acts) = want.Post to
want_of (Wait ∷ acts) = want.Letter
