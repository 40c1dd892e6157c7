-- What a rank has still to do at each stage.
use Rattle.std.specs.Prelude.{◌≡◌, ◌≢◌, ℕ, ◌-◌, ◌<◌, Bool, true, false, List, [], ◌∷◌, ◌++◌, Option, ⊤}
use Rattle.bern_base.specs.declared.letter.Letter.{Letter}
use Rattle.rank_scripts.specs.Acts.{Act, Work, Post, Wait}
use Rattle.rank_scripts.specs.Nodes.{Position, has_all, past_waits}
use Rattle.rank_scripts.specs.Rounds.{due_of, posts_between, request_round, turn_round}
use Rattle.job_model.specs.State.{State}
use Rattle.rank_model.specs.Products.{Run, end_state, scripts, send, state_before, schedule}
use Rattle.turn_model.specs.Schedules.{request, values_in, values_letter}
use Rattle.rank_node.specs.declared.stage.Stage.{Stage}
use Rattle.rank_node.specs.declared.stage.Stage.TheVariants.{Inspect, Request, AwaitRequests, Values, Inner, AwaitValues, Outer, Done}
use Rattle.rank_node.specs.declared.stage.Want.{Want}
use Rattle.rank_node.specs.declared.stage.Want.TheVariants as want

-- the letters that are due from rank r to each other one: the Requests, and the values of the turn
abbrev pub due_request : Run → ℕ → ℕ → Option Letter
due_request run r q = due_of r q (request_round (request (schedule run)))

abbrev pub due_values : Run → ℕ → ℕ → Option Letter
due_values run r q = due_of r q (turn_round (values_letter (schedule run)) 0)

-- what comes after the posts of the turn: the inner points, the wait, the outer points
abbrev pub from_inner : List (Act Letter)
from_inner = Work ∷ Wait ∷ Work ∷ []

-- the posts to the ranks from `to` on, and what comes after them
abbrev pub from_values : Run → ℕ → ℕ → List (Act Letter)
from_values run r to = posts_between (due_values run r) to (run.ranks - to) ++ from_inner

abbrev pub from_requests : Run → ℕ → ℕ → List (Act Letter)
from_requests run r to = posts_between (due_request run r) to (run.ranks - to) ++ Wait ∷ from_values run r 0

-- what rank r has still to do
abbrev pub todo_of : Run → ℕ → Stage → List (Act Letter)
todo_of run r Inspect = Work ∷ from_requests run r 0
todo_of run r (Request to) = from_requests run r to
todo_of run r AwaitRequests = Wait ∷ from_values run r 0
todo_of run r (Values to) = from_values run r to
todo_of run r Inner = from_inner
todo_of run r AwaitValues = Wait ∷ Work ∷ []
todo_of run r Outer = Work ∷ []
todo_of run r Done = []

-- how many waits it has passed
abbrev pub passed_of : Stage → ℕ
passed_of Inspect = 0
passed_of (Request to) = 0
passed_of AwaitRequests = 0
passed_of (Values to) = 1
passed_of Inner = 1
passed_of AwaitValues = 1
passed_of Outer = 2
passed_of Done = 2

abbrev pub position_of : Run → ℕ → Stage → Position Letter
position_of run r stage = record { passed = passed_of stage; todo = todo_of run r stage }

-- a stage with a post has a letter to post
abbrev pub HasItsLetter : Run → ℕ → Stage → Type 0
HasItsLetter run r Inspect = ⊤
HasItsLetter run r (Request to) = (to < run.ranks) × (to ≢ r)
HasItsLetter run r AwaitRequests = ⊤
HasItsLetter run r (Values to) = (to < run.ranks) × (to ≢ r) × (send run r to ≢ [])
HasItsLetter run r Inner = ⊤
HasItsLetter run r AwaitValues = ⊤
HasItsLetter run r Outer = ⊤
HasItsLetter run r Done = ⊤

-- the state of which a rank at this stage holds its part: that before the turn, and at its end that after it
abbrev pub state_of : Run → Stage → State
state_of run Inspect = state_before run
state_of run (Request to) = state_before run
state_of run AwaitRequests = state_before run
state_of run (Values to) = state_before run
state_of run Inner = state_before run
state_of run AwaitValues = state_before run
state_of run Outer = state_before run
state_of run Done = end_state run

-- it has inspected its entries
abbrev pub is_inspected : Stage → Bool
is_inspected Inspect = false
is_inspected (Request to) = true
is_inspected AwaitRequests = true
is_inspected (Values to) = true
is_inspected Inner = true
is_inspected AwaitValues = true
is_inspected Outer = true
is_inspected Done = true

-- it holds the sums of its inner points
abbrev pub is_summed : Stage → Bool
is_summed Inspect = false
is_summed (Request to) = false
is_summed AwaitRequests = false
is_summed (Values to) = false
is_summed Inner = false
is_summed AwaitValues = true
is_summed Outer = true
is_summed Done = false

-- rank r has gone past each wait that it can pass, from the first stage to the second
pub record GoesTo (run : Run) (r : ℕ) (given : ℕ → List Letter) (from to : Stage) : Type 0 where
  pub position : past_waits (has_all (scripts run) r given) (passed_of from) (todo_of run r from) ≡ position_of run r to
  pub letter : HasItsLetter run r to
  pub inspected : is_inspected to ≡ is_inspected from
  pub summed : is_summed to ≡ is_summed from
  pub state : state_of run to ≡ state_of run from

-- what is wanted next, by what there is to do
abbrev pub want_of : List (Act Letter) → Want
want_of [] = want.Done
want_of (Work ∷ acts) = want.Work
want_of (Post to letter ∷ acts) = want.Post to
want_of (Wait ∷ acts) = want.Letter

-- after a post to rank `to` of a letter with so many values rank r reaches the next stage
pub record Posts (run : Run) (r to : ℕ) (stage next : Stage) (values : ℕ) : Type 0 where
  pub letter : Letter
  pub todo : todo_of run r stage ≡ Post to letter ∷ todo_of run r next
  pub size : values_in letter ≡ values
  pub passed : passed_of next ≡ passed_of stage
  pub inspected : is_inspected next ≡ is_inspected stage
  pub summed : is_summed next ≡ is_summed stage
  pub state : state_of run next ≡ state_of run stage
