-- The positions of a rank, one after another.
use Rattle.std.proofs.Common.{◌≡◌, ℕ, suc, ◌+◌, ◌-◌, ◌<◌, ◌≤◌, Bool, true, false, nat_lt, List, [], ◌∷◌, ◌++◌, Option, Some, None, map, append_assoc, refl, sym, ap, ◌∙◌, subst, inl, inr, arith}
use Rattle.std.specs.List.{range_with_len}
use Rattle.std.proofs.lemmas.Bool.{cases_lt, eq-eqb, ne_eqb, cond-true, cond-false, lt-ltb, le-ltb}
use Rattle.std.proofs.lemmas.List.Sums.{sum_by-cons}
use Rattle.bern_base.specs.declared.letter.Letter.{Letter}
use Rattle.rank_scripts.specs.Acts.{Act, Work, Post, Wait, at_wait, at_work, at_post, at_end, receiver}
use Rattle.rank_scripts.specs.Nodes.{Position, has_all, past_waits}
use Rattle.rank_scripts.specs.Rounds.{acts_of_all, post_due, posts_between, turn_round}
use Rattle.turn_model.specs.Runs.{Run, schedule, scripts, turn_budget, turns_budget, turns_of}
use Rattle.turn_model.specs.Schedules.{request, rounds, values_letter}
use Rattle.turn_node.specs.declared.stage.Stage.{Stage}
use Rattle.turn_node.specs.declared.stage.Stage.TheVariants.{Inspect, Request, AwaitRequests, Values, Inner, AwaitValues, Outer, Done}
use Rattle.turn_node.specs.Positions.{Ready, begin, due_request, due_values, from_inner, from_requests, from_turn, from_values, is_inspected, phase_of, passed_of, steps_left, todo_of, turn_of, GoesTo, IsStage}

-- posts to the ranks from a to the last, one at a time
posts_split : (due : ℕ → Option Letter) (a ranks : ℕ) → a < ranks → posts_between due a (ranks - a) ≡ post_due a (due a) ++ posts_between due (a + 1) (ranks - (a + 1))
posts_split due a ranks below =
    let more : ranks - a ≡ suc (ranks - (a + 1)) = omega arith in
    rw more refl

posts_end : (due : ℕ → Option Letter) (a ranks : ℕ) → ranks ≤ a → posts_between due a (ranks - a) ≡ []
posts_end due a ranks past =
    let none : ranks - a ≡ 0 = omega arith in
    rw none refl

-- a Request to another rank
pub request_first : (run : Run) (r to : ℕ) → to < run.ranks → (to ≡ r → ⊥) → from_requests run r to ≡ Post to (request (schedule run) r to) ∷ from_requests run r (to + 1)
request_first run r to below other =
    rw (posts_split (due_request run r) to run.ranks below, ne_eqb r to (λ e. other (sym e))) refl

-- none to itself
pub request_own : (run : Run) (r : ℕ) → r < run.ranks → from_requests run r r ≡ from_requests run r (r + 1)
request_own run r below = rw (posts_split (due_request run r) r run.ranks below, eq-eqb r r refl) refl

pub request_end : (run : Run) (r to : ℕ) → run.ranks ≤ to → from_requests run r to ≡ Wait ∷ from_turn run r 0
request_end run r to past = rw (posts_end (due_request run r) to run.ranks past) refl

-- values to a rank to which some are due, and none to others
pub values_first : (run : Run) (r t to : ℕ) (letter : Letter) → to < run.ranks → due_values run t r to ≡ Some letter → from_values run r t to ≡ Post to letter ∷ from_values run r t (to + 1)
values_first run r t to letter below due = rw (posts_split (due_values run t r) to run.ranks below, due) refl

pub values_none : (run : Run) (r t to : ℕ) → to < run.ranks → due_values run t r to ≡ None → from_values run r t to ≡ from_values run r t (to + 1)
values_none run r t to below none = rw (posts_split (due_values run t r) to run.ranks below, none) refl

pub values_end : (run : Run) (r t to : ℕ) → run.ranks ≤ to → from_values run r t to ≡ from_inner run r t
values_end run r t to past = rw (posts_end (due_values run t r) to run.ranks past) refl

-- the turns, one after another
pub turn_first : (run : Run) (r t : ℕ) → t < turns_of run → from_turn run r t ≡ from_values run r t 0
turn_first run r t below =
    let more : turns_of run - t ≡ suc (turns_of run - (t + 1)) = omega arith in
    let whole : run.ranks - 0 ≡ run.ranks = omega arith in
    let posts = posts_between (due_values run t r) 0 run.ranks in
    let joined : (posts ++ Work ∷ Wait ∷ Work ∷ []) ++ from_turn run r (t + 1) ≡ posts ++ from_inner run r t = append_assoc posts (Work ∷ Wait ∷ Work ∷ []) (from_turn run r (t + 1)) in
    rw (more, whole) joined

pub turn_end : (run : Run) (r t : ℕ) → turns_of run ≤ t → from_turn run r t ≡ []
turn_end run r t past =
    let none : turns_of run - t ≡ 0 = omega arith in
    rw none refl

pub begin_there : (run : Run) (t : ℕ) → t < turns_of run → begin run t ≡ Values t 0
begin_there run t below = cond-true (nat_lt t (turns_of run)) (Values t 0) Done (lt-ltb t (turns_of run) below)

pub begin_past : (run : Run) (t : ℕ) → turns_of run ≤ t → begin run t ≡ Done
begin_past run t past = cond-false (nat_lt t (turns_of run)) (Values t 0) Done (le-ltb t (turns_of run) past)

-- the steps of the turns
pub budget_first : (run : Run) (r t : ℕ) → t < turns_of run → turns_budget run r t ≡ turn_budget run r t + turns_budget run r (t + 1)
budget_first run r t below =
    let more : turns_of run - t ≡ suc (turns_of run - (t + 1)) = omega arith in
    rw more (sum_by-cons (turn_budget run r) t (range_with_len (t + 1) (turns_of run - (t + 1))))

pub budget_end : (run : Run) (r t : ℕ) → turns_of run ≤ t → turns_budget run r t ≡ 0
budget_end run r t past =
    let none : turns_of run - t ≡ 0 = omega arith in
    rw none refl

-- the begin of a turn that may be past the last
pub record Begins (run : Run) (r t : ℕ) : Type 0 where
  pub todo : todo_of run r (begin run t) ≡ from_turn run r t
  pub passed : passed_of run (begin run t) ≡ suc t
  pub turn : turn_of run (begin run t) ≡ t
  pub steps : steps_left run r (begin run t) ≡ turns_budget run r t
  pub inspected : is_inspected (begin run t) ≡ true
  pub phase : phase_of (begin run t) ≡ Ready

pub begins : (run : Run) (r t : ℕ) → t ≤ turns_of run → Begins run r t
begins run r t within =
    elim (cases_lt t (turns_of run)) [
      | inl below ↦
          let is = begin_there run t below in
          record {
            todo = ap (todo_of run r) is ∙ sym (turn_first run r t below);
            passed = ap (passed_of run) is;
            turn = ap (turn_of run) is;
            steps = ap (steps_left run r) is;
            inspected = ap is_inspected is;
            phase = ap phase_of is;
          }
      | inr past ↦
          let is = begin_past run t past in
          let last : turns_of run ≡ t = omega arith in
          record {
            todo = ap (todo_of run r) is ∙ sym (turn_end run r t past);
            passed = ap (passed_of run) is ∙ ap suc last;
            turn = ap (turn_of run) is ∙ last;
            steps = ap (steps_left run r) is ∙ sym (budget_end run r t past);
            inspected = ap is_inspected is;
            phase = ap phase_of is;
          }
    ]

-- the script, by its posts
pub script_is : (run : Run) (r : ℕ) → acts_of_all run.ranks r (rounds (schedule run)) ≡ from_requests run r 0
script_is run r =
    let whole : run.ranks - 0 ≡ run.ranks = omega arith in
    let all : turns_of run - 0 ≡ turns_of run = omega arith in
    let posts = posts_between (due_request run r) 0 run.ranks in
    let joined : (posts ++ Wait ∷ []) ++ acts_of_all run.ranks r (map (turn_round (values_letter (schedule run))) (range_with_len 0 (turns_of run))) ≡ posts ++ Wait ∷ acts_of_all run.ranks r (map (turn_round (values_letter (schedule run))) (range_with_len 0 (turns_of run))) =
    append_assoc posts (Wait ∷ []) _ in
    rw (whole, all) joined

-- a rank stands at a work, at a post, and at a wait that it can not pass
pub stays : (passes : ℕ → Bool) (m : ℕ) (acts : List (Act Letter)) → (at_wait acts ≡ true → passes m ≡ false) → past_waits passes m acts ≡ record { passed = m; todo = acts }
stays passes m [] waits = refl
stays passes m (Work ∷ acts) waits = refl
stays passes m (Post to letter ∷ acts) waits = refl
stays passes m (Wait ∷ acts) waits = cond-false (passes m) _ _ (waits refl)

abbrev at_position : ℕ → List (Act Letter) → Position Letter
at_position m acts = record { passed = m; todo = acts }

-- the ways from stage to stage
pub goes_request : (run : Run) (r from to : ℕ) (given : ℕ → List Letter) → to < run.ranks → (to ≡ r → ⊥) → from_requests run r from ≡ from_requests run r to →
    GoesTo run r given (Request from) (Request to)
goes_request run r from to given below other same =
    let passes = has_all (scripts run) r given in
    let first = request_first run r to below other in
    record {
      position = ap (past_waits passes 0) (same ∙ first) ∙ ap (at_position 0) (sym first);
      stage = record { there = below; other = other };
      inspected = refl;
      phase = refl;
      turn = refl;
      steps = refl;
    }

pub goes_through : (run : Run) (r from : ℕ) (given : ℕ → List Letter) (to : Stage) → from_requests run r from ≡ Wait ∷ from_turn run r 0 →
    GoesTo run r given AwaitRequests to → GoesTo run r given (Request from) to
goes_through run r from given to same goes =
    record { position = ap (past_waits (has_all (scripts run) r given) 0) same ∙ goes.position; stage = goes.stage; inspected = goes.inspected; phase = goes.phase; turn = goes.turn; steps = goes.steps }

-- past the wait for Requests, to the first turn
pub goes_on_requests : (run : Run) (r : ℕ) (given : ℕ → List Letter) (to : Stage) → has_all (scripts run) r given 0 ≡ true →
    GoesTo run r given (begin run 0) to → GoesTo run r given AwaitRequests to
goes_on_requests run r given to all goes =
    let first = begins run r 0 (omega arith) in
    record {
      position = cond-true _ _ _ all ∙ ap (past_waits (has_all (scripts run) r given) 1) (sym first.todo) ∙ ap (λ m. past_waits (has_all (scripts run) r given) m (todo_of run r (begin run 0))) (sym first.passed) ∙ goes.position;
      stage = goes.stage;
      inspected = goes.inspected ∙ first.inspected;
      phase = goes.phase ∙ first.phase;
      turn = goes.turn ∙ first.turn;
      steps = goes.steps ∙ first.steps;
    }

pub stops_at_requests : (run : Run) (r : ℕ) (given : ℕ → List Letter) → has_all (scripts run) r given 0 ≡ false → GoesTo run r given AwaitRequests AwaitRequests
stops_at_requests run r given lack = record { position = cond-false _ _ _ lack; stage = tt; inspected = refl; phase = refl; turn = refl; steps = refl }

-- the begin of a turn
pub goes_begin : (run : Run) (r t : ℕ) (given : ℕ → List Letter) (to : Stage) → t < turns_of run → GoesTo run r given (Values t 0) to → GoesTo run r given (begin run t) to
goes_begin run r t given to below goes = subst (λ from. GoesTo run r given from to) (sym (begin_there run t below)) goes

pub goes_done : (run : Run) (r t : ℕ) (given : ℕ → List Letter) → turns_of run ≤ t → GoesTo run r given (begin run t) Done
goes_done run r t given past =
    subst (λ from. GoesTo run r given from Done) (sym (begin_past run t past)) (record { position = refl; stage = tt; inspected = refl; phase = refl; turn = refl; steps = refl })

-- past the wait for values, or not
pub goes_on_values : (run : Run) (r t : ℕ) (given : ℕ → List Letter) → t < turns_of run → has_all (scripts run) r given (suc t) ≡ true → GoesTo run r given (AwaitValues t) (Outer t)
goes_on_values run r t given below all = record { position = cond-true _ _ _ all; stage = below; inspected = refl; phase = refl; turn = refl; steps = refl }

pub stops_at_values : (run : Run) (r t : ℕ) (given : ℕ → List Letter) → t < turns_of run → has_all (scripts run) r given (suc t) ≡ false → GoesTo run r given (AwaitValues t) (AwaitValues t)
stops_at_values run r t given below lack = record { position = cond-false _ _ _ lack; stage = below; inspected = refl; phase = refl; turn = refl; steps = refl }

-- to the next post of values, or past the last one
pub goes_values : (run : Run) (r t from to : ℕ) (given : ℕ → List Letter) (letter : Letter) → t < turns_of run → to < run.ranks → due_values run t r to ≡ Some letter → from_values run r t from ≡ from_values run r t to →
    GoesTo run r given (Values t from) (Values t to)
goes_values run r t from to given letter turns below due same =
    let passes = has_all (scripts run) r given in
    let first = values_first run r t to letter below due in
    record {
      position = ap (past_waits passes (suc t)) (same ∙ first) ∙ ap (at_position (suc t)) (sym first);
      stage = record { turns = turns; there = below; letter = letter; due = due };
      inspected = refl;
      phase = refl;
      turn = refl;
      steps = refl;
    }

pub goes_inner : (run : Run) (r t from : ℕ) (given : ℕ → List Letter) → t < turns_of run → from_values run r t from ≡ from_inner run r t → GoesTo run r given (Values t from) (Inner t)
goes_inner run r t from given below same = record { position = ap (past_waits (has_all (scripts run) r given) (suc t)) same; stage = below; inspected = refl; phase = refl; turn = refl; steps = refl }

-- a stage at which no wait stands
pub goes_nowhere : (run : Run) (r : ℕ) (given : ℕ → List Letter) (stage : Stage) → IsStage run r stage → at_work (todo_of run r stage) ≡ true → GoesTo run r given stage stage
goes_nowhere run r given stage is at =
    record { position = stays (has_all (scripts run) r given) (passed_of run stage) (todo_of run r stage) (work_first (todo_of run r stage) at); stage = is; inspected = refl; phase = refl; turn = refl; steps = refl }
  where
    work_first : (acts : List (Act Letter)) → at_work acts ≡ true → at_wait acts ≡ true → has_all (scripts run) r given (passed_of run stage) ≡ false
    work_first [] at waits = absurd (cc)
    work_first (Work ∷ acts) at waits = absurd (cc)
    work_first (Post to letter ∷ acts) at waits = absurd (cc)
    work_first (Wait ∷ acts) at waits = absurd (cc)

-- a rank that posts
pub post_request : (run : Run) (r to : ℕ) (stage : Stage) → stage ≡ Request to → IsStage run r stage →
    todo_of run r stage ≡ Post to (request (schedule run) r to) ∷ todo_of run r (Request (to + 1))
post_request run r to stage is has =
    let P : Stage → Type 0 = λ s. IsStage run r s → todo_of run r s ≡ Post to (request (schedule run) r to) ∷ from_requests run r (to + 1) in
    subst P (sym is) (λ h. request_first run r to h.there h.other) has

pub record PostsValues (run : Run) (r turn to : ℕ) (stage : Stage) : Type 0 where
  pub letter : Letter
  pub is : due_values run turn r to ≡ Some letter
  pub there : to < run.ranks
  pub turns : turn < turns_of run
  pub todo : todo_of run r stage ≡ Post to letter ∷ todo_of run r (Values turn (to + 1))

pub post_values : (run : Run) (r turn to : ℕ) (stage : Stage) → stage ≡ Values turn to → IsStage run r stage → PostsValues run r turn to stage
post_values run r turn to stage is has =
    let P : Stage → Type 0 = λ s. IsStage run r s → PostsValues run r turn to s in
    subst P (sym is) (λ h. record { letter = h.letter; is = h.due; there = h.there; turns = h.turns; todo = values_first run r turn to h.letter h.there h.due }) has

-- what a rank wants where it posts, and who receives it
pub receiver_below : (run : Run) (r : ℕ) (stage : Stage) → IsStage run r stage → at_post (todo_of run r stage) ≡ true → receiver (todo_of run r stage) < run.ranks
receiver_below run r Inspect has at = absurd (cc)
receiver_below run r (Request to) has at = let todo = ap receiver (post_request run r to (Request to) refl has) in rw todo has.there
receiver_below run r AwaitRequests has at = absurd (cc)
receiver_below run r (Values turn to) has at = let todo = ap receiver (post_values run r turn to (Values turn to) refl has).todo in rw todo has.there
receiver_below run r (Inner turn) has at = absurd (cc)
receiver_below run r (AwaitValues turn) has at = absurd (cc)
receiver_below run r (Outer turn) has at = absurd (cc)
receiver_below run r Done has at = absurd (cc)

-- at its end a rank stands after the last turn
pub end_turn : (run : Run) (r : ℕ) (stage : Stage) → IsStage run r stage → at_end (todo_of run r stage) ≡ true → turn_of run stage ≡ turns_of run
end_turn run r Inspect has at = absurd (cc)
end_turn run r (Request to) has at = absurd (let todo = ap at_end (post_request run r to (Request to) refl has) in cc)
end_turn run r AwaitRequests has at = absurd (cc)
end_turn run r (Values turn to) has at = absurd (let todo = ap at_end (post_values run r turn to (Values turn to) refl has).todo in cc)
end_turn run r (Inner turn) has at = absurd (cc)
end_turn run r (AwaitValues turn) has at = absurd (cc)
end_turn run r (Outer turn) has at = absurd (cc)
end_turn run r Done has at = refl

-- the stages at which a rank works, and at which it posts
pub data Works (run : Run) (stage : Stage) : Type 0 where
  Inspects : stage ≡ Inspect → Works run stage
  Sums : (turn : ℕ) → stage ≡ Inner turn → Works run stage
  Applies : (turn : ℕ) → stage ≡ Outer turn → Works run stage

pub works_at : (run : Run) (r : ℕ) (stage : Stage) → IsStage run r stage → at_work (todo_of run r stage) ≡ true → Works run stage
works_at run r Inspect has at = Inspects refl
works_at run r (Request to) has at = absurd (let todo = ap at_work (post_request run r to (Request to) refl has) in cc)
works_at run r AwaitRequests has at = absurd (cc)
works_at run r (Values turn to) has at = absurd (let todo = ap at_work (post_values run r turn to (Values turn to) refl has).todo in cc)
works_at run r (Inner turn) has at = Sums turn refl
works_at run r (AwaitValues turn) has at = absurd (cc)
works_at run r (Outer turn) has at = Applies turn refl
works_at run r Done has at = absurd (cc)

-- and holds no sums
pub end_phase : (run : Run) (r : ℕ) (stage : Stage) → IsStage run r stage → at_end (todo_of run r stage) ≡ true → phase_of stage ≡ Ready
end_phase run r Inspect has at = absurd (cc)
end_phase run r (Request to) has at = refl
end_phase run r AwaitRequests has at = refl
end_phase run r (Values turn to) has at = refl
end_phase run r (Inner turn) has at = refl
end_phase run r (AwaitValues turn) has at = absurd (cc)
end_phase run r (Outer turn) has at = absurd (cc)
end_phase run r Done has at = refl
