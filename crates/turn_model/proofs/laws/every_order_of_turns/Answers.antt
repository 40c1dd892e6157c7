use Rattle.std.proofs.Common.{refl, arith}
use Rattle.rank_scripts.specs.Scripts.{IsClosed}
use Rattle.rank_scripts.specs.Worlds.{start, run as after, left}
use Rattle.rank_scripts.proofs.WorldLemmas.{start_fit, run_fit, posts_next, takes_next}
use Rattle.rank_scripts.proofs.ProgressLemmas.{goes_on, finishes, accepted_left, done_none, none_done, done_delivered}
use Rattle.rank_scripts.proofs.RoundLemmas.{IsClosed-turns, total-turns}
use Rattle.turn_model.specs.Schedules.{request, values_letter}
use Rattle.turn_model.specs.Runs.{Run, schedule, scripts, turns_of}
use Rattle.turn_model.proofs.laws.every_order_of_turns.Goals as goal

closed : (run : Run) → IsClosed (scripts run)
closed run = IsClosed-turns run.ranks (turns_of run) (request (schedule run)) (values_letter (schedule run))

pub returns-clause-fit : goal.returns-clause-fit
returns-clause-fit c = λ run events. run_fit (scripts run) (start (scripts run)) events (start_fit (scripts run))

pub returns-clause-posts : goal.returns-clause-posts
returns-clause-posts c = λ run. posts_next (scripts run)

pub returns-clause-takes : goal.returns-clause-takes
returns-clause-takes c = λ run. takes_next (scripts run)

pub returns-clause-goes_on : goal.returns-clause-goes_on
returns-clause-goes_on c = λ run. goes_on (scripts run)

pub returns-clause-finishes : goal.returns-clause-finishes
returns-clause-finishes c = λ run w fit. finishes (scripts run) (left (scripts run) w) w (closed run) fit refl

pub returns-clause-within : goal.returns-clause-within
returns-clause-within c = λ run events.
    let count = accepted_left (scripts run) events (closed run) in
    let total = total-turns run.ranks (turns_of run) (request (schedule run)) (values_letter (schedule run)) in
    omega arith

pub returns-clause-ends : goal.returns-clause-ends
returns-clause-ends c = λ run events.
    let w = after (scripts run) (start (scripts run)) events in
    let fit = run_fit (scripts run) (start (scripts run)) events (start_fit (scripts run)) in
    let count = accepted_left (scripts run) events (closed run) in
    let total = total-turns run.ranks (turns_of run) (request (schedule run)) (values_letter (schedule run)) in
    (λ over. let none = done_none (scripts run) w (closed run) fit over in omega arith, λ all. none_done (scripts run) w (closed run) fit (omega arith))

pub returns-clause-delivered : goal.returns-clause-delivered
returns-clause-delivered c = λ run w fit over p q p_there q_there. done_delivered (scripts run) w p q (closed run) fit over p_there q_there
