use Rattle.std.proofs.Common.{refl, arith}
use Rattle.rank_scripts.specs.Worlds.{start, run, left}
use Rattle.rank_scripts.proofs.WorldLemmas.{start_fit, run_fit}
use Rattle.rank_scripts.proofs.ProgressLemmas.{goes_on, finishes, accepted_left, done_none, none_done, done_delivered}
use Rattle.rank_scripts.proofs.laws.every_order_ends.Goals as goal

pub returns-clause-goes_on : goal.returns-clause-goes_on
returns-clause-goes_on c = goes_on

pub returns-clause-finishes : goal.returns-clause-finishes
returns-clause-finishes c = λ scripts w closed fit. finishes scripts (left scripts w) w closed fit refl

pub returns-clause-within : goal.returns-clause-within
returns-clause-within c = λ scripts events closed. let count = accepted_left scripts events closed in omega arith

pub returns-clause-ends : goal.returns-clause-ends
returns-clause-ends c = λ scripts events closed.
    let w = run scripts (start scripts) events in
    let fit = run_fit scripts (start scripts) events (start_fit scripts) in
    let count = accepted_left scripts events closed in
    (λ over. let none = done_none scripts w closed fit over in omega arith, λ all. none_done scripts w closed fit (omega arith))

pub returns-clause-delivered : goal.returns-clause-delivered
returns-clause-delivered c = λ scripts w closed fit over p q p_there q_there. done_delivered scripts w p q closed fit over p_there q_there
