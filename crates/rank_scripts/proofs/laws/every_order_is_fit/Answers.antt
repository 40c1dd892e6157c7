use Rattle.rank_scripts.specs.Worlds.{start}
use Rattle.rank_scripts.proofs.WorldLemmas.{start_fit, step_fit, run_fit, posts_next, takes_next}
use Rattle.rank_scripts.proofs.laws.every_order_is_fit.Goals as goal

pub returns-clause-start : goal.returns-clause-start
returns-clause-start c = start_fit

pub returns-clause-step : goal.returns-clause-step
returns-clause-step c = step_fit

pub returns-clause-run : goal.returns-clause-run
returns-clause-run c = λ scripts events. run_fit scripts (start scripts) events (start_fit scripts)

pub returns-clause-posts : goal.returns-clause-posts
returns-clause-posts c = posts_next

pub returns-clause-takes : goal.returns-clause-takes
returns-clause-takes c = takes_next
