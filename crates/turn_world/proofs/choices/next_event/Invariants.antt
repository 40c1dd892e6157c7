-- All speak of one run.
use Rattle.turn_world.proofs.choices.next_event.Given as goal

abbrev pub ghost-enabled : goal.ghost-enabled
ghost-enabled g a = g.run

abbrev pub ghost-step : goal.ghost-step
ghost-step g a = g.run
