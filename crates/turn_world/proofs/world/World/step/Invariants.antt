-- All speak of one run.
use Rattle.turn_world.proofs.world.World.step.Given as goal

abbrev pub ghost-is_enabled : goal.ghost-is_enabled
ghost-is_enabled g a = g.run

abbrev pub ghost-happen : goal.ghost-happen
ghost-happen g a = g.run
