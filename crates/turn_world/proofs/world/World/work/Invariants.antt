-- All speak of one run.
use Rattle.turn_world.proofs.world.World.work.Given as goal

abbrev pub ghost-work : goal.ghost-work
ghost-work g a = g.run
