-- All speak of one run.
use Rattle.turn_world.proofs.world.World.wants_work.Given as goal

abbrev pub ghost-want : goal.ghost-want
ghost-want g a = g.run
