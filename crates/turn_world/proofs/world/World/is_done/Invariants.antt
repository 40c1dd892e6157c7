-- All speak of one run.
use Rattle.turn_world.proofs.world.World.is_done.Given as goal

abbrev pub ghost-want : goal.ghost-want
ghost-want g a = g.run
