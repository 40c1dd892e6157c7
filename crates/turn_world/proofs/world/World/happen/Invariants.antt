-- All speak of one run.
use Rattle.turn_world.proofs.world.World.happen.Given as goal

abbrev pub ghost-work : goal.ghost-work
ghost-work g a = g.run

abbrev pub ghost-post : goal.ghost-post
ghost-post g a = g.run

abbrev pub ghost-take : goal.ghost-take
ghost-take g a = g.run
