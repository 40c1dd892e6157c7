-- All speak of one run.
use Rattle.turn_world.proofs.world.World.is_enabled.Given as goal

abbrev pub ghost-wants_work : goal.ghost-wants_work
ghost-wants_work g a = g.run

abbrev pub ghost-wants_post : goal.ghost-wants_post
ghost-wants_post g a = g.run

abbrev pub ghost-can_take : goal.ghost-can_take
ghost-can_take g a = g.run
