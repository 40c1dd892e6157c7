-- All speak of one run.
use Rattle.turn_world.proofs.world.World.post.Given as goal

abbrev pub ghost-post_letter : goal.ghost-post_letter
ghost-post_letter g a = g.run
