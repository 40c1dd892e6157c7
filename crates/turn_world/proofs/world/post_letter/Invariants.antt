-- All speak of one run.
use Rattle.turn_world.proofs.world.post_letter.Given as goal

abbrev pub ghost-want : goal.ghost-want
ghost-want g a = g.run

abbrev pub ghost-letter : goal.ghost-letter
ghost-letter g a = g.run

abbrev pub ghost-posted : goal.ghost-posted
ghost-posted g a = g.run
