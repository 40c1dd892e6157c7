-- All speak of one run.
use Rattle.turn_node.proofs.node.Node.new.Given as goal

abbrev pub ghost-new : goal.ghost-new
ghost-new g a = g.run
