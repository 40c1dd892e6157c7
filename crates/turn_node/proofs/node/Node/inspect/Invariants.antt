-- All speak of one run.
use Rattle.turn_node.proofs.node.Node.inspect.Given as goal

abbrev pub ghost-ranks : goal.ghost-ranks
ghost-ranks g a = g.run

abbrev pub ghost-inspected : goal.ghost-inspected
ghost-inspected g a = g.run
