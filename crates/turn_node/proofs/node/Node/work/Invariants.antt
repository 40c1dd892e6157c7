-- All speak of one run.
use Rattle.turn_node.proofs.node.Node.work.Given as goal

abbrev pub ghost-inspect : goal.ghost-inspect
ghost-inspect g a = g.run

abbrev pub ghost-inner : goal.ghost-inner
ghost-inner g a = g.run

abbrev pub ghost-outer : goal.ghost-outer
ghost-outer g a = g.run
