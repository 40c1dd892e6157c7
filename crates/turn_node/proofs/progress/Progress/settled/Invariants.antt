-- All speak of one run.
use Rattle.turn_node.proofs.progress.Progress.settled.Given as goal

abbrev pub ghost-at_request : goal.ghost-at_request
ghost-at_request g a = g.run

abbrev pub ghost-at_request_wait : goal.ghost-at_request_wait
ghost-at_request_wait g a = g.run

abbrev pub ghost-next_values : goal.ghost-next_values
ghost-next_values g a = g.run

abbrev pub ghost-at_values_wait : goal.ghost-at_values_wait
ghost-at_values_wait g a = g.run
