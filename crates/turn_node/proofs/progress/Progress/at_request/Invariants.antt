-- All speak of one run.
use Rattle.turn_node.proofs.progress.Progress.at_request.Given as goal

abbrev pub ghost-at_request_wait : goal.ghost-at_request_wait
ghost-at_request_wait g a = g.run
