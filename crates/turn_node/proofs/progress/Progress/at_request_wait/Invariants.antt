-- All speak of one run.
use Rattle.turn_node.proofs.progress.Progress.at_request_wait.Given as goal

abbrev pub ghost-has_requests : goal.ghost-has_requests
ghost-has_requests g a = g.run

abbrev pub ghost-begun : goal.ghost-begun
ghost-begun g a = g.run
