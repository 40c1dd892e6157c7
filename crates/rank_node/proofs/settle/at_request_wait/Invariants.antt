-- All speak of one run.
use Rattle.rank_node.proofs.settle.at_request_wait.Given as goal

abbrev pub ghost-has_requests : goal.ghost-has_requests
ghost-has_requests g a = g.run

abbrev pub ghost-next_values : goal.ghost-next_values
ghost-next_values g a = g.run
