-- All speak of one run.
use Rattle.rank_node.proofs.settle.at_request.Given as goal

abbrev pub ghost-at_request_wait : goal.ghost-at_request_wait
ghost-at_request_wait g a = g.run
