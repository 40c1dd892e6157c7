-- All speak of one run.
use Rattle.turn_node.proofs.mail.Mail.deliver.Given as goal

abbrev pub ghost-deliver : goal.ghost-deliver
ghost-deliver g a = g.run
