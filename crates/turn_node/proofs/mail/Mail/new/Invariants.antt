-- So many empty queues so far.
use Rattle.std.proofs.Common.{◌≡◌, replicate, []}
use Rattle.turn_node.proofs.mail.Mail.new.Given as goal

abbrev pub invariant-loop : goal.invariant-loop
invariant-loop l = l.queues.items ≡ replicate l.counter []
