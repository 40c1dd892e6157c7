use Rattle.std.proofs.Common.{sym, ap}
use Rattle.rank_mail.proofs.BoxLemmas.{begins}
use Rattle.rank_mail.proofs.sides.open.Goals as goal

pub with_rule-requires : goal.with_rule-requires
with_rule-requires g c = begins

pub returns : goal.returns
returns g c = record {
  sides = record {
    same = sym c.in_ok-other.ensures;
    sender = ap (λ v. v.route) c.split-sender.ensures.sender.1;
    receiver = ap (λ v. v.route) c.split-sender.ensures.receiver.1;
  };
  none_posted = ap (λ v. v.posted) c.split-sender.ensures.sender.1;
  none_taken = ap (λ v. v.taken) c.split-sender.ensures.receiver.1;
}
