use Rattle.std.proofs.Common.{◌<◌, sym, subst}
use Rattle.placement.proofs.ListedLemmas.{length-seat_triples, owner_of_seat, local_of_seat}
use Rattle.placement.proofs.listed.ListedPlacement.seat.Goals as goal

pub at-requires : goal.at-requires
at-requires c = subst (λ n. c.args.i < n) (length-seat_triples c.args.self.now.seats) c.requires

pub returns-clause-owner : goal.returns-clause-owner
returns-clause-owner c = sym (owner_of_seat c.args.self.now.seats c.args.i c.at.result.now c.at.ensures)

pub returns-clause-local : goal.returns-clause-local
returns-clause-local c = sym (local_of_seat c.args.self.now.seats c.args.i c.at.result.now c.at.ensures)
