use Rattle.std.proofs.Common.{◌≡◌, ℕ, List, length, ap, ◌∙◌, arith}
use Rattle.placement.specs.Listed.{seat_triples}
use Rattle.placement.specs.Placement.{owned_of}
use Rattle.placement.proofs.IndexLemmas.{length-owned_indices}
use Rattle.placement.proofs.ListedLemmas.{list_of, owned-fits}
use Rattle.placement.proofs.listed.ListedPlacement.owned.Goals as goal
use Rattle.placement.proofs.listed.ListedPlacement.owned.Goals.{After-len}

count : (c : After-len) → c.len.result ≡ owned_of (seat_triples c.args.self.now.seats) c.args.p
count c =
    let s = c.args.self.now in
    c.len.ensures ∙ ap (λ (is : List ℕ). length is) (list_of (seat_triples s.seats) s.globals c.args.p c.at.result.now s.owned c.at.ensures) ∙ length-owned_indices (seat_triples s.seats) c.args.p

pub overflow_cast-result : goal.overflow_cast-result
overflow_cast-result c = omega (arith, count c, owned-fits c.args.self.now.seats c.args.p, c.args.self.now.fits)

pub returns : goal.returns
returns c = count c
