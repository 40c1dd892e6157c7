use Rattle.std.proofs.Common.{◌<◌, ℕ, List, length, get_or, sym, subst, ap, ◌∙◌}
use Rattle.std.proofs.lemmas.Option.{get_or_from_slice_get}
use Rattle.placement.specs.Listed.{seat_triples}
use Rattle.placement.proofs.IndexLemmas.{length-owned_indices, get_or-owned_indices}
use Rattle.placement.proofs.ListedLemmas.{list_of, rank-below}
use Rattle.placement.proofs.listed.ListedPlacement.global.Goals as goal

pub at-requires : goal.at-requires
at-requires c = rank-below c.args.self.now.placed c.args.p c.args.l c.requires

pub at-requires-2 : goal.at-requires-2
at-requires-2 c =
    let s = c.args.self.now in
    subst (λ n. c.args.l < n) (sym (ap (λ (is : List ℕ). length is) (list_of (seat_triples s.seats) s.globals c.args.p c.at.result.now s.owned c.at.ensures) ∙ length-owned_indices (seat_triples s.seats) c.args.p)) c.requires

pub returns : goal.returns
returns c =
    let s = c.args.self.now in
    sym (get_or_from_slice_get c.at.result.now c.args.l c.at-2.result.now 0 c.at-2.ensures)
    ∙ ap (λ is. get_or is c.args.l 0) (list_of (seat_triples s.seats) s.globals c.args.p c.at.result.now s.owned c.at.ensures)
    ∙ get_or-owned_indices (seat_triples s.seats) c.args.p c.args.l
