use Rattle.std.proofs.Common.{◌≡◌, ◌<◌, ℕ, List, length, take, sym, ap, ◌∙◌, subst, arith}
use Rattle.bern_base.specs.declared.matrix.Entry.{Entry}
use Rattle.placement.specs.Part.{dealt, index_on, localized, owner_of_entry, with_index}
use Rattle.placement.specs.Placement.{local_of, owner_of}
use Rattle.placement.proofs.DealtLemmas.{at_item, dealt_more, length-dealt}
use Rattle.placement.proofs.part.dealt_entries.Goals as goal

room : (ranks : ℕ) (owner : Entry → ℕ) (own : Entry → Entry) (so_far : List Entry) (lists : List (List Entry)) → lists ≡ dealt owner own ranks so_far → length lists ≡ ranks
room ranks owner own so_far lists are = ap (λ (ls : List (List Entry)). length ls) are ∙ length-dealt owner own ranks so_far

pub offer_at-requires : goal.offer_at-requires
offer_at-requires g c =
    let place = c.args.place.now in
    let ts = g.P.Placement.triples place in
    let e = c.entry-item.result in
    let inside : index_on c.args.axis e < length ts = at_item (λ f. index_on c.args.axis f < length ts) c.args.entries.now c.loop-entry.entry-index e c.loop-entry-test.true c.entry-item.is c.requires.inside in
    let owner : c.seat-seat.result.owner ≡ owner_of ts (index_on c.args.axis e) = c.seat-seat.ensures.owner ∙ ap (owner_of ts) c.index_on.ensures in
    let below = g.met.P.Placement.owner_is_a_rank place (index_on c.args.axis e) inside in
    let lists : length c.loop-entry.lists ≡ c.args.ranks = room c.args.ranks (owner_of_entry c.args.axis ts) (localized c.args.axis ts) (take c.loop-entry.entry-index c.args.entries.now) c.loop-entry.lists c.loop-entry.invariant in
    omega (arith, owner, below, lists, c.requires.ranks)

pub loop-entry-preserved : goal.loop-entry-preserved
loop-entry-preserved g c =
    let place = c.args.place.now in
    let ts = g.P.Placement.triples place in
    let e = c.entry-item.result in
    let inside : index_on c.args.axis e < length ts = at_item (λ f. index_on c.args.axis f < length ts) c.args.entries.now c.loop-entry.entry-index e c.loop-entry-test.true c.entry-item.is c.requires.inside in
    let owner : c.seat-seat.result.owner ≡ owner_of_entry c.args.axis ts e = c.seat-seat.ensures.owner ∙ ap (owner_of ts) c.index_on.ensures in
    let local : c.seat-seat.result.local ≡ local_of ts (index_on c.args.axis e) = c.seat-seat.ensures.local ∙ ap (local_of ts) c.index_on.ensures in
    let own : c.with_index-own.result ≡ localized c.args.axis ts e = c.with_index-own.ensures ∙ ap (with_index c.args.axis e) local in
    let below : owner_of_entry c.args.axis ts e < c.args.ranks = subst (λ n. owner_of_entry c.args.axis ts e < n) (sym c.requires.ranks) (g.met.P.Placement.owner_is_a_rank place (index_on c.args.axis e) inside) in
    dealt_more (owner_of_entry c.args.axis ts) (localized c.args.axis ts) c.args.ranks c.args.entries.now c.loop-entry.entry-index e c.loop-entry.lists c.offer_at.new.self c.seat-seat.result.owner c.with_index-own.result
    c.loop-entry-test.true c.entry-item.is below owner own c.loop-entry.invariant c.in-Ok.ensures.ok
