use Rattle.std.proofs.Common.{◌≡◌, ◌<◌, ◌≤◌, ℕ, List, [], map, filter, ◌==◌, length, get_or, take, Some, sym, ap, ◌∙◌, subst, refl, arith}
use Rattle.std.specs.List.{range_with_len, slice_get}
use Rattle.std.proofs.lemmas.List.{length-map, length-take, take_all}
use Rattle.std.proofs.lemmas.Option.{get_or_from_slice_get}
use Rattle.bern_base.specs.declared.matrix.Entry.{Entry}
use Rattle.placement.specs.declared.place.Seat.{Seat}
use Rattle.placement.specs.Listed.{listed_triple, listed_triples, seat_triples}
use Rattle.placement.specs.Part.{dealt}
use Rattle.placement.specs.Placement.{IsPlacement, owned_indices}
use Rattle.placement.proofs.DealtLemmas.{at_item, dealt_more, get_or-dealt, length-dealt}
use Rattle.placement.proofs.ListedLemmas.{seat_of, seats_more, seats-listed, local_at, listed-is_placement, listed-owned, most}
use Rattle.placement.proofs.listed.seated.Goals as goal

rank_is : (ranks : ℕ) (es : List Entry) (k : ℕ) (lists : List (List ℕ)) (p : ℕ) → lists ≡ dealt (λ e. e.col) (λ e. e.row) ranks (take k es) → p < ranks → p < length lists
rank_is ranks es k lists p are below = omega (arith, ap (λ (ls : List (List ℕ)). length ls) are, length-dealt (λ (e : Entry). e.col) (λ e. e.row) ranks (take k es), below)

pub at-requires : goal.at-requires
at-requires c =
    rank_is c.args.ranks c.args.entries.now c.loop-entry.entry-index c.loop-entry.globals c.entry-item.result.col c.loop-entry.invariant.globals
    (at_item (λ (e : Entry). e.col < c.args.ranks) c.args.entries.now c.loop-entry.entry-index c.entry-item.result c.loop-entry-test.true c.entry-item.is c.requires.cols)

pub offer_at-requires : goal.offer_at-requires
offer_at-requires c =
    rank_is c.args.ranks c.args.entries.now c.loop-entry.entry-index c.loop-entry.globals c.entry-item.result.col c.loop-entry.invariant.globals
    (at_item (λ (e : Entry). e.col < c.args.ranks) c.args.entries.now c.loop-entry.entry-index c.entry-item.result c.loop-entry-test.true c.entry-item.is c.requires.cols)

-- the length of the list of a rank is how many of the entries so far it has
count : (ranks : ℕ) (so_far : List Entry) (p : ℕ) (lists : List (List ℕ)) (list : List ℕ) (n : ℕ) → n ≡ length list → slice_get lists p ≡ Some list → lists ≡ dealt (λ e. e.col) (λ e. e.row) ranks so_far → p < ranks →
    n ≡ length (filter (λ f. f.col == p) so_far)
count ranks so_far p lists list n is at are below =
    is ∙ ap (λ (ns : List ℕ). length ns) (sym (get_or_from_slice_get lists p list [] at) ∙ ap (λ ls. get_or ls p []) are ∙ get_or-dealt (λ e. e.col) (λ e. e.row) ranks so_far p [] below)
    ∙ length-map (filter (λ f. f.col == p) so_far) (λ e. e.row)

pub overflow_cast-local : goal.overflow_cast-local
overflow_cast-local c =
    let es = c.args.entries.now in
    let k = c.loop-entry.entry-index in
    let e = c.entry-item.result in
    let below : e.col < c.args.ranks = at_item (λ (f : Entry). f.col < c.args.ranks) es k e c.loop-entry-test.true c.entry-item.is c.requires.cols in
    let is = count c.args.ranks (take k es) e.col c.loop-entry.globals c.at.result.now c.len-local.result c.len-local.ensures c.at.ensures c.loop-entry.invariant.globals below in
    omega (arith, is, most (λ f. f.col == e.col) k es, c.requires.fits)

pub loop-entry-preserved : goal.loop-entry-preserved
loop-entry-preserved c =
    let es = c.args.entries.now in
    let k = c.loop-entry.entry-index in
    let e = c.entry-item.result in
    let below : e.col < c.args.ranks = at_item (λ (f : Entry). f.col < c.args.ranks) es k e c.loop-entry-test.true c.entry-item.is c.requires.cols in
    let local : c.len-local.result ≡ (listed_triple es e).local =
    count c.args.ranks (take k es) e.col c.loop-entry.globals c.at.result.now c.len-local.result c.len-local.ensures c.at.ensures c.loop-entry.invariant.globals below ∙ ap (λ (x : Entry). length (filter (λ f. f.col == x.col) (take k es))) c.entry-item.is
    ∙ sym (ap (λ (x : Entry). (listed_triple es x).local) c.entry-item.is ∙ local_at es c.requires.rows k e c.loop-entry-test.true) in
    let seat : Seat = record { owner = e.col; local = c.len-local.result } in
    let is_seat : seat ≡ seat_of es e = ap (λ l. record { owner = e.col; local = l }) local in record {
      seats = seats_more es k e c.loop-entry.seats c.push.new.self seat c.loop-entry-test.true c.entry-item.is c.loop-entry.invariant.seats is_seat c.in_ok-push.ensures.ok;
      globals = dealt_more (λ f. f.col) (λ f. f.row) c.args.ranks es k e c.loop-entry.globals c.offer_at.new.self e.col e.row c.loop-entry-test.true c.entry-item.is below refl refl c.loop-entry.invariant.globals c.in-Ok.ensures.ok;
    }

triples : (es : List Entry) (k : ℕ) (seats : List Seat) → map (λ e. e.row) es ≡ range_with_len 0 (length es) → seats ≡ map (seat_of es) (take k es) → length es ≤ k → seat_triples seats ≡ listed_triples es
triples es k seats rows are all = ap seat_triples (are ∙ ap (map (seat_of es)) (take_all k es all)) ∙ seats-listed es rows

whole : (ranks : ℕ) (es : List Entry) (k : ℕ) (lists : List (List ℕ)) → lists ≡ dealt (λ e. e.col) (λ e. e.row) ranks (take k es) → length es ≤ k → lists ≡ dealt (λ e. e.col) (λ e. e.row) ranks es
whole ranks es k lists are all = are ∙ ap (dealt (λ e. e.col) (λ e. e.row) ranks) (take_all k es all)

number : (ranks : ℕ) (so_far : List Entry) (lists : List (List ℕ)) → lists ≡ dealt (λ e. e.col) (λ e. e.row) ranks so_far → length lists ≡ ranks
number ranks so_far lists are = ap (λ (ls : List (List ℕ)). length ls) are ∙ length-dealt (λ e. e.col) (λ e. e.row) ranks so_far

pub invariant_of-result : goal.invariant_of-result
invariant_of-result c =
    let es = c.args.entries.now in
    let k = c.loop-entry.entry-index in
    let lists : List (List ℕ) = c.loop-entry.globals in
    let are : seat_triples c.loop-entry.seats ≡ listed_triples es = triples es k c.loop-entry.seats c.requires.rows c.loop-entry.invariant.seats c.loop-entry-test.false in
    let ranks : length lists ≡ c.args.ranks = number c.args.ranks (take k es) lists c.loop-entry.invariant.globals in record {
      placed = subst (λ ts. IsPlacement (length lists) ts) (sym are) (subst (λ n. IsPlacement n (listed_triples es)) (sym ranks) (listed-is_placement es c.requires.rows c.args.ranks c.requires.cols));
      owned = whole c.args.ranks es k lists c.loop-entry.invariant.globals c.loop-entry-test.false ∙ listed-owned c.args.ranks es ∙ ap (λ n. map (owned_indices (listed_triples es)) (range_with_len 0 n)) (sym ranks)
          ∙ ap (λ ts. map (owned_indices ts) (range_with_len 0 (length lists))) (sym are);
      fits = omega (arith, ap (λ (ss : List Seat). length ss) c.loop-entry.invariant.seats, length-map (take k es) (seat_of es), length-take k es, c.requires.fits);
    }

pub returns-clause-ranks : goal.returns-clause-ranks
returns-clause-ranks c = number c.args.ranks (take c.loop-entry.entry-index c.args.entries.now) c.loop-entry.globals c.loop-entry.invariant.globals

pub returns-clause-triples : goal.returns-clause-triples
returns-clause-triples c = triples c.args.entries.now c.loop-entry.entry-index c.loop-entry.seats c.requires.rows c.loop-entry.invariant.seats c.loop-entry-test.false
