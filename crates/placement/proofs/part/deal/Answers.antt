use Rattle.std.proofs.Common.{◌≡◌, ◌<◌, ◌+◌, ◌∷◌, ◌++◌, [], ℕ, List, map, drop, length, get_or, sym, ap, ◌∙◌, arith}
use Rattle.std.proofs.Math.Nat.{add-zero, zero-add}
use Rattle.std.specs.List.{range_with_len}
use Rattle.std.specs.List.Sorted.{IsStrictlyIncreasing}
use Rattle.std.specs.Vec.Iter.{into_iter_items, into_iter_len}
use Rattle.std.proofs.lemmas.Bool.{true≢false}
use Rattle.std.proofs.lemmas.List.{drop-drop, get_or-drop, length-drop}
use Rattle.std.proofs.lemmas.List.Elements.{All-same}
use Rattle.std.proofs.lemmas.List.FromFn.{map-range_with_len_more}
use Rattle.bern_base.specs.Matrix.{IsMatrix}
use Rattle.bern_base.specs.declared.matrix.Entry.{Entry}
use Rattle.placement.specs.declared.part.Part.{Part}
use Rattle.placement.specs.Part.{dealt, localized, owner_of_entry, part_of}
use Rattle.placement.proofs.DealtLemmas.{get_or-dealt, length-dealt}
use Rattle.placement.proofs.PartLemmas.{parts-are-matrices, parts-rise}
use Rattle.placement.proofs.part.deal.Goals as goal

-- the list that comes next is the one at this place, and the later ones are left
next_list : (lists rest : List (List Entry)) (k : ℕ) (list : List Entry) → drop k lists ≡ list ∷ rest → list ≡ get_or lists k []
next_list lists rest k list are = sym (ap (λ ls. get_or ls 0 []) are) ∙ get_or-drop k lists 0 [] ∙ ap (λ n. get_or lists n []) (add-zero k)

later_lists : (lists rest : List (List Entry)) (k : ℕ) (list : List Entry) → drop k lists ≡ list ∷ rest → rest ≡ drop (k + 1) lists
later_lists lists rest k list are = sym (ap (drop 1) are) ∙ drop-drop 1 k lists

pub unreachable-requires : goal.unreachable-requires
unreachable-requires g c =
    let ts = g.P.Placement.triples c.args.place.now in
    let all : List (List Entry) = dealt (owner_of_entry c.args.axis ts) (localized c.args.axis ts) c.args.ranks c.args.matrix.now.entries in
    let left = ap (λ (ls : List (List Entry)). length ls) c.loop-rank.invariant.lists in
    let some : 0 < into_iter_len c.loop-rank.lists =
    omega (arith, c.loop-rank.invariant.len, left, length-drop c.loop-rank.rank all, length-dealt (owner_of_entry c.args.axis ts) (localized c.args.axis ts) c.args.ranks c.args.matrix.now.entries, c.loop-rank-test.true) in
    true≢false (sym (c.in-None.ensures.variant.1 some))

pub loop-rank-preserved : goal.loop-rank-preserved
loop-rank-preserved g c =
    let ts = g.P.Placement.triples c.args.place.now in
    let k = c.loop-rank.rank in
    let made : ℕ → Part = λ p. part_of c.args.axis ts p c.args.matrix.now in
    let all : List (List Entry) = dealt (owner_of_entry c.args.axis ts) (localized c.args.axis ts) c.args.ranks c.args.matrix.now.entries in
    let rest : List (List Entry) = into_iter_items c.next.new.self in
    let are : drop k all ≡ c.in-Some.entries ∷ rest = sym c.loop-rank.invariant.lists ∙ c.in-Some.ensures.items in record {
      parts = c.in_ok-push.ensures.ok ∙ ap (λ ps. ps ++ c.in_ok-part_with.field-0 ∷ []) c.loop-rank.invariant.parts ∙ ap (λ part. map made (range_with_len 0 k) ++ part ∷ []) c.in_ok-part_with.ensures.part
          ∙ sym (map-range_with_len_more made 0 k k (zero-add k));
      lists = later_lists all rest k c.in-Some.entries are;
      len = omega (arith, c.in-Some.ensures.len, c.loop-rank.invariant.len, ap (λ (ls : List (List Entry)). length ls) c.in-Some.ensures.items);
    }

pub part_with-requires-clause-entries : goal.part_with-requires-clause-entries
part_with-requires-clause-entries g c =
    let ts = g.P.Placement.triples c.args.place.now in
    let k = c.loop-rank.rank in
    let all : List (List Entry) = dealt (owner_of_entry c.args.axis ts) (localized c.args.axis ts) c.args.ranks c.args.matrix.now.entries in
    let rest : List (List Entry) = into_iter_items c.next.new.self in
    let are : drop k all ≡ c.in-Some.entries ∷ rest = sym c.loop-rank.invariant.lists ∙ c.in-Some.ensures.items in
    next_list all rest k c.in-Some.entries are ∙ get_or-dealt (owner_of_entry c.args.axis ts) (localized c.args.axis ts) c.args.ranks c.args.matrix.now.entries k [] c.loop-rank-test.true

pub returns-clause-matrix : goal.returns-clause-matrix
returns-clause-matrix g c =
    let place = c.args.place.now in
    let ts = g.P.Placement.triples place in
    All-same (λ (part : Part). IsMatrix part.matrix) c.loop-rank.parts (map (λ p. part_of c.args.axis ts p c.args.matrix.now) (range_with_len 0 c.loop-rank.rank)) c.loop-rank.invariant.parts
    (parts-are-matrices (g.P.Placement.ranks place) ts c.args.axis c.args.matrix.now c.loop-rank.rank (g.met.P.Placement.placed place) c.requires.matrix c.requires.extent)

pub returns-clause-globals : goal.returns-clause-globals
returns-clause-globals g c =
    let place = c.args.place.now in
    let ts = g.P.Placement.triples place in
    All-same (λ (part : Part). IsStrictlyIncreasing part.globals) c.loop-rank.parts (map (λ p. part_of c.args.axis ts p c.args.matrix.now) (range_with_len 0 c.loop-rank.rank)) c.loop-rank.invariant.parts
    (parts-rise (g.P.Placement.ranks place) ts c.args.axis c.args.matrix.now c.loop-rank.rank (g.met.P.Placement.placed place))
