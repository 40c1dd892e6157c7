use Rattle.std.proofs.Common.{◌≡◌, ◌<◌, length, sym, ap, ◌∙◌, arith}
use Rattle.std.proofs.lemmas.List.{get_or_read}
use Rattle.placement.specs.Placement.{owner_of}
use Rattle.rank_model.specs.Products.{reads}
use Rattle.rank_node.specs.Sets.{all_asked}
use Rattle.rank_node.proofs.SetLemmas.{AreAsked-skip, AreAsked-push, all_from_each, own_fails, unread_fails}
use Rattle.rank_node.proofs.sets.asked_sets.Goals.{then-index+then-owner-rank+in_ok-push, then-index+else-owner-rank, else-index}
use Rattle.rank_node.proofs.sets.asked_sets.Goals as goal

pub loop-element-preserved : goal.loop-element-preserved
loop-element-preserved g c =
    let asked = c.loop-element.invariant.asked in
    let mark : reads c.args.entries.now c.loop-element.element ≡ c.index.result.now = sym (c.loop-element.invariant.marked.each c.loop-element.element c.index.result.now c.loop-element-test.true) ∙ sym c.index.ensures in
    record {
      asked = elim c.if-index.branch [
        | then-index+then-owner-rank+in_ok-push w ↦
            let inside : c.loop-element.element < length (g.P.Placement.triples c.args.place.now) = rw c.requires.extent c.loop-element-test.true in
            let law : owner_of (g.P.Placement.triples c.args.place.now) c.loop-element.element < g.P.Placement.ranks c.args.place.now = g.met.P.Placement.owner_is_a_rank c.args.place.now c.loop-element.element inside in
            let below : w.owner-owner.result < c.args.ranks = rw (w.owner-owner.ensures, ← c.requires.ranks) law in
            rw w.sets-is
            (AreAsked-push _ c.args.entries.now _ _ _ w.owner-owner.result c.loop-element.sets.items w.index_mut.result.now w.push.new.self asked below w.owner-owner.ensures w.if-owner-rank.true (mark ∙ w.if-index.true)
            (get_or_read c.loop-element.sets.items w.owner-owner.result w.index_mut.result.now (rw asked.long below) w.index_mut.ensures.value) w.in_ok-push.ensures.ok)
        | then-index+else-owner-rank w ↦ rw w.sets-is (AreAsked-skip _ c.args.entries.now _ _ _ c.loop-element.sets.items asked (own_fails _ c.args.entries.now _ _ (sym w.owner-owner.ensures ∙ w.if-owner-rank.false)))
        | else-index w ↦ rw w.sets-is (AreAsked-skip _ c.args.entries.now _ _ _ c.loop-element.sets.items asked (unread_fails _ c.args.entries.now _ _ (mark ∙ w.if-index.false)))
      ];
      marked = c.loop-element.invariant.marked;
    }

pub returns : goal.returns
returns g c =
    let end : c.loop-element.element ≡ c.args.extent = omega arith in
    let asked = c.loop-element.invariant.asked in
    c.from_vec.ensures ∙
    all_from_each (g.P.Placement.triples c.args.place.now) c.args.entries.now c.loop-element.element c.args.rank c.args.ranks c.loop-element.sets.items asked.long asked.each ∙
    ap (λ n. all_asked (g.P.Placement.triples c.args.place.now) c.args.entries.now n c.args.rank c.args.ranks) end
