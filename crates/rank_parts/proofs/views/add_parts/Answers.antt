use Rattle.std.proofs.Common.{◌≡◌, add-one, drop, length, sym, ap, ◌∙◌, arith}
use Rattle.std.specs.Arc.{arc_value}
use Rattle.std.specs.Vec.Iter.{into_iter_items}
use Rattle.std.proofs.lemmas.List.{length-set}
use Rattle.rank_parts.proofs.DealLemmas.{dealt_in, part_there, parts_long}
use Rattle.rank_parts.proofs.RowLemmas.{all_rows, next_row}
use Rattle.whole_runs.proofs.StoreLemmas.{drop_first, drop_none, drop_rest}
use Rattle.whole_turns.proofs.PlaceLemmas.{below}
use Rattle.rank_parts.proofs.views.add_parts.Goals as goal

pub part_view-requires : goal.part_view-requires
part_view-requires c =
    let at = c.loop-part in
    let there = drop_first c.args.parts at.rank c.in-Some.part (into_iter_items c.next.new.self) (sym c.in-Some.ensures.steps.0 ∙ at.invariant.left) in
    (c.args.ranks, (c.requires.parts.0, part_there c.args.job.now (arc_value c.args.places.now) c.args.ranks c.args.number c.requires.parts.0 c.args.order.now c.args.parts c.requires.parts.1 at.rank c.in-Some.part there))

pub offer_at-requires : goal.offer_at-requires
offer_at-requires c =
    let at = c.loop-part in
    let there = drop_first c.args.parts at.rank c.in-Some.part (into_iter_items c.next.new.self) (sym c.in-Some.ensures.steps.0 ∙ at.invariant.left) in
    let long = parts_long c.args.job.now (arc_value c.args.places.now) c.args.ranks c.args.number c.requires.parts.0 c.args.order.now c.args.parts c.requires.parts.1 in
    omega (arith, at.invariant.count, long, below c.args.parts at.rank c.in-Some.part there)

pub overflow_add-rank : goal.overflow_add-rank
overflow_add-rank c =
    let at = c.loop-part in
    let there = drop_first c.args.parts at.rank c.in-Some.part (into_iter_items c.next.new.self) (sym c.in-Some.ensures.steps.0 ∙ at.invariant.left) in
    let long = parts_long c.args.job.now (arc_value c.args.places.now) c.args.ranks c.args.number c.requires.parts.0 c.args.order.now c.args.parts c.requires.parts.1 in
    let low = below c.args.parts at.rank c.in-Some.part there in
    let fits = c.ranges.ranks.fits in
    omega (arith, long, low, fits)

pub loop-part-preserved : goal.loop-part-preserved
loop-part-preserved c =
    let at = c.loop-part in
    let there = drop_first c.args.parts at.rank c.in-Some.part (into_iter_items c.next.new.self) (sym c.in-Some.ensures.steps.0 ∙ at.invariant.left) in
    let low = below c.args.parts at.rank c.in-Some.part there in
    let long = parts_long c.args.job.now (arc_value c.args.places.now) c.args.ranks c.args.number c.requires.parts.0 c.args.order.now c.args.parts c.requires.parts.1 in
    let short = ap length c.in-Some.ensures.steps.0 in
    let was = at.invariant.long in
    let gone = c.in-Some.ensures.steps.1 in record {
      left = drop_rest c.args.parts at.rank c.in-Some.part (into_iter_items c.next.new.self) (sym c.in-Some.ensures.steps.0 ∙ at.invariant.left)
          ∙ ap (λ n. drop n c.args.parts) (sym (add-one at.rank));
      long = omega arith;
      most = omega (arith, low);
      count = ap length c.in-Ok.ensures.ok ∙ length-set at.views at.rank _ ∙ at.invariant.count;
      rows = λ ms m is are first.
          let part = part_there c.args.job.now (arc_value c.args.places.now) c.args.ranks c.args.number m c.args.order.now c.args.parts are at.rank c.in-Some.part there in
          next_row _ c.args.ranks c.args.number at.rank at.views c.offer_at.new.self c.in_ok-view.view (at.invariant.rows ms m is are first) (omega (arith, low, long))
          (dealt_in c.args.job.now (arc_value c.args.places.now) c.args.ranks at.rank c.args.number ms m _ _ is (c.in_ok-view.ensures c.args.ranks m part)) c.in-Ok.ensures.ok;
    }

pub returns-clause-adds : goal.returns-clause-adds
returns-clause-adds c = λ ms m is are first.
    let at = c.loop-part in
    let long = parts_long c.args.job.now (arc_value c.args.places.now) c.args.ranks c.args.number m c.args.order.now c.args.parts are in
    let none = drop_none c.args.parts at.rank (ap length (sym at.invariant.left) ∙ sym at.invariant.long ∙ c.in-None.ensures.steps.0) in
    let all : at.rank ≡ c.args.ranks = omega (arith, long, none, at.invariant.most) in
    all_rows _ c.args.ranks c.args.number at.rank at.views all (at.invariant.rows ms m is are first)
