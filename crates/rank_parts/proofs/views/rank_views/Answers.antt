use Rattle.std.proofs.Common.{◌≡◌, add-one, drop, length, rules, sym, ap, ◌∙◌, arith}
use Rattle.std.specs.Arc.{arc_value}
use Rattle.std.specs.Vec.Iter.{into_iter_items}
use Rattle.job_files.specs.FileOrder.{IsArrayIn}
use Rattle.job_files.specs.RowOrders.{IsRowOrder}
use Rattle.rank_parts.proofs.DealLemmas.{to_deal}
use Rattle.rank_parts.proofs.HeldLemmas.{rows-are_held}
use Rattle.rank_parts.proofs.RowLemmas.{no_rows}
use Rattle.whole_runs.proofs.StoreLemmas.{drop_first, drop_none, drop_rest, zip_long}
use Rattle.whole_turns.proofs.PlaceLemmas.{below}
use Rattle.rank_parts.proofs.views.rank_views.Goals as goal

pub loop-matrix-init : goal.loop-matrix-init
loop-matrix-init c = record {
  left = c.into_iter-matrix-iterator.ensures.into_iter_gives.0 ∙ c.into_vec-matrix-items.ensures;
  long = search rules;
  most = omega arith;
  rows = no_rows _ c.args.ranks c.in_ok-views.views c.in_ok-views.ensures;
}

pub at-requires : goal.at-requires
at-requires c =
    let at = c.loop-matrix in
    let job = c.args.job.now in
    let there = drop_first c.args.matrices at.number c.in-Some.matrix (into_iter_items c.next.new.self) (sym c.in-Some.ensures.steps.0 ∙ at.invariant.left) in
    omega (arith, below c.args.matrices at.number c.in-Some.matrix there, zip_long (IsArrayIn job.formats) job.arrays c.args.matrices c.requires.arrays, zip_long (IsRowOrder job.formats) job.arrays c.args.orders.now c.requires.rows)

pub add_array-requires-clause-deals : goal.add_array-requires-clause-deals
add_array-requires-clause-deals c =
    let at = c.loop-matrix in
    let there = drop_first c.args.matrices at.number c.in-Some.matrix (into_iter_items c.next.new.self) (sym c.in-Some.ensures.steps.0 ∙ at.invariant.left) in
    to_deal c.args.job.now (arc_value c.args.places.now) c.args.ranks c.args.matrices c.args.orders.now at.number c.in-Some.matrix c.at.result.now c.requires there c.at.ensures

pub loop-matrix-preserved : goal.loop-matrix-preserved
loop-matrix-preserved c =
    let at = c.loop-matrix in
    let there = drop_first c.args.matrices at.number c.in-Some.matrix (into_iter_items c.next.new.self) (sym c.in-Some.ensures.steps.0 ∙ at.invariant.left) in
    let low = below c.args.matrices at.number c.in-Some.matrix there in
    let short = ap length c.in-Some.ensures.steps.0 in
    let was = at.invariant.long in
    let gone = c.in-Some.ensures.steps.1 in record {
      left = drop_rest c.args.matrices at.number c.in-Some.matrix (into_iter_items c.next.new.self) (sym c.in-Some.ensures.steps.0 ∙ at.invariant.left)
          ∙ ap (λ n. drop n c.args.matrices) (sym (add-one at.number));
      long = omega arith;
      most = omega (arith, low);
      rows = c.in_ok-add_array.ensures.adds c.args.matrices there at.invariant.rows;
    }

pub returns : goal.returns
returns c =
    let at = c.loop-matrix in
    let none = drop_none c.args.matrices at.number (ap length (sym at.invariant.left) ∙ sym at.invariant.long ∙ c.in-None.ensures.steps.0) in
    let all : at.number ≡ length c.args.matrices = omega (arith, none, at.invariant.most) in
    rows-are_held _ _ c.args.job.now (arc_value c.args.places.now) c.args.ranks c.args.matrices c.args.orders.now at.views c.requires (rw (sym all) at.invariant.rows)
