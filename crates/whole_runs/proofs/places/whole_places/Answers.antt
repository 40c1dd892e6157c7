use Rattle.std.proofs.Common.{◌≡◌, ◌+◌, Some, length, length-append, slice_get, sym, ap, ◌∙◌, subst, arith}
use Rattle.whole_runs.proofs.PlaceLemmas.{AreFirst, extent_there, line_at, no_place, place_more, places_done, size_some}
use Rattle.whole_runs.proofs.places.whole_places.Goals as goal

pub loop-line-init : goal.loop-line-init
loop-line-init c = record {
  count = ap length c.new-places.ensures;
  first = subst (AreFirst c.args.job.now) (sym c.new-places.ensures) (no_place c.args.job.now);
}

pub at-requires : goal.at-requires
at-requires c =
    extent_there c.args.job.now c.loop-line.line-index c.line-item.result c.requires
    (line_at c.args.job.now c.as_slice-line-items.result.now c.loop-line.line-index c.line-item.result c.as_slice-line-items.ensures c.loop-line-test.true c.line-item.is)

pub new-requires-clause-block : goal.new-requires-clause-block
new-requires-clause-block c = let some = size_some c.args.job.now c.line-item.result.extent c.at.result.now c.requires c.at.ensures in omega (arith, some)

pub loop-line-preserved : goal.loop-line-preserved
loop-line-preserved c =
    let job = c.args.job.now in
    let line = line_at job c.as_slice-line-items.result.now c.loop-line.line-index c.line-item.result c.as_slice-line-items.ensures c.loop-line-test.true c.line-item.is in record {
      count = ap length c.in_ok-push.ensures.ok ∙ length-append c.loop-line.places _ ∙ ap (λ n. n + 1) c.loop-line.invariant.count;
      first = subst (AreFirst job) (sym c.in_ok-push.ensures.ok)
          (place_more job c.loop-line.places c.line-item.result c.at.result.now _ c.loop-line.invariant.first
          (subst (λ n. slice_get job.places n ≡ Some c.line-item.result) (sym c.loop-line.invariant.count) line) c.at.ensures c.new.ensures.ranks c.new.ensures.triples);
    }

pub returns : goal.returns
returns c =
    places_done c.args.job.now c.loop-line.places c.loop-line.invariant.first
    (let all = ap length c.as_slice-line-items.ensures in omega (arith, c.loop-line.invariant.count, all))
