use Rattle.std.proofs.Common.{◌+◌, take, sym, subst}
use Rattle.std.specs.List.{AllZip}
use Rattle.job_files.specs.PlaceLists.{IsLineFrom}
use Rattle.job_files.proofs.OrderLemmas.{zip_more}
use Rattle.job_files.proofs.lists.place_lists.Goals as goal

pub loop-place-preserved : goal.loop-place-preserved
loop-place-preserved c =
    let job = c.args.job.now in
    subst (AllZip (IsLineFrom c.args.uses.now c.args.loaded.now job.extents c.args.ranks) (take (c.loop-place.place-index + 1) c.args.places.now)) (sym c.in_ok-push.ensures.ok)
    (zip_more (IsLineFrom c.args.uses.now c.args.loaded.now job.extents c.args.ranks) c.args.places.now c.loop-place.lists c.loop-place.place-index c.place-item.result c.in_ok-place_list.field-0 c.loop-place-test.true c.place-item.is c.loop-place.invariant c.in_ok-place_list.ensures)
