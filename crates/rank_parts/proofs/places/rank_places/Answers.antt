use Rattle.std.proofs.Common.{◌≡◌, ◌∷◌, [], Some, length, length-append, slice_get, rules, sym, ap, ◌∙◌, subst, arith}
use Rattle.std.specs.Vec.Iter.{into_iter_items}
use Rattle.job_files.specs.Uses.{size_of}
use Rattle.rank_parts.specs.Placing.{IsPlaceFor, size_in}
use Rattle.rank_parts.proofs.PlaceLemmas.{ArePlacesSoFar, line_there, next_list, none_placed, place_more, place_of, places_done, size_at}
use Rattle.rank_parts.proofs.places.rank_places.Goals as goal

pub loop-list-init : goal.loop-list-init
loop-list-init c = (
  subst (λ xs. ArePlacesSoFar c.args.job.now c.args.ranks c.args.lists xs (into_iter_items c.into_iter-list-iterator.result)) (sym c.new-places.ensures)
      (none_placed c.args.job.now c.args.ranks c.args.lists (into_iter_items c.into_iter-list-iterator.result) (c.into_iter-list-iterator.ensures.into_iter_gives.0 ∙ c.into_vec-list-items.ensures)),
  search rules,
)

pub at-line-requires : goal.at-line-requires
at-line-requires c =
    let there = next_list c.args.job.now c.args.ranks c.args.lists c.loop-list.places _ _ c.in-Some.list c.loop-list.invariant.0 c.in-Some.ensures.steps.0 in
    let low = line_there c.args.job.now c.args.ranks c.args.lists (length c.loop-list.places) c.in-Some.list c.requires.lists there in
    omega (arith, low, c.len.ensures)

pub loop-list-preserved : goal.loop-list-preserved
loop-list-preserved c =
    let job = c.args.job.now in
    let at = c.loop-list in
    let steps : into_iter_items at.list-iterator ≡ c.in-Some.list ∷ into_iter_items c.next.new.self = c.in-Some.ensures.steps.0 in
    let line_is : slice_get job.places (length at.places) ≡ Some c.at-line.result.now = rw c.len.ensures at c.at-line.ensures in
    let size : size_in job c.at-line.result.now ≡ c.at.result.now.size = ap size_of c.at.ensures in
    let holds = subst (λ n. IsPlaceFor n c.args.ranks c.at-line.result.now.kind c.in-Some.list c.rank_place.result) (sym size) c.rank_place.ensures in (
      subst (λ xs. ArePlacesSoFar job c.args.ranks c.args.lists xs (into_iter_items c.next.new.self)) (sym c.in_ok-push.ensures.ok)
          (place_more job c.args.ranks c.args.lists at.places (into_iter_items at.list-iterator) (into_iter_items c.next.new.self) c.in-Some.list c.rank_place.result c.at-line.result.now at.invariant.0 steps line_is holds
          (length-append at.places (c.rank_place.result ∷ []) ∙ omega arith)),
      let was = at.invariant.1 in
          let gone = c.in-Some.ensures.steps.1 in
          let short = ap length steps in
          omega arith,
    )

pub returns : goal.returns
returns c = places_done c.args.job.now c.args.ranks c.args.lists c.loop-list.places _ c.requires.lists c.loop-list.invariant.0 (sym c.loop-list.invariant.1 ∙ c.in-None.ensures.steps.0)
