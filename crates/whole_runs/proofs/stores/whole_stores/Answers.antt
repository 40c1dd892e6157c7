use Rattle.std.proofs.Common.{◌≡◌, ◌∷◌, [], length, length-append, rules, sym, ap, ◌∙◌, subst, arith}
use Rattle.std.specs.Vec.Iter.{into_iter_items}
use Rattle.std.proofs.lemmas.Option.{slice_get_within}
use Rattle.job_files.specs.FileOrder.{IsArrayIn}
use Rattle.job_files.specs.RowOrders.{IsRowOrder}
use Rattle.whole_runs.specs.Engine.{BuildsStore, IsForArray}
use Rattle.whole_runs.proofs.StoreLemmas.{AreBuilt, all_held, for_array, next_matrix, none_built, store_more, zip_long}
use Rattle.whole_runs.proofs.stores.whole_stores.Goals as goal

pub loop-matrix-init : goal.loop-matrix-init
loop-matrix-init c = (
  subst (λ xs. AreBuilt c.args.job.now c.args.matrices xs (into_iter_items c.into_iter-matrix-iterator.result)) (sym c.new-stores.ensures)
      (none_built c.args.job.now c.args.matrices (into_iter_items c.into_iter-matrix-iterator.result) (c.into_iter-matrix-iterator.ensures.into_iter_gives.0 ∙ c.into_vec-matrix-items.ensures)),
  search rules,
)

pub at-requires : goal.at-requires
at-requires c =
    let job = c.args.job.now in
    let there = next_matrix job c.args.matrices c.loop-matrix.stores _ _ c.in-Some.matrix c.loop-matrix.invariant.0 c.in-Some.ensures.steps.0 in
    omega (arith, c.len-number.ensures, slice_get_within c.args.matrices (length c.loop-matrix.stores) c.in-Some.matrix there, zip_long (IsArrayIn job.formats) job.arrays c.args.matrices c.requires.arrays, zip_long (IsRowOrder job.formats) job.arrays c.args.orders.now c.requires.rows)

pub whole_store-requires : goal.whole_store-requires
whole_store-requires c =
    let job = c.args.job.now in
    let there = next_matrix job c.args.matrices c.loop-matrix.stores _ _ c.in-Some.matrix c.loop-matrix.invariant.0 c.in-Some.ensures.steps.0 in
    subst (λ n. IsForArray job n c.in-Some.matrix c.at.result.now) (sym c.len-number.ensures)
    (for_array job c.args.matrices c.args.orders.now (length c.loop-matrix.stores) c.in-Some.matrix c.at.result.now c.requires there (rw c.len-number.ensures at c.at.ensures))

pub loop-matrix-preserved : goal.loop-matrix-preserved
loop-matrix-preserved c =
    let job = c.args.job.now in
    let at = c.loop-matrix in
    let steps : into_iter_items at.matrix-iterator ≡ c.in-Some.matrix ∷ into_iter_items c.next.new.self = c.in-Some.ensures.steps.0 in
    let built = subst (λ n. BuildsStore job n c.in-Some.matrix c.in_ok-whole_store.field-0) c.len-number.ensures c.in_ok-whole_store.ensures in (
      subst (λ xs. AreBuilt job c.args.matrices xs (into_iter_items c.next.new.self)) (sym c.in_ok-push.ensures.ok)
          (store_more job c.args.matrices at.stores (into_iter_items at.matrix-iterator) (into_iter_items c.next.new.self) c.in-Some.matrix c.in_ok-whole_store.field-0 at.invariant.0 steps built
          (length-append at.stores (c.in_ok-whole_store.field-0 ∷ []) ∙ omega arith)),
      let was = at.invariant.1 in
          let gone = c.in-Some.ensures.steps.1 in
          let short = ap length steps in
          omega arith,
    )

pub returns : goal.returns
returns c = all_held c.args.job.now c.args.matrices c.args.orders.now c.loop-matrix.stores _ c.requires c.loop-matrix.invariant.0 (sym c.loop-matrix.invariant.1 ∙ c.in-None.ensures.steps.0)
