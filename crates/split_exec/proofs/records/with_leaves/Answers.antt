use Rattle.std.proofs.Common.{◌≡◌, ◌∙◌, ◌+◌, ◌*◌, ◌%◌, ◌^◌, map, sym, ap, subst, arith}
use Rattle.std.specs.Prelude.{slice_index, slice_index_or}
use Rattle.std.specs.List.{range_with_len}
use Rattle.std.proofs.lemmas.List.{length-map}
use Rattle.bern_base.specs.declared.job.Ref.{Ref}
use Rattle.format_model.specs.Trees.{IsLeaf, Tree}
use Rattle.job_model.specs.Values.{product_of}
use Rattle.node_prog.proofs.HomeLemmas.{item}
use Rattle.plan_courses.specs.JobCourses.{ref_at}
use Rattle.visits.specs.Ways.{no_tree}
use Rattle.split_exec.specs.Recorded.{Source, leaf_of, source}
use Rattle.split_exec.proofs.ViewLemmas.{product_range, ref_is, ring_more, tree_low}
use Rattle.split_exec.proofs.records.with_leaves.Goals as goal

pub at-view-requires : goal.at-view-requires
at-view-requires g c =
    let t = c.args.planned.now.term in
    let at = c.references.at in
    let leaf = c.requires.leaves at (omega (arith, c.references-test.true, c.len-at-end.ensures)) in
    let low = tree_low (map g.V.Access.tree c.args.stores.now) (ref_at t at).array (slice_index c.args.recorded.now.leaves at) leaf in
    omega (arith, low, length-map c.args.stores.now g.V.Access.tree, ap (λ (r : Ref). r.array) (ref_is t at c.at.result.now c.at.ensures))

pub value-requires : goal.value-requires
value-requires g c =
    let t = c.args.planned.now.term in
    let at = c.references.at in
    let leaf = c.requires.leaves at (omega (arith, c.references-test.true, c.len-at-end.ensures)) in
    subst (λ tree. IsLeaf tree (slice_index c.args.recorded.now.leaves at))
    (ap (λ (r : Ref). slice_index_or (map g.V.Access.tree c.args.stores.now) r.array no_tree) (ref_is t at c.at.result.now c.at.ensures)
    ∙ item g.V.Access.tree c.args.stores.now c.at.result.now.array c.at-view.result.now no_tree c.at-view.ensures) leaf

pub references-preserved : goal.references-preserved
references-preserved g c =
    let f : Source = source g.V.Access.tree g.V.Cells.grid c.args.stores.now c.args.inbox.now.sets in
    let t = c.args.planned.now.term in
    let r = c.args.recorded.now in
    let at = c.references.at in
    let tree = ap (λ (r : Ref). slice_index_or f.trees r.array no_tree) (ref_is t at c.at.result.now c.at.ensures)
    ∙ item g.V.Access.tree c.args.stores.now c.at.result.now.array c.at-view.result.now no_tree c.at-view.ensures in
    let value : c.value.result ≡ leaf_of f t r at = c.value.ensures ∙ ap (λ (u : Tree). u.value (slice_index r.leaves at)) (sym tree) in
    ap (λ n. n % 2 ^ 64) (c.mul-product.ensures ∙ ap (λ n. c.references.product * n % 2 ^ 64) value)
    ∙ ring_more c.references.product c.args.value (product_of (map (leaf_of f t r) (range_with_len 0 at))) (leaf_of f t r at) (product_of (map (leaf_of f t r) (range_with_len 0 (at + 1)))) c.references.invariant
    (product_range (leaf_of f t r) at)
