use Rattle.std.proofs.Common.{◌≡◌, ◌∙◌, ◌*◌, ◌+◌, ◌%◌, ◌^◌, sym, ap, subst, arith}
use Rattle.std.specs.Prelude.{slice_index_or}
use Rattle.std.proofs.lemmas.List.{length-map}
use Rattle.bern_base.specs.declared.job.Ref.{Ref}
use Rattle.format_model.specs.Trees.{IsLeaf, Tree}
use Rattle.node_prog.proofs.HomeLemmas.{item}
use Rattle.plan_courses.specs.JobCourses.{ref_at}
use Rattle.visits.specs.Ways.{no_tree}
use Rattle.walks.specs.Courses.{node_of}
use Rattle.split_exec.specs.Hits.{leaf_at}
use Rattle.split_exec.specs.Runs.{product_but}
use Rattle.split_exec.specs.Settings.{Setting, setting}
use Rattle.split_exec.proofs.LineLemmas.{but_more, but_passed}
use Rattle.split_exec.proofs.ViewLemmas.{ring_more, tree_low}
use Rattle.split_exec.proofs.ViewLemmas.{ref_is}
use Rattle.node_prog.proofs.CourseLemmas.{few_references}
use Rattle.split_exec.proofs.SoundLemmas.{can_start}
use Rattle.split_exec.proofs.still.leaves_but.Goals as goal

pub at-view-requires : goal.at-view-requires
at-view-requires g c =
    let s : Setting = setting g.P.Placement.triples g.P.Placement.ranks g.V.Access.tree g.V.Cells.grid c.args.job.now c.args.places.now c.args.nest.now c.args.stores.now in
    let t = c.args.planned.now.term in
    let leaf = c.requires.sound.leaves c.references.at (omega (arith, c.references-test.true)) in
    let low = tree_low s.trees (ref_at t c.references.at).array (node_of c.args.hit.now c.references.at) leaf in
    let same = ref_is t c.references.at c.at.result.now c.at.ensures in
    omega (arith, low, length-map c.args.stores.now g.V.Access.tree, ap (λ (r : Ref). r.array) same)

pub offset_bounds-hit-at : goal.offset_bounds-hit-at
offset_bounds-hit-at g c =
    let s : Setting = setting g.P.Placement.triples g.P.Placement.ranks g.V.Access.tree g.V.Cells.grid c.args.job.now c.args.places.now c.args.nest.now c.args.stores.now in
    let few = few_references s.job s.places s.ranks s.nest c.args.planned.now c.args.rank s.trees (can_start s c.args.rank c.args.planned.now c.requires.can) in
    omega (arith, few)

pub bounds-hit-at : goal.bounds-hit-at
bounds-hit-at g c =
    let s : Setting = setting g.P.Placement.triples g.P.Placement.ranks g.V.Access.tree g.V.Cells.grid c.args.job.now c.args.places.now c.args.nest.now c.args.stores.now in
    let few = few_references s.job s.places s.ranks s.nest c.args.planned.now c.args.rank s.trees (can_start s c.args.rank c.args.planned.now c.requires.can) in
    omega (arith, few)

pub value-requires : goal.value-requires
value-requires g c =
    let s : Setting = setting g.P.Placement.triples g.P.Placement.ranks g.V.Access.tree g.V.Cells.grid c.args.job.now c.args.places.now c.args.nest.now c.args.stores.now in
    let t = c.args.planned.now.term in
    let leaf = c.requires.sound.leaves c.references.at (omega (arith, c.references-test.true)) in
    let same = ref_is t c.references.at c.at.result.now c.at.ensures in
    subst (λ tree. IsLeaf tree (node_of c.args.hit.now c.references.at))
    (ap (λ (r : Ref). slice_index_or s.trees r.array no_tree) same ∙ item g.V.Access.tree c.args.stores.now c.at.result.now.array c.at-view.result.now no_tree c.at-view.ensures) leaf

pub references-preserved-then-at-reference : goal.references-preserved-then-at-reference
references-preserved-then-at-reference g c =
    let s : Setting = setting g.P.Placement.triples g.P.Placement.ranks g.V.Access.tree g.V.Cells.grid c.args.job.now c.args.places.now c.args.nest.now c.args.stores.now in
    c.references.invariant
    ∙ ap (λ n. c.args.value * n % 2 ^ 64) (sym (but_passed c.args.reference (leaf_at s c.args.planned.now.term c.args.hit.now) c.references.at c.if-at-reference.true))

pub references-preserved : goal.references-preserved
references-preserved g c =
    let s : Setting = setting g.P.Placement.triples g.P.Placement.ranks g.V.Access.tree g.V.Cells.grid c.args.job.now c.args.places.now c.args.nest.now c.args.stores.now in
    let t = c.args.planned.now.term in
    let same = ref_is t c.references.at c.at.result.now c.at.ensures in
    let tree = ap (λ (r : Ref). slice_index_or s.trees r.array no_tree) same ∙ item g.V.Access.tree c.args.stores.now c.at.result.now.array c.at-view.result.now no_tree c.at-view.ensures in
    let value : c.value.result ≡ leaf_at s t c.args.hit.now c.references.at = c.value.ensures ∙ ap (λ (u : Tree). u.value (node_of c.args.hit.now c.references.at)) (sym tree) in
    let leaf = leaf_at s t c.args.hit.now in
    ap (λ n. n % 2 ^ 64) (c.mul-product.ensures ∙ ap (λ n. c.references.product * n % 2 ^ 64) value)
    ∙ ring_more c.references.product c.args.value (product_but c.args.reference leaf c.references.at) (leaf c.references.at)
    (product_but c.args.reference leaf (c.references.at + 1)) c.references.invariant (but_more c.args.reference leaf c.references.at c.if-at-reference.false)
