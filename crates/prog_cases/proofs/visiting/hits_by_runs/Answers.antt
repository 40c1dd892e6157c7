use Rattle.std.proofs.Common.{◌≡◌, ◌∙◌, ◌-◌, length, refl, sym, subst}
use Rattle.node_prog.specs.Visiting.{GoesAlong, Scene, scene, way_at}
use Rattle.visits.specs.Loops.{IsLoop}
use Rattle.visits.specs.Ways.{seen}
use Rattle.prog_cases.specs.Settings.{CanGoAlong}
use Rattle.prog_cases.proofs.RunLemmas.{along, tree_there}
use Rattle.prog_cases.proofs.visiting.hits_by_runs.Goals as goal

pub add_run-requires : goal.add_run-requires
add_run-requires g c =
    let s : Scene = scene g.P.Placement.triples g.P.Placement.ranks g.V.Access.tree c.args.job.now c.args.places.now c.args.nest.now c.args.planned.now c.args.stores.now in
    let v = c.advance_run.new.self in
    let line = c.in-Some.line in
    let reference = c.in-Some-get.reference.now in
    let same : v.rank ≡ c.args.rank = c.advance_run.ensures.rank ∙ c.runs.invariant.rank in
    let goes : GoesAlong s c.args.rank line = subst (λ n. GoesAlong s n line) c.new-visit.ensures.rank c.in-Some.ensures in
    let loop : IsLoop (seen (way_at s c.args.rank) s.trees) (way_at s c.args.rank).unused (length (way_at s c.args.rank).strides - 1) v.visit.run =
    subst (λ n. IsLoop (seen (way_at s n) s.trees) (way_at s n).unused (length (way_at s n).strides - 1) v.visit.run) same (c.runs-test.ensures.run refl) in
    subst (CanGoAlong (g.V.Access.tree c.in-Some-get-2.view.now) line) (sym c.run.ensures)
    (along s c.args.rank line v.visit.run reference (g.V.Access.tree c.in-Some-get-2.view.now) c.requires goes loop c.in-Some-get.ensures.value
    (tree_there g.V.Access.tree c.args.stores.now reference.array c.in-Some-get-2.view.now c.in-Some-get-2.ensures.value))
