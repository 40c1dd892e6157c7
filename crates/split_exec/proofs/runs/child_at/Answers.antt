use Rattle.std.proofs.Common.{◌≡◌, ◌∙◌, ℕ, ◌-◌, ◌≤◌, Some, length, sym, ap, subst, arith}
use Rattle.std.specs.Prelude.{slice_get}
use Rattle.format_model.specs.declared.limits.TheConstants.{MOST_INDEX}
use Rattle.format_model.specs.Trees.{IsParent, Tree}
use Rattle.walks.specs.Courses.{node_of}
use Rattle.split_exec.specs.Runs.{course_at}
use Rattle.split_exec.specs.Settings.{Setting, setting}
use Rattle.split_exec.proofs.RankLemmas.{all_at}
use Rattle.split_exec.proofs.RunLemmas.{tree_is}
use Rattle.split_exec.proofs.runs.child_at.Goals as goal

pub entry-requires-clause-parent : goal.entry-requires-clause-parent
entry-requires-clause-parent g c =
    let s : Setting = setting g.P.Placement.triples g.P.Placement.ranks g.V.Access.tree g.V.Cells.grid c.args.job.now c.args.places.now c.args.nest.now c.args.stores.now in
    let same = tree_is s c.args.planned.now c.args.rank c.args.line.reference ∙ sym c.requires.view in
    subst (λ t. IsParent t c.args.line.level (node_of c.args.run.now.hit c.args.line.reference)) same c.requires.run.can.node.parent

pub entry-requires-clause-from : goal.entry-requires-clause-from
entry-requires-clause-from g c =
    let s : Setting = setting g.P.Placement.triples g.P.Placement.ranks g.V.Access.tree g.V.Cells.grid c.args.job.now c.args.places.now c.args.nest.now c.args.stores.now in
    let same = tree_is s c.args.planned.now c.args.rank c.args.line.reference ∙ sym c.requires.view in
    c.requires.run.driving.line.start ∙ ap (λ (t : Tree). t.start c.args.line.level (node_of c.args.run.now.hit c.args.line.reference)) same

pub entry-requires-clause-within : goal.entry-requires-clause-within
entry-requires-clause-within g c =
    let s : Setting = setting g.P.Placement.triples g.P.Placement.ranks g.V.Access.tree g.V.Cells.grid c.args.job.now c.args.places.now c.args.nest.now c.args.stores.now in
    let same = tree_is s c.args.planned.now c.args.rank c.args.line.reference ∙ sym c.requires.view in
    let long = ap (λ (t : Tree). length (t.children c.args.line.level (node_of c.args.run.now.hit c.args.line.reference))) same in
    let to = c.requires.run.driving.line.to in
    omega (arith, c.requires.within, to, long)

pub returns-clause-child : goal.returns-clause-child
returns-clause-child g c =
    let s : Setting = setting g.P.Placement.triples g.P.Placement.ranks g.V.Access.tree g.V.Cells.grid c.args.job.now c.args.places.now c.args.nest.now c.args.stores.now in
    let same = tree_is s c.args.planned.now c.args.rank c.args.line.reference ∙ sym c.requires.view in
    subst (λ (t : Tree). slice_get (t.children c.args.line.level (node_of c.args.run.now.hit c.args.line.reference)) (c.args.place - c.args.run.now.from) ≡ Some c.entry.result) (sym same) c.entry.ensures

pub returns-clause-small : goal.returns-clause-small
returns-clause-small g c =
    let s : Setting = setting g.P.Placement.triples g.P.Placement.ranks g.V.Access.tree g.V.Cells.grid c.args.job.now c.args.places.now c.args.nest.now c.args.stores.now in
    let same = tree_is s c.args.planned.now c.args.rank c.args.line.reference ∙ sym c.requires.view in
    let t = (course_at s c.args.planned.now c.args.rank).tree c.args.line.reference in
    let node = node_of c.args.run.now.hit c.args.line.reference in
    all_at (λ (child : ℕ × ℕ). child.0 ≤ MOST_INDEX) (t.children c.args.line.level node) (c.args.place - c.args.run.now.from) c.entry.result
    (c.requires.run.can.node.tree.small c.args.line.level node c.requires.run.can.node.parent)
    (subst (λ (t : Tree). slice_get (t.children c.args.line.level node) (c.args.place - c.args.run.now.from) ≡ Some c.entry.result) (sym same) c.entry.ensures)
