use Rattle.std.proofs.Common.{◌≡◌, ◌∙◌, ◌+◌, get_or, length, sym, ap, subst, arith}
use Rattle.std.specs.Prelude.{slice_index}
use Rattle.std.proofs.lemmas.List.{get_or_default}
use Rattle.format_model.specs.Grids.{HasElement, value_of_element}
use Rattle.bern_base.specs.Ring.{ring_add}
use Rattle.split_exec.specs.Applying.{HasSize, IsAdded}
use Rattle.split_exec.proofs.ApplyLemmas.{added_first, added_next, branches_both, branches_first, has_element, size_set}
use Rattle.split_exec.proofs.replacing.add_sums.Goals as goal

pub elements-init : goal.elements-init
elements-init g c = record { size = c.requires.size; added = added_first c.args.delta.now (g.D.Cells.grid c.args.target.now); branches = branches_first (g.D.Access.tree c.args.target.now) }

pub elements-preserved : goal.elements-preserved
elements-preserved g c =
    let grid = g.D.Cells.grid c.elements.target in
    let has : HasElement grid c.elements.at = has_element grid (length c.args.delta.now) c.elements.at c.elements.invariant.size (omega (arith, c.elements-test.true, ap length c.sums-sums.ensures)) in
    let value : c.add-value.result ≡ ring_add (value_of_element grid c.elements.at) (slice_index c.args.delta.now c.elements.at)
    = c.add-value.ensures ∙ ap (λ v. ring_add v c.index-sums-at.result) c.cell.ensures
    ∙ ap (ring_add (value_of_element grid c.elements.at)) (c.index-sums-at.is ∙ ap (λ vs. get_or vs c.elements.at c.index-sums-at.result) c.sums-sums.ensures ∙ get_or_default c.args.delta.now c.elements.at c.index-sums-at.result 0 (omega (arith, c.elements-test.true, ap length c.sums-sums.ensures))) in
    record {
      size = subst (λ n. HasSize n (length c.args.delta.now)) (sym c.set.ensures.grid) (size_set grid (length c.args.delta.now) c.elements.at c.add-value.result c.elements.invariant.size);
      added = subst (IsAdded (c.elements.at + 1) c.args.delta.now (g.D.Cells.grid c.args.target.now)) (sym c.set.ensures.grid) (added_next c.args.delta.now (g.D.Cells.grid c.args.target.now) grid c.elements.at c.add-value.result c.elements.invariant.added has value);
      branches = branches_both (g.D.Access.tree c.args.target.now) (g.D.Access.tree c.elements.target) (g.D.Access.tree c.set.new.self) c.elements.invariant.branches c.set.ensures.branches;
    }
