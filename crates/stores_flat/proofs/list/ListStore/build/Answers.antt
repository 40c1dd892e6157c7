use Rattle.std.proofs.Common.{◌≢◌, ◌≤◌, ◌∙◌, length, sym, ap, subst}
use Rattle.std.specs.List.{All, AllPairs}
use Rattle.std.proofs.lemmas.List.{length-map}
use Rattle.format_model.specs.Axes.{index_of}
use Rattle.format_model.specs.declared.limits.TheConstants.{MOST_INDEX}
use Rattle.stores_flat.specs.Lists.{flat_axis}
use Rattle.stores_flat.proofs.ListBuilding.{indices_apart, indices_small, list_describes}
use Rattle.stores_flat.proofs.list.ListStore.build.Goals as goal

pub invariant_of-result : goal.invariant_of-result
invariant_of-result c =
    let m = c.args.part.now in
    let items = c.in_ok-indices.ensures.items in
    let values = c.in_ok-values.ensures in
    record {
      few = rw (values, length-map m.entries (λ e. e.value)) c.requires.few;
      full = ap length items ∙ length-map m.entries (index_of (flat_axis c.args.flat) m.cols) ∙ sym (ap length values ∙ length-map m.entries (λ e. e.value));
      apart = subst (AllPairs (λ i j. i ≢ j)) (sym items) (indices_apart c.args.flat m c.requires.part c.requires.single);
      small = subst (All (λ i. i ≤ MOST_INDEX)) (sym items) (indices_small c.args.flat m MOST_INDEX c.requires.part c.requires.single c.requires.small);
    }

pub returns : goal.returns
returns c =
    rw (c.in_ok-indices.ensures.axis, c.in_ok-indices.ensures.items, c.in_ok-values.ensures) (list_describes c.args.flat c.args.part.now)
