use Rattle.std.proofs.Common.{ℕ, List, sym, subst, arith}
use Rattle.bern_base.specs.declared.shape.Shape.TheVariants as shape
use Rattle.format_model.specs.Trees.{Describes}
use Rattle.stores_shaped.specs.Counts.{AreByCount}
use Rattle.stores_shaped.specs.Jagged.{IsJagged, jagged_tree}
use Rattle.stores_shaped.specs.Orders.{IsInverse, IsOrder}
use Rattle.stores_shaped.proofs.DealLemmas.{counts_all}
use Rattle.stores_shaped.proofs.JaggedLemmas.{AreMade, is_jagged, jagged_describes, numbers, numbers_are_order, rows_lie}
use Rattle.stores_shaped.proofs.jagged.JaggedStore.build.Goals as goal

pub order_inverse-requires : goal.order_inverse-requires
order_inverse-requires c =
    let m = c.args.part.now in
    let rows = c.as_slice-rows.result.now in
    subst IsOrder (sym c.in_ok-order.ensures) (numbers_are_order m rows (subst (AreByCount m) (sym c.as_slice-rows.ensures.value) c.in_ok-sorted.ensures))

pub deal-requires-clause-lie : goal.deal-requires-clause-lie
deal-requires-clause-lie c =
    let m = c.args.part.now in
    let f = c.in_ok-filled.filled in
    rows_lie m f.starts.items f.indices.items f.values.items c.as_slice-rows.result.now c.requires.part c.in_ok-filled.ensures (subst (AreByCount m) (sym c.as_slice-rows.ensures.value) c.in_ok-sorted.ensures)

pub deal-requires-clause-few : goal.deal-requires-clause-few
deal-requires-clause-few c =
    let m = c.args.part.now in
    omega (arith, counts_all m c.as_slice-rows.result.now c.requires.part (subst (AreByCount m) (sym c.as_slice-rows.ensures.value) c.in_ok-sorted.ensures), c.requires.few)

pub invariant_of-result : goal.invariant_of-result
invariant_of-result c =
    let m = c.args.part.now in
    let rows = c.as_slice-rows.result.now in
    let f = c.in_ok-filled.filled in
    let d = c.in_ok-dealt.dealt in
    let inverse = c.in_ok-inverse.inverse in
    let made : AreMade m rows f.starts.items f.indices.items f.values.items inverse d.starts.items d.indices.items d.values.items = record {
      matrix = c.requires.part;
      few = c.requires.few;
      filled = c.in_ok-filled.ensures;
      by_count = subst (AreByCount m) (sym c.as_slice-rows.ensures.value) c.in_ok-sorted.ensures;
      undo = subst (λ (xs : List ℕ). IsInverse xs inverse) c.in_ok-order.ensures c.in_ok-inverse.ensures;
      deep = c.in_ok-dealt.ensures.long;
      dealt_indices = c.in_ok-dealt.ensures.indices;
      dealt_values = c.in_ok-dealt.ensures.values;
      alike = c.in_ok-dealt.ensures.alike;
    } in record {
      jagged = subst (λ (xs : List ℕ). IsJagged xs inverse c.in_ok-counts.counts.items d.starts.items d.indices.items d.values.items) (sym c.in_ok-order.ensures)
          (subst (λ (xs : List ℕ). IsJagged (numbers rows) inverse xs d.starts.items d.indices.items d.values.items) (sym c.in_ok-counts.ensures)
          (is_jagged m rows f.starts.items f.indices.items f.values.items inverse d.starts.items d.indices.items d.values.items made));
    }

pub returns : goal.returns
returns c globals whole =
    let m = c.args.part.now in
    let rows = c.as_slice-rows.result.now in
    let f = c.in_ok-filled.filled in
    let d = c.in_ok-dealt.dealt in
    let inverse = c.in_ok-inverse.inverse in
    let made : AreMade m rows f.starts.items f.indices.items f.values.items inverse d.starts.items d.indices.items d.values.items = record {
      matrix = c.requires.part;
      few = c.requires.few;
      filled = c.in_ok-filled.ensures;
      by_count = subst (AreByCount m) (sym c.as_slice-rows.ensures.value) c.in_ok-sorted.ensures;
      undo = subst (λ (xs : List ℕ). IsInverse xs inverse) c.in_ok-order.ensures c.in_ok-inverse.ensures;
      deep = c.in_ok-dealt.ensures.long;
      dealt_indices = c.in_ok-dealt.ensures.indices;
      dealt_values = c.in_ok-dealt.ensures.values;
      alike = c.in_ok-dealt.ensures.alike;
    } in
    subst (λ (xs : List ℕ). Describes (jagged_tree xs c.in_ok-counts.counts.items d.starts.items d.indices.items d.values.items) shape.Jagged globals whole m) (sym c.in_ok-order.ensures)
    (subst (λ (xs : List ℕ). Describes (jagged_tree (numbers rows) xs d.starts.items d.indices.items d.values.items) shape.Jagged globals whole m) (sym c.in_ok-counts.ensures)
    (jagged_describes m rows f.starts.items f.indices.items f.values.items inverse d.starts.items d.indices.items d.values.items made globals whole))
