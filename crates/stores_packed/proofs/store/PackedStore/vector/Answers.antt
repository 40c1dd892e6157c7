use Rattle.std.proofs.Common.{[], sym, subst}
use Rattle.bern_base.specs.declared.shape.Shape.TheVariants as shape
use Rattle.format_model.specs.Trees.{Describes}
use Rattle.stores_packed.specs.declared.form.Form.TheVariants as form
use Rattle.stores_packed.specs.Packed.{IsPacked, packed_tree}
use Rattle.stores_packed.proofs.StoreLemmas.{vector_describes, vector_is_packed, vector_of}
use Rattle.stores_packed.proofs.store.PackedStore.vector.Goals as goal

pub invariant_of-result : goal.invariant_of-result
invariant_of-result c =
    let i = c.rows.invariant in
    let m = c.args.part.now in
    let outers = c.rows.outers.items in
    let values = c.rows.values.items in
    let v = vector_of m c.as_slice-entries.result.now c.rows.entry-index outers values c.as_slice-entries.ensures c.rows-test.false i.outers i.values i.small in record {
      packed = subst (λ xs. IsPacked form.PackedOne outers c.new.result.items xs values) (sym c.new-2.ensures.items)
          (subst (λ xs. IsPacked form.PackedOne outers xs [] values) (sym c.new.ensures.items) (vector_is_packed m outers values c.requires.part c.requires.column c.requires.few v));
    }

pub returns : goal.returns
returns c globals order =
    let i = c.rows.invariant in
    let m = c.args.part.now in
    let outers = c.rows.outers.items in
    let values = c.rows.values.items in
    let v = vector_of m c.as_slice-entries.result.now c.rows.entry-index outers values c.as_slice-entries.ensures c.rows-test.false i.outers i.values i.small in
    subst (λ xs. Describes (packed_tree form.PackedOne outers c.new.result.items xs values) shape.PackedOne globals order m) (sym c.new-2.ensures.items)
    (subst (λ xs. Describes (packed_tree form.PackedOne outers xs [] values) shape.PackedOne globals order m) (sym c.new.ensures.items) (vector_describes m outers values v globals order))
