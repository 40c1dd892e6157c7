use Rattle.std.proofs.Common.{sym, subst, arith}
use Rattle.stores_packed.specs.declared.form.Form.TheVariants as form
use Rattle.bern_base.specs.declared.shape.Shape.TheVariants as shape
use Rattle.format_model.specs.Trees.{Describes}
use Rattle.stores_packed.specs.Packed.{IsPacked, packed_tree}
use Rattle.stores_packed.proofs.StoreLemmas.{dense_describes, dense_is_packed}
use Rattle.stores_packed.proofs.store.PackedStore.under_dense.Goals as goal

pub invariant_of-result : goal.invariant_of-result
invariant_of-result c =
    let f = c.in_ok-filled.filled in record {
      packed = subst (λ os. IsPacked (form.DensePacked c.args.outer c.lines_in-lines.result) os f.starts.items f.indices.items f.values.items) (sym c.new.ensures.items)
          (dense_is_packed c.args.outer c.args.part.now c.lines_in-lines.result f.starts.items f.indices.items f.values.items c.requires.outer c.requires.part c.lines_in-lines.ensures (omega arith) c.in_ok-filled.ensures);
    }

pub returns : goal.returns
returns c globals order =
    let f = c.in_ok-filled.filled in
    subst (λ os. Describes (packed_tree (form.DensePacked c.args.outer c.lines_in-lines.result) os f.starts.items f.indices.items f.values.items) (shape.DensePacked c.args.outer) globals order c.args.part.now) (sym c.new.ensures.items)
    (dense_describes c.args.outer c.args.part.now c.lines_in-lines.result f.starts.items f.indices.items f.values.items c.lines_in-lines.ensures c.in_ok-filled.ensures globals order)
