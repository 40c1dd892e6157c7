use Rattle.std.proofs.Common.{ℕ, List, true, false, sym, subst}
use Rattle.std.specs.Result.{IfOk}
use Rattle.format_model.specs.Trees.{Describes}
use Rattle.stores_packed.specs.Packed.{packed_shape, packed_tree}
use Rattle.stores_packed.proofs.store.PackedStore.build.Goals as goal

pub returns-then-single : goal.returns-then-single
returns-then-single c =
    subst (λ b. IfOk c.vector.result (λ s. (globals order : List ℕ) → Describes (packed_tree s.form s.outers.items s.starts.items s.indices.items s.values.items) (packed_shape c.args.outer c.args.outer_dense b) globals order c.args.part.now)) (sym c.if-single.true) c.vector.ensures

pub returns-then-outer_dense : goal.returns-then-outer_dense
returns-then-outer_dense c =
    subst (λ b. IfOk c.under_dense.result (λ s. (globals order : List ℕ) → Describes (packed_tree s.form s.outers.items s.starts.items s.indices.items s.values.items) (packed_shape c.args.outer b c.args.single) globals order c.args.part.now)) (sym c.if-outer_dense.true)
    (subst (λ b. IfOk c.under_dense.result (λ s. (globals order : List ℕ) → Describes (packed_tree s.form s.outers.items s.starts.items s.indices.items s.values.items) (packed_shape c.args.outer true b) globals order c.args.part.now)) (sym c.if-single.false) c.under_dense.ensures)

pub returns-else-outer_dense : goal.returns-else-outer_dense
returns-else-outer_dense c =
    subst (λ b. IfOk c.under_packed.result (λ s. (globals order : List ℕ) → Describes (packed_tree s.form s.outers.items s.starts.items s.indices.items s.values.items) (packed_shape c.args.outer b c.args.single) globals order c.args.part.now)) (sym c.if-outer_dense.false)
    (subst (λ b. IfOk c.under_packed.result (λ s. (globals order : List ℕ) → Describes (packed_tree s.form s.outers.items s.starts.items s.indices.items s.values.items) (packed_shape c.args.outer false b) globals order c.args.part.now)) (sym c.if-single.false) c.under_packed.ensures)
