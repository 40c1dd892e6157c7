-- Each place passed has cost a step, and has another index.
use Rattle.std.proofs.Common.{◌≡◌, ℕ, ◌+◌, ◌<◌}
use Rattle.std.specs.Prelude.{slice_index}
use Rattle.stores_flat.specs.Lists.{index_list}
use Rattle.stores_flat.proofs.list.ListStoreAccess.find.Given as goal

abbrev pub invariant-loop-place : goal.invariant-loop-place
invariant-loop-place g l = record {
  cost : l.steps ≡ l.fn.steps + l.place;
  others : (j : ℕ) → j < l.place → slice_index (index_list l.self.indices) j ≡ l.index → ⊥;
}
