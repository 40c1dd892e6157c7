use Rattle.std.proofs.Common.{◌≡◌, ℕ, ◌<◌, ◌^◌, get_or, map, take}
use Rattle.bern_base.specs.declared.matrix.Entry.{Entry}
use Rattle.stores_packed.proofs.store.PackedStore.vector.Given as goal

abbrev pub invariant-rows : goal.invariant-rows
invariant-rows l = record {
  outers : l.outers.items ≡ map (λ (e : Entry). e.row) (take l.entry-index l.entries);
  values : l.values.items ≡ map (λ (e : Entry). e.value) (take l.entry-index l.entries);
  small : (k : ℕ) → get_or l.outers.items k 0 < 2 ^ 32;
}
