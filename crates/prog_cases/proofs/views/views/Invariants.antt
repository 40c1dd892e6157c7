use Rattle.std.proofs.Common.{◌≡◌, ℕ, Some, length, map}
use Rattle.std.specs.Prelude.{slice_get}
use Rattle.format_model.specs.Trees.{Tree}
use Rattle.formats.specs.AnyStores.{any_tree}
use Rattle.local_views.specs.Views.{cut_of, view_tree}
use Rattle.node_prog.specs.Conditions.{IsViewIn}
use Rattle.placement.specs.Cyclic.{cyclic_triples}
use Rattle.prog_cases.proofs.views.views.Given as goal

abbrev pub invariant-loop-number : goal.invariant-loop-number
invariant-loop-number l = record {
  count : length l.views ≡ l.number;
  each : (k : ℕ) (t : Tree) →
      slice_get (map (λ p. view_tree (cut_of p.store.axis p.store.cols (cyclic_triples p.store.place.extent p.store.place.ranks p.store.place.block) p.store.rank) (any_tree p.store.store)) l.views) k ≡ Some t → IsViewIn l.loaded.job k t;
}
