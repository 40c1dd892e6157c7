-- A placement of any kind, and one that is shared, by the placement within.
use Rattle.std.specs.Prelude.{ℕ, List, [], length, Option, Some, None, refl}
use Rattle.std.proofs.Common.{arith}
use Rattle.placement.specs.declared.any_place.AnyPlace.{AnyPlace}
use Rattle.placement.specs.declared.any_place.AnyPlace.TheVariants.{Cyclic, Listed}
use Rattle.placement.specs.Cyclic.{cyclic_triples}
use Rattle.placement.specs.CyclicLaws.{is_placement}
use Rattle.placement.specs.Listed.{seat_triples}
use Rattle.placement.specs.Placement.{Triple, IsPlacement}

abbrev pub any_ranks : AnyPlace → ℕ
any_ranks (Cyclic s) = s.ranks
any_ranks (Listed s) = length s.globals

abbrev pub any_triples : AnyPlace → List Triple
any_triples (Cyclic s) = cyclic_triples s.extent s.ranks s.block
any_triples (Listed s) = seat_triples s.seats

pub any_is_placement : (s : AnyPlace) → IsPlacement (any_ranks s) (any_triples s)
any_is_placement (Cyclic s) = is_placement s.extent s.ranks s.block s.some_rank s.some_block
any_is_placement (Listed s) = s.placed

-- a place that is there, and none else
abbrev pub ranks_at : Option AnyPlace → ℕ
ranks_at None = 0
ranks_at (Some s) = any_ranks s

abbrev pub triples_at : Option AnyPlace → List Triple
triples_at None = []
triples_at (Some s) = any_triples s

pub at_is_placement : (o : Option AnyPlace) → IsPlacement (ranks_at o) (triples_at o)
at_is_placement None = record {
  indices = refl;
  owners = λ k d below. absurd (omega (arith, below));
  locals = λ p below. refl;
}
at_is_placement (Some s) = any_is_placement s
