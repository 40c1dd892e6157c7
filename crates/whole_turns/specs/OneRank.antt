-- The places of a job on one rank.
use Rattle.std.specs.Prelude.{◌≡◌, ℕ, ◌≤◌, ◌*◌, true, List, Some, length, map, slice_get}
use Rattle.std.specs.List.{All}
use Rattle.bern_base.specs.declared.job.ArrayDecl.{ArrayDecl}
use Rattle.bern_base.specs.declared.job.Checked.{Checked}
use Rattle.bern_base.specs.declared.job.ExtentDecl.{ExtentDecl}
use Rattle.bern_base.specs.declared.job.PlaceDecl.{PlaceDecl}
use Rattle.placement.specs.AnyPlaces.{any_ranks, any_triples}
use Rattle.placement.specs.Cyclic.{cyclic_triples}
use Rattle.placement.specs.declared.any_place.AnyPlace.{AnyPlace}

-- a place for each place line, which deals the extent of the line to one rank in one block
pub record AreWhole (job : Checked) (places : List AnyPlace) : Type 0 where
  pub count : length places ≡ length job.places
  pub ranks : All (λ p. any_ranks p ≡ 1) places
  pub triples : (number : ℕ) (line : PlaceDecl) (extent : ExtentDecl) (place : AnyPlace) → slice_get job.places number ≡ Some line →
      slice_get job.extents line.extent ≡ Some extent → slice_get places number ≡ Some place → any_triples place ≡ cyclic_triples extent.size 1 extent.size
