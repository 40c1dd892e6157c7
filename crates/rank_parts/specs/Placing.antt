-- The places of a job on so many ranks.
use Rattle.std.specs.Prelude.{◌≡◌, ℕ, ◌<◌, List, Option, Some, None, length, map, slice_get}
use Rattle.std.specs.List.{AllZip}
use Rattle.std.specs.Int.{div_ceil}
use Rattle.bern_base.specs.declared.job.Checked.{Checked}
use Rattle.bern_base.specs.declared.job.PlaceDecl.{PlaceDecl}
use Rattle.bern_base.specs.declared.job.PlaceKind.{PlaceKind}
use Rattle.bern_base.specs.declared.job.PlaceKind.TheVariants as kind
use Rattle.bern_ports.specs.Files.{Files}
use Rattle.job_files.specs.PlaceLists.{IsPlaceList, IsPlaceListIn}
use Rattle.job_files.specs.Uses.{entries_in, size_of}
use Rattle.job_model.specs.Accepted.{IsAccepted}
use Rattle.node_prog.specs.Conditions.{ArePlaced}
use Rattle.placement.specs.AnyPlaces.{any_ranks, any_triples}
use Rattle.placement.specs.Cyclic.{cyclic_triples}
use Rattle.placement.specs.Listed.{listed_triples, seat_triples}
use Rattle.placement.specs.Placement.{Triple}
use Rattle.placement.specs.declared.any_place.AnyPlace.{AnyPlace}
use Rattle.placement.specs.declared.listed.Listed.{Listed}
use Rattle.term_model.specs.Answers.{Places}

-- blocks of the length that the place names are dealt in turn, or blocks of the least length for which each rank has at most one
abbrev pub dealt_triples : ℕ → ℕ → PlaceKind → List Triple
dealt_triples size ranks (kind.Cyclic block) = cyclic_triples size ranks block
dealt_triples size ranks kind.Block = cyclic_triples size ranks (div_ceil size ranks)
dealt_triples size ranks (kind.Listed file) = cyclic_triples size ranks (div_ceil size ranks)

-- the triples of a place, by the places that its file lists where it names one
abbrev pub triples_by : ℕ → ℕ → PlaceKind → Option Listed → List Triple
triples_by size ranks how None = dealt_triples size ranks how
triples_by size ranks how (Some list) = seat_triples list.seats

-- and its ranks
abbrev pub ranks_by : ℕ → Option Listed → ℕ
ranks_by ranks None = ranks
ranks_by ranks (Some list) = length list.globals

pub record IsPlaceFor (size ranks : ℕ) (how : PlaceKind) (list : Option Listed) (place : AnyPlace) : Type 0 where
  pub ranks_are : any_ranks place ≡ ranks_by ranks list
  pub triples : any_triples place ≡ triples_by size ranks how list

abbrev pub size_in : Checked → PlaceDecl → ℕ
size_in job line = size_of (slice_get job.extents line.extent)

-- the place of that line of a job
abbrev pub IsPlaceAt : Checked → ℕ → List (Option Listed) → ℕ → AnyPlace → Type 0
IsPlaceAt job ranks lists number place =
    (line : PlaceDecl) (list : Option Listed) → slice_get job.places number ≡ Some line → slice_get lists number ≡ Some list →
    IsPlaceFor (size_in job line) ranks line.kind list place

-- a place for each line
pub record ArePlacesFor (job : Checked) (ranks : ℕ) (lists : List (Option Listed)) (places : List AnyPlace) : Type 0 where
  pub count : length places ≡ length job.places
  pub each : (number : ℕ) (place : AnyPlace) → slice_get places number ≡ Some place → IsPlaceAt job ranks lists number place

-- the triples of a place line where files are told
abbrev pub triples_in : Files → ℕ → ℕ → PlaceKind → List Triple
triples_in files size ranks kind.Block = cyclic_triples size ranks (div_ceil size ranks)
triples_in files size ranks (kind.Cyclic block) = cyclic_triples size ranks block
triples_in files size ranks (kind.Listed file) = listed_triples (entries_in files file)

abbrev pub places_in : Files → ℕ → Checked → Places
places_in files ranks job = map (λ line. triples_in files (size_in job line) ranks line.kind) job.places

-- such places are places of the job at each rank, and those of its files where these are told
pub record AreOnRanks (job : Checked) (ranks : ℕ) (lists : List (Option Listed)) (places : List AnyPlace) : Type 0 where
  pub placed : (rank : ℕ) → rank < ranks → ArePlaced job (map any_triples places) (map any_ranks places) rank
  pub told : (files : Files) → AllZip (IsPlaceListIn files job.extents ranks) job.places lists → map any_triples places ≡ places_in files ranks job

abbrev pub PlacedLinesArePlaced : Type 0
PlacedLinesArePlaced =
    (job : Checked) (ranks : ℕ) (lists : List (Option Listed)) (places : List AnyPlace) → IsAccepted job →
    AllZip (IsPlaceList job.extents ranks) job.places lists → ArePlacesFor job ranks lists places → AreOnRanks job ranks lists places
