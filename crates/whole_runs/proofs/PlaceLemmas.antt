-- The places of one rank, one line more at a time.
use Rattle.std.proofs.Common.{◌≡◌, ℕ, ◌<◌, ◌≤◌, List, [], ◌∷◌, ◌++◌, Some, length, get_or, slice_get, sym, ◌∙◌, subst}
use Rattle.std.specs.List.{All}
use Rattle.std.proofs.lemmas.List.Elements.{All-append, All-cons, All-nil}
use Rattle.std.proofs.lemmas.Option.{slice_get_read}
use Rattle.bern_base.specs.declared.job.Checked.{Checked}
use Rattle.bern_base.specs.declared.job.ExtentDecl.{ExtentDecl}
use Rattle.bern_base.specs.declared.job.PlaceDecl.{PlaceDecl}
use Rattle.job_model.specs.Accepted.{IsAccepted, IsPlaceOf, IsSize}
use Rattle.placement.specs.AnyPlaces.{any_ranks, any_triples}
use Rattle.placement.specs.Cyclic.{cyclic_triples}
use Rattle.placement.specs.declared.any_place.AnyPlace.{AnyPlace}
use Rattle.whole_turns.proofs.PlaceLemmas.{all_at}
use Rattle.whole_runs.proofs.ListLemmas.{each_more, some_same}
use Rattle.whole_turns.specs.OneRank.{AreWhole}

-- a place of that line, for one rank
abbrev pub IsOfLine : Checked → ℕ → AnyPlace → Type 0
IsOfLine job number place = (line : PlaceDecl) (extent : ExtentDecl) → slice_get job.places number ≡ Some line → slice_get job.extents line.extent ≡ Some extent →
    any_triples place ≡ cyclic_triples extent.size 1 extent.size

-- the first places are
pub record AreFirst (job : Checked) (places : List AnyPlace) : Type 0 where
  pub ranks : All (λ p. any_ranks p ≡ 1) places
  pub each : (number : ℕ) (place : AnyPlace) → slice_get places number ≡ Some place → IsOfLine job number place

pub no_place : (job : Checked) → AreFirst job []
no_place job = record { ranks = All-nil (λ p. any_ranks p ≡ 1); each = λ number place at. absurd cc }

pub place_more : (job : Checked) (places : List AnyPlace) (line : PlaceDecl) (extent : ExtentDecl) (place : AnyPlace) → AreFirst job places → slice_get job.places (length places) ≡ Some line → slice_get job.extents line.extent ≡ Some extent →
    any_ranks place ≡ 1 → any_triples place ≡ cyclic_triples extent.size 1 extent.size → AreFirst job (places ++ place ∷ [])
place_more job places line extent place first line_is extent_is one dealt = record {
  ranks = All-append (λ p. any_ranks p ≡ 1) places (place ∷ []) first.ranks (All-cons (λ p. any_ranks p ≡ 1) place [] one (All-nil (λ p. any_ranks p ≡ 1)));
  each = each_more (IsOfLine job) places place first.each (λ other size other_is size_is.
      let same : line ≡ other = some_same (sym line_is ∙ other_is) in
      let size_same : extent ≡ size = some_same (sym extent_is ∙ subst (λ (l : PlaceDecl). slice_get job.extents l.extent ≡ Some size) (sym same) size_is) in
      dealt ∙ subst (λ (e : ExtentDecl). cyclic_triples extent.size 1 extent.size ≡ cyclic_triples e.size 1 e.size) size_same (λ _. cyclic_triples extent.size 1 extent.size));
}

pub places_done : (job : Checked) (places : List AnyPlace) → AreFirst job places → length places ≡ length job.places → AreWhole job places
places_done job places first count = record { count = count; ranks = first.ranks; triples = λ number line extent place line_is extent_is at. first.each number place at line extent line_is extent_is }

pub line_at : (job : Checked) (items : List PlaceDecl) (i : ℕ) (line : PlaceDecl) → items ≡ job.places → i < length items → line ≡ get_or items i line → slice_get job.places i ≡ Some line
line_at job items i line same low is = subst (λ xs. slice_get xs i ≡ Some line) same (slice_get_read items (length items) i line (λ _. length items) low is)

pub extent_there : (job : Checked) (i : ℕ) (line : PlaceDecl) → IsAccepted job → slice_get job.places i ≡ Some line → line.extent < length job.extents
extent_there job i line is at = (all_at (IsPlaceOf job) job.places i line is.places at).extent

pub size_some : (job : Checked) (number : ℕ) (extent : ExtentDecl) → IsAccepted job → slice_get job.extents number ≡ Some extent → 1 ≤ extent.size
size_some job number extent is at = (all_at (λ e. IsSize e.size) job.extents number extent is.extents at).0
