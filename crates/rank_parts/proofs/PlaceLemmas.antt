-- The places of a job on so many ranks, one line more at a time, and that they are as a job needs them.
use Rattle.std.proofs.Common.{◌≡◌, ℕ, zero, suc, ◌+◌, ◌<◌, ◌≤◌, List, [], ◌∷◌, ◌++◌, Option, Some, None, length, drop, map, slice_get, refl, sym, ap, ◌∙◌, subst, arith}
use Rattle.std.specs.Prelude.{slice_index_or}
use Rattle.std.specs.List.{All, AllZip}
use Rattle.std.proofs.lemmas.List.{length-map}
use Rattle.std.proofs.lemmas.List.Elements.{All-map}
use Rattle.bern_base.specs.declared.job.Checked.{Checked}
use Rattle.bern_base.specs.declared.job.ExtentDecl.{ExtentDecl}
use Rattle.bern_base.specs.declared.job.PlaceDecl.{PlaceDecl}
use Rattle.bern_base.specs.declared.job.PlaceKind.{PlaceKind}
use Rattle.bern_base.specs.declared.job.PlaceKind.TheVariants as kind
use Rattle.bern_ports.specs.Files.{Files}
use Rattle.job_files.specs.PlaceLists.{IsKindList, IsKindListIn, IsPlaceList, IsPlaceListIn}
use Rattle.job_files.specs.Uses.{size_of}
use Rattle.job_model.specs.Accepted.{HasBlock, IsAccepted, IsPlaceOf, IsSize}
use Rattle.placement.specs.AnyPlaces.{any_ranks, any_triples}
use Rattle.placement.specs.Cyclic.{cyclic_triple, cyclic_triples}
use Rattle.placement.specs.Placement.{Triple}
use Rattle.placement.specs.declared.any_place.AnyPlace.{AnyPlace}
use Rattle.placement.specs.declared.listed.Listed.{Listed}
use Rattle.std.specs.Int.{div_ceil}
use Rattle.std.proofs.lemmas.List.FromFn.{length-map-range_with_len}
use Rattle.node_prog.proofs.HomeLemmas.{item}
use Rattle.whole_runs.proofs.ListLemmas.{each_more, some_same}
use Rattle.whole_runs.proofs.StoreLemmas.{drop_first, drop_none, drop_rest, zip_get, zip_long}
use Rattle.whole_turns.proofs.PlaceLemmas.{all_at, below, some_at}
use Rattle.rank_parts.specs.Placing.{AreOnRanks, ArePlacesFor, IsPlaceAt, IsPlaceFor, PlacedLinesArePlaced, dealt_triples, places_in, ranks_by, size_in, triples_by, triples_in}

-- ---- so far

pub record ArePlacesSoFar (job : Checked) (ranks : ℕ) (lists : List (Option Listed)) (places : List AnyPlace) (left : List (Option Listed)) : Type 0 where
  pub left_is : left ≡ drop (length places) lists
  pub most : length places ≤ length lists
  pub each : (number : ℕ) (place : AnyPlace) → slice_get places number ≡ Some place → IsPlaceAt job ranks lists number place

pub none_placed : (job : Checked) (ranks : ℕ) (lists left : List (Option Listed)) → left ≡ lists → ArePlacesSoFar job ranks lists [] left
none_placed job ranks lists left same = record { left_is = same; most = omega arith; each = λ k p at. absurd cc }

pub next_list : (job : Checked) (ranks : ℕ) (lists : List (Option Listed)) (places : List AnyPlace) (left rest : List (Option Listed)) (list : Option Listed) →
    ArePlacesSoFar job ranks lists places left → left ≡ list ∷ rest → slice_get lists (length places) ≡ Some list
next_list job ranks lists places left rest list are is = drop_first lists (length places) list rest (sym is ∙ are.left_is)

pub place_more : (job : Checked) (ranks : ℕ) (lists : List (Option Listed)) (places : List AnyPlace) (left rest : List (Option Listed)) (list : Option Listed) (place : AnyPlace) (line : PlaceDecl) →
    ArePlacesSoFar job ranks lists places left → left ≡ list ∷ rest → slice_get job.places (length places) ≡ Some line → IsPlaceFor (size_in job line) ranks line.kind list place →
    length (places ++ place ∷ []) ≡ suc (length places) → ArePlacesSoFar job ranks lists (places ++ place ∷ []) rest
place_more job ranks lists places left rest list place line are is line_is holds long =
    let at = next_list job ranks lists places left rest list are is in record {
      left_is = drop_rest lists (length places) list rest (sym is ∙ are.left_is) ∙ ap (λ n. drop n lists) (sym long);
      most = omega (arith, long, below lists (length places) list at);
      each = each_more (IsPlaceAt job ranks lists) places place are.each (λ other beside other_is beside_is.
          let same : line ≡ other = some_same (sym line_is ∙ other_is) in
          let list_same : list ≡ beside = some_same (sym at ∙ beside_is) in
          subst (λ (l : PlaceDecl). IsPlaceFor (size_in job l) ranks l.kind beside place) same
          (subst (λ o. IsPlaceFor (size_in job line) ranks line.kind o place) list_same holds));
    }

pub places_done : (job : Checked) (ranks : ℕ) (lists : List (Option Listed)) (places : List AnyPlace) (left : List (Option Listed)) → AllZip (IsPlaceList job.extents ranks) job.places lists →
    ArePlacesSoFar job ranks lists places left → length left ≡ 0 → ArePlacesFor job ranks lists places
places_done job ranks lists places left zip are none =
    let all : length lists ≤ length places = drop_none lists (length places) (ap length (sym are.left_is) ∙ none) in record {
      count = omega (arith, all, are.most, zip_long (IsPlaceList job.extents ranks) job.places lists zip);
      each = are.each;
    }

-- ---- a line and its extent

pub line_there : (job : Checked) (ranks : ℕ) (lists : List (Option Listed)) (k : ℕ) (list : Option Listed) → AllZip (IsPlaceList job.extents ranks) job.places lists → slice_get lists k ≡ Some list → k < length job.places
line_there job ranks lists k list zip at = omega (arith, below lists k list at, zip_long (IsPlaceList job.extents ranks) job.places lists zip)

pub place_of : (job : Checked) (k : ℕ) (line : PlaceDecl) → IsAccepted job → slice_get job.places k ≡ Some line → IsPlaceOf job line
place_of job k line is at = all_at (IsPlaceOf job) job.places k line is.places at

pub size_at : (job : Checked) (number : ℕ) (extent : ExtentDecl) → IsAccepted job → slice_get job.extents number ≡ Some extent → IsSize extent.size
size_at job number extent is at = all_at (λ e. IsSize e.size) job.extents number extent is.extents at

-- ---- as a job needs them

dealt_long : (size ranks : ℕ) (how : PlaceKind) → length (dealt_triples size ranks how) ≡ size
dealt_long size ranks (kind.Cyclic block) = length-map-range_with_len (cyclic_triple ranks block) 0 size
dealt_long size ranks kind.Block = length-map-range_with_len (cyclic_triple ranks (div_ceil size ranks)) 0 size
dealt_long size ranks (kind.Listed file) = length-map-range_with_len (cyclic_triple ranks (div_ceil size ranks)) 0 size

by_long : (size ranks : ℕ) (how : PlaceKind) (list : Option Listed) → IsKindList size ranks how list → (length (triples_by size ranks how list) ≡ size) × (ranks_by ranks list ≡ ranks)
by_long size ranks how None is = (dealt_long size ranks how, refl)
by_long size ranks (kind.Listed file) (Some list) is = (is.1.extent, is.1.ranks_are)
by_long size ranks kind.Block (Some list) is = absurd (let none : Some list ≡ None = is in cc)
by_long size ranks (kind.Cyclic block) (Some list) is = absurd (let none : Some list ≡ None = is in cc)

by_files : (files : Files) (size ranks : ℕ) (how : PlaceKind) (list : Option Listed) → IsKindListIn files size ranks how list → triples_by size ranks how list ≡ triples_in files size ranks how
by_files files size ranks (kind.Listed file) (Some list) is = is.triples
by_files files size ranks (kind.Listed file) None is = absurd is
by_files files size ranks kind.Block list is = subst (λ o. triples_by size ranks kind.Block o ≡ triples_in files size ranks kind.Block) (sym is) refl
by_files files size ranks (kind.Cyclic block) list is = subst (λ o. triples_by size ranks (kind.Cyclic block) o ≡ triples_in files size ranks (kind.Cyclic block)) (sym is) refl

-- lists that agree at each place
alike : {X Y Z : Type 0} (f : X → Z) (g : Y → Z) (xs : List X) (ys : List Y) → length xs ≡ length ys → ((k : ℕ) (x : X) (y : Y) → slice_get xs k ≡ Some x → slice_get ys k ≡ Some y → f x ≡ g y) → map f xs ≡ map g ys
alike f g [] [] long each = refl
alike f g [] (y ∷ ys) long each = absurd (omega (arith, long))
alike f g (x ∷ xs) [] long each = absurd (omega (arith, long))
alike f g (x ∷ xs) (y ∷ ys) long each =
    ap (λ z. z ∷ map f xs) (each 0 x y refl refl) ∙ ap (λ zs. g y ∷ zs) (alike f g xs ys (omega (arith, long)) (λ k v w at there. each (suc k) v w at there))

-- what holds of each item by its number holds of all
all_from : {X : Type 0} (P : X → Type 0) (xs : List X) → ((k : ℕ) (x : X) → slice_get xs k ≡ Some x → P x) → All P xs
all_from P [] each k d low = absurd (omega (arith, low))
all_from P (x ∷ xs) each zero d low = each 0 x refl
all_from P (x ∷ xs) each (suc k) d low = all_from P xs (λ j y at. each (suc j) y at) k d (omega (arith, low))

-- a place, with its line and the places that the line's file lists
record HasLine (job : Checked) (ranks : ℕ) (lists : List (Option Listed)) (k : ℕ) (p : AnyPlace) : Type 0 where
  pub line : PlaceDecl
  pub line_is : slice_get job.places k ≡ Some line
  pub list : Option Listed
  pub list_is : slice_get lists k ≡ Some list
  pub for : IsPlaceFor (size_in job line) ranks line.kind list p
  pub long : length (triples_by (size_in job line) ranks line.kind list) ≡ size_in job line
  pub ranks_are : ranks_by ranks list ≡ ranks

module _ (job : Checked) (ranks : ℕ) (lists : List (Option Listed)) (places : List AnyPlace) (zip : AllZip (IsPlaceList job.extents ranks) job.places lists) (are : ArePlacesFor job ranks lists places) where
  list_count : length places ≡ length lists
  list_count = are.count ∙ sym (zip_long (IsPlaceList job.extents ranks) job.places lists zip)

  line_of : (k : ℕ) (p : AnyPlace) → slice_get places k ≡ Some p → HasLine job ranks lists k p
  line_of k p at =
      let line = some_at job.places k (omega (arith, are.count, below places k p at)) in
      let list = some_at lists k (omega (arith, list_count, below places k p at)) in
      let both = by_long (size_in job line.0) ranks line.0.kind list.0 (zip_get (IsPlaceList job.extents ranks) job.places lists k line.0 list.0 zip line.1 list.1) in record {
        line = line.0;
        line_is = line.1;
        list = list.0;
        list_is = list.1;
        for = are.each k p at line.0 list.0 line.1 list.1;
        long = both.0;
        ranks_are = both.1;
      }

  extent_is : (number : ℕ) (line : PlaceDecl) (extent : ExtentDecl) → slice_get job.places number ≡ Some line → slice_get job.extents line.extent ≡ Some extent →
      length (slice_index_or (map any_triples places) number []) ≡ extent.size
  extent_is number line extent line_is size_is =
      let place = some_at places number (omega (arith, are.count, below job.places number line line_is)) in
      let f = line_of number place.0 place.1 in
      let same : f.line ≡ line = some_same (sym f.line_is ∙ line_is) in
      ap length (item any_triples places number place.0 [] place.1) ∙ ap length f.for.triples ∙ f.long
      ∙ ap (λ (l : PlaceDecl). size_of (slice_get job.extents l.extent)) same ∙ ap size_of size_is

  told_by : (files : Files) → AllZip (IsPlaceListIn files job.extents ranks) job.places lists → map any_triples places ≡ places_in files ranks job
  told_by files told = alike any_triples (λ l. triples_in files (size_in job l) ranks l.kind) places job.places are.count (λ k p line at line_is.
      let list = some_at lists k (omega (arith, list_count, below places k p at)) in
      (are.each k p at line list.0 line_is list.1).triples
      ∙ by_files files (size_in job line) ranks line.kind list.0 (zip_get (IsPlaceListIn files job.extents ranks) job.places lists k line list.0 told line_is list.1))

pub placed-lines-are_placed : PlacedLinesArePlaced
placed-lines-are_placed job ranks lists places accepted zip are = record {
  placed = λ rank low. record {
    count = length-map places any_triples ∙ are.count;
    extents = extent_is job ranks lists places zip are;
    among = All-map (λ n. rank < n) any_ranks places (all_from (λ p. rank < any_ranks p) places (λ k p at. let f = line_of job ranks lists places zip are k p at in omega (arith, low, f.for.ranks_are, f.ranks_are)));
  };
  told = told_by job ranks lists places zip are;
}
