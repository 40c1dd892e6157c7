-- Each file that lists a place is used, and the place has what the matrix of the use lists.
use Rattle.std.proofs.Common.{◌≡◌, ◌⊎◌, ℕ, zero, suc, ◌+◌, ◌<◌, ◌≤◌, ◌==◌, Bool, true, false, cond, ◌&&◌, ◌||◌, List, [], ◌∷◌, ◌++◌, Option, Some, None, Ok, length, filter, get_or, refl, sym, ap, ◌∙◌, subst, ⊎_elim, arith}
use Rattle.std.specs.List.{All, AllZip, flat_map, list_any, slice_get}
use Rattle.std.specs.Str.{bytes_eq}
use Rattle.std.proofs.lemmas.Bool.{and_parts, cases_eq, eq-eqb}
use Rattle.std.proofs.lemmas.Bool.Decides.{Decides-eqb}
use Rattle.std.proofs.lemmas.List.Folds.{list_any-append}
use Rattle.std.proofs.lemmas.Slice.Eq.{bytes_eq-Decides}
use Rattle.bern_base.specs.declared.job.ArrayDecl.{ArrayDecl}
use Rattle.bern_base.specs.declared.job.Checked.{Checked}
use Rattle.bern_base.specs.declared.job.PlaceDecl.{PlaceDecl}
use Rattle.bern_base.specs.declared.job.PlaceKind.{PlaceKind}
use Rattle.bern_base.specs.declared.job.PlaceKind.TheVariants as kind
use Rattle.bern_base.specs.declared.matrix.Matrix.{Matrix}
use Rattle.bern_ports.specs.Files.{Files}
use Rattle.placement.specs.Listed.{listed_rule}
use Rattle.placement.specs.declared.listed.Listed.{Listed}
use Rattle.job_files.specs.FileOrder.{IsForUse, IsOfUse}
use Rattle.job_files.specs.PlaceLists.{AreAmong, HasList, IsKindFrom, IsKindList, IsKindListIn, IsLineFrom, IsListFrom, IsListIn, IsListOf, IsPlaceList, IsPlaceListIn, IsSomeList, is_place_of}
use Rattle.job_files.specs.Uses.{entries_in, entries_of, entries_read, kind_use, place_use, places_after, size_of, uses_by, uses_from, uses_of}
use Rattle.job_files.specs.declared.uses.Use.{Use}
use Rattle.job_files.specs.declared.uses.Use.TheVariants as by

-- ---- the use that is found

pub use_is : (u : Use) (file : List ℕ) (size ranks : ℕ) → is_place_of file size ranks u ≡ true → u ≡ by.Place file size ranks
use_is (by.Place own extent count) file size ranks is =
    let first = and_parts (bytes_eq own file) (extent == size && count == ranks) is in
    let rest = and_parts (extent == size) (count == ranks) first.1 in
    let name : own ≡ file = (bytes_eq-Decides own file).0 first.0 in
    let length_is : extent ≡ size = (Decides-eqb extent size).0 rest.0 in
    let ranks_is : count ≡ ranks = (Decides-eqb count ranks).0 rest.1 in
    λ i. by.Place (name i) (length_is i) (ranks_is i)
use_is (by.Order own rows) file size ranks is = absurd cc
use_is (by.Array own rows cols diagonals) file size ranks is = absurd cc

pub some_at : {X : Type 0} (xs : List X) (k : ℕ) (d : X) → k < length xs → slice_get xs k ≡ Some (get_or xs k d)
some_at [] k d below = absurd (omega (arith, below))
some_at (x ∷ xs) zero d below = refl
some_at (x ∷ xs) (suc k) d below = some_at xs k d (omega (arith, below))

pub use_at : (uses : List Use) (file : List ℕ) (size ranks k : ℕ) (d : Use) → k < length uses → is_place_of file size ranks (get_or uses k d) ≡ true → slice_get uses k ≡ Some (by.Place file size ranks)
use_at uses file size ranks k d below is = some_at uses k d below ∙ ap (λ u. Some u) (use_is (get_or uses k d) file size ranks is)

pub zip_found : {A B : Type 0} (P : A → B → Type 0) (xs : List A) (ys : List B) (k : ℕ) (x : A) (y : B) → AllZip P xs ys → slice_get xs k ≡ Some x → slice_get ys k ≡ Some y → P x y
zip_found P [] ys k x y zip here there = absurd cc
zip_found P (v ∷ xs) [] k x y zip here there = absurd zip
zip_found P (v ∷ xs) (w ∷ ys) zero x y zip here there = let first : v ≡ x = cc in let second : w ≡ y = cc in subst (λ z. P z y) first (subst (P v) second zip.0)
zip_found P (v ∷ xs) (w ∷ ys) (suc k) x y zip here there = zip_found P xs ys k x y zip.1 here there

-- ---- each is used

module _ (ranks : ℕ) (job : Checked) where
  abbrev is_use_of : PlaceDecl → List ℕ → Use → Bool
  is_use_of place file = is_place_of file (size_of (slice_get job.extents place.extent)) ranks

  own_use : (place : PlaceDecl) (file : List ℕ) (later : List Use) → place.kind ≡ kind.Listed file → list_any (is_use_of place file) (place_use ranks job.extents place ++ later) ≡ true
  own_use place file later is =
      let size : ℕ = size_of (slice_get job.extents place.extent) in
      let own : is_place_of file size ranks (by.Place file size ranks) ≡ true =
      ap (λ b. b && (size == size && ranks == ranks)) ((bytes_eq-Decides file file).1 refl) ∙ ap (λ b. b && ranks == ranks) (eq-eqb size size refl) ∙ eq-eqb ranks ranks refl in
      subst (λ how. list_any (is_use_of place file) (kind_use size ranks how ++ later) ≡ true) (sym is) (ap (λ b. b || list_any (is_use_of place file) later) own)

  later_use : (place : PlaceDecl) (file : List ℕ) (before later : List Use) → list_any (is_use_of place file) later ≡ true → list_any (is_use_of place file) (before ++ later) ≡ true
  later_use place file before later used =
      list_any-append (is_use_of place file) before later ∙ ap (λ b. list_any (is_use_of place file) before || b) used ∙ or_true (list_any (is_use_of place file) before)
    where
      or_true : (b : Bool) → (b || true) ≡ true
      or_true true = refl
      or_true false = refl

  front_use : (place : PlaceDecl) (file : List ℕ) (uses later : List Use) → list_any (is_use_of place file) uses ≡ true → list_any (is_use_of place file) (uses ++ later) ≡ true
  front_use place file uses later used = list_any-append (is_use_of place file) uses later ∙ ap (λ b. b || list_any (is_use_of place file) later) used

  used_among : (places : List PlaceDecl) (number k : ℕ) (place : PlaceDecl) (file : List ℕ) → slice_get places k ≡ Some place → place.kind ≡ kind.Listed file → place.arrays_before ≡ number →
      list_any (is_use_of place file) (flat_map (place_use ranks job.extents) (filter (λ p. p.arrays_before == number) places)) ≡ true
  used_among [] number k place file at is before = absurd cc
  used_among (p ∷ places) number zero place file at is before =
      let same : place ≡ p = cc in
      let rest : List PlaceDecl = filter (λ q. q.arrays_before == number) places in
      let test : (p.arrays_before == number) ≡ true = eq-eqb p.arrays_before number (subst (λ q. q.arrays_before ≡ number) same before) in
      subst (λ b. list_any (is_use_of place file) (flat_map (place_use ranks job.extents) (cond b (p ∷ rest) rest)) ≡ true) (sym test)
      (subst (λ q. list_any (is_use_of place file) (place_use ranks job.extents q ++ flat_map (place_use ranks job.extents) rest) ≡ true) same
      (own_use place file (flat_map (place_use ranks job.extents) rest) is))
  used_among (p ∷ places) number (suc k) place file at is before =
      let rest : List PlaceDecl = filter (λ q. q.arrays_before == number) places in
      let later = used_among places number k place file at is before in
      elim (p.arrays_before == number) as (λ b. list_any (is_use_of place file) (flat_map (place_use ranks job.extents) (cond b (p ∷ rest) rest)) ≡ true) [
        | true ↦ later_use place file (place_use ranks job.extents p) (flat_map (place_use ranks job.extents) rest) later
        | false ↦ later
      ]

  used_from : (number : ℕ) (arrays : List ArrayDecl) (k : ℕ) (place : PlaceDecl) (file : List ℕ) → slice_get job.places k ≡ Some place → place.kind ≡ kind.Listed file →
      number ≤ place.arrays_before → place.arrays_before ≤ number + length arrays → list_any (is_use_of place file) (uses_from ranks job number arrays) ≡ true
  used_from number [] k place file at is low high = used_among job.places number k place file at is (omega (arith, low, high))
  used_from number (array ∷ arrays) k place file at is low high =
      let own : List Use = uses_by job.formats array in
      let later : List Use = uses_from ranks job (number + 1) arrays in ⊎_elim
      (λ (here : place.arrays_before ≡ number). front_use place file (places_after ranks job number) (own ++ later) (used_among job.places number k place file at is here))
      (λ (other : place.arrays_before ≡ number → ⊥).
      later_use place file (places_after ranks job number) (own ++ later)
      (later_use place file own later (used_from (number + 1) arrays k place file at is (omega (arith, low, other)) (omega (arith, high)))))
      (cases_eq place.arrays_before number)

  pub places_used : (k : ℕ) (place : PlaceDecl) (file : List ℕ) → slice_get job.places k ≡ Some place → place.kind ≡ kind.Listed file → place.arrays_before ≤ length job.arrays →
      list_any (is_use_of place file) (uses_of ranks job) ≡ true
  places_used k place file at is high = used_from 0 job.arrays k place file at is (omega arith) (omega (arith, high))

-- ---- so each place has its list

all_get : {X : Type 0} (P : X → Type 0) (xs : List X) (k : ℕ) (x : X) → All P xs → slice_get xs k ≡ Some x → P x
all_get P [] k x all at = absurd cc
all_get P (y ∷ xs) zero x all at = let same : y ≡ x = cc in subst P same (all 0 y (omega arith))
all_get P (y ∷ xs) (suc k) x all at = all_get P xs k x (λ j d below. all (suc j) d (omega (arith, below))) at

-- from what holds beside each item to what follows from it, item by item
zip_kept : {A B : Type 0} (P Q : A → B → Type 0) (xs : List A) (ys : List B) → AllZip P xs ys → ((k : ℕ) (x : A) (y : B) → slice_get xs k ≡ Some x → P x y → Q x y) → AllZip Q xs ys
zip_kept P Q [] [] zip each = tt
zip_kept P Q [] (y ∷ ys) zip each = absurd zip
zip_kept P Q (x ∷ xs) [] zip each = absurd zip
zip_kept P Q (x ∷ xs) (y ∷ ys) zip each = (each 0 x y refl zip.0, zip_kept P Q xs ys zip.1 (λ k v w at holds. each (suc k) v w at holds))

module _ (ranks : ℕ) (job : Checked) (among : AreAmong job) (uses : List Use) (loaded : List Matrix) (uses_are : uses ≡ uses_of ranks job) where
  abbrev size_at : PlaceDecl → ℕ
  size_at place = size_of (slice_get job.extents place.extent)

  not_unused : (k : ℕ) (place : PlaceDecl) (file : List ℕ) → slice_get job.places k ≡ Some place → place.kind ≡ kind.Listed file → list_any (is_place_of file (size_at place) ranks) uses ≡ false → ⊥
  not_unused k place file at is none =
      let used = places_used ranks job k place file at is (all_get (λ p. p.arrays_before ≤ length job.arrays) job.places k place among at) in
      let both : true ≡ false = sym used ∙ ap (λ us. list_any (is_place_of file (size_at place) ranks) us) (sym uses_are) ∙ none in cc

  kind_kept : (k : ℕ) (place : PlaceDecl) (how : PlaceKind) (list : Option Listed) → slice_get job.places k ≡ Some place → place.kind ≡ how → IsKindFrom uses loaded (size_at place) ranks how list → IsKindList (size_at place) ranks how list
  kind_kept k place (kind.Listed file) (Some list) at is from = (from.matrix.entries, from.is)
  kind_kept k place (kind.Listed file) None at is from = absurd (not_unused k place file at is from)
  kind_kept k place kind.Block list at is from = from
  kind_kept k place (kind.Cyclic block) list at is from = from

  pub lists_kept : (lists : List (Option Listed)) → AllZip (IsLineFrom uses loaded job.extents ranks) job.places lists → AllZip (IsPlaceList job.extents ranks) job.places lists
  lists_kept lists zip =
      zip_kept (IsLineFrom uses loaded job.extents ranks) (IsPlaceList job.extents ranks) job.places lists zip
      (λ k place list at from. kind_kept k place place.kind list at refl from)

  -- where the matrices are those of told files
  module _ (files : Files) (of_uses : AllZip (IsOfUse files) uses loaded) where
    list_told : (file : List ℕ) (size : ℕ) (list : Listed) → HasList uses loaded file size ranks list → IsListOf size ranks (entries_in files file) list
    list_told file size list from =
        let of = zip_found (IsOfUse files) uses loaded from.number (by.Place file size ranks) from.matrix of_uses from.use_is from.matrix_is in
        let entries : entries_in files file ≡ from.matrix.entries = ap entries_read of.there ∙ ap entries_of of.read in
        subst (λ es. IsListOf size ranks es list) (sym entries) from.is

    kind_told : (k : ℕ) (place : PlaceDecl) (how : PlaceKind) (list : Option Listed) → slice_get job.places k ≡ Some place → place.kind ≡ how → IsKindFrom uses loaded (size_at place) ranks how list → IsKindListIn files (size_at place) ranks how list
    kind_told k place (kind.Listed file) (Some list) at is from = list_told file (size_at place) list from
    kind_told k place (kind.Listed file) None at is from = absurd (not_unused k place file at is from)
    kind_told k place kind.Block list at is from = from
    kind_told k place (kind.Cyclic block) list at is from = from

    pub lists_told : (lists : List (Option Listed)) → AllZip (IsLineFrom uses loaded job.extents ranks) job.places lists → AllZip (IsPlaceListIn files job.extents ranks) job.places lists
    lists_told lists zip =
        zip_kept (IsLineFrom uses loaded job.extents ranks) (IsPlaceListIn files job.extents ranks) job.places lists zip
        (λ k place list at from. kind_told k place place.kind list at refl from)
