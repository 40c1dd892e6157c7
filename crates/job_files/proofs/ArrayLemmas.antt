-- The matrices of all arrays, from those of the arrays that are read from a file.
use Rattle.std.proofs.Common.{◌≡◌, ℕ, suc, ◌+◌, ◌<◌, ◌≤◌, ◌==◌, Bool, true, false, cond, length, filter, get_or, drop, drop-cons, add-one, append_assoc, List, [], ◌∷◌, ◌++◌, ℤ, Option, Some, None, is_some, refl, sym, ap, ◌∙◌, subst, arith}
use Rattle.std.specs.List.{All, AllZip, flat_map, slice_get}
use Rattle.std.proofs.lemmas.List.Elements.{All-cons, All-head, All-nil, All-tail, filter-append}
use Rattle.bern_base.specs.declared.job.ArrayDecl.{ArrayDecl}
use Rattle.bern_base.specs.declared.job.Checked.{Checked}
use Rattle.bern_base.specs.declared.job.ExtentDecl.{ExtentDecl}
use Rattle.bern_base.specs.declared.job.FormatDecl.{FormatDecl}
use Rattle.bern_base.specs.declared.job.PlaceDecl.{PlaceDecl}
use Rattle.bern_base.specs.declared.job.PlaceKind.{PlaceKind}
use Rattle.bern_base.specs.declared.job.PlaceKind.TheVariants as kind
use Rattle.bern_base.specs.declared.limits.TheConstants.{MOST_WEIGHT}
use Rattle.bern_base.specs.declared.matrix.Matrix.{Matrix}
use Rattle.bern_ports.specs.Files.{Files}
use Rattle.format_model.specs.Checks.{sizes_rule}
use Rattle.job_files.specs.FileOrder.{HasRoom, IsArrayIn, IsForUse, IsOfUse, astray_rule}
use Rattle.job_files.proofs.ServingLemmas.{none_first, suits}
use Rattle.job_files.specs.Uses.{array_matrices, entries_from, entries_in, entries_of, entries_read, diagonals_of, file_use, has_file, is_array, kind_use, left_by, matrices_from, order_of, order_use, place_use, places_after, size_of, spread, taken, uses_by, uses_from, uses_of, with_entries}
use Rattle.job_files.specs.declared.uses.Use.{Use}
use Rattle.job_files.specs.declared.uses.Use.TheVariants as by

-- the uses of files by arrays that are read from them
abbrev pub own_uses : List FormatDecl → List ArrayDecl → List Use
own_uses formats arrays = flat_map (λ array. file_use array (diagonals_of formats array) array.file) arrays

-- the other uses are not among them
no_order : (array : ArrayDecl) (order : Option (List ℕ)) → filter is_array (order_use array order) ≡ []
no_order array None = refl
no_order array (Some file) = refl

own_file : (array : ArrayDecl) (diagonals : Option (List ℤ)) (file : Option (List ℕ)) → filter is_array (file_use array diagonals file) ≡ file_use array diagonals file
own_file array diagonals None = refl
own_file array diagonals (Some file) = refl

no_kind : (size ranks : ℕ) (dealt : PlaceKind) → filter is_array (kind_use size ranks dealt) ≡ []
no_kind size ranks kind.Block = refl
no_kind size ranks (kind.Cyclic block) = refl
no_kind size ranks (kind.Listed file) = refl

no_places : (ranks : ℕ) (extents : List ExtentDecl) (places : List PlaceDecl) → filter is_array (flat_map (place_use ranks extents) places) ≡ []
no_places ranks extents [] = refl
no_places ranks extents (place ∷ places) =
    filter-append is_array (place_use ranks extents place) (flat_map (place_use ranks extents) places)
    ∙ ap (λ us. us ++ filter is_array (flat_map (place_use ranks extents) places)) (no_kind (size_of (slice_get extents place.extent)) ranks place.kind)
    ∙ no_places ranks extents places

module _ (ranks : ℕ) (job : Checked) where
  own_from : (number : ℕ) (arrays : List ArrayDecl) → filter is_array (uses_from ranks job number arrays) ≡ own_uses job.formats arrays
  own_from number [] = no_places ranks job.extents (filter (λ place. place.arrays_before == number) job.places)
  own_from number (array ∷ arrays) =
      let later : List Use = uses_from ranks job (number + 1) arrays in
      let order : List Use = order_use array (order_of job.formats array) in
      let own : List Use = file_use array (diagonals_of job.formats array) array.file in
      filter-append is_array (places_after ranks job number) (uses_by job.formats array ++ later)
      ∙ ap (λ us. us ++ filter is_array ((order ++ own) ++ later)) (no_places ranks job.extents (filter (λ place. place.arrays_before == number) job.places))
      ∙ filter-append is_array (order ++ own) later
      ∙ ap (λ us. us ++ filter is_array later) (filter-append is_array order own ∙ ap (λ us. us ++ filter is_array own) (no_order array (order_of job.formats array)) ∙ own_file array (diagonals_of job.formats array) array.file)
      ∙ ap (λ us. own ++ us) (own_from (number + 1) arrays)

  pub own_of_job : filter is_array (uses_of ranks job) ≡ own_uses job.formats job.arrays
  own_of_job = own_from 0 job.arrays

-- what stands beside the uses by arrays
beside_own : (P : Use → Matrix → Type 0) (own : Bool) (u : Use) (m : Matrix) (uses : List Use) (ms : List Matrix) → P u m → AllZip P uses ms → AllZip P (cond own (u ∷ uses) uses) (cond own (m ∷ ms) ms)
beside_own P true u m uses ms here later = (here, later)
beside_own P false u m uses ms here later = later

pub zip_own : (P : Use → Matrix → Type 0) (uses : List Use) (ms : List Matrix) → AllZip P uses ms → AllZip P (filter is_array uses) (array_matrices uses ms)
zip_own P [] [] zip = tt
zip_own P [] (m ∷ ms) zip = absurd zip
zip_own P (u ∷ uses) [] zip = absurd zip
zip_own P (u ∷ uses) (m ∷ ms) zip = beside_own P (is_array u) u m (filter is_array uses) (array_matrices uses ms) zip.0 (zip_own P uses ms zip.1)

pub zip_len : {A B : Type 0} (P : A → B → Type 0) (xs : List A) (ys : List B) → AllZip P xs ys → length ys ≡ length xs
zip_len P [] [] zip = refl
zip_len P [] (y ∷ ys) zip = absurd zip
zip_len P (x ∷ xs) [] zip = absurd zip
zip_len P (x ∷ xs) (y ∷ ys) zip = ap suc (zip_len P xs ys zip.1)

-- one use for each array with a file
len_with : (array : ArrayDecl) (diagonals : Option (List ℤ)) (file : Option (List ℕ)) (uses : List Use) (others : List ArrayDecl) → length uses ≡ length others →
    length (file_use array diagonals file ++ uses) ≡ length (cond (is_some file) (array ∷ others) others)
len_with array diagonals None uses others same = same
len_with array diagonals (Some file) uses others same = ap suc same

pub length-own_uses : (formats : List FormatDecl) (arrays : List ArrayDecl) → length (own_uses formats arrays) ≡ length (filter has_file arrays)
length-own_uses formats [] = refl
length-own_uses formats (array ∷ arrays) = len_with array (diagonals_of formats array) array.file (own_uses formats arrays) (filter has_file arrays) (length-own_uses formats arrays)

-- a matrix that was read from the file of a use
read_as : (files : Files) (array : ArrayDecl) (diagonals : Option (List ℤ)) (file : List ℕ) (m : Matrix) → IsOfUse files (by.Array file array.rows array.cols diagonals) m → m ≡ with_entries array (entries_in files file)
read_as files array diagonals file m is =
    let entries : m.entries ≡ entries_in files file = sym (ap entries_read is.there ∙ ap entries_of is.read) in
    ap (λ r. record { rows = r; cols = m.cols; entries = m.entries }) is.suits.0
    ∙ ap (λ c. record { rows = array.rows; cols = c; entries = m.entries }) is.suits.1
    ∙ ap (λ es. record { rows = array.rows; cols = array.cols; entries = es }) entries

module _ (files : Files) (formats : List FormatDecl) where
  -- one array more, where this holds of those after it
  spread_with : (array : ArrayDecl) (arrays : List ArrayDecl) (diagonals : Option (List ℤ)) (file : Option (List ℕ)) (ms : List Matrix) →
      ((ns : List Matrix) → AllZip (IsOfUse files) (own_uses formats arrays) ns → spread arrays ns ≡ matrices_from (entries_in files) arrays) →
      AllZip (IsOfUse files) (file_use array diagonals file ++ own_uses formats arrays) ms →
      taken array file ms ∷ spread arrays (left_by file ms) ≡ with_entries array (entries_from (entries_in files) file) ∷ matrices_from (entries_in files) arrays
  spread_with array arrays diagonals None ms rest zip = ap (λ (others : List Matrix). with_entries array [] ∷ others) (rest ms zip)
  spread_with array arrays diagonals (Some file) [] rest zip = absurd zip
  spread_with array arrays diagonals (Some file) (m ∷ ms) rest zip =
      ap (λ (x : Matrix). x ∷ spread arrays ms) (read_as files array diagonals file m zip.0) ∙ ap (λ (others : List Matrix). with_entries array (entries_in files file) ∷ others) (rest ms zip.1)

  -- the matrices that are read, with no entries for the other arrays, are those of all arrays
  pub spread_all : (arrays : List ArrayDecl) (ms : List Matrix) → AllZip (IsOfUse files) (own_uses formats arrays) ms → spread arrays ms ≡ matrices_from (entries_in files) arrays
  spread_all [] ms zip = refl
  spread_all (array ∷ arrays) ms zip = spread_with array arrays (diagonals_of formats array) array.file ms (spread_all arrays) zip

-- a matrix for each array, as its format asks
empty_array : (formats : List FormatDecl) (array : ArrayDecl) → IsArrayIn formats array (with_entries array [])
empty_array formats array = record {
  is = record {
    matrix = record { inside = λ k d within. absurd (omega (arith, within)); rising = λ k below. absurd (omega (arith, below)) };
    rows = refl;
    cols = refl;
    few = omega arith;
  };
  straight = none_astray (diagonals_of formats array);
}
  where
    none_astray : (diagonals : Option (List ℤ)) → astray_rule diagonals (with_entries array []) ≡ None
    none_astray None = refl
    none_astray (Some offsets) = refl

module _ (formats : List FormatDecl) where
  arrays_with : (array : ArrayDecl) (arrays : List ArrayDecl) (diagonals : Option (List ℤ)) (file : Option (List ℕ)) (ms : List Matrix) → diagonals_of formats array ≡ diagonals →
      ((ns : List Matrix) → AllZip IsForUse (own_uses formats arrays) ns → AllZip (IsArrayIn formats) arrays (spread arrays ns)) →
      AllZip IsForUse (file_use array diagonals file ++ own_uses formats arrays) ms → IsArrayIn formats array (taken array file ms) × AllZip (IsArrayIn formats) arrays (spread arrays (left_by file ms))
  arrays_with array arrays diagonals None ms same rest zip = (empty_array formats array, rest ms zip)
  arrays_with array arrays diagonals (Some file) [] same rest zip = absurd zip
  arrays_with array arrays diagonals (Some file) (m ∷ ms) same rest zip =
      let sizes = suits m (by.Array file array.rows array.cols diagonals) zip.0.fits in (
        record {
          is = record { matrix = zip.0.matrix; rows = sizes.0; cols = sizes.1; few = zip.0.light };
          straight = ap (λ d. astray_rule d m) same ∙ (none_first (sizes_rule array.rows array.cols m) (astray_rule diagonals m) zip.0.fits).1;
        },
        rest ms zip.1,
      )

  pub spread_arrays : (arrays : List ArrayDecl) (ms : List Matrix) → AllZip IsForUse (own_uses formats arrays) ms → AllZip (IsArrayIn formats) arrays (spread arrays ms)
  spread_arrays [] ms zip = tt
  spread_arrays (array ∷ arrays) ms zip = arrays_with array arrays (diagonals_of formats array) array.file ms refl (spread_arrays arrays) zip

-- those that are left after an array
left_len : (file : Option (List ℕ)) (items : List Matrix) (array : ArrayDecl) (others : List ArrayDecl) → length items ≡ length (cond (is_some file) (array ∷ others) others) → length (left_by file items) ≡ length others
left_len None items array others same = same
left_len (Some file) [] array others same = absurd (omega (arith, same))
left_len (Some file) (m ∷ ms) array others same = omega (arith, same)

pub here_and_later : {X : Type 0} (xs : List X) (i : ℕ) (x : X) → i < length xs → x ≡ get_or xs i x → drop i xs ≡ x ∷ drop (i + 1) xs
here_and_later xs i x below is = drop-cons xs i x below ∙ ap (λ y. y ∷ drop (suc i) xs) (sym is) ∙ ap (λ n. x ∷ drop n xs) (sym (add-one i))

-- an array with a file has a matrix left
pub some_left : (arrays : List ArrayDecl) (i : ℕ) (array : ArrayDecl) (file : List ℕ) (items : List Matrix) → i < length arrays → array ≡ get_or arrays i array → array.file ≡ Some file →
    length items ≡ length (filter has_file (drop i arrays)) → 0 < length items
some_left arrays i array file items below is from count =
    let others : List ArrayDecl = filter has_file (drop (i + 1) arrays) in
    let all : length items ≡ length (cond (is_some array.file) (array ∷ others) others) = count ∙ ap (λ (as_ : List ArrayDecl). length (filter has_file as_)) (here_and_later arrays i array below is) in
    let one : length items ≡ length (array ∷ others) = all ∙ ap (λ (f : Option (List ℕ)). length (cond (is_some f) (array ∷ others) others)) from in
    omega (arith, one)

-- one array more has its matrix
pub next_spread : (arrays : List ArrayDecl) (i : ℕ) (array : ArrayDecl) (done all items rest : List Matrix) (m : Matrix) →
    i < length arrays → array ≡ get_or arrays i array → done ++ spread (drop i arrays) items ≡ all → length items ≡ length (filter has_file (drop i arrays)) →
    taken array array.file items ≡ m → left_by array.file items ≡ rest →
    ((done ++ m ∷ []) ++ spread (drop (i + 1) arrays) rest ≡ all) × (length rest ≡ length (filter has_file (drop (i + 1) arrays)))
next_spread arrays i array done all items rest m below is so_far count takes leaves =
    let more : List ArrayDecl = drop (i + 1) arrays in
    let here : drop i arrays ≡ array ∷ more = here_and_later arrays i array below is in (
      append_assoc done (m ∷ []) (spread more rest)
          ∙ ap (λ x. done ++ x ∷ spread more rest) (sym takes)
          ∙ ap (λ r. done ++ taken array array.file items ∷ spread more r) (sym leaves)
          ∙ ap (λ as_. done ++ spread as_ items) (sym here)
          ∙ so_far,
      ap (λ (ms : List Matrix). length ms) (sym leaves) ∙ left_len array.file items array (filter has_file more) (count ∙ ap (λ (as_ : List ArrayDecl). length (filter has_file as_)) here),
    )

-- the uses so far, and those that are left
pub next_uses : (ranks : ℕ) (job : Checked) (i : ℕ) (array : ArrayDecl) (before places order own all : List Use) → i < length job.arrays → array ≡ get_or job.arrays i array →
    before ++ uses_from ranks job i (drop i job.arrays) ≡ all → places ≡ before ++ places_after ranks job i → order ≡ places ++ order_use array (order_of job.formats array) →
    own ≡ order ++ file_use array (diagonals_of job.formats array) array.file → own ++ uses_from ranks job (i + 1) (drop (i + 1) job.arrays) ≡ all
next_uses ranks job i array before places order own all below is so_far first second third =
    let placed : List Use = places_after ranks job i in
    let ordered : List Use = order_use array (order_of job.formats array) in
    let filed : List Use = file_use array (diagonals_of job.formats array) array.file in
    let later : List Use = uses_from ranks job (i + 1) (drop (i + 1) job.arrays) in
    ap (λ us. us ++ later) (third ∙ ap (λ us. us ++ filed) (second ∙ ap (λ us. us ++ ordered) first))
    ∙ ap (λ us. us ++ later) (append_assoc (before ++ placed) ordered filed)
    ∙ append_assoc (before ++ placed) (ordered ++ filed) later
    ∙ append_assoc before placed ((ordered ++ filed) ++ later)
    ∙ ap (λ as_. before ++ uses_from ranks job i as_) (sym (here_and_later job.arrays i array below is))
    ∙ so_far

-- one use more, whose matrix is kept where an array is read from it
kept : (own : Bool) (m : Matrix) (done later : List Matrix) → cond own (done ++ m ∷ []) done ++ later ≡ done ++ cond own (m ∷ later) later
kept true m done later = append_assoc done (m ∷ []) later
kept false m done later = refl

pub next_own : (uses : List Use) (i : ℕ) (u : Use) (done after all items rest : List Matrix) (m : Matrix) → i < length uses → u ≡ get_or uses i u →
    done ++ array_matrices (drop i uses) items ≡ all → items ≡ m ∷ rest → after ≡ cond (is_array u) (done ++ m ∷ []) done → after ++ array_matrices (drop (i + 1) uses) rest ≡ all
next_own uses i u done after all items rest m below is so_far next keeps =
    let later : List Matrix = array_matrices (drop (i + 1) uses) rest in
    ap (λ ms. ms ++ later) keeps ∙ kept (is_array u) m done later
    ∙ ap (λ us. done ++ array_matrices us (m ∷ rest)) (sym (here_and_later uses i u below is))
    ∙ ap (λ ms. done ++ array_matrices (drop i uses) ms) (sym next)
    ∙ so_far

pub left_counts : (uses : List Use) (i : ℕ) (u : Use) (items rest : List Matrix) (m : Matrix) → i < length uses → u ≡ get_or uses i u → length items ≡ length (drop i uses) → items ≡ m ∷ rest →
    length rest ≡ length (drop (i + 1) uses)
left_counts uses i u items rest m below is count next =
    let left : length (drop i uses) ≡ length (u ∷ drop (i + 1) uses) = ap (λ (us : List Use). length us) (here_and_later uses i u below is) in
    let first : length items ≡ length (m ∷ rest) = ap (λ (ms : List Matrix). length ms) next in
    omega (arith, left, first, count)

-- the matrices of arrays are as many as the arrays with files
pub own_count : (ranks : ℕ) (job : Checked) (uses : List Use) (loaded : List Matrix) → uses ≡ uses_of ranks job → AllZip IsForUse uses loaded → length (array_matrices uses loaded) ≡ length (filter has_file job.arrays)
own_count ranks job uses loaded are zip =
    zip_len IsForUse (filter is_array uses) (array_matrices uses loaded) (zip_own IsForUse uses loaded zip)
    ∙ ap (λ (us : List Use). length (filter is_array us)) are ∙ ap (λ (us : List Use). length us) (own_of_job ranks job) ∙ length-own_uses job.formats job.arrays

-- what stands beside the uses of a job, beside those by arrays
pub zip_job : (P : Use → Matrix → Type 0) (ranks : ℕ) (job : Checked) (uses : List Use) (loaded : List Matrix) → uses ≡ uses_of ranks job → AllZip P uses loaded →
    AllZip P (own_uses job.formats job.arrays) (array_matrices uses loaded)
zip_job P ranks job uses loaded are zip =
    subst (λ us. AllZip P us (array_matrices uses loaded)) (ap (filter is_array) are ∙ own_of_job ranks job) (zip_own P uses loaded zip)

-- ---- matrices that keep the limit beside the weight of the arrays

own_room : (weight : ℕ) (uses : List Use) (ms : List Matrix) → All (HasRoom weight) ms → All (HasRoom weight) (array_matrices uses ms)
own_room weight [] ms all = All-nil (HasRoom weight)
own_room weight (u ∷ uses) [] all = All-nil (HasRoom weight)
own_room weight (u ∷ uses) (m ∷ ms) all =
    let later = own_room weight uses ms (All-tail (HasRoom weight) m ms all) in
    elim (is_array u) as (λ b. All (HasRoom weight) (cond b (m ∷ array_matrices uses ms) (array_matrices uses ms))) [
      | true ↦ All-cons (HasRoom weight) m (array_matrices uses ms) (All-head (HasRoom weight) m ms all) later
      | false ↦ later
    ]

taken_room : (weight : ℕ) (array : ArrayDecl) (arrays : List ArrayDecl) (file : Option (List ℕ)) (ms : List Matrix) → weight ≤ MOST_WEIGHT → ((ns : List Matrix) → All (HasRoom weight) ns → All (HasRoom weight) (spread arrays ns)) →
    All (HasRoom weight) ms → All (HasRoom weight) (taken array file ms ∷ spread arrays (left_by file ms))
taken_room weight array arrays None ms light rest all = All-cons (HasRoom weight) (with_entries array []) (spread arrays ms) (omega (arith, light)) (rest ms all)
taken_room weight array arrays (Some file) [] light rest all = All-cons (HasRoom weight) (with_entries array []) (spread arrays []) (omega (arith, light)) (rest [] all)
taken_room weight array arrays (Some file) (m ∷ ms) light rest all =
    All-cons (HasRoom weight) m (spread arrays ms) (All-head (HasRoom weight) m ms all) (rest ms (All-tail (HasRoom weight) m ms all))

spread_room : (weight : ℕ) (arrays : List ArrayDecl) (ms : List Matrix) → weight ≤ MOST_WEIGHT → All (HasRoom weight) ms → All (HasRoom weight) (spread arrays ms)
spread_room weight [] ms light all = All-nil (HasRoom weight)
spread_room weight (array ∷ arrays) ms light all = taken_room weight array arrays array.file ms light (λ ns each. spread_room weight arrays ns light each) all

pub arrays_room : (weight : ℕ) (uses : List Use) (loaded : List Matrix) (arrays : List ArrayDecl) → weight ≤ MOST_WEIGHT → All (HasRoom weight) loaded → All (HasRoom weight) (spread arrays (array_matrices uses loaded))
arrays_room weight uses loaded arrays light all = spread_room weight arrays (array_matrices uses loaded) light (own_room weight uses loaded all)
