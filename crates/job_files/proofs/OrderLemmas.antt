-- Each order that a format names is used, and has the matrix that lists it.
use Rattle.std.proofs.Common.{◌≡◌, ℕ, zero, suc, ◌+◌, ◌<◌, ◌==◌, Bool, true, false, not, cond, ◌&&◌, ◌||◌, List, [], ◌∷◌, ◌++◌, Option, Some, None, length, get_or, take, refl, sym, ap, ◌∙◌, subst, arith}
use Rattle.std.specs.List.{All, AllZip, list_any, position, position_or_len, slice_get}
use Rattle.std.specs.Str.{bytes_eq}
use Rattle.std.proofs.lemmas.Bool.{and_parts, eq-eqb, lt-ltb}
use Rattle.std.proofs.lemmas.Bool.Decides.{Decides-eqb}
use Rattle.std.proofs.lemmas.List.{take_more}
use Rattle.std.proofs.lemmas.List.Folds.{list_any-append}
use Rattle.std.proofs.lemmas.Slice.Eq.{bytes_eq-Decides}
use Rattle.bern_base.specs.declared.job.ArrayDecl.{ArrayDecl}
use Rattle.bern_base.specs.declared.job.Checked.{Checked}
use Rattle.bern_base.specs.declared.matrix.Matrix.{Matrix}
use Rattle.formats.specs.FileRules.{order_rule}
use Rattle.job_files.specs.FileOrder.{IsForUse}
use Rattle.job_files.specs.RowOrders.{HasOrderUse, IsOrderUsed, is_order_of}
use Rattle.job_files.specs.Uses.{diagonals_of, file_use, order_of, order_use, places_after, uses_by, uses_from, uses_of}
use Rattle.job_files.specs.declared.uses.Use.{Use}
use Rattle.job_files.specs.declared.uses.Use.TheVariants as by

-- what is used among some uses is used among more
later_used : (before uses : List Use) (rows : ℕ) (file : Option (List ℕ)) → IsOrderUsed uses rows file → IsOrderUsed (before ++ uses) rows file
later_used before uses rows None used = tt
later_used before uses rows (Some file) used =
    list_any-append (is_order_of file rows) before uses ∙ ap (λ b. list_any (is_order_of file rows) before || b) used ∙ or_true (list_any (is_order_of file rows) before)
  where
    or_true : (b : Bool) → (b || true) ≡ true
    or_true true = refl
    or_true false = refl

own_used : (array : ArrayDecl) (later : List Use) (file : Option (List ℕ)) → IsOrderUsed (order_use array file ++ later) array.rows file
own_used array later None = tt
own_used array later (Some file) =
    ap (λ b. (b && (array.rows == array.rows)) || list_any (is_order_of file array.rows) later) ((bytes_eq-Decides file file).1 refl)
    ∙ ap (λ b. b || list_any (is_order_of file array.rows) later) (eq-eqb array.rows array.rows refl)

front_used : (uses later : List Use) (rows : ℕ) (file : Option (List ℕ)) → IsOrderUsed uses rows file → IsOrderUsed (uses ++ later) rows file
front_used uses later rows None used = tt
front_used uses later rows (Some file) used = list_any-append (is_order_of file rows) uses later ∙ ap (λ b. b || list_any (is_order_of file rows) later) used

module _ (ranks : ℕ) (job : Checked) where
  used_from : (number : ℕ) (arrays : List ArrayDecl) → All (HasOrderUse job.formats (uses_from ranks job number arrays)) arrays
  used_from number [] k d below = absurd (omega (arith, below))
  used_from number (array ∷ arrays) zero d below =
      let file : Option (List ℕ) = order_of job.formats array in
      let later : List Use = uses_from ranks job (number + 1) arrays in
      later_used (places_after ranks job number) (uses_by job.formats array ++ later) array.rows file
      (front_used (uses_by job.formats array) later array.rows file (own_used array (file_use array (diagonals_of job.formats array) array.file) file))
  used_from number (array ∷ arrays) (suc k) d below =
      let other : ArrayDecl = get_or arrays k d in
      let file : Option (List ℕ) = order_of job.formats other in
      let later : List Use = uses_from ranks job (number + 1) arrays in
      later_used (places_after ranks job number) (uses_by job.formats array ++ later) other.rows file
      (later_used (uses_by job.formats array) later other.rows file (used_from (number + 1) arrays k d (omega (arith, below))))

  pub orders_used : All (HasOrderUse job.formats (uses_of ranks job)) job.arrays
  orders_used = used_from 0 job.arrays

-- one list more
zip_append : {A B : Type 0} (P : A → B → Type 0) (xs : List A) (ys : List B) (x : A) (y : B) → AllZip P xs ys → P x y → AllZip P (xs ++ x ∷ []) (ys ++ y ∷ [])
zip_append P [] [] x y zip holds = (holds, tt)
zip_append P [] (w ∷ ys) x y zip holds = absurd zip
zip_append P (v ∷ xs) [] x y zip holds = absurd zip
zip_append P (v ∷ xs) (w ∷ ys) x y zip holds = (zip.0, zip_append P xs ys x y zip.1 holds)

pub zip_more : {A B : Type 0} (P : A → B → Type 0) (xs : List A) (ys : List B) (i : ℕ) (x : A) (y : B) → i < length xs → x ≡ get_or xs i x → AllZip P (take i xs) ys → P x y → AllZip P (take (i + 1) xs) (ys ++ y ∷ [])
zip_more P xs ys i x y below is zip holds =
    subst (λ l. AllZip P l (ys ++ y ∷ [])) (ap (λ z. take i xs ++ z ∷ []) is ∙ sym (take_more xs i x below)) (zip_append P (take i xs) ys x y zip holds)

-- the matrix that stands beside a use for an order lists it
fits_order : (u : Use) (m : Matrix) (file : List ℕ) (rows : ℕ) → is_order_of file rows u ≡ true → IsForUse u m → order_rule rows m ≡ None
fits_order (by.Order own count) m file rows is for = ap (λ r. order_rule r m) (sym ((Decides-eqb count rows).0 (and_parts (bytes_eq own file) (count == rows) is).1)) ∙ for.fits
fits_order (by.Array own count cols diagonals) m file rows is for = absurd cc
fits_order (by.Place own extent ranks) m file rows is for = absurd cc

pub zip_at : {A B : Type 0} (P : A → B → Type 0) (xs : List A) (ys : List B) (k : ℕ) (d : A) (y : B) → AllZip P xs ys → k < length xs → slice_get ys k ≡ Some y → P (get_or xs k d) y
zip_at P [] ys k d y zip below at = absurd (omega (arith, below))
zip_at P (x ∷ xs) [] k d y zip below at = absurd zip
zip_at P (x ∷ xs) (w ∷ ys) zero d y zip below at = let same : w ≡ y = cc in subst (P x) same zip.0
zip_at P (x ∷ xs) (w ∷ ys) (suc k) d y zip below at = zip_at P xs ys k d y zip.1 (omega (arith, below)) at

pub lists_order : (uses : List Use) (loaded : List Matrix) (file : List ℕ) (rows k : ℕ) (d : Use) (m : Matrix) → AllZip IsForUse uses loaded → k < length uses → is_order_of file rows (get_or uses k d) ≡ true → slice_get loaded k ≡ Some m →
    order_rule rows m ≡ None
lists_order uses loaded file rows k d m zip below is at = fits_order (get_or uses k d) m file rows is (zip_at IsForUse uses loaded k d m zip below at)

pub zip_all : {A B : Type 0} (P : A → B → Type 0) (xs : List A) (ys : List B) (i : ℕ) → AllZip P (take i xs) ys → take i xs ≡ xs → AllZip P xs ys
zip_all P xs ys i zip all = subst (λ l. AllZip P l ys) all zip

any_low : {X : Type 0} (p : X → Bool) (xs : List X) → list_any p xs ≡ true → position_or_len p xs < length xs
any_low p [] is = absurd cc
any_low {X} p (x ∷ xs) is = at (p x) is (any_low p xs)
  where
    at : (here : Bool) → (here || list_any p xs) ≡ true → (list_any p xs ≡ true → position_or_len p xs < length xs) → cond (not here) (1 + position_or_len p xs) 0 < suc (length xs)
    at true some rest = omega arith
    at false some rest = let low = rest some in omega (arith, low)

-- where no place is found none passes
pub none_there : {X : Type 0} (p : X → Bool) (xs : List X) → position p xs ≡ None → list_any p xs ≡ false
none_there {X} p xs none = by_test (list_any p xs) refl
  where
    by_test : (some : Bool) → list_any p xs ≡ some → some ≡ false
    by_test false is = refl
    by_test true is =
        let found : position p xs ≡ Some (position_or_len p xs) =
        ap (λ b. cond b (Some (position_or_len p xs)) None) (lt-ltb (position_or_len p xs) (length xs) (any_low p xs is)) in absurd (let both : None ≡ Some (position_or_len p xs) = sym none ∙ found in cc)
