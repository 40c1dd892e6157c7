-- The weight after all files, use by use.
use Rattle.std.proofs.Common.{◌≡◌, ℕ, ◌+◌, ◌*◌, ◌≤◌, Bool, true, false, ◌&&◌, not, cond, nat_lt, if◌then◌else◌, List, [], ◌∷◌, ◌++◌, length, ℤ, Option, Some, None, Result, Ok, Err, filter, refl, sym, ap, ◌∙◌, subst, arith}
use Rattle.std.proofs.Math.Nat.{zero-add}
use Rattle.std.specs.List.{count_by, sum_by}
use Rattle.std.specs.Str.{bytes_eq}
use Rattle.std.proofs.lemmas.Bool.{and_parts, ltb-false, not-true}
use Rattle.std.proofs.lemmas.Bool.Decides.{same_from_decides}
use Rattle.std.proofs.lemmas.List.Sums.{sum_by-cons}
use Rattle.std.proofs.lemmas.Slice.Eq.{bytes_eq-Decides}
use Rattle.bern_base.specs.declared.job.ArrayDecl.{ArrayDecl}
use Rattle.bern_base.specs.declared.job.FormatDecl.{FormatDecl}
use Rattle.bern_base.specs.declared.matrix.Matrix.{Matrix}
use Rattle.bern_base.specs.declared.refusal.Rule.{Rule}
use Rattle.bern_base.specs.declared.refusal.Rule.TheVariants.{F7}
use Rattle.bern_base.specs.declared.refusal.Refusal.TheVariants.{File}
use Rattle.bern_ports.specs.Files.{Files, bytes_of}
use Rattle.bern_base.specs.declared.limits.TheConstants.{MOST_WEIGHT}
use Rattle.mm_profile.specs.Profile.{Fault, mm, and_then}
use Rattle.job_files.specs.declared.uses.Use.{Use}
use Rattle.job_files.specs.declared.uses.Use.TheVariants as by
use Rattle.job_files.specs.Uses.{entries_from, entries_in, entries_of, entries_read, file_of, is_of, matrices_from, matrix_from, mentioned, diagonals_of, file_use, is_array}
use Rattle.job_files.specs.FileOrder.{Refused, Stop, added, first_broken, found, has, judged, stop_of, stop_of_uses, weight_after, weight_with, within_limit}
use Rattle.job_files.proofs.ArrayLemmas.{own_uses}
use Rattle.job_files.proofs.MentionLemmas.{all_new, filter_filter, is_new, is_other}

-- how many entries a file has; none where it has no matrix
abbrev entries : Files → List ℕ → ℕ
entries files name = length (entries_in files name)

-- what the files that pass a test add, use by use
abbrev by_use : (List ℕ → ℕ) → (List ℕ → Bool) → List Use → ℕ
by_use e p us = sum_by (λ v. cond (p (file_of v)) (e (file_of v)) 0) us

-- and file by file
abbrev by_file : (List ℕ → ℕ) → List Use → List ℕ → ℕ
by_file e us n = count_by (is_of n) us * e n

bytes_eq_sym : (a b : List ℕ) → bytes_eq a b ≡ bytes_eq b a
bytes_eq_sym a b = same_from_decides (bytes_eq a b) (bytes_eq b a) (bytes_eq-Decides a b) (λ same. sym ((bytes_eq-Decides b a).0 same), λ same. (bytes_eq-Decides b a).1 (sym same))

one_more : (c e : ℕ) → (1 + c) * e ≡ e + c * e
one_more c e = grind arith

-- one more use, with the uses of one file apart from the others
apart_same : (x rest others count : ℕ) (passes : Bool) → rest ≡ others + cond passes (count * x) 0 → cond passes x 0 + rest ≡ (0 + others) + cond passes ((1 + count) * x) 0
apart_same x rest others count true split = omega (arith, split, one_more count x)
apart_same x rest others count false split = omega (arith, split)

apart_other : (y x rest others count : ℕ) (passes : Bool) → rest ≡ others + cond passes (count * x) 0 → y + rest ≡ (y + others) + cond passes ((0 + count) * x) 0
apart_other y x rest others count true split = omega (arith, split, ap (λ c. c * x) (zero-add count))
apart_other y x rest others count false split = omega (arith, split)

apart_at : (e : List ℕ → ℕ) (p : List ℕ → Bool) (u v : Use) (rest others count : ℕ) (same : Bool) → bytes_eq (file_of v) (file_of u) ≡ same → rest ≡ others + cond (p (file_of u)) (count * e (file_of u)) 0 →
    cond (p (file_of v)) (e (file_of v)) 0 + rest ≡ (cond (not same && p (file_of v)) (e (file_of v)) 0 + others) + cond (p (file_of u)) ((cond same 1 0 + count) * e (file_of u)) 0
apart_at e p u v rest others count true is split =
    ap (λ n. cond (p n) (e n) 0 + rest) ((bytes_eq-Decides (file_of v) (file_of u)).0 is) ∙ apart_same (e (file_of u)) rest others count (p (file_of u)) split
apart_at e p u v rest others count false is split = apart_other (cond (p (file_of v)) (e (file_of v)) 0) (e (file_of u)) rest others count (p (file_of u)) split

apart : (e : List ℕ → ℕ) (p : List ℕ → Bool) (u : Use) (us : List Use) → by_use e p us ≡ by_use e (λ n. is_other u n && p n) us + cond (p (file_of u)) (by_file e us (file_of u)) 0
apart e p u [] = none (p (file_of u))
  where
    none : (passes : Bool) → 0 ≡ 0 + cond passes (0 * e (file_of u)) 0
    none true = omega arith
    none false = omega arith
apart e p u (v ∷ us) =
    let q : List ℕ → Bool = λ n. is_other u n && p n in
    sum_by-cons (λ w. cond (p (file_of w)) (e (file_of w)) 0) v us
    ∙ apart_at e p u v (by_use e p us) (by_use e q us) (count_by (is_of (file_of u)) us) (bytes_eq (file_of v) (file_of u)) refl (apart e p u us)
    ∙ ap (λ b. (cond (not b && p (file_of v)) (e (file_of v)) 0 + by_use e q us) + cond (p (file_of u)) ((cond (bytes_eq (file_of v) (file_of u)) 1 0 + count_by (is_of (file_of u)) us) * e (file_of u)) 0) (bytes_eq_sym (file_of v) (file_of u))
    ∙ ap (λ s. s + cond (p (file_of u)) ((cond (bytes_eq (file_of v) (file_of u)) 1 0 + count_by (is_of (file_of u)) us) * e (file_of u)) 0) (sym (sum_by-cons (λ w. cond (q (file_of w)) (e (file_of w)) 0) v us))
    ∙ ap (λ c. by_use e q (v ∷ us) + cond (p (file_of u)) (c * e (file_of u)) 0) (sym (sum_by-cons (λ w. cond (is_of (file_of u) w) 1 0) v us))

sum_agree : (f g : List ℕ → ℕ) (q : List ℕ → Bool) → ((n : List ℕ) → q n ≡ true → f n ≡ g n) → (names : List (List ℕ)) → sum_by f (filter q names) ≡ sum_by g (filter q names)
sum_agree f g q agree [] = refl
sum_agree f g q agree (n ∷ names) = at (q n) refl (sum_agree f g q agree names)
  where
    at : (b : Bool) → q n ≡ b → sum_by f (filter q names) ≡ sum_by g (filter q names) → sum_by f (cond b (n ∷ filter q names) (filter q names)) ≡ sum_by g (cond b (n ∷ filter q names) (filter q names))
    at true is rest = sum_by-cons f n (filter q names) ∙ ap (λ s. s + sum_by f (filter q names)) (agree n is) ∙ ap (λ s. g n + s) rest ∙ sym (sum_by-cons g n (filter q names))
    at false is rest = rest

-- the uses of another file stay as many
others_as_before : (e : List ℕ → ℕ) (p : List ℕ → Bool) (u : Use) (us : List Use) (n : List ℕ) → (is_other u n && p n) ≡ true → by_file e (u ∷ us) n ≡ by_file e us n
others_as_before e p u us n passes =
    let other : is_of n u ≡ false = not-true (is_of n u) (and_parts (is_other u n) (p n) passes).0 in
    ap (λ c. c * e n) (sum_by-cons (λ w. cond (is_of n w) 1 0) u us ∙ ap (λ b. cond b 1 0 + count_by (is_of n) us) other ∙ zero-add (count_by (is_of n) us))

first_of : (g : List ℕ → ℕ) (x : List ℕ) (names : List (List ℕ)) (b : Bool) → sum_by g (cond b (x ∷ names) names) ≡ cond b (g x) 0 + sum_by g names
first_of g x names true = sum_by-cons g x names
first_of g x names false = omega arith

first_use : (x c others all : ℕ) (passes : Bool) → all ≡ others + cond passes (c * x) 0 → cond passes ((1 + c) * x) 0 + others ≡ cond passes x 0 + all
first_use x c others all true split = omega (arith, split, one_more c x)
first_use x c others all false split = omega (arith, split)

-- the files by first mention add what the uses add
by_files : (e : List ℕ → ℕ) (us : List Use) (p : List ℕ → Bool) → sum_by (by_file e us) (filter p (mentioned us)) ≡ by_use e p us
by_files e [] p = refl
by_files e (u ∷ us) p =
    let q : List ℕ → Bool = λ n. is_other u n && p n in
    let names : List (List ℕ) = filter p (filter (is_other u) (mentioned us)) in
    let own : count_by (is_of (file_of u)) (u ∷ us) ≡ 1 + count_by (is_of (file_of u)) us =
    sum_by-cons (λ w. cond (is_of (file_of u) w) 1 0) u us ∙ ap (λ b. cond b 1 0 + count_by (is_of (file_of u)) us) ((bytes_eq-Decides (file_of u) (file_of u)).1 refl) in
    let rest : sum_by (by_file e (u ∷ us)) names ≡ by_use e q us =
    ap (sum_by (by_file e (u ∷ us))) (filter_filter p (is_other u) q (λ n. refl) (mentioned us))
    ∙ sum_agree (by_file e (u ∷ us)) (by_file e us) q (others_as_before e p u us) (mentioned us)
    ∙ by_files e us q in
    first_of (by_file e (u ∷ us)) (file_of u) names (p (file_of u))
    ∙ ap (λ s. cond (p (file_of u)) (by_file e (u ∷ us) (file_of u)) 0 + s) rest
    ∙ ap (λ c. cond (p (file_of u)) (c * e (file_of u)) 0 + by_use e q us) own
    ∙ first_use (e (file_of u)) (count_by (is_of (file_of u)) us) (by_use e q us) (by_use e p us) (p (file_of u)) (apart e p u us)
    ∙ sym (sum_by-cons (λ w. cond (p (file_of w)) (e (file_of w)) 0) u us)

-- what a file adds that is taken
weighs : (files : Files) (uses : List Use) (weight sum : ℕ) (name : List ℕ) (bytes : Option (List ℕ)) → and_then (found uses name bytes) (λ m. within_limit name (weight + added uses name m)) ≡ Ok sum →
    (sum ≡ weight + count_by (is_of name) uses * length (entries_read bytes)) × (sum ≤ MOST_WEIGHT)
weighs files uses weight sum name None is = absurd cc
weighs files uses weight sum name (Some bytes) is = read (mm bytes) is
  where
    within : (total : ℕ) (past : Bool) → nat_lt MOST_WEIGHT total ≡ past → (if past then Err (Refused (File name 0 F7)) else Ok total) ≡ Ok sum → (sum ≡ total) × (sum ≤ MOST_WEIGHT)
    within total true at is = absurd cc
    within total false at is = let same : total ≡ sum = cc in (sym same, subst (λ t. t ≤ MOST_WEIGHT) same (ltb-false MOST_WEIGHT total at))

    fits : (m : Matrix) (broken : Option Rule) → and_then (judged name m broken) (λ n. within_limit name (weight + added uses name n)) ≡ Ok sum →
        (sum ≡ weight + added uses name m) × (sum ≤ MOST_WEIGHT)
    fits m None is = within (weight + added uses name m) (nat_lt MOST_WEIGHT (weight + added uses name m)) refl is
    fits m (Some rule) is = absurd cc

    read : (result : Result Matrix Fault) → and_then (has uses name result) (λ m. within_limit name (weight + added uses name m)) ≡ Ok sum →
        (sum ≡ weight + count_by (is_of name) uses * length (entries_of result)) × (sum ≤ MOST_WEIGHT)
    read (Ok m) is = fits m (first_broken name m uses) is
    read (Err fault) is = absurd cc

-- the weight after files is what they add, within the limit
record Total (files : Files) (uses : List Use) (weight : ℕ) (names : List (List ℕ)) (now : ℕ) : Type 0 where
  sum : now ≡ weight + sum_by (by_file (entries files) uses) names
  light : weight ≤ MOST_WEIGHT → now ≤ MOST_WEIGHT

total_at : (files : Files) (uses : List Use) (weight now : ℕ) (name : List ℕ) (names : List (List ℕ)) (first : Result ℕ Stop) → weight_with files uses weight name ≡ first →
    ((sum : ℕ) → weight_after files uses sum names ≡ Ok now → Total files uses sum names now) → and_then first (λ sum. weight_after files uses sum names) ≡ Ok now → Total files uses weight (name ∷ names) now
total_at files uses weight now name names (Ok sum) is rest later =
    let here = weighs files uses weight sum name (bytes_of files name) is in
    let later = rest sum later in
    record {
      sum =
          later.sum ∙ omega (arith, here.0) ∙ ap (λ s. weight + s) (sym (sum_by-cons (by_file (entries files) uses) name names));
      light = λ light. later.light here.1;
    }
total_at files uses weight now name names (Err stop) is rest later = absurd cc

total : (files : Files) (uses : List Use) (names : List (List ℕ)) (weight now : ℕ) → weight_after files uses weight names ≡ Ok now → Total files uses weight names now
total files uses [] weight now later =
    let same : weight ≡ now = cc in record { sum = omega (arith, same); light = λ light. subst (λ w. w ≤ MOST_WEIGHT) same light }
total files uses (name ∷ names) weight now later =
    total_at files uses weight now name names (weight_with files uses weight name) refl (λ sum later. total files uses names sum now later) later

-- some of the uses add no more than all
of_some : (files : Files) (p : Use → Bool) (uses : List Use) → by_use (entries files) (is_new []) (filter p uses) ≤ by_use (entries files) (is_new []) uses
of_some files p [] = omega arith
of_some files p (u ∷ uses) =
    let f : Use → ℕ = λ w. cond (is_new [] (file_of w)) (entries files (file_of w)) 0 in
    let later : by_use (entries files) (is_new []) (filter p uses) ≤ by_use (entries files) (is_new []) uses = of_some files p uses in
    let all : sum_by f (u ∷ uses) ≡ f u + sum_by f uses = sum_by-cons f u uses in
    elim (p u) as (λ b. sum_by f (cond b (u ∷ filter p uses) (filter p uses)) ≤ sum_by f (u ∷ uses)) [
      | true ↦ (let some : sum_by f (u ∷ filter p uses) ≡ f u + sum_by f (filter p uses) = sum_by-cons f u (filter p uses) in omega (arith, some, all, later))
      | false ↦ omega (arith, all, later)
    ]

-- the matrices of the arrays have no more than what the files of their uses add
of_array : (files : Files) (array : ArrayDecl) (diagonals : Option (List ℤ)) (uses : List Use) (file : Option (List ℕ)) (sum : ℕ) → sum ≤ by_use (entries files) (is_new []) uses →
    length (entries_from (entries_in files) file) + sum ≤ by_use (entries files) (is_new []) (file_use array diagonals file ++ uses)
of_array files array diagonals uses None sum is = omega (arith, is)
of_array files array diagonals uses (Some file) sum is =
    let all = sum_by-cons (λ w. cond (is_new [] (file_of w)) (entries files (file_of w)) 0) (by.Array file array.rows array.cols diagonals) uses in omega (arith, is, all)

of_arrays : (files : Files) (formats : List FormatDecl) (arrays : List ArrayDecl) → sum_by (λ m. length m.entries) (matrices_from (entries_in files) arrays) ≤ by_use (entries files) (is_new []) (own_uses formats arrays)
of_arrays files formats [] = omega arith
of_arrays files formats (array ∷ arrays) =
    let rest : ℕ = sum_by (λ m. length m.entries) (matrices_from (entries_in files) arrays) in
    let all = sum_by-cons (λ m. length m.entries) (matrix_from (entries_in files) array) (matrices_from (entries_in files) arrays) in
    let here = of_array files array (diagonals_of formats array) (own_uses formats arrays) array.file rest (of_arrays files formats arrays) in
    omega (arith, all, here)

pub arrays_keep : (files : Files) (weight : ℕ) (formats : List FormatDecl) (arrays : List ArrayDecl) (uses : List Use) → filter is_array uses ≡ own_uses formats arrays → weight ≤ MOST_WEIGHT → stop_of_uses files weight uses ≡ None →
    weight + sum_by (λ m. length m.entries) (matrices_from (entries_in files) arrays) ≤ MOST_WEIGHT
arrays_keep files weight formats arrays uses own light fine = at (weight_after files uses weight (mentioned uses)) refl fine
  where
    at : (last : Result ℕ Stop) → weight_after files uses weight (mentioned uses) ≡ last → stop_of last ≡ None → weight + sum_by (λ m. length m.entries) (matrices_from (entries_in files) arrays) ≤ MOST_WEIGHT
    at (Ok now) is fine =
        let all = total files uses (mentioned uses) weight now is in
        let sums : sum_by (by_file (entries files) uses) (mentioned uses) ≡ by_use (entries files) (is_new []) uses =
        ap (sum_by (by_file (entries files) uses)) (all_new (mentioned uses)) ∙ by_files (entries files) uses (is_new []) in
        let most = all.light light in
        let sum = all.sum in
        let few = of_arrays files formats arrays in
        let some = subst (λ us. by_use (entries files) (is_new []) us ≤ by_use (entries files) (is_new []) uses) own (of_some files is_array uses) in
        omega (arith, sums, most, sum, few, some)
    at (Err stop) is fine = absurd cc
