-- The place of a name among files, and counts beside the files.
use Rattle.std.proofs.Common.{◌≡◌, ℕ, ◌+◌, ◌-◌, ◌^◌, ◌<◌, ◌≤◌, min, true, false, List, [], length, get_or, set, Some, None, Option, Err, sym, ap, ◌∙◌, subst, refl, inl, inr, arith, cond, ltb}
use Rattle.std.proofs.lemmas.List.{get_or-set_same, get_or-set_other, get_or_default}
use Rattle.std.proofs.lemmas.List.Quantifiers.{position-Some}
use Rattle.std.proofs.lemmas.List.Sums.{position_or_len_is}
use Rattle.std.proofs.lemmas.Slice.Eq.{bytes_eq-Decides}
use Rattle.std.proofs.lemmas.Bool.{cases_eq, cases_Bool, lt-ltb}
use Rattle.std.specs.Option.{unwrap_or}
use Rattle.std.specs.List.{position_or_len}
use Rattle.bern_ports.specs.Files.{Files, is_named, place_of, file_at, AreOnce, BlamesOnly}
use Rattle.bern_ports.specs.MemShelf.{count_of, count_at}

pub place-Some : (files : Files) (name : List ℕ) (i : ℕ) → place_of files name ≡ Some i → (i < length files) × ((file_at files i).0 ≡ name)
place-Some files name i found =
    let p = position-Some (is_named name) files i ([], []) found in
    (p.0, (bytes_eq-Decides (file_at files i).0 name).0 p.1)

different : (files : Files) (i k : ℕ) → AreOnce files → i < length files → k < i → is_named (file_at files i).0 (file_at files k) ≡ false
different files i k once inside below =
    elim (cases_Bool (is_named (file_at files i).0 (file_at files k))) [
      | inl named ↦ absurd (once k i ([], []) below inside ((bytes_eq-Decides (file_at files k).0 (file_at files i).0).0 named))
      | inr other ↦ other
    ]

-- where no name stands twice, the place of a file's name is the file's
pub place_own : (files : Files) (i : ℕ) → AreOnce files → i < length files → place_of files (file_at files i).0 ≡ Some i
place_own files i once inside =
    let named : is_named (file_at files i).0 (file_at files i) ≡ true = (bytes_eq-Decides (file_at files i).0 (file_at files i).0).1 refl in
    let first : position_or_len (is_named (file_at files i).0) files ≡ i =
    position_or_len_is (is_named (file_at files i).0) files i ([], []) (omega (arith, inside)) (λ k below. different files i k once inside below) (λ _. named) in
    subst (λ n. cond (ltb n (length files)) (Some n) None ≡ Some i) (sym first) (subst (λ b. cond b (Some i) None ≡ Some i) (sym (lt-ltb i (length files) inside)) refl)

-- the count of one place rises
abbrev raised : List ℕ → ℕ → List ℕ
raised counts i = set counts i (min (get_or counts i 0 + 1) (2 ^ 64 - 1))

raised_later : (counts : List ℕ) (i j : ℕ) → i < length counts → get_or counts i 0 < 2 ^ 64 → get_or counts j 0 ≤ get_or (raised counts i) j 0
raised_later counts i j inside fits =
    elim (cases_eq j i) [
      | inl same ↦ rw (same, get_or-set_same counts i (min (get_or counts i 0 + 1) (2 ^ 64 - 1)) 0 inside) (omega (arith, fits))
      | inr other ↦ rw (get_or-set_other counts i j (min (get_or counts i 0 + 1) (2 ^ 64 - 1)) 0 other) (omega arith)
    ]

later_at : (counts : List ℕ) (i : ℕ) (place : Option ℕ) → i < length counts → get_or counts i 0 < 2 ^ 64 → count_at counts place ≤ count_at (raised counts i) place
later_at counts i None inside fits = omega arith
later_at counts i (Some j) inside fits = raised_later counts i j inside fits

other_at : (counts : List ℕ) (i : ℕ) (place : Option ℕ) → (place ≡ Some i → ⊥) → count_at (raised counts i) place ≡ count_at counts place
other_at counts i None other = refl
other_at counts i (Some j) other = get_or-set_other counts i j (min (get_or counts i 0 + 1) (2 ^ 64 - 1)) 0 (λ same. other (ap (λ k. Some k) same))

-- a failed call on a file leaves the counts of all other names, and its own rises
pub blames : {T E : Type 0} (files : Files) (name : List ℕ) (i : ℕ) (counts : List ℕ) (e : E) → place_of files name ≡ Some i → length counts ≡ length files → get_or counts i 0 < 2 ^ 64
    → BlamesOnly {T = T} (Some files) name (count_of files counts) (count_of files (set counts i (min (get_or counts i 0 + 1) (2 ^ 64 - 1)))) (Err e)
blames files name i counts e found beside fits =
    let inside : i < length counts = rw beside ((place-Some files name i found).0) in
    record {
      later = λ n. later_at counts i (place_of files n) inside fits;
      ok = tt;
      others = λ n differs. other_at counts i (place_of files n) (λ same. differs (sym (place-Some files n i same).1 ∙ (place-Some files name i found).1));
      own = λ _. rw (found, get_or-set_same counts i (min (get_or counts i 0 + 1) (2 ^ 64 - 1)) 0 inside) (omega arith);
    }

-- names whose first place is their own stand once
pub once_from_places : (files : Files) → ((k : ℕ) → k < length files → place_of files (file_at files k).0 ≡ Some k) → AreOnce files
once_from_places files own i j d before inside same =
    let first : i < length files = omega (arith, before, inside) in
    let names : (file_at files i).0 ≡ (file_at files j).0 =
    ap (λ f. f.0) (get_or_default files i ([], []) d first) ∙ same ∙ ap (λ f. f.0) (get_or_default files j d ([], []) inside) in
    let places : i ≡ j = ap (λ o. unwrap_or o i) (sym (own i first) ∙ ap (place_of files) names ∙ own j inside) in
    omega (arith, before, places)
