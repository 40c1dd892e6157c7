-- Lines and words, piece by piece.
use Rattle.std.proofs.Common.{◌≡◌, nat_le, ℕ, suc, ◌+◌, ◌<◌, ◌≤◌, Bool, true, false, not, List, [], ◌∷◌, ◌++◌, length, take, drop, get_or, filter, refl, ap, ◌∙◌, inl, inr, arith, ◌==◌, ◌||◌}
use Rattle.std.proofs.lemmas.Bool.{cases_Bool, false≢true, eqb-true, or_cases, or_parts, or_from, not-true, cases_lt, cases_eq, lt-ltb, le-ltb, leb-true, ne_eqb, and_parts, and_right, both_ways}
use Rattle.std.proofs.lemmas.List.Folds.{list_all_at}
use Rattle.std.specs.List.{list_all}
use Rattle.mm_profile.specs.Numbers.{is_digit, is_natural, is_minus, is_plus, is_integer}
use Rattle.std.proofs.lemmas.List.{get_or-drop, get_or-take, length-drop, length-take, nil_from_length}
use Rattle.std.proofs.lemmas.List.Sums.{passes_at_first, position_or_len_is, prefix_len-le-length, AllPass-from_list_all}
use Rattle.std.specs.Prelude.{position, unwrap_or}
use Rattle.std.proofs.Math.Nat.{add-zero}
use Rattle.std.specs.List.{position_or_len, list_any}
use Rattle.mm_profile.specs.Profile.{is_skipped}
use Rattle.mm_profile.specs.Lines.{longer, cut, is_blank, is_empty, words}

-- the pieces of a text that begins with this byte
pub longer-cut : (ends : ℕ → Bool) (b : ℕ) (xs : List ℕ) → longer b (cut ends xs) ≡ (b ∷ take (position_or_len ends xs) xs) ∷ cut ends (drop (position_or_len ends xs + 1) xs)
longer-cut ends b [] = refl
longer-cut ends b (x ∷ xs) =
    elim (cases_Bool (ends x)) [
      | inl e ↦ rw e refl
      | inr e ↦
          let one : 1 + position_or_len ends xs ≡ suc (position_or_len ends xs) = omega arith in
          let two : 1 + position_or_len ends xs + 1 ≡ suc (position_or_len ends xs + 1) = omega arith in
          rw (e, longer-cut ends x xs, two, one) refl
    ]

-- the first piece and those of what stands after it
pub cut_step : (ends : ℕ → Bool) (xs : List ℕ) → 0 < length xs → cut ends xs ≡ take (position_or_len ends xs) xs ∷ cut ends (drop (position_or_len ends xs + 1) xs)
cut_step ends [] some = absurd (omega arith)
cut_step ends (x ∷ xs) some =
    elim (cases_Bool (ends x)) [
      | inl e ↦ rw e refl
      | inr e ↦
          let one : 1 + position_or_len ends xs ≡ suc (position_or_len ends xs) = omega arith in
          let two : 1 + position_or_len ends xs + 1 ≡ suc (position_or_len ends xs + 1) = omega arith in
          rw (e, longer-cut ends x xs, two, one) refl
    ]

-- the words after the end of one, with the byte that ends it or without
pub words_rest : (xs : List ℕ) → words (drop (position_or_len is_blank xs + 1) xs) ≡ words (drop (position_or_len is_blank xs) xs)
words_rest [] = refl
words_rest (x ∷ xs) =
    elim (cases_Bool (is_blank x)) [
      | inl e ↦ rw e (rw e refl)
      | inr e ↦
          let one : 1 + position_or_len is_blank xs ≡ suc (position_or_len is_blank xs) = omega arith in
          let two : 1 + position_or_len is_blank xs + 1 ≡ suc (position_or_len is_blank xs + 1) = omega arith in
          rw (e, two, one) (words_rest xs)
    ]

-- the line from its first word on
abbrev from_word : List ℕ → List ℕ
from_word xs = drop (position_or_len (λ b. not (is_blank b)) xs) xs

-- blanks before the first word don't matter
pub words_skip : (xs : List ℕ) → words xs ≡ words (drop (position_or_len (λ b. not (is_blank b)) xs) xs)
words_skip [] = refl
words_skip (x ∷ xs) =
    elim (cases_Bool (is_blank x)) [
      | inl e ↦
          let one : 1 + position_or_len (λ b. not (is_blank b)) xs ≡ suc (position_or_len (λ b. not (is_blank b)) xs) = omega arith in
          rw e (rw one (words_skip xs))
      | inr e ↦ let none : position_or_len (λ b. not (is_blank b)) (x ∷ xs) ≡ 0 = rw e refl in rw none refl
    ]

-- a text that does not begin with a blank begins with a word
pub words_step : (xs : List ℕ) → 0 < length xs → is_blank (get_or xs 0 0) ≡ false → words xs ≡ take (position_or_len is_blank xs) xs ∷ words (drop (position_or_len is_blank xs) xs)
words_step [] some first = absurd (omega arith)
words_step (x ∷ xs) some first =
    let one : 1 + position_or_len is_blank xs ≡ suc (position_or_len is_blank xs) = omega arith in
    let two : suc (position_or_len is_blank xs) + 1 ≡ suc (position_or_len is_blank xs + 1) = omega arith in
    rw (cut_step is_blank (x ∷ xs) some) (rw (first, one, two) (ap (λ ws. (x ∷ take (position_or_len is_blank xs) xs) ∷ ws) (words_rest xs)))

pub first_byte : (xs : List ℕ) → 0 < length (from_word xs) → is_blank (get_or (from_word xs) 0 0) ≡ false
first_byte xs some =
    let n = position_or_len (λ b. not (is_blank b)) xs in
    let inside : n < length xs = omega (arith, some, length-drop n xs) in
    rw (get_or-drop n xs 0 0, add-zero n) (not-true _ (passes_at_first (λ b. not (is_blank b)) xs 0 inside))

-- a line has its first word where blanks end, and none where they don't
pub words_next : (xs : List ℕ) → 0 < length (from_word xs) → words xs ≡ take (position_or_len is_blank (from_word xs)) (from_word xs) ∷ words (drop (position_or_len is_blank (from_word xs)) (from_word xs))
words_next xs some = words_skip xs ∙ words_step (from_word xs) some (first_byte xs some)

pub words_none : (xs : List ℕ) → length (from_word xs) ≡ 0 → words xs ≡ []
words_none xs none = words_skip xs ∙ ap words (nil_from_length (from_word xs) none)

-- a word begins with its first byte
word_first : (xs : List ℕ) → 0 < length xs → is_blank (get_or xs 0 0) ≡ false → get_or (take (position_or_len is_blank xs) xs) 0 0 ≡ get_or xs 0 0
word_first [] some first = absurd (omega arith)
word_first (x ∷ xs) some first =
    let one : 1 + position_or_len is_blank xs ≡ suc (position_or_len is_blank xs) = omega arith in
    rw (first, one) refl

pub skipped_none : (xs : List ℕ) → length (from_word xs) ≡ 0 → is_skipped (words xs) ≡ true
skipped_none xs none = rw (words_none xs none) refl

pub skipped_first : (xs : List ℕ) → 0 < length (from_word xs) → is_skipped (words xs) ≡ (get_or (from_word xs) 0 0 == 37)
skipped_first xs some = rw (words_next xs some) (ap (λ b. b == 37) (word_first (from_word xs) some (first_byte xs some)))

digit-blank : (b : ℕ) → is_digit b ≡ true → is_blank b ≡ false
digit-blank b digit =
    let above : 48 ≤ b = leb-true 48 b (and_parts (nat_le 48 b) (nat_le b 57) digit).0 in
    or_from _ _ (ne_eqb b 32 (λ e. omega (arith, e, above))) (ne_eqb b 9 (λ e. omega (arith, e, above)))

-- no blank stands among digits
pub digits-blank : (xs : List ℕ) (k j : ℕ) → list_all is_digit (take k xs) ≡ true → j < k → j < length xs → is_blank (get_or xs j 0) ≡ false
digits-blank xs k j digits below inside =
    let within : j < length (take k xs) = omega (arith, length-take k xs, below, inside) in
    digit-blank (get_or xs j 0) (rw (← get_or-take k xs j 0 below) (AllPass-from_list_all is_digit (take k xs) digits j 0 within))

-- a word of digits ends at a blank or at the end of the line
pub digits-end : (xs : List ℕ) (k : ℕ) → k ≤ length xs → list_all is_digit (take k xs) ≡ true → (k < length xs → is_blank (get_or xs k 0) ≡ true) → position_or_len is_blank xs ≡ k
digits-end xs k within digits end =
    position_or_len_is is_blank xs k 0 within (λ j below. digits-blank xs k j digits below (omega (arith, below, within))) end

-- a word with a byte that is no digit is no number
pub other-natural : (xs : List ℕ) (k : ℕ) → list_all is_digit (take k xs) ≡ true → k < length xs → is_digit (get_or xs k 0) ≡ false → is_blank (get_or xs k 0) ≡ false
    → is_natural (take (position_or_len is_blank xs) xs) ≡ false
other-natural xs k digits inside other dark =
    let n = position_or_len is_blank xs in
    let later : k < n = elim (cases_lt k n) [ inl below ↦ below | inr above ↦ absurd (early above) ] in
    let place : k < length (take n xs) = omega (arith, length-take n xs, later, inside) in
    and_right _ _ (list_all_at is_digit (take n xs) k 0 place (rw (get_or-take n xs k 0 later) other))
  where
    early : position_or_len is_blank xs ≤ k → ⊥
    early above =
        let found = passes_at_first is_blank xs 0 (omega (arith, above, inside)) in
        elim (cases_eq (position_or_len is_blank xs) k) [
          | inl same ↦ both_ways _ dark (rw same at found)
          | inr ne ↦ both_ways _ (digits-blank xs k (position_or_len is_blank xs) digits (omega (arith, above, ne)) (omega (arith, above, inside))) found
        ]

-- the place of the first byte that passes, or the end
pub unwrap_or-position : (p : ℕ → Bool) (xs : List ℕ) → unwrap_or (position p xs) (length xs) ≡ position_or_len p xs
unwrap_or-position p xs =
    let within : position_or_len p xs ≤ length xs = prefix_len-le-length (λ b. not (p b)) xs in
    elim (cases_lt (position_or_len p xs) (length xs)) [
      | inl below ↦ rw (lt-ltb _ _ below) refl
      | inr above ↦ rw (le-ltb _ _ above) (omega arith)
    ]

-- bytes that end nothing, and one that ends a piece
pub cut_found : (ends : ℕ → Bool) (front : List ℕ) (b : ℕ) (rest : List ℕ) → list_any ends front ≡ false → ends b ≡ true → cut ends (front ++ b ∷ rest) ≡ front ∷ cut ends rest
cut_found ends [] b rest none found = rw found refl
cut_found ends (x ∷ front) b rest none found =
    let parts = or_parts (ends x) (list_any ends front) none in
    rw parts.0 (rw (cut_found ends front b rest parts.1 found) refl)

-- bytes that end nothing
pub cut_whole : (ends : ℕ → Bool) (x : ℕ) (front : List ℕ) → list_any ends (x ∷ front) ≡ false → cut ends (x ∷ front) ≡ (x ∷ front) ∷ []
cut_whole ends x [] none = rw (or_parts (ends x) false none).0 refl
cut_whole ends x (y ∷ front) none =
    let parts = or_parts (ends x) (list_any ends (y ∷ front)) none in
    rw parts.0 (ap (longer x) (cut_whole ends y front parts.1))

-- a blank at the start of a text belongs to no word
pub words_blank : (xs : List ℕ) → 0 < length xs → is_blank (get_or xs 0 0) ≡ true → words (drop 1 xs) ≡ words xs
words_blank [] some blank = absurd (omega arith)
words_blank (x ∷ xs) some blank = rw blank refl

-- no byte of a text of digits is a blank
digits_none : (xs : List ℕ) → list_all is_digit xs ≡ true → list_any is_blank xs ≡ false
digits_none [] digits = refl
digits_none (x ∷ xs) digits =
    let parts = and_parts (is_digit x) (list_all is_digit xs) digits in
    or_from _ _ (digit-blank x parts.0) (digits_none xs parts.1)

one_word : (x : ℕ) (xs : List ℕ) → is_blank x ≡ false → list_any is_blank xs ≡ false → words (x ∷ xs) ≡ (x ∷ xs) ∷ []
one_word x xs first rest = ap (filter (λ word. not (is_empty word))) (cut_whole is_blank x xs (or_from _ _ first rest))

-- a text that spells a number is one word
pub natural-word : (xs : List ℕ) → is_natural xs ≡ true → words xs ≡ xs ∷ []
natural-word [] spelled = absurd (false≢true spelled)
natural-word (x ∷ xs) spelled =
    let parts = and_parts (is_digit x) (list_all is_digit xs) spelled in
    one_word x xs (digit-blank x parts.0) (digits_none xs parts.1)

-- with a sign too
pub integer-word : (xs : List ℕ) → is_integer xs ≡ true → words xs ≡ xs ∷ []
integer-word [] spelled = absurd (false≢true spelled)
integer-word (x ∷ xs) spelled =
    elim (cases_Bool (is_minus (x ∷ xs) || is_plus (x ∷ xs))) [
      | inl signed ↦ one_word x xs (sign-blank x signed) (digits_none xs (natural-digits xs (rw signed at spelled)))
      | inr bare ↦ natural-word (x ∷ xs) (rw bare at spelled)
    ]
  where
    natural-digits : (xs : List ℕ) → is_natural xs ≡ true → list_all is_digit xs ≡ true
    natural-digits [] spelled = refl
    natural-digits (x ∷ xs) spelled = spelled

    sign-blank : (b : ℕ) → (b == 45 || b == 43) ≡ true → is_blank b ≡ false
    sign-blank b signed =
        elim (or_cases (b == 45) (b == 43) signed) [
          | inl minus ↦ or_from _ _ (ne_eqb b 32 (λ e. omega (arith, e, eqb-true b 45 minus))) (ne_eqb b 9 (λ e. omega (arith, e, eqb-true b 45 minus)))
          | inr plus ↦ or_from _ _ (ne_eqb b 32 (λ e. omega (arith, e, eqb-true b 43 plus))) (ne_eqb b 9 (λ e. omega (arith, e, eqb-true b 43 plus)))
        ]
