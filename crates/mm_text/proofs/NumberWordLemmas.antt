-- The number that the first word of a line spells.
use Rattle.std.proofs.Common.{◌≡◌, ℕ, ◌<◌, ◌≤◌, true, false, not, List, [], ◌∷◌, length, take, drop, get_or, refl, sym, ◌∙◌, inl, inr, arith}
use Rattle.std.specs.List.{list_all, position_or_len}
use Rattle.std.proofs.lemmas.Bool.{cases_lt, both_ways}
use Rattle.std.proofs.lemmas.List.{length-take}
use Rattle.mm_profile.specs.Lines.{is_blank, words, word_at}
use Rattle.mm_profile.specs.Numbers.{is_digit, is_natural, natural}
use Rattle.mm_text.specs.declared.numerals.Natural.TheVariants.{Small}
use Rattle.mm_text.specs.Naturals.{IsNextNatural}
use Rattle.mm_text.proofs.LinesLemmas.{words_next, words_none, first_byte, digits-end, other-natural}

-- the line from its first word on
abbrev from_word : List ℕ → List ℕ
from_word line = drop (position_or_len (λ b. not (is_blank b)) line) line

-- a byte that is neither a digit nor a blank follows the digits
pub next-other : (line from : List ℕ) (k : ℕ) → from ≡ from_word line → list_all is_digit (take k from) ≡ true → k < length from → is_digit (get_or from k 0) ≡ false → is_blank (get_or from k 0) ≡ false
    → is_natural (word_at (words line) 0) ≡ false
next-other line from k is digits inside other dark =
    let some : 0 < length (from_word line) = rw (← is) (omega (arith, inside)) in
    rw (words_next line some) (rw (← is) (other-natural from k digits inside other dark))

-- no digit comes first
pub next-none : (line from : List ℕ) → from ≡ from_word line → (0 < length from → is_blank (get_or from 0 0) ≡ true) → is_natural (word_at (words line) 0) ≡ false
next-none line from is end =
    elim (cases_lt 0 (length (from_word line))) [
      | inl some ↦ absurd (both_ways (is_blank (get_or (from_word line) 0 0)) (first_byte line some) (rw is at end some))
      | inr none ↦ rw (words_none line (omega (arith, none))) refl
    ]

-- the digits are the word
pub next-number : (line from : List ℕ) (k number : ℕ) → from ≡ from_word line → 0 < k → k ≤ length from → list_all is_digit (take k from) ≡ true → (k < length from → is_blank (get_or from k 0) ≡ true) → number ≡ natural (take k from)
    → IsNextNatural line (Small number) (drop k from)
next-number line from k number is above within digits end value =
    let some : 0 < length (from_word line) = rw (← is) (omega (arith, above, within)) in
    let stop : position_or_len is_blank (from_word line) ≡ k = rw (← is) (digits-end from k within digits end) in
    let split : words line ≡ take k from ∷ words (drop k from) = words_next line some ∙ rw (stop, ← is) refl in
    record {
      spelled = rw split (all_digits (take k from) (omega (arith, length-take k from, above, within)) digits);
      number = rw split (sym value);
      after = rw split refl;
    }
  where
    all_digits : (w : List ℕ) → 0 < length w → list_all is_digit w ≡ true → is_natural w ≡ true
    all_digits [] some digits = absurd (omega arith)
    all_digits (b ∷ w) some digits = digits
