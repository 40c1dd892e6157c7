-- Lines of numbers: no byte of a number is a blank, ends a line, or begins a comment.
use Rattle.std.proofs.Common.{◌≡◌, ℕ, zero, suc, ◌-◌, ◌<◌, Bool, true, false, ◌==◌, ◌||◌, not, nat_le, List, [], ◌∷◌, ◌++◌, length, filter, get_or, refl, ap, inl, inr, arith}
use Rattle.std.specs.List.{list_all, list_any}
use Rattle.std.proofs.lemmas.Bool.{cases_Bool, false≢true, and_parts, or_parts, or_from, or_cases, leb-true, eqb-true, ne_eqb}
use Rattle.mm_profile.specs.Lines.{is_blank, is_line_feed, is_empty, words, without_return}
use Rattle.mm_profile.specs.Numbers.{is_digit, is_natural, is_minus, is_plus, is_integer}
use Rattle.mm_profile.specs.Profile.{is_skipped}
use Rattle.mm_text.proofs.LinesLemmas.{cut_found}

-- a test that no byte of a number passes
pub record IsForeign (p : ℕ → Bool) : Type 0 where
  pub digit : (b : ℕ) → is_digit b ≡ true → p b ≡ false
  pub minus : p 45 ≡ false
  pub plus : p 43 ≡ false

foreign-digits : (p : ℕ → Bool) → IsForeign p → (w : List ℕ) → list_all is_digit w ≡ true → list_any p w ≡ false
foreign-digits p f [] digits = refl
foreign-digits p f (b ∷ w) digits =
    let parts = and_parts (is_digit b) (list_all is_digit w) digits in
    or_from _ _ (f.digit b parts.0) (foreign-digits p f w parts.1)

pub foreign-natural : (p : ℕ → Bool) → IsForeign p → (w : List ℕ) → is_natural w ≡ true → list_any p w ≡ false
foreign-natural p f [] spelled = refl
foreign-natural p f (b ∷ w) spelled = foreign-digits p f (b ∷ w) spelled

pub foreign-integer : (p : ℕ → Bool) → IsForeign p → (w : List ℕ) → is_integer w ≡ true → list_any p w ≡ false
foreign-integer p f [] spelled = refl
foreign-integer p f (b ∷ w) spelled =
    elim (cases_Bool (is_minus (b ∷ w) || is_plus (b ∷ w))) [
      | inl signed ↦ or_from _ _ (sign signed) (foreign-natural p f w (rw signed at spelled))
      | inr bare ↦ foreign-natural p f (b ∷ w) (rw bare at spelled)
    ]
  where
    sign : (b == 45 || b == 43) ≡ true → p b ≡ false
    sign signed = elim (or_cases (b == 45) (b == 43) signed) [ inl is ↦ rw (eqb-true b 45 is) f.minus | inr is ↦ rw (eqb-true b 43 is) f.plus ]

-- each byte below the signs
below_signs : (x : ℕ) → x < 43 → IsForeign (λ b. b == x)
below_signs x small = record {
  digit = λ b digit. ne_eqb b x (λ e. omega (arith, e, small, leb-true 48 b (and_parts (nat_le 48 b) (nat_le b 57) digit).0));
  minus = ne_eqb 45 x (λ e. omega (arith, e, small));
  plus = ne_eqb 43 x (λ e. omega (arith, e, small));
}

pub blanks_foreign : IsForeign is_blank
blanks_foreign = record {
  digit = λ b digit. or_from _ _ ((below_signs 32 (omega arith)).digit b digit) ((below_signs 9 (omega arith)).digit b digit);
  minus = refl;
  plus = refl;
}

pub feeds_foreign : IsForeign is_line_feed
feeds_foreign = below_signs 10 (omega arith)

abbrev pub is_return : ℕ → Bool
is_return b = b == 13

pub returns_foreign : IsForeign is_return
returns_foreign = below_signs 13 (omega arith)

-- a word that a blank ends
pub words_more : (w : List ℕ) (b : ℕ) (rest : List ℕ) → is_natural w ≡ true → is_blank b ≡ true → words (w ++ b ∷ rest) ≡ w ∷ words rest
words_more [] b rest spelled blank = absurd (false≢true spelled)
words_more (x ∷ w) b rest spelled blank =
    ap (filter (λ word. not (is_empty word))) (cut_found is_blank (x ∷ w) b rest (foreign-natural is_blank blanks_foreign (x ∷ w) spelled) blank)

-- a line whose first word is a number is not skipped
not_skipped : (w : List ℕ) (ws : List (List ℕ)) → list_any (λ b. b == 37) w ≡ false → is_skipped (w ∷ ws) ≡ false
not_skipped [] ws none = refl
not_skipped (b ∷ w) ws none = (or_parts (b == 37) (list_any (λ b. b == 37) w) none).0

pub natural_kept : (w : List ℕ) (ws : List (List ℕ)) → is_natural w ≡ true → is_skipped (w ∷ ws) ≡ false
natural_kept w ws spelled = not_skipped w ws (foreign-natural (λ b. b == 37) (below_signs 37 (omega arith)) w spelled)

pub integer_kept : (w : List ℕ) (ws : List (List ℕ)) → is_integer w ≡ true → is_skipped (w ∷ ws) ≡ false
integer_kept w ws spelled = not_skipped w ws (foreign-integer (λ b. b == 37) (below_signs 37 (omega arith)) w spelled)

-- the line of bytes of which none is a carriage return is whole
no_return_at : (line : List ℕ) (i : ℕ) → list_any is_return line ≡ false → (get_or line i 0 == 13) ≡ false
no_return_at [] i none = refl
no_return_at (b ∷ line) zero none = (or_parts (is_return b) (list_any is_return line) none).0
no_return_at (b ∷ line) (suc i) none = no_return_at line i (or_parts (is_return b) (list_any is_return line) none).1

pub without_return_whole : (line : List ℕ) → list_any is_return line ≡ false → without_return line ≡ line
without_return_whole line none = rw (no_return_at line (length line - 1) none) refl
