-- What some bytes begin with: numbers and blanks, and the line that they make.
use Rattle.std.proofs.Common.{◌≡◌, ℕ, ◌+◌, ◌-◌, ◌*◌, Bool, true, false, ◌==◌, ◌||◌, List, [], ◌∷◌, ◌++◌, length, drop, get_or, refl, sym, ap, subst, ◌∙◌, inl, inr, arith, append_assoc}
use Rattle.std.specs.List.{list_any}
use Rattle.std.proofs.lemmas.Bool.{cases_Bool, false≢true, and_from, or_from, or_cases, eqb-true}
use Rattle.std.proofs.lemmas.List.{length_push, get_or_push, take-append-le, take_all}
use Rattle.std.proofs.lemmas.List.Folds.{list_any-append, list_all-append}
use Rattle.std.proofs.lemmas.List.Sums.{fold_push}
use Rattle.mm_profile.specs.Lines.{is_blank, is_line_feed, words, without_return}
use Rattle.mm_profile.specs.Numbers.{is_digit, is_natural, natural, is_minus, is_plus, unsigned}
use Rattle.mm_text.specs.declared.numerals.Natural.{Natural}
use Rattle.mm_text.specs.declared.numerals.Number.{Number}
use Rattle.mm_text.specs.Naturals.{StandsFor, IsNumber}
use Rattle.mm_text.specs.Fronts.{BeginsWithNatural, BeginsWithInteger, BeginsWithBlank, BeginsWithEnd, BeginsWithLine}
use Rattle.mm_text.specs.PlainLines.{SaysTriple, SaysPair, SaysValue}
use Rattle.mm_text.proofs.LinesLemmas.{natural-word, integer-word}
use Rattle.mm_text.proofs.NumberLines.{IsForeign, foreign-natural, foreign-integer, feeds_foreign, returns_foreign, is_return, without_return_whole, words_more, natural_kept, integer_kept}

-- a blank is no end of a line
blank_feed : (b : ℕ) → is_blank b ≡ true → is_line_feed b ≡ false
blank_feed b blank = elim (or_cases (b == 32) (b == 9) blank) [ inl is ↦ rw (eqb-true b 32 is) refl | inr is ↦ rw (eqb-true b 9 is) refl ]

blank_return : (b : ℕ) → is_blank b ≡ true → is_return b ≡ false
blank_return b blank = elim (or_cases (b == 32) (b == 9) blank) [ inl is ↦ rw (eqb-true b 32 is) refl | inr is ↦ rw (eqb-true b 9 is) refl ]

-- a word and a blank before other bytes of which none passes
none_more : (p : ℕ → Bool) (w : List ℕ) (b : ℕ) (rest : List ℕ) → list_any p w ≡ false → p b ≡ false → list_any p rest ≡ false → list_any p (w ++ b ∷ rest) ≡ false
none_more p w b rest none_w none_b none_rest = list_any-append p w (b ∷ rest) ∙ or_from _ _ none_w (or_from _ _ none_b none_rest)

-- one carriage return at the end
without_return_end : (line : List ℕ) → without_return (line ++ 13 ∷ []) ≡ line
without_return_end line =
    let back : length (line ++ 13 ∷ []) - 1 ≡ length line = omega (arith, length_push line 13) in
    rw back (rw (get_or_push line 13 0 (length line) refl) (take-append-le (length line) line (13 ∷ []) (omega arith) ∙ take_all (length line) line (omega arith)))

-- a text with the end of a line behind it
line_begins : (Says : List ℕ → Type 0) (bytes text after rest : List ℕ) → bytes ≡ text ++ after → BeginsWithEnd after rest → list_any is_line_feed text ≡ false → list_any is_return text ≡ false → Says text
    → BeginsWithLine bytes rest Says
line_begins Says bytes text after rest is (inl feed) no_feed no_return says = record {
  line = text;
  is = is ∙ ap (λ end. text ++ end) feed;
  whole = no_feed;
  says = subst Says (sym (without_return_whole text no_return)) says;
}
line_begins Says bytes text after rest is (inr both) no_feed no_return says = record {
  line = text ++ 13 ∷ [];
  is = is ∙ ap (λ end. text ++ end) both ∙ sym (append_assoc text (13 ∷ []) (10 ∷ rest));
  whole = list_any-append is_line_feed text (13 ∷ []) ∙ or_from _ _ no_feed refl;
  says = subst Says (sym (without_return_end text)) says;
}

-- a line that is a row, a column and a value
pub triple_begins : (piece a b c d e rest : List ℕ) (row col : Natural) (value : Number) → BeginsWithNatural piece row a → BeginsWithBlank a b → BeginsWithNatural b col c → BeginsWithBlank c d → BeginsWithInteger d value e → BeginsWithEnd e rest
    → BeginsWithLine piece rest (SaysTriple row col value)
triple_begins piece a b c d e rest row col value r after_r k after_k v end =
    line_begins (SaysTriple row col value) piece text e rest is end
    (none is_line_feed feeds_foreign (blank_feed after_r.blank after_r.blanks) (blank_feed after_k.blank after_k.blanks))
    (none is_return returns_foreign (blank_return after_r.blank after_r.blanks) (blank_return after_k.blank after_k.blanks))
    record {
      kept = rw ws (natural_kept r.word (k.word ∷ v.word ∷ []) r.spelled);
      form = rw ws (rw (r.spelled, k.spelled, v.spelled) refl);
      row_is = rw ws r.number;
      col_is = rw ws k.number;
      value_is = rw ws v.number;
    }
  where
    text : List ℕ
    text = r.word ++ after_r.blank ∷ (k.word ++ after_k.blank ∷ v.word)

    is : piece ≡ text ++ e
    is = r.is ∙ ap (λ x. r.word ++ x) (after_r.is ∙ ap (λ x. after_r.blank ∷ x) (k.is ∙ ap (λ x. k.word ++ x) (after_k.is ∙ ap (λ x. after_k.blank ∷ x) v.is))) ∙ simp append_assoc

    none : (p : ℕ → Bool) → IsForeign p → p after_r.blank ≡ false → p after_k.blank ≡ false → list_any p text ≡ false
    none p f first second =
        none_more p r.word after_r.blank (k.word ++ after_k.blank ∷ v.word) (foreign-natural p f r.word r.spelled) first
        (none_more p k.word after_k.blank v.word (foreign-natural p f k.word k.spelled) second (foreign-integer p f v.word v.spelled))

    ws : words text ≡ r.word ∷ k.word ∷ v.word ∷ []
    ws =
        words_more r.word after_r.blank (k.word ++ after_k.blank ∷ v.word) r.spelled after_r.blanks
        ∙ ap (λ l. r.word ∷ l) (words_more k.word after_k.blank v.word k.spelled after_k.blanks ∙ ap (λ l. k.word ∷ l) (integer-word v.word v.spelled))

-- a line that is a row and a column
pub pair_begins : (piece a b c rest : List ℕ) (row col : Natural) → BeginsWithNatural piece row a → BeginsWithBlank a b → BeginsWithNatural b col c → BeginsWithEnd c rest
    → BeginsWithLine piece rest (SaysPair row col)
pair_begins piece a b c rest row col r after_r k end =
    line_begins (SaysPair row col) piece text c rest is end
    (none is_line_feed feeds_foreign (blank_feed after_r.blank after_r.blanks))
    (none is_return returns_foreign (blank_return after_r.blank after_r.blanks))
    record {
      kept = rw ws (natural_kept r.word (k.word ∷ []) r.spelled);
      form = rw ws (rw (r.spelled, k.spelled) refl);
      row_is = rw ws r.number;
      col_is = rw ws k.number;
    }
  where
    text : List ℕ
    text = r.word ++ after_r.blank ∷ k.word

    is : piece ≡ text ++ c
    is = r.is ∙ ap (λ x. r.word ++ x) (after_r.is ∙ ap (λ x. after_r.blank ∷ x) k.is) ∙ simp append_assoc

    none : (p : ℕ → Bool) → IsForeign p → p after_r.blank ≡ false → list_any p text ≡ false
    none p f first = none_more p r.word after_r.blank k.word (foreign-natural p f r.word r.spelled) first (foreign-natural p f k.word k.spelled)

    ws : words text ≡ r.word ∷ k.word ∷ []
    ws = words_more r.word after_r.blank k.word r.spelled after_r.blanks ∙ ap (λ l. r.word ∷ l) (natural-word k.word k.spelled)

-- a line that is a value
pub value_begins : (piece a rest : List ℕ) (value : Number) → BeginsWithInteger piece value a → BeginsWithEnd a rest → BeginsWithLine piece rest (SaysValue value)
value_begins piece a rest value v end =
    let ws : words v.word ≡ v.word ∷ [] = integer-word v.word v.spelled in
    line_begins (SaysValue value) piece v.word a rest v.is end (foreign-integer is_line_feed feeds_foreign v.word v.spelled) (foreign-integer is_return returns_foreign v.word v.spelled)
    record {
      kept = rw ws (integer_kept v.word [] v.spelled);
      form = rw ws (rw v.spelled refl);
      value_is = rw ws v.number;
    }

-- a digit behind a number
pub one_digit_more : (bytes rest : List ℕ) (front more : Natural) → BeginsWithNatural bytes front rest → is_digit (get_or rest 0 0) ≡ true → ((m : ℕ) → StandsFor front m → StandsFor more (10 * m + (get_or rest 0 0 - 48)))
    → BeginsWithNatural bytes more (drop 1 rest)
one_digit_more bytes [] front more first digit stands = absurd (false≢true digit)
one_digit_more bytes (b ∷ rest) front more first digit stands =
    let value : natural (first.word ++ b ∷ []) ≡ 10 * natural first.word + (b - 48) = fold_push (λ n d. 10 * n + (d - 48)) 0 first.word b in
    record {
      word = first.word ++ b ∷ [];
      is = first.is ∙ sym (append_assoc first.word (b ∷ []) rest);
      spelled = pushed first.word first.spelled;
      number = rw value (stands (natural first.word) first.number);
    }
  where
    pushed : (w : List ℕ) → is_natural w ≡ true → is_natural (w ++ b ∷ []) ≡ true
    pushed [] spelled = absurd (false≢true spelled)
    pushed (x ∷ w) spelled = list_all-append is_digit (x ∷ w) (b ∷ []) ∙ and_from _ _ spelled (rw digit refl)

-- an integer without a sign
bare_integer : (bytes word rest : List ℕ) (n : Number) → bytes ≡ word ++ rest → (is_minus bytes || is_plus bytes) ≡ false → is_natural word ≡ true → IsNumber n (record { minus = is_minus bytes; size = natural word })
    → BeginsWithInteger bytes n rest
bare_integer bytes [] rest n is bare spelled number = absurd (false≢true spelled)
bare_integer bytes (x ∷ w) rest n is bare spelled number =
    let bare_word : (x == 45 || x == 43) ≡ false = rw is at bare in
    let minus : is_minus bytes ≡ (x == 45) = ap is_minus is in
    record {
      word = x ∷ w;
      is = is;
      spelled = rw bare_word spelled;
      number = rw bare_word (rw minus at number);
    }

-- a number behind a sign, or alone
pub signed_integer : (bytes rest : List ℕ) (size : Natural) (n : Number) → BeginsWithNatural (unsigned bytes) size rest → ((m : ℕ) → StandsFor size m → IsNumber n (record { minus = is_minus bytes; size = m }))
    → BeginsWithInteger bytes n rest
signed_integer [] rest size n first stands = bare_integer [] first.word rest n first.is refl first.spelled (stands (natural first.word) first.number)
signed_integer (b ∷ bytes) rest size n first stands =
    elim (cases_Bool (b == 45 || b == 43)) [
      | inl signed ↦
          let after : bytes ≡ first.word ++ rest = rw signed at first.is in
          record {
            word = b ∷ first.word;
            is = ap (λ l. b ∷ l) after;
            spelled = rw signed first.spelled;
            number = rw signed (stands (natural first.word) first.number);
          }
      | inr bare ↦ bare_integer (b ∷ bytes) first.word rest n (rw bare at first.is) bare first.spelled (stands (natural first.word) first.number)
    ]

-- a number that no sign stands before
pub unsigned_integer : (bytes rest : List ℕ) (size : Natural) (n : Number) → is_minus bytes ≡ false → is_plus bytes ≡ false → BeginsWithNatural bytes size rest → ((m : ℕ) → StandsFor size m → IsNumber n (record { minus = false; size = m }))
    → BeginsWithInteger bytes n rest
unsigned_integer bytes rest size n minus plus first stands =
    bare_integer bytes first.word rest n first.is (or_from _ _ minus plus) first.spelled (rw minus (stands (natural first.word) first.number))
