-- Ranges of numbers, mapped and filtered; and the starts of the lines that a filter keeps.
use Rattle.std.proofs.Common.{◌≡◌, ℕ, zero, suc, ◌+◌, ◌<◌, ◌≤◌, Bool, true, false, cond, List, [], ◌∷◌, ◌++◌, length, map, get_or, refl, sym, ap, ◌∙◌, subst, ⊎_elim, add-one, arith}
use Rattle.std.specs.Prelude.{not}
use Rattle.std.specs.List.{filter, range_with_len}
use Rattle.std.proofs.lemmas.Bool.{cases_lt, cond-false, cond-true, le-ltb, lt-ltb}
use Rattle.std.proofs.lemmas.List.{append-nil, map-append}
use Rattle.std.proofs.lemmas.List.Elements.{filter-append}
use Rattle.std.proofs.lemmas.List.FromFn.{length-range_with_len}
use Rattle.std.proofs.lemmas.List.Filters.{length-filter_both}
use Rattle.stores_packed.specs.Lines.{is_wide}

-- functions that agree on a range
pub range_same : {X : Type 0} (f g : ℕ → X) (a n : ℕ) → ((k : ℕ) → a ≤ k → k < a + n → f k ≡ g k) → map f (range_with_len a n) ≡ map g (range_with_len a n)
range_same f g a zero each = refl
range_same f g a (suc n) each =
    ap (λ x. x ∷ map f (range_with_len (a + 1) n)) (each a (omega arith) (omega arith))
    ∙ ap (λ r. g a ∷ r) (range_same f g (a + 1) n (λ k low high. each k (omega arith) (omega arith)))

kept_one : {X : Type 0} (b : Bool) (f g : ℕ → X) (a : ℕ) (xs ys : List ℕ) → f a ≡ g a → map f xs ≡ map g ys → map f (cond b (a ∷ xs) xs) ≡ map g (cond b (a ∷ ys) ys)
kept_one true f g a xs ys here rest = ap (λ x. x ∷ map f xs) here ∙ ap (λ r. g a ∷ r) rest
kept_one false f g a xs ys here rest = rest

-- tests and functions that agree on a range
pub kept_same : {X : Type 0} (p q : ℕ → Bool) (f g : ℕ → X) (a n : ℕ) → ((k : ℕ) → a ≤ k → k < a + n → p k ≡ q k) → ((k : ℕ) → a ≤ k → k < a + n → f k ≡ g k)
    → map f (filter p (range_with_len a n)) ≡ map g (filter q (range_with_len a n))
kept_same p q f g a zero tests each = refl
kept_same p q f g a (suc n) tests each =
    ap (λ b. map f (cond b (a ∷ filter p (range_with_len (a + 1) n)) (filter p (range_with_len (a + 1) n)))) (tests a (omega arith) (omega arith))
    ∙ kept_one (q a) f g a (filter p (range_with_len (a + 1) n)) (filter q (range_with_len (a + 1) n)) (each a (omega arith) (omega arith))
    (kept_same p q f g (a + 1) n (λ k low high. tests k (omega arith) (omega arith)) (λ k low high. each k (omega arith) (omega arith)))

pub range_more : (a n j : ℕ) → a + n ≡ j → range_with_len a (suc n) ≡ range_with_len a n ++ j ∷ []
range_more a zero j at = ap (λ k. k ∷ []) (omega arith)
range_more a (suc n) j at = ap (λ r. a ∷ r) (range_more (a + 1) n j (omega arith))

wide_at : (from : List ℕ) (line : ℕ) → filter (is_wide from) (range_with_len 0 (line + 1)) ≡ filter (is_wide from) (range_with_len 0 line) ++ cond (is_wide from line) (line ∷ []) []
wide_at from line =
    ap (λ n. filter (is_wide from) (range_with_len 0 n)) (add-one line)
    ∙ ap (filter (is_wide from)) (range_more 0 line line (omega arith))
    ∙ filter-append (is_wide from) (range_with_len 0 line) (line ∷ [])

-- a line with a place is kept after those before it
pub wide_more : (from : List ℕ) (line : ℕ) → get_or from line 0 < get_or from (line + 1) 0 → filter (is_wide from) (range_with_len 0 (line + 1)) ≡ filter (is_wide from) (range_with_len 0 line) ++ line ∷ []
wide_more from line less =
    wide_at from line ∙ ap (λ r. filter (is_wide from) (range_with_len 0 line) ++ r) (cond-true (is_wide from line) (line ∷ []) [] (lt-ltb (get_or from line 0) (get_or from (line + 1) 0) less))

-- one without is not
pub wide_skip : (from : List ℕ) (line : ℕ) → get_or from (line + 1) 0 ≤ get_or from line 0 → filter (is_wide from) (range_with_len 0 (line + 1)) ≡ filter (is_wide from) (range_with_len 0 line)
wide_skip from line none =
    wide_at from line ∙ ap (λ r. filter (is_wide from) (range_with_len 0 line) ++ r) (cond-false (is_wide from line) (line ∷ []) [] (le-ltb (get_or from line 0) (get_or from (line + 1) 0) none)) ∙ append-nil (filter (is_wide from) (range_with_len 0 line))

-- no more lines are kept than there are
pub wide_most : (from : List ℕ) (lines : ℕ) → length (filter (is_wide from) (range_with_len 0 lines)) ≤ lines
wide_most from lines = omega (arith, length-filter_both (is_wide from) (λ l. not (is_wide from l)) (λ l. refl) (range_with_len 0 lines), length-range_with_len 0 lines)

-- the starts of some lines and of what follows them: each line ends where the next one begins
pub record Follow (from : List ℕ) (first : ℕ) (kept starts : List ℕ) : Type 0 where
  pub begin : get_or starts 0 0 ≡ get_or from first 0
  pub ends : (k : ℕ) → k < length kept → get_or starts (suc k) 0 ≡ get_or from (get_or kept k 0 + 1) 0

ends_more : (from : List ℕ) (line : ℕ) (kept starts : List ℕ) → Follow from (line + 1) kept starts
    → (k : ℕ) → k < suc (length kept) → get_or (get_or from line 0 ∷ starts) (suc k) 0 ≡ get_or from (get_or (line ∷ kept) k 0 + 1) 0
ends_more from line kept starts f zero low = f.begin
ends_more from line kept starts f (suc k) low = f.ends k (omega arith)

-- the lines that have a place follow one another, where no line begins before the one in front of it
pub wide_follow : (from : List ℕ) (a n : ℕ) → ((k : ℕ) → a ≤ k → k < a + n → get_or from k 0 ≤ get_or from (k + 1) 0)
    → Follow from a (filter (is_wide from) (range_with_len a n)) (map (λ k. get_or from k 0) (filter (is_wide from) (range_with_len a n)) ++ get_or from (a + n) 0 ∷ [])
wide_follow from a zero up = record {
  begin = ap (λ k. get_or from k 0) (omega arith);
  ends = λ k low. absurd (omega arith);
}
wide_follow from a (suc n) up =
    let kept : List ℕ = filter (is_wide from) (range_with_len (a + 1) n) in
    let last : a + 1 + n ≡ a + suc n = omega arith in
    let rest : Follow from (a + 1) kept (map (λ k. get_or from k 0) kept ++ get_or from (a + suc n) 0 ∷ []) =
    subst (λ e. Follow from (a + 1) kept (map (λ k. get_or from k 0) kept ++ get_or from e 0 ∷ [])) last (wide_follow from (a + 1) n (λ k low high. up k (omega arith) (omega arith))) in ⊎_elim
    (λ (less : get_or from a 0 < get_or from (a + 1) 0).
    subst (λ ls. Follow from a ls (map (λ k. get_or from k 0) ls ++ get_or from (a + suc n) 0 ∷ [])) (sym (cond-true (is_wide from a) (a ∷ kept) kept (lt-ltb (get_or from a 0) (get_or from (a + 1) 0) less)))
    (record { begin = refl; ends = ends_more from a kept (map (λ k. get_or from k 0) kept ++ get_or from (a + suc n) 0 ∷ []) rest }))
    (λ (none : get_or from (a + 1) 0 ≤ get_or from a 0).
    let here : get_or from a 0 ≤ get_or from (a + 1) 0 = up a (omega arith) (omega arith) in
    subst (λ ls. Follow from a ls (map (λ k. get_or from k 0) ls ++ get_or from (a + suc n) 0 ∷ [])) (sym (cond-false (is_wide from a) (a ∷ kept) kept (le-ltb (get_or from a 0) (get_or from (a + 1) 0) none)))
    (record { begin = rest.begin ∙ omega arith; ends = rest.ends }))
    (cases_lt (get_or from a 0) (get_or from (a + 1) 0))

-- the kept lines and their starts after one line more
pub record AreKept (from : List ℕ) (lines : ℕ) (kept starts : List ℕ) : Type 0 where
  pub outers : kept ≡ filter (is_wide from) (range_with_len 0 lines)
  pub begins : starts ≡ map (λ k. get_or from k 0) kept

pub kept_more : (from : List ℕ) (line : ℕ) (outers starts : List ℕ) → AreKept from line outers starts → get_or from line 0 < get_or from (line + 1) 0
    → AreKept from (line + 1) (outers ++ line ∷ []) (starts ++ get_or from line 0 ∷ [])
kept_more from line outers starts p less = record {
  outers = ap (λ ls. ls ++ line ∷ []) p.outers ∙ sym (wide_more from line less);
  begins = ap (λ ss. ss ++ get_or from line 0 ∷ []) p.begins ∙ sym (map-append (λ k. get_or from k 0) outers (line ∷ []));
}

pub kept_skip : (from : List ℕ) (line : ℕ) (outers starts : List ℕ) → AreKept from line outers starts → get_or from (line + 1) 0 ≤ get_or from line 0 → AreKept from (line + 1) outers starts
kept_skip from line outers starts p none = record { outers = p.outers ∙ sym (wide_skip from line none); begins = p.begins }
