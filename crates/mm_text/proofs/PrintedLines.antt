-- Lines of printed numbers, among those that are kept.
use Rattle.std.proofs.Common.{◌≡◌, ℕ, suc, ◌+◌, ◌-◌, true, false, ◌==◌, List, [], ◌∷◌, ◌++◌, length, get_or, take, refl, ap, ◌∙◌, inl, inr, arith}
use Rattle.std.specs.List.{list_any}
use Rattle.std.proofs.lemmas.Bool.{cases_Bool, or_from}
use Rattle.std.proofs.lemmas.List.Folds.{list_any-append}
use Rattle.mm_profile.specs.Lines.{is_line_feed, words, lines, without_return}
use Rattle.mm_profile.specs.Numbers.{is_natural, is_integer}
use Rattle.mm_profile.specs.Profile.{is_skipped, kept}
use Rattle.mm_text.proofs.LinesLemmas.{skipped_first, natural-word, integer-word}
use Rattle.mm_text.proofs.NumberLines.{foreign-natural, foreign-integer, feeds_foreign, returns_foreign, is_return, without_return_whole, words_more, natural_kept, integer_kept}
use Rattle.mm_text.proofs.PieceLemmas.{lines_found}

-- the line of a number
pub kept_number : (n : ℕ) (w rest : List ℕ) → is_integer w ≡ true → kept n (lines (w ++ 10 ∷ rest)) ≡ (n, w ∷ []) ∷ kept (n + 1) (lines rest)
kept_number n w rest spelled =
    ap (kept n) (lines_found w rest (foreign-integer is_line_feed feeds_foreign w spelled)
    ∙ ap (λ line. line ∷ lines rest) (without_return_whole w (foreign-integer is_return returns_foreign w spelled)))
    ∙ rw (integer-word w spelled) (rw (integer_kept w [] spelled) refl)

comment : (text : List ℕ) → is_skipped (words (37 ∷ text)) ≡ true
comment text = skipped_first (37 ∷ text) (omega arith)

-- a comment is skipped, whatever it says
pub skipped_comment : (n : ℕ) (text : List ℕ) (rest : List (List ℕ)) → kept n (without_return (37 ∷ 32 ∷ text) ∷ rest) ≡ kept (n + 1) rest
skipped_comment n text rest =
    let back : length (37 ∷ 32 ∷ text) - 1 ≡ suc (length text) = omega arith in
    elim (cases_Bool (get_or (37 ∷ 32 ∷ text) (length (37 ∷ 32 ∷ text) - 1) 0 == 13)) [
      | inl e ↦ rw e (rw back (rw (comment (take (length text) (32 ∷ text))) refl))
      | inr e ↦ rw e refl
    ]

-- the line of two sizes
pub kept_sizes : (n : ℕ) (v w : List ℕ) (rest : List (List ℕ)) → is_natural v ≡ true → is_natural w ≡ true
    → kept n (without_return (v ++ 32 ∷ w) ∷ rest) ≡ (n, v ∷ w ∷ []) ∷ kept (n + 1) rest
kept_sizes n v w rest spelled_v spelled_w =
    let none : list_any is_return (v ++ 32 ∷ w) ≡ false =
    list_any-append is_return v (32 ∷ w) ∙ or_from _ _ (foreign-natural is_return returns_foreign v spelled_v) (foreign-natural is_return returns_foreign w spelled_w) in
    let two : words (v ++ 32 ∷ w) ≡ v ∷ w ∷ [] = words_more v 32 w spelled_v refl ∙ ap (λ ws. v ∷ ws) (natural-word w spelled_w) in
    rw (without_return_whole (v ++ 32 ∷ w) none) (rw two (rw (natural_kept v (w ∷ []) spelled_v) refl))

pub sizes_feed : (v w : List ℕ) → is_natural v ≡ true → is_natural w ≡ true → list_any is_line_feed (v ++ 32 ∷ w) ≡ false
sizes_feed v w spelled_v spelled_w =
    list_any-append is_line_feed v (32 ∷ w) ∙ or_from _ _ (foreign-natural is_line_feed feeds_foreign v spelled_v) (foreign-natural is_line_feed feeds_foreign w spelled_w)
