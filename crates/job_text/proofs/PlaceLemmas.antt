-- Places in a list: the first one that passes, or the end; and what stands from a place on.
use Rattle.std.proofs.Common.{◌≡◌, ◌≤◌, ◌<◌, ◌+◌, suc, sym, ap, ◌∙◌, ℕ, List, ◌∷◌, length, get_or, drop, ltb, cond, Some, None, unwrap_or, arith, ⊎_elim}
use Rattle.std.proofs.lemmas.Bool.{cases_lt, lt-ltb, le-ltb}
use Rattle.std.proofs.Math.Seq.{drop-cons}

-- a place that is not before the end is the end
pub place_or_end : (at end : ℕ) → at ≤ end → unwrap_or (cond (ltb at end) (Some at) None) end ≡ at
place_or_end at end below = ⊎_elim
    (λ before. ap (λ t. unwrap_or (cond t (Some at) None) end) (lt-ltb at end before))
    (λ after. ap (λ t. unwrap_or (cond t (Some at) None) end) (le-ltb at end after) ∙ omega arith)
    (cases_lt at end)

-- from a place on stands what is there, and then what stands after it
pub drop_at : {A : Type 0} (xs : List A) (i : ℕ) (x : A) → i < length xs → x ≡ get_or xs i x → drop i xs ≡ x ∷ drop (i + 1) xs
drop_at xs i x below is = let one : i + 1 ≡ suc i = omega arith in rw one (drop-cons xs i x below ∙ ap (λ y. y ∷ drop (suc i) xs) (sym is))
