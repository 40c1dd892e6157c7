-- What is bound with the variables for which a subscript waits.
use Rattle.std.proofs.Common.{◌≡◌, ◌∙◌, ℕ, zero, suc, ◌+◌, ◌<◌, ◌==◌, Bool, true, false, not, ◌&&◌, ◌||◌, List, [], ◌∷◌, ◌++◌, length, refl, sym, ap, subst, arith}
use Rattle.std.specs.Prelude.{nat_lt, Contains}
use Rattle.std.specs.List.{filter}
use Rattle.std.proofs.lemmas.Bool.{lt-ltb, eqb-true}
use Rattle.std.proofs.lemmas.List.{length-append}
use Rattle.std.proofs.lemmas.List.Folds.{list_any-append, Any-from_list_any}
use Rattle.bern_base.specs.Affine.{AffineForm}
use Rattle.term_model.specs.Plans.{SparseRef, bound_by_col, bound_by_row, bound_flat, can_solve, four, has_factor, is_free, is_in, waiting}
use Rattle.loop_query.proofs.FreeLemmas.{contains_filter, filtered_passes, is_four}
use Rattle.loop_query.proofs.PlanLemmas.{is_in_list}
use Rattle.join_plan.specs.Progress.{Marks}

pub in_list : (xs : List ℕ) (v : ℕ) → is_in v xs ≡ true → Contains xs v
in_list xs v is = let (i, x, below, here, same) = Any-from_list_any (λ w. w == v) xs is in subst (Contains xs) (eqb-true x v same) (i, below, here)

-- one of the four is kept by a filter where it passes
in_filter : (p : ℕ → Bool) (v : ℕ) → v < 4 → is_in v (filter p four) ≡ p v
in_filter p v below = by_test (p v) refl
  where
    kept : (b : Bool) → is_in v (filter p four) ≡ b → p v ≡ false → is_in v (filter p four) ≡ false
    kept false is fails = is
    kept true is fails = let passes : p v ≡ true = filtered_passes p four v (in_list (filter p four) v is) in absurd cc

    by_test : (b : Bool) → p v ≡ b → is_in v (filter p four) ≡ p v
    by_test true is = is_in_list (filter p four) v (contains_filter p four v (is_four v (lt-ltb v 4 below)) is) ∙ sym is
    by_test false is = kept (is_in v (filter p four)) refl is ∙ sym is

either : (l i f : Bool) → l ≡ true → ((l && not i && f) || i) ≡ (i || f)
either true true true is = refl
either true true false is = refl
either true false true is = refl
either true false false is = refl
either false i f is = absurd cc

bound_more : (vs : List ℕ) (form : AffineForm) (v : ℕ) → v < 4 → is_in v (waiting vs form ++ vs) ≡ (is_in v vs || has_factor form v)
bound_more vs form v below =
    list_any-append (λ w. w == v) (waiting vs form) vs ∙ ap (λ b. b || is_in v vs) (in_filter (λ w. is_free vs w && has_factor form w) v below)
    ∙ either (nat_lt v 4) (is_in v vs) (has_factor form v) (lt-ltb v 4 below)

pub marks_more : (vs : List ℕ) (form : AffineForm) (a b c d : Bool) → a ≡ (is_in 0 vs || has_factor form 0) → b ≡ (is_in 1 vs || has_factor form 1) → c ≡ (is_in 2 vs || has_factor form 2) →
    d ≡ (is_in 3 vs || has_factor form 3) → Marks (waiting vs form ++ vs) (a ∷ b ∷ c ∷ d ∷ [])
marks_more vs form a b c d first second third fourth zero below = first ∙ sym (bound_more vs form 0 below)
marks_more vs form a b c d first second third fourth (suc zero) below = second ∙ sym (bound_more vs form 1 below)
marks_more vs form a b c d first second third fourth (suc (suc zero)) below = third ∙ sym (bound_more vs form 2 below)
marks_more vs form a b c d first second third fourth (suc (suc (suc zero))) below = fourth ∙ sym (bound_more vs form 3 below)
marks_more vs form a b c d first second third fourth (suc (suc (suc (suc v)))) below = absurd (omega (arith, below))

pub solve_is : (vs : List ℕ) (s : SparseRef) (row col : ℕ) → row ≡ length (waiting vs s.row) → col ≡ length (waiting (waiting vs s.row ++ vs) s.col) →
    (nat_lt row 2 && nat_lt col 2 && nat_lt 0 (row + col)) ≡ can_solve vs s
solve_is vs s row col row_is col_is =
    ap (λ n. nat_lt n 2 && nat_lt col 2 && nat_lt 0 (n + col)) row_is ∙ ap (λ n. nat_lt (length (bound_by_row vs s)) 2 && nat_lt n 2 && nat_lt 0 (length (bound_by_row vs s) + n)) col_is
    ∙ ap (λ n. nat_lt (length (bound_by_row vs s)) 2 && nat_lt (length (bound_by_col vs s)) 2 && nat_lt 0 n) (sym (length-append (bound_by_row vs s) (bound_by_col vs s)))
