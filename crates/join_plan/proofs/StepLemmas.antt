-- What is known after a step.
use Rattle.std.proofs.Common.{◌≡◌, ◌∙◌, ℕ, zero, suc, ◌+◌, ◌<◌, ◌≤◌, ◌==◌, Bool, true, false, ◌&&◌, ◌||◌, cond, List, [], ◌∷◌, ◌++◌, slice_index, length, refl, sym, ap, subst, lit<, arith}
use Rattle.std.specs.Prelude.{nat_lt}
use Rattle.std.proofs.lemmas.Bool.{eqb-true, ltb-true}
use Rattle.std.proofs.lemmas.List.Folds.{list_any-append}
use Rattle.term_model.specs.Plans.{Known, Query, SparseRef, bound_by_col, bound_by_row, bound_flat, can_drive, can_drive_flat, can_solve, deeper, depth_of, is_both, is_in, is_next, level_at, sparse_at, waits_for}
use Rattle.loop_query.proofs.FreeLemmas.{both_true}
use Rattle.join_plan.specs.Progress.{Locates, Marks, mark}
use Rattle.join_plan.specs.Steps.{FewLevels}
use Rattle.join_plan.specs.declared.progress.TheConstants.{MOST_LEVELS}

-- a level that is one more where it is that of the reference
abbrev pub IsAfter : ℕ → Bool → ℕ → Type 0
IsAfter level is result = (is ≡ true → level < MOST_LEVELS → result ≡ level + 1) × (is ≡ false → result ≡ level)

deeper_is : (at : ℕ → ℕ) (s r level result : ℕ) → level ≡ at s → at r < MOST_LEVELS → IsAfter level (s == r) result → result ≡ deeper r at s
deeper_is at s r level result here small next = by_test (s == r) refl
  where
    by_test : (b : Bool) → (s == r) ≡ b → result ≡ cond b (at s + 1) (at s)
    by_test true is = next.0 is (subst (λ n. n < MOST_LEVELS) (ap at (sym (eqb-true s r is)) ∙ sym here) small) ∙ ap (λ n. n + 1) here
    by_test false is = next.1 is ∙ here

pub all_deeper : (at : ℕ → ℕ) (levels : List ℕ) (r a b c d : ℕ) → Locates at levels → at r < MOST_LEVELS → IsAfter (slice_index levels 0) (0 == r) a → IsAfter (slice_index levels 1) (1 == r) b →
    IsAfter (slice_index levels 2) (2 == r) c → IsAfter (slice_index levels 3) (3 == r) d → Locates (deeper r at) (a ∷ b ∷ c ∷ d ∷ [])
all_deeper at levels r a b c d located small first second third fourth zero below = deeper_is at 0 r (slice_index levels 0) a (located 0 below) small first
all_deeper at levels r a b c d located small first second third fourth (suc zero) below = deeper_is at 1 r (slice_index levels 1) b (located 1 below) small second
all_deeper at levels r a b c d located small first second third fourth (suc (suc zero)) below = deeper_is at 2 r (slice_index levels 2) c (located 2 below) small third
all_deeper at levels r a b c d located small first second third fourth (suc (suc (suc zero))) below = deeper_is at 3 r (slice_index levels 3) d (located 3 below) small fourth
all_deeper at levels r a b c d located small first second third fourth (suc (suc (suc (suc s)))) below = absurd (omega (arith, below))

pub deeper_small : (at : ℕ → ℕ) (r s : ℕ) → at s < 2 → deeper r at s < MOST_LEVELS
deeper_small at r s small = by_test (s == r)
  where
    by_test : (b : Bool) → cond b (at s + 1) (at s) < MOST_LEVELS
    by_test true = omega (arith, small)
    by_test false = omega (arith, small)

-- a level that can be driven is one of at most two
pub drive_small : (q : Query) (k : Known) (r level v : ℕ) → FewLevels q → can_drive q k r level v ≡ true → k.located r < 2
drive_small q k r level v few is =
    let next = both_true (k.located r == level) (nat_lt level (depth_of q r)) (both_true (is_next q k r level) (waits_for k.bound (level_at q r level).axis (sparse_at q r) v) is).0 in
    omega (arith, eqb-true (k.located r) level next.0, ltb-true level (depth_of q r) next.1, few r)

pub flat_small : (q : Query) (k : Known) (r : ℕ) → FewLevels q → can_drive_flat q k r ≡ true → k.located r < 2
flat_small q k r few is =
    let there = both_true (nat_lt (k.located r) (depth_of q r)) (is_both (level_at q r (k.located r)).axis) (both_true _ (can_solve k.bound (sparse_at q r)) is).0 in
    omega (arith, ltb-true (k.located r) (depth_of q r) there.0, few r)

moved : (c r b : Bool) → (c || (r || b)) ≡ ((r || c) || b)
moved true true b = refl
moved true false b = refl
moved false true b = refl
moved false false b = refl

-- the column after the row
pub marks_flat : (vs : List ℕ) (s : SparseRef) (marks : List Bool) → Marks (bound_by_col vs s ++ (bound_by_row vs s ++ vs)) marks → Marks (bound_flat vs s ++ vs) marks
marks_flat vs s marks are v below =
    let col : List ℕ = bound_by_col vs s in
    let row : List ℕ = bound_by_row vs s in
    are v below ∙ list_any-append (λ w. w == v) col (row ++ vs) ∙ ap (λ b. is_in v col || b) (list_any-append (λ w. w == v) row vs)
    ∙ moved (is_in v col) (is_in v row) (is_in v vs)
    ∙ ap (λ b. b || is_in v vs) (sym (list_any-append (λ w. w == v) row col)) ∙ sym (list_any-append (λ w. w == v) (row ++ col) vs)
