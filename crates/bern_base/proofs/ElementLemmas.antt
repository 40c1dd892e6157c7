-- The element of a number among entries whose numbers rise.
use Rattle.std.proofs.Common.{◌≡◌, ◌≢◌, ◌∙◌, ℕ, zero, suc, ◌+◌, ◌%◌, ◌^◌, ◌<◌, ◌≤◌, ◌==◌, List, [], ◌∷◌, map, length, get_or, refl, sym, ap, subst, ⊎_elim, arith}
use Rattle.std.specs.Prelude.{if◌then◌else◌}
use Rattle.std.specs.List.{sum_by}
use Rattle.std.specs.List.Sorted.{IsStrictlyIncreasing}
use Rattle.std.proofs.Math.Nat.{add-zero, zero-add, mod-eq_of_lt}
use Rattle.std.proofs.lemmas.Bool.{cases_lt, eq-eqb, ne_eqb}
use Rattle.std.proofs.lemmas.List.{get_or-map, length-map}
use Rattle.std.proofs.lemmas.List.Kept.{AllPairs-from_increasing}
use Rattle.std.proofs.lemmas.List.Sums.{sum_by-cons}
use Rattle.bern_base.specs.declared.matrix.Entry.{Entry}
use Rattle.bern_base.specs.Matrix.{number}
use Rattle.bern_base.specs.Matrix.{element}
use Rattle.bern_base.proofs.SumLemmas.{sum_by_none}

-- a sum of which one term alone can differ from 0
sum_at : {X : Type 0} (f : X → ℕ) (xs : List X) (k : ℕ) (d : X) → k < length xs → ((j : ℕ) (e : X) → j < length xs → j ≢ k → f (get_or xs j e) ≡ 0) → sum_by f xs ≡ f (get_or xs k d)
sum_at f [] k d below others = absurd (omega (arith, below))
sum_at f (x ∷ xs) zero d below others =
    sum_by-cons f x xs ∙ ap (λ s. f x + s) (sum_by_none f xs (λ j e under. others (suc j) e (omega (arith, under)) (omega arith))) ∙ add-zero (f x)
sum_at f (x ∷ xs) (suc k) d below others =
    sum_by-cons f x xs ∙ ap (λ s. s + sum_by f xs) (others 0 d (omega arith) (omega arith)) ∙ zero-add (sum_by f xs)
    ∙ sum_at f xs k d (omega (arith, below)) (λ j e under apart. others (suc j) e (omega (arith, under)) (omega (arith, apart)))

number_at : (cols : ℕ) (xs : List Entry) (k : ℕ) (d : Entry) → k < length xs → get_or (map (number cols) xs) k 0 ≡ number cols (get_or xs k d)
number_at cols xs k d below = get_or-map (number cols) xs k d 0 below

-- numbers that rise do not fall over several steps
pub rises : (ns : List ℕ) (i j : ℕ) → IsStrictlyIncreasing ns → i ≤ j → j < length ns → get_or ns i 0 ≤ get_or ns j 0
rises ns i j rise up below =
    ⊎_elim (λ less. let lower : get_or ns i 0 < get_or ns j 0 = AllPairs-from_increasing ns rise i j 0 less below in omega arith)
    (λ most. let same : i ≡ j = omega (arith, up, most) in subst (λ k. get_or ns i 0 ≤ get_or ns k 0) same (omega arith))
    (cases_lt i j)

-- no entry has the number
pub element_none : (cols : ℕ) (xs : List Entry) (n : ℕ) → ((k : ℕ) → k < length xs → get_or (map (number cols) xs) k 0 ≢ n) → element cols xs n ≡ 0
element_none cols xs n none =
    ap (λ s. s % 2 ^ 64) (sum_by_none (λ e. if number cols e == n then e.value else 0) xs
    (λ k d below. rw (ne_eqb (number cols (get_or xs k d)) n (λ is. none k below (number_at cols xs k d below ∙ is))) refl))

-- one entry has it
pub element_one : (cols : ℕ) (xs : List Entry) (n k : ℕ) (e : Entry) → IsStrictlyIncreasing (map (number cols) xs) → k < length xs → e ≡ get_or xs k e → number cols e ≡ n → e.value < 2 ^ 64 → element cols xs n ≡ e.value
element_one cols xs n k e rise below is here fits =
    let long : length (map (number cols) xs) ≡ length xs = length-map xs (number cols) in
    let at : get_or (map (number cols) xs) k 0 ≡ n = number_at cols xs k e below ∙ ap (number cols) (sym is) ∙ here in
    let apart : (j : ℕ) (d : Entry) → j < length xs → j ≢ k → number cols (get_or xs j d) ≢ n = λ j d under differ same.
    let there : get_or (map (number cols) xs) j 0 ≡ n = number_at cols xs j d under ∙ same in
    ⊎_elim
    (λ less. let lower = AllPairs-from_increasing (map (number cols) xs) rise j k 0 less (omega (arith, long, below)) in omega (arith, lower, there, at))
    (λ most. let more : k < j = omega (arith, most, differ) in let lower = AllPairs-from_increasing (map (number cols) xs) rise k j 0 more (omega (arith, long, under)) in omega (arith, lower, there, at))
    (cases_lt j k) in
    let value : (if number cols e == n then e.value else 0) ≡ e.value = rw (eq-eqb (number cols e) n here) refl in
    ap (λ s. s % 2 ^ 64) (sum_at (λ x. if number cols x == n then x.value else 0) xs k e below (λ j d under differ. rw (ne_eqb (number cols (get_or xs j d)) n (apart j d under differ)) refl)
    ∙ ap (λ x. if number cols x == n then x.value else 0) (sym is) ∙ value)
    ∙ mod-eq_of_lt fits

-- the entries up to one with a smaller number have smaller numbers
pub smaller_up_to : (cols : ℕ) (xs : List Entry) (m n : ℕ) (e : Entry) → IsStrictlyIncreasing (map (number cols) xs) → m < length xs → e ≡ get_or xs m e → number cols e < n →
    (k : ℕ) → k < m + 1 → get_or (map (number cols) xs) k 0 < n
smaller_up_to cols xs m n e rise below is less k up =
    let at : get_or (map (number cols) xs) m 0 ≡ number cols e = number_at cols xs m e below ∙ ap (number cols) (sym is) in
    let most : get_or (map (number cols) xs) k 0 ≤ get_or (map (number cols) xs) m 0 = rises (map (number cols) xs) k m rise (omega (arith, up)) (omega (arith, length-map xs (number cols), below)) in
    omega (arith, at, most, less)

-- and those from one with a larger number on have larger ones
pub larger_from : (cols : ℕ) (xs : List Entry) (m n : ℕ) (e : Entry) → IsStrictlyIncreasing (map (number cols) xs) → e ≡ get_or xs m e → n < number cols e →
    (k : ℕ) → m ≤ k → k < length xs → n < get_or (map (number cols) xs) k 0
larger_from cols xs m n e rise is more k up below =
    let inside : m < length xs = omega (arith, up, below) in
    let at : get_or (map (number cols) xs) m 0 ≡ number cols e = number_at cols xs m e inside ∙ ap (number cols) (sym is) in
    let least : get_or (map (number cols) xs) m 0 ≤ get_or (map (number cols) xs) k 0 = rises (map (number cols) xs) m k rise up (omega (arith, length-map xs (number cols), below)) in
    omega (arith, at, least, more)
