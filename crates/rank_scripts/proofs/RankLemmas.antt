-- One value of a function changed, tests at each rank, sums over the ranks.
use Rattle.std.proofs.Common.{◌≡◌, ℕ, zero, suc, ◌+◌, ◌*◌, ◌<◌, ◌≤◌, Bool, true, false, ◌==◌, ◌⊎◌, refl, sym, ap, ◌∙◌, subst, inl, inr, arith}
use Rattle.std.proofs.lemmas.Bool.{cond_both, cond-true, cond-false, eqb-true, eqb-false, eq-eqb, ne_eqb, cases_eq, cases_lt, cases_Bool, and_cases, false≢true}
use Rattle.std.proofs.lemmas.Bool.Decides.{Decides-below_and}
use Rattle.rank_scripts.specs.Ranks.{put, all_below, sum_below}

-- the value at the place that changed
pub put_same : {A : Type 0} (f : ℕ → A) (i : ℕ) (x : A) → put f i x i ≡ x
put_same f i x = cond-true (i == i) x (f i) (eq-eqb i i refl)

-- the values at the others
pub put_other : {A : Type 0} (f : ℕ → A) (i : ℕ) (x : A) (j : ℕ) → (j ≡ i → ⊥) → put f i x j ≡ f j
put_other f i x j other = cond-false (j == i) x (f j) (ne_eqb j i other)

-- what holds of the new value and of the old ones elsewhere holds of all
pub put_both : {A : Type 0} (f : ℕ → A) (i : ℕ) (x : A) (P : ℕ → A → Type 0) → P i x →
    ((j : ℕ) → (j ≡ i → ⊥) → P j (f j)) → (j : ℕ) → P j (put f i x j)
put_both f i x P here each j =
    cond_both (j == i) x (f j) (P j)
    (λ e. let Q : ℕ → Type 0 = λ k. P k x in subst Q (sym (eqb-true j i e)) here)
    (λ e. each j (eqb-false j i e))

-- the same for two functions changed at one place
pub put_two : {A B : Type 0} (f : ℕ → A) (g : ℕ → B) (i : ℕ) (x : A) (y : B) (P : ℕ → A → B → Type 0) → P i x y →
    ((j : ℕ) → (j ≡ i → ⊥) → P j (f j) (g j)) → (j : ℕ) → P j (put f i x j) (put g i y j)
put_two {A} {B} f g i x y P here each j =
    elim (cases_eq j i) [
      | inl e ↦ let Q : ℕ → Type 0 = λ k. P k (put f i x k) (put g i y k) in subst Q (sym e) (rw (put_same f i x, put_same g i y) here)
      | inr other ↦ rw (put_other f i x j other, put_other g i y j other) (each j other)
    ]

-- a test that passes at each rank passes at one
pub all_below_at : (n : ℕ) (test : ℕ → Bool) → all_below n test ≡ true → (k : ℕ) → k < n → test k ≡ true
all_below_at n test = (Decides-below_and test (λ k. test k ≡ true) (λ m. all_below m test) (λ k. (λ e. e, λ e. e)) refl (λ m. refl) n).0

pub all_below_from : (n : ℕ) (test : ℕ → Bool) → ((k : ℕ) → k < n → test k ≡ true) → all_below n test ≡ true
all_below_from n test = (Decides-below_and test (λ k. test k ≡ true) (λ m. all_below m test) (λ k. (λ e. e, λ e. e)) refl (λ m. refl) n).1

-- a rank at which a test fails
pub not_all_below : (n : ℕ) (test : ℕ → Bool) → all_below n test ≡ false → (k : ℕ) × (k < n) × (test k ≡ false)
not_all_below zero test e = absurd (cc)
not_all_below (suc n) test e =
    elim (and_cases (test n) (all_below n test) e) [
      | inl fails ↦ (n, omega arith, fails)
      | inr fails ↦ let found = not_all_below n test fails in (found.0, omega arith, found.2)
    ]

-- a rank at which a test passes, and whose size is the least of all those
pub record Least (n : ℕ) (test : ℕ → Bool) (size : ℕ → ℕ) : Type 0 where
  pub rank : ℕ
  pub there : rank < n
  pub passes : test rank ≡ true
  pub least : (k : ℕ) → k < n → test k ≡ true → size rank ≤ size k

-- it is found, or the test fails at each rank
pub least_below : (n : ℕ) (test : ℕ → Bool) (size : ℕ → ℕ) → Least n test size ⊎ ((k : ℕ) → k < n → test k ≡ false)
least_below zero test size = inr (λ k h. absurd (omega arith))
least_below (suc n) test size = elim (cases_Bool (test n)) [ inl passes ↦ at_last passes (least_below n test size) | inr fails ↦ before_last fails (least_below n test size) ]
  where
    at_last : test n ≡ true → Least n test size ⊎ ((k : ℕ) → k < n → test k ≡ false) →
        Least (suc n) test size ⊎ ((k : ℕ) → k < suc n → test k ≡ false)
    at_last passes (inl found) =
        elim (cases_lt (size n) (size found.rank)) [
          | inl smaller ↦ inl (record {
            rank = n;
            there = omega arith;
            passes = passes;
            least = λ k h t. elim (cases_eq k n) [ inl e ↦ rw e (omega arith) | inr other ↦ let known = found.least k (omega arith) t in omega arith ];
          })
          | inr not_smaller ↦ inl (record {
            rank = found.rank;
            there = let there = found.there in omega arith;
            passes = found.passes;
            least = λ k h t. elim (cases_eq k n) [ inl e ↦ rw e not_smaller | inr other ↦ found.least k (omega arith) t ];
          })
        ]
    at_last passes (inr none) =
        inl (record {
          rank = n;
          there = omega arith;
          passes = passes;
          least = λ k h t. elim (cases_eq k n) [ inl e ↦ rw e (omega arith) | inr other ↦ absurd (false≢true (sym (none k (omega arith)) ∙ t)) ];
        })

    before_last : test n ≡ false → Least n test size ⊎ ((k : ℕ) → k < n → test k ≡ false) →
        Least (suc n) test size ⊎ ((k : ℕ) → k < suc n → test k ≡ false)
    before_last fails (inl found) =
        inl (record {
          rank = found.rank;
          there = let there = found.there in omega arith;
          passes = found.passes;
          least = λ k h t. elim (cases_eq k n) [ inl e ↦ absurd (false≢true (sym fails ∙ rw (← e) t)) | inr other ↦ found.least k (omega arith) t ];
        })
    before_last fails (inr none) = inr (λ k h. elim (cases_eq k n) [ inl e ↦ rw e fails | inr other ↦ none k (omega arith) ])

-- equal values have equal sums
pub sum_same : (n : ℕ) (f g : ℕ → ℕ) → ((j : ℕ) → j < n → f j ≡ g j) → sum_below n f ≡ sum_below n g
sum_same zero f g same = refl
sum_same (suc n) f g same =
    let here : f n ≡ g n = same n (omega arith) in
    let below = sum_same n f g (λ j h. same j (omega arith)) in
    cc

-- a sum in which one value changed
pub sum_change : (n i : ℕ) (f g : ℕ → ℕ) → i < n → ((j : ℕ) → (j ≡ i → ⊥) → f j ≡ g j) →
    sum_below n f + g i ≡ sum_below n g + f i
sum_change zero i f g h same = absurd (omega arith)
sum_change (suc n) i f g h same =
    elim (cases_eq i n) [
      | inl e ↦
          let below = sum_same n f g (λ j l. same j (λ at. omega arith)) in
          let first : f i ≡ f n = rw e in
          let second : g i ≡ g n = rw e in
          omega arith
      | inr other ↦
          let here : f n ≡ g n = same n (λ at. other (sym at)) in
          let below = sum_change n i f g (omega arith) same in
          omega arith
    ]

-- the same for the sizes of a function's values
pub sum_put : {A : Type 0} (n : ℕ) (f : ℕ → A) (i : ℕ) (x : A) (size : A → ℕ) → i < n →
    sum_below n (λ j. size (put f i x j)) + size (f i) ≡ sum_below n (λ j. size (f j)) + size x
sum_put n f i x size h =
    let changed = sum_change n i (λ j. size (put f i x j)) (λ j. size (f j)) h (λ j other. ap size (put_other f i x j other)) in
    let here = ap size (put_same f i x) in
    omega arith

-- a sum of one value
pub sum_constant : (n c : ℕ) → sum_below n (λ j. c) ≡ n * c
sum_constant zero c = omega arith
sum_constant (suc n) c = let below = sum_constant n c in omega arith

-- a sum of sums
pub sum_add : (n : ℕ) (f g : ℕ → ℕ) → sum_below n (λ j. f j + g j) ≡ sum_below n f + sum_below n g
sum_add zero f g = refl
sum_add (suc n) f g = let below = sum_add n f g in omega arith

pub sum_double : (n : ℕ) (f : ℕ → ℕ) → sum_below n (λ j. 2 * f j) ≡ 2 * sum_below n f
sum_double zero f = refl
sum_double (suc n) f = let below = sum_double n f in omega arith

-- no value is more than the sum
pub le-sum_below : (n : ℕ) (f : ℕ → ℕ) (i : ℕ) → i < n → f i ≤ sum_below n f
le-sum_below zero f i h = absurd (omega arith)
le-sum_below (suc n) f i h =
    elim (cases_eq i n) [
      | inl e ↦ let same : f i ≡ f n = rw e in omega arith
      | inr other ↦ let below = le-sum_below n f i (omega arith) in omega arith
    ]
