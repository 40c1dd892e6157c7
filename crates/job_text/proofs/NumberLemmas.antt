-- Numbers with a limit.
use Rattle.std.proofs.Common.{◌≡◌, ℕ, ◌<◌, ◌≤◌, Option, Some, None, cond, ltb, sym, ⊎_elim}
use Rattle.std.proofs.lemmas.Bool.{lt-ltb, le-ltb, ltb-true, ltb-false, cases_Bool, cond-true, cond-false}

abbrev pub limited : ℕ → ℕ → Option ℕ
limited limit n = cond (ltb n limit) (Some n) None

pub limited-fits : (limit n : ℕ) → n < limit → Some n ≡ limited limit n
limited-fits limit n fits = sym (cond-true _ _ _ (lt-ltb n limit fits))

pub limited-past : (limit n : ℕ) → limit ≤ n → None ≡ limited limit n
limited-past limit n past = sym (cond-false _ _ _ (le-ltb n limit past))

pub limited-some : (limit n m : ℕ) → limited limit n ≡ Some m → (m ≡ n) × (n < limit)
limited-some limit n m is = ⊎_elim
    (λ fits. ((let e = cond-true (ltb n limit) (Some n) None fits in cc), ltb-true n limit fits))
    (λ past. absurd (let e = cond-false (ltb n limit) (Some n) None past in cc))
    (cases_Bool (ltb n limit))

pub limited-none : (limit n : ℕ) → limited limit n ≡ None → limit ≤ n
limited-none limit n is = ⊎_elim
    (λ fits. absurd (let e = cond-true (ltb n limit) (Some n) None fits in cc))
    (λ past. ltb-false n limit past)
    (cases_Bool (ltb n limit))
