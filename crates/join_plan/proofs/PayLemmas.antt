-- Costs stay below 2^124: with each step they grow by 2^24 at most.
use Rattle.std.proofs.Common.{◌≡◌, ℕ, zero, suc, ◌+◌, ◌*◌, ◌^◌, ◌<◌, ◌≤◌, refl, sym, ap, subst, arith}
use Rattle.std.proofs.lemmas.Nat.{mul-le}
use Rattle.bern_base.specs.declared.limits.TheConstants.{MOST_WEIGHT}
use Rattle.join_plan.specs.Picks.{IsSpent, most_many}
use Rattle.join_plan.specs.declared.limits.TheConstants.{MOST_OFFERS, MOST_SEARCHED, MOST_SPENT}

-- the bounds of one step more
record IsNext (left : ℕ) : Type 0 where
  pub more : most_many left ≡ most_many (left + 1) * MOST_WEIGHT
  pub small : most_many (left + 1) ≤ 2 ^ 72

next_is : (left : ℕ) → left < 4 → IsNext left
next_is zero below = record { more = refl; small = omega arith }
next_is (suc zero) below = record { more = refl; small = omega arith }
next_is (suc (suc zero)) below = record { more = refl; small = omega arith }
next_is (suc (suc (suc zero))) below = record { more = refl; small = omega arith }
next_is (suc (suc (suc (suc n)))) below = absurd (omega (arith, below))

-- products with bounds that go into a number before them
pub record IsPaid (left held cost offers keeps weight : ℕ) : Type 0 where
  pub many : held * keeps < 2 ^ 128
  pub offered : held * offers < 2 ^ 126
  pub searched : held * keeps * weight < 2 ^ 126
  pub total : cost + (held * offers + held * keeps * weight) < 2 ^ 128
  pub spent : IsSpent left (held * keeps) (cost + (held * offers + held * keeps * weight))

bounds : (left held cost offers keeps weight : ℕ) (before o m s : ℕ) → before ≤ 2 ^ 72 → most_many left ≡ before * MOST_WEIGHT → held * offers ≡ o → held * keeps ≡ m → held * keeps * weight ≡ s →
    o ≤ before * MOST_OFFERS → m ≤ before * MOST_WEIGHT → s ≤ before * 2251799813685248 → cost ≤ MOST_SPENT * before → IsPaid left held cost offers keeps weight
bounds left held cost offers keeps weight before o m s small more o_is m_is s_is offered bindings searched total = record {
  many = omega (arith, m_is, bindings, small);
  offered = omega (arith, o_is, offered, small);
  searched = omega (arith, s_is, searched, small);
  total = omega (arith, o_is, s_is, offered, searched, total, small);
  spent = record { bindings = omega (arith, m_is, bindings, more); total = omega (arith, o_is, s_is, offered, searched, total, more) };
}

pub paid : (left held cost offers keeps weight : ℕ) → left < 4 → IsSpent (left + 1) held cost → offers ≤ MOST_OFFERS → keeps ≤ MOST_WEIGHT → weight ≤ MOST_SEARCHED → IsPaid left held cost offers keeps weight
paid left held cost offers keeps weight below spent few kept light =
    let next = next_is left below in
    let before : ℕ = most_many (left + 1) in
    let bindings : held * keeps ≤ before * MOST_WEIGHT = mul-le held keeps before MOST_WEIGHT spent.bindings kept in
    let searched : held * keeps * weight ≤ before * MOST_WEIGHT * MOST_SEARCHED = mul-le (held * keeps) weight (before * MOST_WEIGHT) MOST_SEARCHED bindings light in
    bounds left held cost offers keeps weight before (held * offers) (held * keeps) (held * keeps * weight) next.small next.more refl refl refl
    (mul-le held offers before MOST_OFFERS spent.bindings few) bindings (omega (arith, searched)) spent.total
