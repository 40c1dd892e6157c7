-- Search by halving: how many probes are left, and what is known of the places beside those that are left.
use Rattle.std.proofs.Common.{◌≡◌, ℕ, ◌+◌, ◌/◌, ◌<◌, ◌≤◌, Some, None, subst, below_more, ⊎_elim, arith}
use Rattle.std.proofs.lemmas.Bool.{cases_eq, cases_lt}
use Rattle.format_model.specs.Levels.{bits}
use Rattle.format_model.specs.Made.{made_found, made_none}
use Rattle.format_model.proofs.BitsLemmas.{bits_half, bits_up}
use Rattle.format_model.specs.Trees.{child_at}
use Rattle.stores_packed.specs.Packed.{RisesBetween, placed}

-- one probe, and at most half of the places without it are left
pub probe_cost : (n left : ℕ) → 0 < n → left ≤ n / 2 → 1 + bits left ≤ bits n
probe_cost n left some half = omega (arith, bits_half n some, bits_up left (n / 2) half)

-- an index at a place of rising ones is found there
pub hit : (f : ℕ → ℕ) (from count k index : ℕ) → RisesBetween f from (from + count) → from ≤ k → k < from + count → f k ≡ index → child_at (placed f from count) index ≡ Some k
hit f from count k index rises low high same =
    subst (λ i. child_at (placed f from count) i ≡ Some k) same
    (made_found f (λ k. k) from count k low high (λ j a b alike. let less : f j < f k = rises j k a b high in omega arith))

-- an index above all before a place, and below all from it on, is not found
pub miss : (f : ℕ → ℕ) (from count place index : ℕ) → ((k : ℕ) → from ≤ k → k < place → f k < index) → ((k : ℕ) → place ≤ k → k < from + count → index < f k)
    → child_at (placed f from count) index ≡ None
miss f from count place index below above =
    made_none f (λ k. k) from count index (λ k low high same. ⊎_elim
    (λ (before : k < place). let less : f k < index = below k low before in omega arith)
    (λ (past : place ≤ k). let more : index < f k = above k past high in omega arith)
    (cases_lt k place))

-- after a probe of a smaller index, all up to it are smaller
pub all_below : (f : ℕ → ℕ) (from to middle index : ℕ) → RisesBetween f from to → middle < to → f middle < index → (k : ℕ) → from ≤ k → k < middle + 1 → f k < index
all_below f from to middle index rises within here k low high =
    below_more (λ k. from ≤ k → f k < index) middle (λ j less a. let up : f j < f middle = rises j middle a less within in omega arith) (λ a. here) k high low

-- after a probe of a larger one, all from it on are larger
pub all_above : (f : ℕ → ℕ) (from to middle index : ℕ) → RisesBetween f from to → from ≤ middle → index < f middle → (k : ℕ) → middle ≤ k → k < to → index < f k
all_above f from to middle index rises low here k past high = ⊎_elim
    (λ (same : middle ≡ k). subst (λ k. index < f k) same here)
    (λ (other : middle ≡ k → ⊥). let up : f middle < f k = rises middle k low (omega (arith, other)) high in omega arith)
    (cases_eq middle k)
