-- The indices of a rank, one after another.
use Rattle.std.proofs.Common.{◌≡◌, ℕ, ◌+◌, ◌<◌, List, [], ◌∷◌, ◌++◌, length, get_or, take, sym, ap, ◌∙◌, subst, refl, ⊎_elim, arith}
use Rattle.std.specs.List.Sorted.{IsStrictlyIncreasing}
use Rattle.std.proofs.lemmas.Bool.{cases_order}
use Rattle.std.proofs.lemmas.List.{length-map, take_more}
use Rattle.placement.specs.Placement.{Triple, IsPlacement, at_rank, owner_of, local_of, owned_indices, owned_of, global_of}
use Rattle.placement.specs.PlacementLaws.{global-owner-local, global-rises, local-below}

pub length-owned_indices : (ts : List Triple) (p : ℕ) → length (owned_indices ts p) ≡ owned_of ts p
unfolding owned_indices owned_of
length-owned_indices ts p = length-map (at_rank p ts) (λ t. t.index)

pub get_or-owned_indices : (ts : List Triple) (p l : ℕ) → get_or (owned_indices ts p) l 0 ≡ global_of ts p l
unfolding global_of
get_or-owned_indices ts p l = refl

owned_indices_more : (ts : List Triple) (p l : ℕ) → l < owned_of ts p → take (l + 1) (owned_indices ts p) ≡ take l (owned_indices ts p) ++ global_of ts p l ∷ []
owned_indices_more ts p l below =
    take_more (owned_indices ts p) l 0 (rw (length-owned_indices ts p) below) ∙ ap (λ i. take l (owned_indices ts p) ++ i ∷ []) (get_or-owned_indices ts p l)

-- a list of the first l of them with the next one at its end
pub owned_indices_push : (ts : List Triple) (p l i : ℕ) (before after : List ℕ) → l < owned_of ts p → before ≡ take l (owned_indices ts p) → i ≡ global_of ts p l → after ≡ before ++ i ∷ [] →
    after ≡ take (l + 1) (owned_indices ts p)
owned_indices_push ts p l i before after below so_far next push =
    push ∙ ap (λ is. is ++ i ∷ []) so_far ∙ ap (λ j. take l (owned_indices ts p) ++ j ∷ []) next ∙ sym (owned_indices_more ts p l below)

pub owned_indices-rise : {ranks : ℕ} {ts : List Triple} → IsPlacement ranks ts → (p : ℕ) → IsStrictlyIncreasing (owned_indices ts p)
owned_indices-rise {ranks} {ts} is p k within =
    rw (get_or-owned_indices ts p k, get_or-owned_indices ts p (k + 1)) (global-rises is p k (k + 1) (omega arith) (subst (λ n. k + 1 < n) (length-owned_indices ts p) within))

-- two indices of one rank: the local numbers rise as they do
pub local-rises : (ranks : ℕ) (ts : List Triple) → IsPlacement ranks ts → (p i j : ℕ) → i < length ts → j < length ts → owner_of ts i ≡ p → owner_of ts j ≡ p → i < j → local_of ts i < local_of ts j
local-rises ranks ts is p i j below within at too up =
    let back : global_of ts p (local_of ts i) ≡ i = ap (λ q. global_of ts q (local_of ts i)) (sym at) ∙ global-owner-local is i below in
    let return : global_of ts p (local_of ts j) ≡ j = ap (λ q. global_of ts q (local_of ts j)) (sym too) ∙ global-owner-local is j within in
    let owned : local_of ts i < owned_of ts p = subst (λ q. local_of ts i < owned_of ts q) at (local-below is i below) in
    ⊎_elim
    (λ same. absurd (let one : i ≡ j = sym back ∙ ap (global_of ts p) same ∙ return in omega (arith, one, up)))
    (λ apart. ⊎_elim (λ rise. rise) (λ fall. absurd (let down = global-rises is p (local_of ts j) (local_of ts i) fall owned in omega (arith, down, back, return, up))) apart)
    (cases_order (local_of ts i) (local_of ts j))
