-- A loop that adds terms to a list of sums, one entry after another.
use Rattle.std.proofs.Common.{◌≡◌, ℕ, zero, suc, ◌+◌, ◌*◌, ◌%◌, ◌^◌, ◌<◌, ◌≤◌, cond, ◌==◌, List, [], ◌∷◌, ◌++◌, length, map, take, get_or, set, replicate, sym, ap, ◌∙◌, refl, inl, inr, arith}
use Rattle.std.specs.List.{sum_by, range_with_len}
use Rattle.std.proofs.lemmas.Bool.{cases_eq, cases_lt}
use Rattle.std.proofs.lemmas.List.{get_or-set_same, get_or-set_other, length-set, set_past, get_or_read, take_all, get_or-replicate}
use Rattle.std.proofs.lemmas.List.Sums.{sum_by_more}
use Rattle.std.proofs.lemmas.List.FromFn.{map-range_with_len_more, fill_by_all}
use Rattle.bern_base.specs.declared.matrix.Entry.{Entry}
use Rattle.bern_base.specs.Matrix.{number}
use Rattle.bern_base.specs.Ring.{ring_add}
use Rattle.bern_base.specs.Matrix.{element, matrix_values}
use Rattle.rank_node.proofs.ListLemmas.{length-zeros}
use Rattle.std.proofs.Math.Nat.{zero-add, add-mod-mod, mod-add-mod, mod-mod}

-- the sums after the first i of the items
pub record IsSummed {X : Type 0} (term : ℕ → X → ℕ) (items : List X) (old : List ℕ) (i : ℕ) (sums : List ℕ) : Type 0 where
  pub long : length sums ≡ length old
  pub at : (l : ℕ) → l < length old → get_or sums l 0 % 2 ^ 64 ≡ (get_or old l 0 + sum_by (term l) (take i items)) % 2 ^ 64

-- each is below 2^64
abbrev pub IsReduced : List ℕ → Type 0
IsReduced sums = (l : ℕ) → get_or sums l 0 % 2 ^ 64 ≡ get_or sums l 0

-- one more term
next_sum : {X : Type 0} (f : X → ℕ) (items : List X) (i : ℕ) (x : X) → i < length items → x ≡ get_or items i x →
    sum_by f (take (i + 1) items) ≡ sum_by f (take i items) + f x
next_sum f items i x inside is = sum_by_more f items i x inside ∙ ap (λ y. sum_by f (take i items) + f y) (sym is)

-- one step of the arithmetic, over any modulus
grown : (m x v t s : ℕ) → x % m ≡ s % m → v % m ≡ t % m → (x + v) % m % m ≡ (s + t) % m
grown m x v t s e f =
    mod-mod (x + v) m ∙ sym (add-mod-mod x v m) ∙ ap (λ a. (x + a) % m) f ∙ add-mod-mod x t m ∙ sym (mod-add-mod x m t) ∙ ap (λ a. (a + t) % m) e ∙ mod-add-mod s m t

-- an entry that adds to the sum k alone
pub IsSummed-set : {X : Type 0} (term : ℕ → X → ℕ) (items : List X) (old : List ℕ) (i : ℕ) (sums : List ℕ) (x : X) (k v : ℕ) →
    IsSummed term items old i sums → i < length items → x ≡ get_or items i x → v % 2 ^ 64 ≡ term k x % 2 ^ 64 →
    ((l : ℕ) → (l ≡ k → ⊥) → term l x ≡ 0) → k < length sums → IsSummed term items old (i + 1) (set sums k ((get_or sums k 0 + v) % 2 ^ 64))
IsSummed-set term items old i sums x k v so inside is value others within =
    record {
      long = length-set sums k ((get_or sums k 0 + v) % 2 ^ 64) ∙ so.long;
      at = λ l below.
          let more : sum_by (term l) (take (i + 1) items) ≡ sum_by (term l) (take i items) + term l x = next_sum (term l) items i x inside is in
          elim (cases_eq l k) [
            | inl e ↦ at_it l e below more
            | inr other ↦
                let none = others l other in
                let same : sum_by (term l) (take (i + 1) items) ≡ sum_by (term l) (take i items) = omega arith in
                rw (get_or-set_other sums k l ((get_or sums k 0 + v) % 2 ^ 64) 0 other, same) (so.at l below)
          ];
    }
  where
    at_it : (l : ℕ) → l ≡ k → l < length old → sum_by (term l) (take (i + 1) items) ≡ sum_by (term l) (take i items) + term l x →
        get_or (set sums k ((get_or sums k 0 + v) % 2 ^ 64)) l 0 % 2 ^ 64 ≡ (get_or old l 0 + sum_by (term l) (take (i + 1) items)) % 2 ^ 64
    at_it l e below more =
        let here : get_or (set sums k ((get_or sums k 0 + v) % 2 ^ 64)) l 0 ≡ (get_or sums l 0 + v) % 2 ^ 64 = ap (λ j. get_or (set sums k ((get_or sums k 0 + v) % 2 ^ 64)) j 0) e ∙ get_or-set_same sums k ((get_or sums k 0 + v) % 2 ^ 64) 0 within ∙ ap (λ j. (get_or sums j 0 + v) % 2 ^ 64) (sym e) in
        let v_is : v % 2 ^ 64 ≡ term l x % 2 ^ 64 = value ∙ ap (λ j. term j x % 2 ^ 64) (sym e) in
        let whole : get_or old l 0 + sum_by (term l) (take (i + 1) items) ≡ get_or old l 0 + sum_by (term l) (take i items) + term l x = omega arith in
        ap (λ a. a % 2 ^ 64) here ∙ grown (2 ^ 64) (get_or sums l 0) v (term l x) (get_or old l 0 + sum_by (term l) (take i items)) (so.at l below) v_is ∙ ap (λ a. a % 2 ^ 64) (sym whole)

-- an entry that adds to none
pub IsSummed-skip : {X : Type 0} (term : ℕ → X → ℕ) (items : List X) (old : List ℕ) (i : ℕ) (sums : List ℕ) (x : X) →
    IsSummed term items old i sums → i < length items → x ≡ get_or items i x → ((l : ℕ) → term l x ≡ 0) →
    IsSummed term items old (i + 1) sums
IsSummed-skip term items old i sums x so inside is none =
    record {
      long = so.long;
      at = λ l below.
          let more = next_sum (term l) items i x inside is in
          let zero_here = none l in
          let same : sum_by (term l) (take (i + 1) items) ≡ sum_by (term l) (take i items) = omega arith in
          rw same (so.at l below);
    }

-- sums that are written stay below 2^64
pub IsReduced-set : (sums : List ℕ) (k x : ℕ) → IsReduced sums → IsReduced (set sums k (x % 2 ^ 64))
IsReduced-set sums k x reduced l =
    elim (cases_eq l k) [
      | inl e ↦ elim (cases_lt k (length sums)) [
        | inl within ↦ rw (e, get_or-set_same sums k (x % 2 ^ 64) 0 within) (mod-mod x (2 ^ 64))
        | inr past ↦ rw (set_past sums k (x % 2 ^ 64) past) (reduced l)
      ]
      | inr other ↦ rw (get_or-set_other sums k l (x % 2 ^ 64) 0 other) (reduced l)
    ]

pub IsReduced-zeros : (n : ℕ) → IsReduced (replicate n 0)
IsReduced-zeros zero l = refl
IsReduced-zeros (suc n) zero = refl
IsReduced-zeros (suc n) (suc l) = IsReduced-zeros n l

-- one more value
pub sums_push : (values sums before after : List ℕ) (at v x y : ℕ) → before ≡ map (λ k. ring_add (get_or values k 0) (get_or sums k 0)) (range_with_len 0 at) →
    at < length values → at < length sums → x ≡ get_or values at x → y ≡ get_or sums at y → v ≡ ring_add x y → after ≡ before ++ v ∷ [] →
    after ≡ map (λ k. ring_add (get_or values k 0) (get_or sums k 0)) (range_with_len 0 (at + 1))
sums_push values sums before after at v x y so within there first second is push =
    let f : ℕ → ℕ = λ k. ring_add (get_or values k 0) (get_or sums k 0) in
    let v_is : v ≡ f at = is ∙ ap (λ a. ring_add a y) (get_or_read values at x within first 0) ∙ ap (λ b. ring_add (get_or values at 0) b) (get_or_read sums at y there second 0) in
    push ∙ ap (λ xs. xs ++ v ∷ []) so ∙ ap (λ w. map f (range_with_len 0 at) ++ w ∷ []) v_is ∙ sym (map-range_with_len_more f 0 at at (zero-add at))

-- the sums of the entries of a matrix are the values of its elements
pub values_from_sums : (rows cols : ℕ) (entries : List Entry) (count i : ℕ) (values : List ℕ) → count ≡ rows * cols → length entries ≤ i →
    IsSummed (λ l e. cond (number cols e == l) e.value 0) entries (replicate count 0) i values → IsReduced values → values ≡ matrix_values rows cols entries
values_from_sums rows cols entries count i values is_count end so reduced =
    let part : ℕ → Entry → ℕ = λ l e. cond (number cols e == l) e.value 0 in
    let long : length values ≡ rows * cols = so.long ∙ length-zeros count ∙ is_count in
    fill_by_all (element cols entries) values (rows * cols) 0 long (λ k below.
    let start : get_or (replicate count 0) k 0 ≡ 0 = get_or-replicate count k 0 0 (omega arith) in
    let within : k < length (replicate count 0) = rw (length-zeros count) (omega arith) in
    sym (reduced k) ∙ so.at k within ∙ ap (λ a. (a + sum_by (part k) (take i entries)) % 2 ^ 64) start ∙
    ap (λ a. a % 2 ^ 64) (zero-add (sum_by (part k) (take i entries))) ∙ ap (λ xs. sum_by (part k) xs % 2 ^ 64) (take_all i entries end))
