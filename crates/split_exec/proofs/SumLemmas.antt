-- Sums over what a list keeps, and sums that grow.
use Rattle.std.proofs.Common.{◌≡◌, ◌∙◌, ℕ, ◌+◌, ◌%◌, ◌^◌, ◌<◌, Bool, true, false, cond, List, [], ◌∷◌, length, refl, sym, ap, subst, ⊎_elim}
use Rattle.std.specs.Prelude.{if◌then◌else◌, slice_index, slice_set}
use Rattle.std.specs.List.{filter, sum_by}
use Rattle.std.proofs.Math.Nat.{add-zero, zero-add, add_assoc, mod-add-mod, mod-mod, add-mod-mod}
use Rattle.std.proofs.lemmas.List.Sums.{sum_by-cons}
use Rattle.std.proofs.lemmas.Bool.{cases_eq}
use Rattle.std.proofs.lemmas.List.{length-set, get_or-set_same, get_or-set_other}
use Rattle.bern_base.specs.Ring.{ring_add}
use Rattle.split_exec.specs.Hits.{Grow, Owe}

pub sum_filter : {X : Type 0} (f : X → ℕ) (p : X → Bool) (xs : List X) → sum_by f (filter p xs) ≡ sum_by (λ x. if p x then f x else 0) xs
sum_filter f p [] = refl
sum_filter f p (x ∷ xs) = by (p x) (sum_filter f p xs) ∙ sym (sum_by-cons (λ y. if p y then f y else 0) x xs)
  where
    by : (b : Bool) → sum_by f (filter p xs) ≡ sum_by (λ y. if p y then f y else 0) xs →
        sum_by f (cond b (x ∷ filter p xs) (filter p xs)) ≡ (if b then f x else 0) + sum_by (λ y. if p y then f y else 0) xs
    by true rest = sum_by-cons f x (filter p xs) ∙ ap (λ n. f x + n) rest
    by false rest = rest ∙ sym (zero-add (sum_by (λ y. if p y then f y else 0) xs))

-- nothing is added
pub grow_none : (sums : List ℕ) (added : ℕ → ℕ) → ((k : ℕ) → added k ≡ 0) → Grow sums sums added
grow_none sums added none = record {
  count = refl;
  each = λ k low. ap (λ n. n % 2 ^ 64) (sym (add-zero (slice_index sums k)) ∙ ap (λ n. slice_index sums k + n) (sym (none k)));
}

-- one growth after another
pub grow_both : (first next last : List ℕ) (f g : ℕ → ℕ) → Grow first next f → Grow next last g → Grow first last (λ k. f k + g k)
grow_both first next last f g one two = record {
  count = two.count ∙ one.count;
  each = λ k low.
      two.each k (subst (λ n. k < n) (sym one.count) low)
      ∙ sym (mod-add-mod (slice_index next k) (2 ^ 64) (g k))
      ∙ ap (λ n. (n + g k) % 2 ^ 64) (one.each k low)
      ∙ mod-add-mod (slice_index first k + f k) (2 ^ 64) (g k)
      ∙ ap (λ n. n % 2 ^ 64) (add_assoc (slice_index first k) (f k) (g k));
}

pub grow_alike : (old new : List ℕ) (f g : ℕ → ℕ) → ((k : ℕ) → f k ≡ g k) → Grow old new f → Grow old new g
grow_alike old new f g same grow = record {
  count = grow.count;
  each = λ k low. grow.each k low ∙ ap (λ n. (slice_index old k + n) % 2 ^ 64) (same k);
}

-- the same modulo 2^64
pub grow_alike-mod : (old new : List ℕ) (f g : ℕ → ℕ) → ((k : ℕ) → f k % 2 ^ 64 ≡ g k % 2 ^ 64) → Grow old new f → Grow old new g
grow_alike-mod old new f g same grow = record {
  count = grow.count;
  each = λ k low.
      grow.each k low
      ∙ sym (add-mod-mod (slice_index old k) (f k) (2 ^ 64))
      ∙ ap (λ n. (slice_index old k + n) % 2 ^ 64) (same k)
      ∙ add-mod-mod (slice_index old k) (g k) (2 ^ 64);
}

-- ---- what is left to add

pub owe_first : (sums : List ℕ) (all : ℕ → ℕ) → Owe sums all sums all
owe_first sums all = record { count = refl; each = λ k low. refl }

pub owe_next : (now next first : List ℕ) (left rest all g : ℕ → ℕ) → Owe now left first all → Grow now next g → ((k : ℕ) → left k ≡ g k + rest k) → Owe next rest first all
owe_next now next first left rest all g owe grow parts = record {
  count = grow.count ∙ owe.count;
  each = λ k low.
      sym (mod-add-mod (slice_index next k) (2 ^ 64) (rest k))
      ∙ ap (λ n. (n + rest k) % 2 ^ 64) (grow.each k (subst (λ n. k < n) (sym owe.count) low))
      ∙ mod-add-mod (slice_index now k + g k) (2 ^ 64) (rest k)
      ∙ ap (λ n. n % 2 ^ 64) (add_assoc (slice_index now k) (g k) (rest k))
      ∙ ap (λ n. (slice_index now k + n) % 2 ^ 64) (sym (parts k))
      ∙ owe.each k low;
}

pub owe_last : (now first : List ℕ) (left all : ℕ → ℕ) → Owe now left first all → ((k : ℕ) → left k ≡ 0) → Grow first now all
owe_last now first left all owe none = record {
  count = owe.count;
  each = λ k low. ap (λ n. n % 2 ^ 64) (sym (add-zero (slice_index now k)) ∙ ap (λ n. slice_index now k + n) (sym (none k))) ∙ owe.each k low;
}

-- one sum is made greater by a value
pub grow_one : (sums : List ℕ) (at value : ℕ) (added : ℕ → ℕ) → at < length sums → (added at % 2 ^ 64 ≡ value % 2 ^ 64) → ((k : ℕ) → (k ≡ at → ⊥) → added k ≡ 0) →
    Grow sums (slice_set sums at (ring_add (slice_index sums at) value)) added
grow_one sums at value added low here none = record {
  count = length-set sums at (ring_add (slice_index sums at) value);
  each = λ k within. ⊎_elim
      (λ (same : k ≡ at).
      ap (λ n. slice_index (slice_set sums at (ring_add (slice_index sums at) value)) n % 2 ^ 64) same
      ∙ ap (λ n. n % 2 ^ 64) (get_or-set_same sums at (ring_add (slice_index sums at) value) 0 low)
      ∙ mod-mod (slice_index sums at + value) (2 ^ 64)
      ∙ sym (add-mod-mod (slice_index sums at) value (2 ^ 64))
      ∙ ap (λ n. (slice_index sums at + n) % 2 ^ 64) (sym here)
      ∙ add-mod-mod (slice_index sums at) (added at) (2 ^ 64)
      ∙ sym (ap (λ n. (slice_index sums n + added n) % 2 ^ 64) same))
      (λ (apart : k ≡ at → ⊥).
      ap (λ n. n % 2 ^ 64) (get_or-set_other sums at k (ring_add (slice_index sums at) value) 0 apart ∙ sym (add-zero (slice_index sums k)) ∙ ap (λ n. slice_index sums k + n) (sym (none k apart))))
      (cases_eq k at);
}
