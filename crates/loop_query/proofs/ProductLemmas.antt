-- Products of terms, one term or one place of a list at a time.
use Rattle.std.proofs.Common.{◌≡◌, ◌∙◌, ℕ, ◌+◌, ◌*◌, ◌%◌, ◌^◌, ◌<◌, ◌≤◌, List, [], ◌∷◌, ◌++◌, map, length, take, drop, get_or, set, refl, sym, ap, arith}
use Rattle.std.proofs.Math.Nat.{mul-one, mul_comm, mod-eq_of_lt}
use Rattle.std.proofs.lemmas.List.{append-nil, append_assoc, length-take-le, length-map, drop_all, drop_more, set_at, take_all, get_or_at, map_more, flat_map_more, take_more}
use Rattle.bern_base.specs.Ring.{ring_mul}
use Rattle.term_model.specs.declared.term.Term.{Term}
use Rattle.term_model.specs.Terms.{times, choices, number_term}

-- a value times 1
pub times_one : (f m : ℕ) → f < m → f ≡ f * 1 % m
times_one f m below = sym (ap (λ n. n % m) (mul-one f) ∙ mod-eq_of_lt below)

pub scaled_is : (n : ℕ) (t : Term) → record t { factor = ring_mul t.factor n } ≡ times t (number_term n)
scaled_is n t i = record { factor = ring_mul t.factor n; dense = sym (append-nil t.dense) i; sparse = sym (append-nil t.sparse) i }

-- all choices of a term and one other
pub choices_one : (b : Term) (ts : List Term) → map (λ t. times t b) ts ≡ choices ts (b ∷ [])
choices_one b [] = refl
choices_one b (t ∷ ts) = ap (λ rest. times t b ∷ rest) (choices_one b ts)

-- a number may stand on either side
number_first : (n : ℕ) (t : Term) → times t (number_term n) ≡ times (number_term n) t
number_first n t i = record { factor = ap (λ p. p % 2 ^ 64) (mul_comm t.factor n) i; dense = append-nil t.dense i; sparse = append-nil t.sparse i }

pub choices_number : (n : ℕ) (ts : List Term) → choices ts (number_term n ∷ []) ≡ choices (number_term n ∷ []) ts
choices_number n [] = refl
choices_number n (t ∷ ts) = ap (λ s. s ∷ choices ts (number_term n ∷ [])) (number_first n t) ∙ ap (λ rest. times (number_term n) t ∷ rest) (choices_number n ts)

-- the first i items of a list changed, and one more
pub changed_more : {X : Type 0} (f : X → X) (xs now : List X) (i : ℕ) (x y : X) → i < length xs → now ≡ map f (take i xs) ++ drop i xs → x ≡ get_or now i x → y ≡ f x →
    set now i y ≡ map f (take (i + 1) xs) ++ drop (i + 1) xs
changed_more f xs now i x y below is here y_is =
    let front = map f (take i xs) in
    let long : length front ≡ i = length-map (take i xs) f ∙ length-take-le i xs (omega (arith, below)) in
    let split : now ≡ front ++ (get_or xs i x ∷ drop (i + 1) xs) = is ∙ ap (λ rest. front ++ rest) (drop_more xs i x below) in
    let item : x ≡ get_or xs i x = here ∙ ap (λ l. get_or l i x) split ∙ get_or_at front (get_or xs i x) (drop (i + 1) xs) x i long in
    let value : y ≡ f (get_or xs i x) = y_is ∙ ap f item in
    ap (λ l. set l i y) split ∙ set_at front (get_or xs i x) (drop (i + 1) xs) y i long
    ∙ ap (λ z. front ++ (z ∷ drop (i + 1) xs)) value
    ∙ sym (append_assoc front (f (get_or xs i x) ∷ []) (drop (i + 1) xs))
    ∙ ap (λ l. l ++ drop (i + 1) xs) (sym (map_more f xs i x below))

pub changed_all : {X : Type 0} (f : X → X) (xs now : List X) (i : ℕ) → length xs ≤ i → now ≡ map f (take i xs) ++ drop i xs → now ≡ map f xs
changed_all f xs now i all is = is ∙ ap (λ l. map f l ++ drop i xs) (take_all i xs all) ∙ ap (λ l. map f xs ++ l) (drop_all i xs all) ∙ append-nil (map f xs)

-- one more term on the left of all choices
pub choices_more : (left right : List Term) (i : ℕ) (t : Term) → i < length left → t ≡ get_or left i t → choices (take i left) right ++ map (times t) right ≡ choices (take (i + 1) left) right
choices_more left right i t below is =
    flat_map_more (λ a. map (times a) right) [] (take i left) t ∙ ap (λ l. choices l right) (ap (λ x. take i left ++ x ∷ []) is ∙ sym (take_more left i t below))

-- a list whose items were all multiplied in place, in a vector of so many items
pub all_multiplied : (b : Term) (xs now : List Term) (i : ℕ) → length xs ≤ i → now ≡ map (λ t. times t b) (take i xs) ++ drop i xs → now ≡ choices xs (b ∷ [])
all_multiplied b xs now i all is = changed_all (λ t. times t b) xs now i all is ∙ choices_one b xs
