-- The choices from four spans are the points of their box.
use Rattle.std.proofs.Common.{◌≡◌, ◌∙◌, ℕ, zero, suc, ◌<◌, List, [], ◌∷◌, ℤ, pos, negsuc, ◌+ℤ◌, ◌-ℤ◌, ◌≤ℤ◌, ◌<ℤ◌, map, length, get_or, refl, sym, ap, subst, arith}
use Rattle.std.specs.List.{All, Contains, flat_map}
use Rattle.std.proofs.Math.Nat.{zero-add}
use Rattle.std.proofs.lemmas.Int.{ints}
use Rattle.std.proofs.lemmas.List.{get_or-map, length-map}
use Rattle.std.proofs.lemmas.List.Elements.{All-nil, All-cons, All-append, All-map, Contains-append_left, Contains-append_right}
use Rattle.std.proofs.lemmas.List.FromFn.{length-map-range_with_len, get_or-map-range_with_len}
use Rattle.bern_base.specs.Affine.{IsInSpan, IsInBox, number_of, span_of}
use Rattle.job_model.specs.Points.{natural, values_of, choices}

natural_is : (z : ℤ) → pos 0 ≤ℤ z → pos (natural z) ≡ z
natural_is (pos n) low = refl
natural_is (negsuc n) low = absurd (omega (arith, ints))

natural_less : (y z : ℤ) → pos 0 ≤ℤ y → y <ℤ z → natural y < natural z
natural_less y z low less =
    let first = natural_is y low in
    let positive : pos 0 ≤ℤ z = omega (arith, ints) in
    let second = natural_is z positive in
    omega (arith, ints)

-- each value of a span is among its values
value_is_there : (span : ℤ × ℤ) (x : ℤ) → IsInSpan span x → Contains (values_of span) x
value_is_there span x inside =
    let k = natural (x -ℤ span.0) in
    let n = natural (span.1 -ℤ span.0) in
    let low = inside.0 in
    let high = inside.1 in
    let start : pos 0 ≤ℤ (x -ℤ span.0) = omega (arith, ints) in
    let less : k < n = natural_less (x -ℤ span.0) (span.1 -ℤ span.0) start (omega (arith, ints)) in
    let whole = natural_is (x -ℤ span.0) start in
    let is : span.0 +ℤ pos k ≡ x = omega (arith, ints) in
    (k, subst (λ m. k < m) (sym (length-map-range_with_len (λ j. span.0 +ℤ pos j) 0 n)) less, get_or-map-range_with_len (λ j. span.0 +ℤ pos j) 0 n k k x less (zero-add k) ∙ is)

map_has : {A B : Type 0} (f : A → B) (xs : List A) (a : A) → Contains xs a → Contains (map f xs) (f a)
map_has f xs a has = (has.0, subst (λ m. has.0 < m) (sym (length-map xs f)) has.1, get_or-map f xs has.0 a (f a) has.1 ∙ ap f has.2)

piece_has : {A B : Type 0} (f : A → List B) (xs : List A) (a : A) (y : B) (k : ℕ) → k < length xs → get_or xs k a ≡ a → Contains (f a) y → Contains (flat_map f xs) y
piece_has f [] a y k below is has = absurd (omega (arith, below))
piece_has f (x ∷ xs) a y zero below is has = Contains-append_left (f x) (flat_map f xs) y (subst (λ b. Contains (f b) y) (sym is) has)
piece_has f (x ∷ xs) a y (suc k) below is has = Contains-append_right (f x) (flat_map f xs) y (piece_has f xs a y k (omega (arith, below)) is has)

-- a choice is a first value and a choice from the other spans
choice_is_there : (span : ℤ × ℤ) (spans : List (ℤ × ℤ)) (x : ℤ) (rest : List ℤ) → IsInSpan span x → Contains (choices spans) rest → Contains (choices (span ∷ spans)) (x ∷ rest)
choice_is_there span spans x rest inside has =
    let value = value_is_there span x inside in
    piece_has (λ v. map (λ more. v ∷ more) (choices spans)) (values_of span) x (x ∷ rest) value.0 value.1 value.2 (map_has (λ more. x ∷ more) (choices spans) rest has)

nothing_is_there : Contains (choices []) []
nothing_is_there = (0, omega arith, refl)

-- no point of a box is left out
pub box_is_whole : (a b c d : ℤ × ℤ) (point : List ℤ) → IsInBox (a ∷ b ∷ c ∷ d ∷ []) point → Contains (choices (a ∷ b ∷ c ∷ d ∷ [])) point
box_is_whole a b c d [] inside = absurd (omega (arith, inside.four))
box_is_whole a b c d (w ∷ []) inside = absurd (omega (arith, inside.four))
box_is_whole a b c d (w ∷ x ∷ []) inside = absurd (omega (arith, inside.four))
box_is_whole a b c d (w ∷ x ∷ y ∷ []) inside = absurd (omega (arith, inside.four))
box_is_whole a b c d (w ∷ x ∷ y ∷ z ∷ []) inside =
    choice_is_there a (b ∷ c ∷ d ∷ []) w (x ∷ y ∷ z ∷ []) (inside.each 0 (omega arith))
    (choice_is_there b (c ∷ d ∷ []) x (y ∷ z ∷ []) (inside.each 1 (omega arith))
    (choice_is_there c (d ∷ []) y (z ∷ []) (inside.each 2 (omega arith))
    (choice_is_there d [] z [] (inside.each 3 (omega arith)) nothing_is_there)))
box_is_whole a b c d (w ∷ x ∷ y ∷ z ∷ v ∷ more) inside = absurd (omega (arith, inside.four))

-- each value lies in its span
AreIn : List (ℤ × ℤ) → List ℤ → Type 0
AreIn [] [] = Unit {0}
AreIn [] (x ∷ xs) = ⊥
AreIn (span ∷ spans) [] = ⊥
AreIn (span ∷ spans) (x ∷ xs) = IsInSpan span x × AreIn spans xs

natural_below : (z : ℤ) (k : ℕ) → k < natural z → pos k <ℤ z
natural_below (pos n) k below = omega (arith, ints)
natural_below (negsuc n) k below = absurd (omega (arith, below))

value_lies : (span : ℤ × ℤ) (k : ℕ) → k < natural (span.1 -ℤ span.0) → IsInSpan span (span.0 +ℤ pos k)
value_lies span k below = let under = natural_below (span.1 -ℤ span.0) k below in (omega (arith, ints), omega (arith, ints))

all_pieces : {A B : Type 0} (P : B → Type 0) (f : A → List B) (xs : List A) → All (λ x. All P (f x)) xs → All P (flat_map f xs)
all_pieces P f [] each = All-nil P
all_pieces P f (x ∷ xs) each = All-append P (f x) (flat_map f xs) (each 0 x (omega arith)) (all_pieces P f xs (λ k d below. each (suc k) d (omega (arith, below))))

values_lie : (span : ℤ × ℤ) → All (IsInSpan span) (values_of span)
values_lie span k d below =
    let n = natural (span.1 -ℤ span.0) in
    let under : k < n = subst (λ m. k < m) (length-map-range_with_len (λ j. span.0 +ℤ pos j) 0 n) below in
    subst (IsInSpan span) (sym (get_or-map-range_with_len (λ j. span.0 +ℤ pos j) 0 n k k d under (zero-add k))) (value_lies span k under)

choices_lie : (spans : List (ℤ × ℤ)) → All (AreIn spans) (choices spans)
unfolding AreIn
choices_lie [] = All-cons (AreIn []) [] [] tt (All-nil (AreIn []))
choices_lie (span ∷ spans) =
    all_pieces (AreIn (span ∷ spans)) (λ x. map (λ rest. x ∷ rest) (choices spans)) (values_of span)
    (λ k d below. All-map (AreIn (span ∷ spans)) (λ rest. get_or (values_of span) k d ∷ rest) (choices spans) (λ j e under. (values_lie span k d below, choices_lie spans j e under)))

in_box : (a b c d : ℤ × ℤ) (point : List ℤ) → AreIn (a ∷ b ∷ c ∷ d ∷ []) point → IsInBox (a ∷ b ∷ c ∷ d ∷ []) point
unfolding AreIn
in_box a b c d [] are = absurd are
in_box a b c d (w ∷ []) are = absurd are.1
in_box a b c d (w ∷ x ∷ []) are = absurd are.1.1
in_box a b c d (w ∷ x ∷ y ∷ []) are = absurd are.1.1.1
in_box a b c d (w ∷ x ∷ y ∷ z ∷ v ∷ more) are = absurd are.1.1.1.1
in_box a b c d (w ∷ x ∷ y ∷ z ∷ []) are = record { four = refl; each = place }
  where
    place : (n : ℕ) → n < 4 → IsInSpan (span_of (a ∷ b ∷ c ∷ d ∷ []) n) (number_of (w ∷ x ∷ y ∷ z ∷ []) n)
    place zero below = are.0
    place (suc zero) below = are.1.0
    place (suc (suc zero)) below = are.1.1.0
    place (suc (suc (suc zero))) below = are.1.1.1.0
    place (suc (suc (suc (suc n)))) below = absurd (omega (arith, below))

-- and no other point
pub box_has_no_other : (a b c d : ℤ × ℤ) → All (IsInBox (a ∷ b ∷ c ∷ d ∷ [])) (choices (a ∷ b ∷ c ∷ d ∷ []))
box_has_no_other a b c d k e below = in_box a b c d (get_or (choices (a ∷ b ∷ c ∷ d ∷ [])) k e) (choices_lie (a ∷ b ∷ c ∷ d ∷ []) k e below)
