-- A nest has no point twice.
use Rattle.std.proofs.Common.{◌≡◌, ◌≢◌, ℕ, zero, suc, ◌+◌, ◌<◌, List, [], ◌∷◌, ◌++◌, ℤ, pos, ◌+ℤ◌, ◌-ℤ◌, map, get_or, arith}
use Rattle.std.specs.List.{All, AllPairs, flat_map, range_with_len}
use Rattle.std.proofs.lemmas.Int.{ints}
use Rattle.std.proofs.lemmas.List.Elements.{All-nil, All-cons, All-append, All-map}
use Rattle.std.proofs.lemmas.List.Kept.{AllPairs-cons, AllPairs-filter}
use Rattle.bern_base.specs.declared.job.Nest.{Nest}
use Rattle.job_model.specs.Points.{box_of, choices, meets, natural, points, spans_of, values_of}

-- no two of a list are one
abbrev Apart : {X : Type 0} → List X → Type 0
Apart [] = Unit {0}
Apart (x ∷ xs) = All (λ y. x ≢ y) xs × Apart xs

all_tail : {X : Type 0} (P : X → Type 0) (x : X) (xs : List X) → All P (x ∷ xs) → All P xs
all_tail P x xs all k d below = all (suc k) d (omega (arith, below))

apart_append : {X : Type 0} (xs ys : List X) → Apart xs → Apart ys → All (λ x. All (λ y. x ≢ y) ys) xs → Apart (xs ++ ys)
apart_append [] ys first second between = second
apart_append (x ∷ xs) ys first second between = (
  All-append (λ y. x ≢ y) xs ys first.0 (between 0 x (omega arith)),
  apart_append xs ys first.1 second (all_tail (λ x. All (λ y. x ≢ y) ys) x xs between),
)

apart_map : {X Y : Type 0} (f : X → Y) (xs : List X) → ((x y : X) → f x ≡ f y → x ≡ y) → Apart xs → Apart (map f xs)
apart_map f [] once apart = tt
apart_map f (x ∷ xs) once apart = (All-map (λ z. f x ≢ z) f xs (λ k d below same. apart.0 k d below (once x (get_or xs k d) same)), apart_map f xs once apart.1)

-- pieces without a common item, each without one twice
apart_pieces : {X Y : Type 0} (f : X → List Y) (xs : List X) → ((x y : X) → x ≢ y → All (λ u. All (λ v. u ≢ v) (f y)) (f x)) → ((x : X) → Apart (f x)) → Apart xs → Apart (flat_map f xs)
apart_pieces f [] between each apart = tt
apart_pieces f (x ∷ xs) between each apart =
    apart_append (f x) (flat_map f xs) (each x) (apart_pieces f xs between each apart.1) (λ k d below. all_pieces f xs (get_or (f x) k d) (λ j e under. between x (get_or xs j e) (apart.0 j e under) k d below))
  where
    all_pieces : {X Y : Type 0} (f : X → List Y) (xs : List X) (u : Y) → All (λ y. All (λ v. u ≢ v) (f y)) xs → All (λ v. u ≢ v) (flat_map f xs)
    all_pieces f [] u all = All-nil (λ v. u ≢ v)
    all_pieces f (x ∷ xs) u all = All-append (λ v. u ≢ v) (f x) (flat_map f xs) (all 0 x (omega arith)) (all_pieces f xs u (all_tail (λ y. All (λ v. u ≢ v) (f y)) x xs all))

above : (a n k : ℕ) → k < a → All (λ j. k ≢ j) (range_with_len a n)
above a zero k low = All-nil (λ j. k ≢ j)
above a (suc n) k low = All-cons (λ j. k ≢ j) a (range_with_len (a + 1) n) (λ same. omega (arith, low, same)) (above (a + 1) n k (omega (arith, low)))

range_apart : (a n : ℕ) → Apart (range_with_len a n)
range_apart a zero = tt
range_apart a (suc n) = (above (a + 1) n a (omega arith), range_apart (a + 1) n)

values_apart : (span : ℤ × ℤ) → Apart (values_of span)
values_apart span = apart_map (λ k. span.0 +ℤ pos k) (range_with_len 0 (natural (span.1 -ℤ span.0))) (λ j k same. omega (arith, ints, same)) (range_apart 0 (natural (span.1 -ℤ span.0)))

starts_apart : (a b : ℤ) (rests : List (List ℤ)) → a ≢ b → All (λ u. All (λ v. u ≢ v) (map (λ rest. b ∷ rest) rests)) (map (λ rest. a ∷ rest) rests)
starts_apart a b rests other =
    All-map (λ u. All (λ v. u ≢ v) (map (λ rest. b ∷ rest) rests)) (λ rest. a ∷ rest) rests
    (λ k d below. All-map (λ v. (a ∷ get_or rests k d) ≢ v) (λ rest. b ∷ rest) rests (λ j e under same. other cc))

choices_apart : (spans : List (ℤ × ℤ)) → Apart (choices spans)
choices_apart [] = (All-nil (λ y. [] ≢ y), tt)
choices_apart (span ∷ spans) =
    apart_pieces (λ x. map (λ rest. x ∷ rest) (choices spans)) (values_of span) (λ x y other. starts_apart x y (choices spans) other)
    (λ x. apart_map (λ rest. x ∷ rest) (choices spans) (λ p q same. cc) (choices_apart spans)) (values_apart span)

pairs : {X : Type 0} (xs : List X) → Apart xs → AllPairs (λ x y. x ≢ y) xs
pairs [] apart = λ i j d up below. absurd (omega (arith, below))
pairs (x ∷ xs) apart = AllPairs-cons (λ x y. x ≢ y) x xs apart.0 (pairs xs apart.1)

pub points_apart : (nest : Nest) → AllPairs (λ x y. x ≢ y) (points nest)
points_apart nest = AllPairs-filter (λ x y. x ≢ y) (meets nest.guards) (box_of nest) (pairs (box_of nest) (choices_apart (spans_of nest.vars)))
