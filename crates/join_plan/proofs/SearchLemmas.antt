-- Searches of one reference after another.
use Rattle.std.proofs.Common.{◌≡◌, ◌∙◌, ℕ, zero, suc, ◌+◌, ◌<◌, Bool, true, false, cond, List, [], ◌∷◌, ◌++◌, map, length, refl, sym, ap, subst, arith}
use Rattle.std.specs.Prelude.{replicate}
use Rattle.std.specs.List.{flat_map, fold, range_with_len}
use Rattle.std.proofs.lemmas.Grind.{flat_map-append}
use Rattle.std.proofs.lemmas.List.{append-nil}
use Rattle.std.proofs.lemmas.List.Sums.{sum_by-append}
use Rattle.placement.specs.PlacementLaws.{range_more}
use Rattle.term_model.specs.Plans.{Known, Query, Search, can_search, deeper, depth_of, due_searches, searched, searches, tries}
use Rattle.join_plan.specs.Costs.{Measures, weight_of}
use Rattle.join_plan.specs.Progress.{searched_by, tries_before}

-- searches go on from where the first ones came to
pub searches_more : (q : Query) (k : Known) (xs ys : List ℕ) → searches q k (xs ++ ys) ≡ searches q k xs ++ searches q (searched_by q k xs) ys
searches_more q k [] ys = refl
searches_more q k (x ∷ xs) ys = at (can_search q k x) (ap (λ ss. record { reference = x; level = k.located x } ∷ ss) (searches_more q (record k { located = deeper x k.located }) xs ys)) (searches_more q k xs ys)
  where
    on : Known
    on = record k { located = deeper x k.located }

    at : (b : Bool) →
        (record { reference = x; level = k.located x } ∷ searches q on (xs ++ ys)) ≡ (record { reference = x; level = k.located x } ∷ searches q on xs) ++ searches q (searched_by q on xs) ys →
        searches q k (xs ++ ys) ≡ searches q k xs ++ searches q (searched_by q k xs) ys →
        cond b (record { reference = x; level = k.located x } ∷ searches q on (xs ++ ys)) (searches q k (xs ++ ys))
        ≡ cond b (record { reference = x; level = k.located x } ∷ searches q on xs) (searches q k xs)
        ++ searches q (record k { located = fold (λ located s. deeper s.reference located) k.located (cond b (record { reference = x; level = k.located x } ∷ searches q on xs) (searches q k xs)) }) ys
    at true found none = found
    at false found none = none

fold_more : (located : ℕ → ℕ) (xs ys : List Search) →
    fold (λ at s. deeper s.reference at) located (xs ++ ys) ≡ fold (λ at s. deeper s.reference at) (fold (λ at s. deeper s.reference at) located xs) ys
fold_more located [] ys = refl
fold_more located (x ∷ xs) ys = fold_more (deeper x.reference located) xs ys

pub searched_more : (q : Query) (k : Known) (xs ys : List ℕ) → searched_by q k (xs ++ ys) ≡ searched_by q (searched_by q k xs) ys
searched_more q k xs ys =
    ap (λ ss. record k { located = fold (λ located s. deeper s.reference located) k.located ss }) (searches_more q k xs ys)
    ∙ ap (λ located. record k { located = located }) (fold_more k.located (searches q k xs) (searches q (searched_by q k xs) ys))

pub weight_more : (q : Query) (m : Measures) (k : Known) (xs ys : List ℕ) →
    weight_of m (searches q k (xs ++ ys)) ≡ weight_of m (searches q k xs) + weight_of m (searches q (searched_by q k xs) ys)
weight_more q m k xs ys =
    ap (weight_of m) (searches_more q k xs ys) ∙ sum_by-append (λ s. (m.stat s.reference s.level).weight) (searches q k xs) (searches q (searched_by q k xs) ys)

-- one reference more
pub before_more : (q : Query) (r : ℕ) → tries_before q (r + 1) ≡ tries_before q r ++ replicate (depth_of q r) r
before_more q r =
    ap (flat_map (λ s. replicate (depth_of q s) s)) (range_more r) ∙ flat_map-append (λ s. replicate (depth_of q s) s) (range_with_len 0 r) (r ∷ [])
    ∙ ap (λ xs. tries_before q r ++ xs) (append-nil (replicate (depth_of q r) r))

pub all_tried : (q : Query) (k : Known) → searches q k (tries_before q (length q.sparse)) ≡ due_searches q k
unfolding due_searches
all_tried q k = refl

pub all_searched : (q : Query) (k : Known) → searched_by q k (tries_before q (length q.sparse)) ≡ searched q k
all_searched q k = ap (λ ss. record k { located = fold (λ located s. deeper s.reference located) k.located ss }) (all_tried q k)

-- one try, of a reference that can search and of one that cannot
pub tried_true : (q : Query) (k : Known) (r : ℕ) → can_search q k r ≡ true → searches q k (r ∷ []) ≡ record { reference = r; level = k.located r } ∷ []
tried_true q k r is = ap (λ b. cond b (record { reference = r; level = k.located r } ∷ []) []) is

pub tried_false : (q : Query) (k : Known) (r : ℕ) → can_search q k r ≡ false → searches q k (r ∷ []) ≡ []
tried_false q k r is = ap (λ b. cond b (record { reference = r; level = k.located r } ∷ []) []) is

pub searched_true : (q : Query) (k : Known) (r : ℕ) → can_search q k r ≡ true → searched_by q k (r ∷ []) ≡ record k { located = deeper r k.located }
searched_true q k r is = ap (λ ss. record k { located = fold (λ located s. deeper s.reference located) k.located ss }) (tried_true q k r is)

pub searched_false : (q : Query) (k : Known) (r : ℕ) → can_search q k r ≡ false → searched_by q k (r ∷ []) ≡ k
searched_false q k r is = ap (λ ss. record k { located = fold (λ located s. deeper s.reference located) k.located ss }) (tried_false q k r is)
