-- The points of a box, one value of one variable at a time.
use Rattle.std.proofs.Common.{◌≡◌, ◌∙◌, ℕ, zero, suc, ◌+◌, ◌-◌, ◌<◌, ◌≤◌, Bool, true, false, List, [], ◌∷◌, ◌++◌, ℤ, pos, negsuc, ◌+ℤ◌, ◌-ℤ◌, ◌*ℤ◌, ◌<ℤ◌, map, length, get_or, take, drop, refl, sym, ap, subst, append_assoc, append-nil, inl, inr, ◌⊎◌, ⊎_elim, arith}
use Rattle.std.specs.Prelude.{not, slice_set}
use Rattle.std.specs.List.{All, flat_map, range_with_len}
use Rattle.std.proofs.Math.Nat.{zero-add}
use Rattle.std.proofs.lemmas.Bool.{cases_eq, cases_lt}
use Rattle.std.proofs.lemmas.Bool.Decides.{Decides-int_eq}
use Rattle.std.proofs.lemmas.Grind.{flat_map-append}
use Rattle.std.proofs.lemmas.Int.{ints}
use Rattle.std.proofs.lemmas.List.{map-append, get_or-set_same, get_or-set_other, take_more_set, drop_more, take_all, drop_all, get_or_default, length-set, length-take-le, length-drop, length-append, get_or_append_left, get_or-append-add, get_or-take, get_or-drop}
use Rattle.std.proofs.lemmas.List.Elements.{All-append, All-cons, All-map, All-nil}
use Rattle.std.proofs.lemmas.List.Folds.{flat_map-map}
use Rattle.std.proofs.lemmas.List.FromFn.{get_or-map-range_with_len, length-map-range_with_len}
use Rattle.std.specs.Ordering.{int_eq}
use Rattle.term_model.specs.Plans.{has_factor}
use Rattle.bern_base.specs.Affine.{AffineForm, IsInBox, IsWithin, IsInSpan, IsPoint, number_of, span_of, value_at}
use Rattle.bern_base.specs.declared.job.Span.{Span}
use Rattle.job_model.specs.Points.{natural, values_of, choices, bounds_at, spans_of}
use Rattle.job_model.specs.Runnable.{IsNear}
use Rattle.placement.specs.PlacementLaws.{range_more}
use Rattle.split_exec.specs.Boxes.{AreAlike, AreChosen, HangsOn, IsNearSpan, points_below, points_from}

natural_below : (z : ℤ) (k : ℕ) → k < natural z → pos k <ℤ z
natural_below (pos n) k below = omega (arith, ints)
natural_below (negsuc n) k below = absurd (omega (arith, below))

-- the k-th value of a span lies in it
pub value_in_span : (span : ℤ × ℤ) (k : ℕ) → k < natural (span.1 -ℤ span.0) → IsInSpan span (span.0 +ℤ pos k)
value_in_span span k below = let under = natural_below (span.1 -ℤ span.0) k below in (omega (arith, ints), omega (arith, ints))

-- spans of near bounds are not long
pub few_values : (span : ℤ × ℤ) (k : ℕ) → IsNearSpan span → k < natural (span.1 -ℤ span.0) → k < 8388608
few_values span k near below = let under = natural_below (span.1 -ℤ span.0) k below in let lo = near.0.0 in let hi = near.1.1 in omega (arith, ints)

-- and have values of points
pub near_value : (span : ℤ × ℤ) (k : ℕ) → IsNearSpan span → k < natural (span.1 -ℤ span.0) → IsWithin 4194303 (span.0 +ℤ pos k)
near_value span k near below = let under = natural_below (span.1 -ℤ span.0) k below in let lo = near.0.0 in let hi = near.1.1 in (omega (arith, ints), omega (arith, ints))

-- one value more is chosen
pub one_chosen : (spans : List (ℤ × ℤ)) (depth : ℕ) (values : List ℤ) (x : ℤ) → depth < length values → AreChosen spans depth values → IsInSpan (span_of spans depth) x → AreChosen spans (depth + 1) (slice_set values depth x)
one_chosen spans depth values x within chosen inside v below =
    ⊎_elim
    (λ here. subst (λ n. IsInSpan (span_of spans n) (number_of (slice_set values depth x) n)) (sym here) (subst (IsInSpan (span_of spans depth)) (sym (get_or-set_same values depth x (pos 0) within)) inside))
    (λ apart. subst (IsInSpan (span_of spans v)) (sym (get_or-set_other values depth v x (pos 0) apart)) (chosen v (omega (arith, below, apart))))
    (cases_eq v depth)

-- a point with another value of one variable
pub point_set : (values : List ℤ) (v : ℕ) (x : ℤ) → IsPoint values → IsWithin 4194303 x → IsPoint (slice_set values v x)
point_set values v x near here k d below =
    let inside : k < length values = omega (arith, below, length-set values v x) in
    ⊎_elim
    (λ (same : k ≡ v). subst (IsWithin 4194303) (sym (ap (λ n. get_or (slice_set values v x) n d) same ∙ get_or-set_same values v x d (subst (λ n. n < length values) same inside))) here)
    (λ (apart : k ≡ v → ⊥). subst (IsWithin 4194303) (sym (get_or-set_other values v k x d apart)) (near k d inside))
    (cases_eq k v)

near_at : (vars : List Span) → All IsNear vars → (n : ℕ) → IsNearSpan (bounds_at vars n)
near_at [] near n = ((omega (arith, ints), omega (arith, ints)), (omega (arith, ints), omega (arith, ints)))
near_at (x ∷ xs) near zero = near 0 x (omega arith)
near_at (x ∷ xs) near (suc n) = near_at xs (λ k d below. near (suc k) d (omega (arith, below))) n

pub near_bounds : (vars : List Span) → All IsNear vars → (n : ℕ) → IsNearSpan (bounds_at vars n)
near_bounds vars near n = near_at vars near n

pub span_is : (vars : List Span) (v : ℕ) → v < 4 → span_of (spans_of vars) v ≡ bounds_at vars v
span_is vars zero below = refl
span_is vars (suc zero) below = refl
span_is vars (suc (suc zero)) below = refl
span_is vars (suc (suc (suc zero))) below = refl
span_is vars (suc (suc (suc (suc v)))) below = absurd (omega (arith, below))

map_id : {A : Type 0} (xs : List A) → map (λ x. x) xs ≡ xs
map_id [] = refl
map_id (x ∷ xs) = ap (λ ys. x ∷ ys) (map_id xs)

map-flat_map : {A B C : Type 0} (g : B → C) (f : A → List B) (xs : List A) → map g (flat_map f xs) ≡ flat_map (λ x. map g (f x)) xs
map-flat_map g f [] = refl
map-flat_map g f (x ∷ xs) = map-append g (f x) (flat_map f xs) ∙ ap (λ ys. map g (f x) ++ ys) (map-flat_map g f xs)

map_agree : {A B : Type 0} (f g : A → B) → ((x : A) → f x ≡ g x) → (xs : List A) → map f xs ≡ map g xs
map_agree f g agree [] = refl
map_agree f g agree (x ∷ xs) = ap (λ y. y ∷ map f xs) (agree x) ∙ ap (λ ys. g x ∷ ys) (map_agree f g agree xs)

flat_map_agree : {A B : Type 0} (f g : A → List B) → ((x : A) → f x ≡ g x) → (xs : List A) → flat_map f xs ≡ flat_map g xs
flat_map_agree f g agree [] = refl
flat_map_agree f g agree (x ∷ xs) = ap (λ y. y ++ flat_map f xs) (agree x) ∙ ap (λ ys. g x ++ ys) (flat_map_agree f g agree xs)

map-map : {A B C : Type 0} (g : B → C) (f : A → B) (xs : List A) → map g (map f xs) ≡ map (λ x. g (f x)) xs
map-map g f [] = refl
map-map g f (x ∷ xs) = ap (λ ys. g (f x) ∷ ys) (map-map g f xs)

-- all values of the next variable, one after another
pub box_step : (front : List ℤ) (span : ℤ × ℤ) (spans : List (ℤ × ℤ)) → points_from front (span ∷ spans) ≡ points_below front spans span.0 (natural (span.1 -ℤ span.0))
box_step front span spans =
    map-flat_map (λ rest. front ++ rest) (λ x. map (λ rest. x ∷ rest) (choices spans)) (values_of span)
    ∙ flat_map-map (λ x. map (λ rest. front ++ rest) (map (λ rest. x ∷ rest) (choices spans))) (λ k. span.0 +ℤ pos k) (range_with_len 0 (natural (span.1 -ℤ span.0)))
    ∙ flat_map_agree (λ k. map (λ rest. front ++ rest) (map (λ rest. (span.0 +ℤ pos k) ∷ rest) (choices spans))) (λ k. points_from (front ++ (span.0 +ℤ pos k) ∷ []) spans)
    (λ k. map-map (λ rest. front ++ rest) (λ rest. (span.0 +ℤ pos k) ∷ rest) (choices spans) ∙ map_agree (λ rest. front ++ (span.0 +ℤ pos k) ∷ rest) (λ rest. (front ++ (span.0 +ℤ pos k) ∷ []) ++ rest) (λ rest. sym (append_assoc front ((span.0 +ℤ pos k) ∷ []) rest)) (choices spans))
    (range_with_len 0 (natural (span.1 -ℤ span.0)))

-- one value more of the variable
pub below_more : (front : List ℤ) (spans : List (ℤ × ℤ)) (lo : ℤ) (k : ℕ) → points_below front spans lo (k + 1) ≡ points_below front spans lo k ++ points_from (front ++ (lo +ℤ pos k) ∷ []) spans
below_more front spans lo k =
    ap (flat_map (λ j. points_from (front ++ (lo +ℤ pos j) ∷ []) spans)) (range_more k)
    ∙ flat_map-append (λ j. points_from (front ++ (lo +ℤ pos j) ∷ []) spans) (range_with_len 0 k) (k ∷ [])
    ∙ ap (λ l. points_below front spans lo k ++ l) (append-nil (points_from (front ++ (lo +ℤ pos k) ∷ []) spans))

-- the same, where the values are kept in a list of four
pub next_points : (values : List ℤ) (depth : ℕ) (spans : List (ℤ × ℤ)) (lo : ℤ) (k : ℕ) → depth < length values →
    points_below (take depth values) spans lo (k + 1) ≡ points_below (take depth values) spans lo k ++ points_from (take (depth + 1) (slice_set values depth (lo +ℤ pos k))) spans
next_points values depth spans lo k within =
    below_more (take depth values) spans lo k
    ∙ ap (λ f. points_below (take depth values) spans lo k ++ points_from f spans) (sym (take_more_set values depth (lo +ℤ pos k) within))

-- after all values of a variable
pub all_points : (front : List ℤ) (depth : ℕ) (spans : List (ℤ × ℤ)) (span : ℤ × ℤ) (count : ℕ) → depth < length spans → span ≡ span_of spans depth → count ≡ natural (span.1 -ℤ span.0) →
    points_below front (drop (depth + 1) spans) span.0 count ≡ points_from front (drop depth spans)
all_points front depth spans span count within is long =
    ap (λ n. points_below front (drop (depth + 1) spans) span.0 n) long
    ∙ sym (box_step front span (drop (depth + 1) spans))
    ∙ ap (λ s. points_from front (s ∷ drop (depth + 1) spans)) is
    ∙ ap (λ l. points_from front l) (sym (drop_more spans depth (pos 0, pos 0) within))

-- where all values are chosen there is one point
pub one_point : (values : List ℤ) (spans : List (ℤ × ℤ)) → length values ≡ 4 → length spans ≡ 4 → points_from (take 4 values) (drop 4 spans) ≡ values ∷ []
one_point values spans four long =
    let none : drop 4 spans ≡ [] = drop_all 4 spans (omega arith) in
    let whole : take 4 values ≡ values = take_all 4 values (omega arith) in
    ap (λ l. points_from (take 4 values) l) none ∙ ap (λ l. l ∷ []) (append-nil (take 4 values) ∙ whole)

-- where none is, there are all
pub no_point : (values : List ℤ) (spans : List (ℤ × ℤ)) → points_from (take 0 values) (drop 0 spans) ≡ choices spans
no_point values spans = map_id (choices spans)

-- ---- points of the box

-- each value lies in its span
pub record AreIn (spans : List (ℤ × ℤ)) (x : List ℤ) : Type 0 where
  pub long : length x ≡ length spans
  pub each : (v : ℕ) → v < length spans → IsInSpan (span_of spans v) (number_of x v)

value_lies : (span : ℤ × ℤ) → All (IsInSpan span) (values_of span)
value_lies span k d below =
    let n = natural (span.1 -ℤ span.0) in
    let under : k < n = subst (λ m. k < m) (length-map-range_with_len (λ j. span.0 +ℤ pos j) 0 n) below in
    subst (IsInSpan span) (sym (get_or-map-range_with_len (λ j. span.0 +ℤ pos j) 0 n k k d under (zero-add k))) (value_in_span span k under)

one_more : (span : ℤ × ℤ) (spans : List (ℤ × ℤ)) (x : ℤ) (rest : List ℤ) → IsInSpan span x → AreIn spans rest → AreIn (span ∷ spans) (x ∷ rest)
one_more span spans x rest inside are = record { long = ap suc are.long; each = at }
  where
    at : (v : ℕ) → v < suc (length spans) → IsInSpan (span_of (span ∷ spans) v) (number_of (x ∷ rest) v)
    at zero low = inside
    at (suc v) low = are.each v (omega (arith, low))

all_pieces : {A B : Type 0} (P : B → Type 0) (f : A → List B) (xs : List A) → All (λ x. All P (f x)) xs → All P (flat_map f xs)
all_pieces P f [] each = All-nil P
all_pieces P f (x ∷ xs) each = All-append P (f x) (flat_map f xs) (each 0 x (omega arith)) (all_pieces P f xs (λ k d below. each (suc k) d (omega (arith, below))))

choices_in : (spans : List (ℤ × ℤ)) → All (AreIn spans) (choices spans)
choices_in [] = All-cons (AreIn []) [] [] (record { long = refl; each = λ v low. absurd (omega (arith, low)) }) (All-nil (AreIn []))
choices_in (span ∷ spans) =
    all_pieces (AreIn (span ∷ spans)) (λ x. map (λ rest. x ∷ rest) (choices spans)) (values_of span)
    (λ k d below. All-map (AreIn (span ∷ spans)) (λ rest. get_or (values_of span) k d ∷ rest) (choices spans)
    (λ j e under. one_more span spans (get_or (values_of span) k d) (get_or (choices spans) j e) (value_lies span k d below) (choices_in spans j e under)))

-- the points with these first values have them, and lie in the box
pub record BeginsIn (spans : List (ℤ × ℤ)) (depth : ℕ) (values x : List ℤ) : Type 0 where
  pub box : IsInBox spans x
  pub alike : AreAlike depth values x

begins : (spans : List (ℤ × ℤ)) (depth : ℕ) (values rest : List ℤ) → length spans ≡ 4 → length values ≡ 4 → depth ≤ 4 → AreChosen spans depth values → AreIn (drop depth spans) rest →
    BeginsIn spans depth values (take depth values ++ rest)
begins spans depth values rest long four few chosen are =
    let front = take depth values in
    let front_long : length front ≡ depth = length-take-le depth values (omega (arith, few, four)) in
    let rest_long : length rest ≡ 4 - depth = are.long ∙ length-drop depth spans ∙ ap (λ n. n - depth) long in
    let first : (v : ℕ) → v < depth → number_of values v ≡ number_of (front ++ rest) v = λ v low.
    sym (get_or_append_left front rest (pos 0) v (omega (arith, low, front_long)) ∙ get_or-take depth values v (pos 0) low) in
    record {
      box = record {
        four = length-append front rest ∙ omega (arith, front_long, rest_long, few);
        each = λ v low. ⊎_elim
            (λ (before : v < depth). subst (IsInSpan (span_of spans v)) (first v before) (chosen v before))
            (λ (after : depth ≤ v).
            let k : ℕ = v - depth in
            let place : depth + k ≡ v = omega (arith, after) in
            let value : number_of (front ++ rest) v ≡ number_of rest k =
            ap (number_of (front ++ rest)) (sym place ∙ ap (λ n. n + k) (sym front_long)) ∙ get_or-append-add front rest k (pos 0) in
            let span : span_of (drop depth spans) k ≡ span_of spans v = get_or-drop depth spans k (pos 0, pos 0) ∙ ap (span_of spans) place in
            subst (λ z. IsInSpan (span_of spans v) z) (sym value)
            (subst (λ s. IsInSpan s (number_of rest k)) span (are.each k (omega (arith, low, place, length-drop depth spans, long)))))
            (cases_lt v depth);
      };
      alike = first;
    }

pub from_inside : (spans : List (ℤ × ℤ)) (depth : ℕ) (values : List ℤ) → length spans ≡ 4 → length values ≡ 4 → depth ≤ 4 → AreChosen spans depth values →
    All (BeginsIn spans depth values) (points_from (take depth values) (drop depth spans))
from_inside spans depth values long four few chosen =
    All-map (BeginsIn spans depth values) (λ rest. take depth values ++ rest) (choices (drop depth spans))
    (λ k d below. begins spans depth values (get_or (choices (drop depth spans)) k d) long four few chosen (choices_in (drop depth spans) k d below))

-- ---- forms

-- what a variable adds is the same where it has no factor or the same value
term_alike : (form : AffineForm) (p q : List ℤ) (v : ℕ) → (number_of form.coef v ≡ pos 0) ⊎ (number_of p v ≡ number_of q v) → number_of form.coef v *ℤ number_of p v ≡ number_of form.coef v *ℤ number_of q v
term_alike form p q v is = ⊎_elim
    (λ (none : number_of form.coef v ≡ pos 0). ap (λ c. c *ℤ number_of p v) none ∙ omega (arith, ints) ∙ ap (λ c. c *ℤ number_of q v) (sym none))
    (λ (same : number_of p v ≡ number_of q v). ap (λ z. number_of form.coef v *ℤ z) same)
    is

pub form_alike : (form : AffineForm) (p q : List ℤ) → ((v : ℕ) → v < 4 → (number_of form.coef v ≡ pos 0) ⊎ (number_of p v ≡ number_of q v)) → value_at form p ≡ value_at form q
form_alike form p q each =
    ap (λ z. form.c0 +ℤ z +ℤ number_of form.coef 1 *ℤ number_of p 1 +ℤ number_of form.coef 2 *ℤ number_of p 2 +ℤ number_of form.coef 3 *ℤ number_of p 3) (term_alike form p q 0 (each 0 (omega arith)))
    ∙ ap (λ z. form.c0 +ℤ number_of form.coef 0 *ℤ number_of q 0 +ℤ z +ℤ number_of form.coef 2 *ℤ number_of p 2 +ℤ number_of form.coef 3 *ℤ number_of p 3) (term_alike form p q 1 (each 1 (omega arith)))
    ∙ ap (λ z. form.c0 +ℤ number_of form.coef 0 *ℤ number_of q 0 +ℤ number_of form.coef 1 *ℤ number_of q 1 +ℤ z +ℤ number_of form.coef 3 *ℤ number_of p 3) (term_alike form p q 2 (each 2 (omega arith)))
    ∙ ap (λ z. form.c0 +ℤ number_of form.coef 0 *ℤ number_of q 0 +ℤ number_of form.coef 1 *ℤ number_of q 1 +ℤ number_of form.coef 2 *ℤ number_of q 2 +ℤ z) (term_alike form p q 3 (each 3 (omega arith)))

-- a form hangs on the first so many variables where the others have no factor
pub hangs_on : (depth : ℕ) (form : AffineForm) → ((v : ℕ) → depth ≤ v → v < 4 → number_of form.coef v ≡ pos 0) → HangsOn depth form
hangs_on depth form none p q alike = form_alike form p q (λ v low. ⊎_elim (λ (before : v < depth). inr (alike v before)) (λ (after : depth ≤ v). inl (none v after low)) (cases_lt v depth))

pub hangs_more : (n depth : ℕ) (form : AffineForm) → n ≤ depth → HangsOn n form → HangsOn depth form
hangs_more n depth form few hangs p q alike = hangs p q (λ v low. alike v (omega (arith, low, few)))

-- a point of a box of near bounds is one
pub box_near : (vars : List Span) (x : List ℤ) → All IsNear vars → IsInBox (spans_of vars) x → IsPoint x
box_near vars x near box k d below =
    let under : k < 4 = let four = box.four in omega (arith, below, four) in
    let inside = box.each k under in
    let bounds : IsNearSpan (span_of (spans_of vars) k) = subst IsNearSpan (sym (span_is vars k under)) (near_at vars near k) in
    let lo = bounds.0.0 in
    let hi = bounds.1.1 in
    let low = inside.0 in
    let high = inside.1 in
    let here : IsWithin 4194303 (number_of x k) = (omega (arith, ints), omega (arith, ints)) in
    subst (IsWithin 4194303) (get_or_default x k (pos 0) d below) here

not_false : (b : Bool) → not b ≡ false → b ≡ true
not_false true none = refl
not_false false none = absurd cc

pub no_factor : (form : AffineForm) (v : ℕ) → has_factor form v ≡ false → number_of form.coef v ≡ pos 0
no_factor form v none = (Decides-int_eq (number_of form.coef v) (pos 0)).0 (not_false (int_eq (number_of form.coef v) (pos 0)) none)

pub hangs_3 : (form : AffineForm) → number_of form.coef 3 ≡ pos 0 → HangsOn 3 form
hangs_3 form none = hangs_on 3 form by
  where
    by : (v : ℕ) → 3 ≤ v → v < 4 → number_of form.coef v ≡ pos 0
    by v low high = ap (number_of form.coef) (let same : v ≡ 3 = omega (arith, low, high) in same) ∙ none

pub hangs_2 : (form : AffineForm) → number_of form.coef 3 ≡ pos 0 → number_of form.coef 2 ≡ pos 0 → HangsOn 2 form
hangs_2 form three two = hangs_on 2 form by
  where
    by : (v : ℕ) → 2 ≤ v → v < 4 → number_of form.coef v ≡ pos 0
    by v low high = ⊎_elim (λ (same : v ≡ 3). ap (number_of form.coef) same ∙ three) (λ (apart : v ≡ 3 → ⊥). ap (number_of form.coef) (let same : v ≡ 2 = omega (arith, low, high, apart) in same) ∙ two) (cases_eq v 3)

pub hangs_1 : (form : AffineForm) → number_of form.coef 3 ≡ pos 0 → number_of form.coef 2 ≡ pos 0 → number_of form.coef 1 ≡ pos 0 → HangsOn 1 form
hangs_1 form three two one = hangs_on 1 form by
  where
    by : (v : ℕ) → 1 ≤ v → v < 4 → number_of form.coef v ≡ pos 0
    by zero low high = absurd (omega (arith, low))
    by (suc zero) low high = one
    by (suc (suc zero)) low high = two
    by (suc (suc (suc zero))) low high = three
    by (suc (suc (suc (suc v)))) low high = absurd (omega (arith, high))

pub hangs_0 : (form : AffineForm) → number_of form.coef 3 ≡ pos 0 → number_of form.coef 2 ≡ pos 0 → number_of form.coef 1 ≡ pos 0 → number_of form.coef 0 ≡ pos 0 → HangsOn 0 form
hangs_0 form three two one none = hangs_on 0 form by
  where
    by : (v : ℕ) → 0 ≤ v → v < 4 → number_of form.coef v ≡ pos 0
    by zero low high = none
    by (suc zero) low high = one
    by (suc (suc zero)) low high = two
    by (suc (suc (suc zero))) low high = three
    by (suc (suc (suc (suc v)))) low high = absurd (omega (arith, high))
