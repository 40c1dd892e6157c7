-- The dense loops of an accepted job's nest, one array and one element at a time.
use Rattle.std.proofs.Common.{◌≡◌, ◌≢◌, ◌∙◌, ℕ, zero, suc, ◌+◌, ◌*◌, ◌^◌, ◌<◌, List, [], ◌∷◌, Option, Some, None, ℤ, pos, negsuc, ◌≤ℤ◌, ◌<ℤ◌, length, take, get_or, refl, sym, ap, subst, ⊎_elim, arith}
use Rattle.std.specs.Prelude.{slice_get, slice_index, slice_set}
use Rattle.std.specs.List.{All, AllPairs, fold}
use Rattle.std.proofs.lemmas.Bool.{cases_eq}
use Rattle.std.proofs.lemmas.Int.{ints}
use Rattle.std.proofs.lemmas.List.{get_or-set_other, get_or-set_same, length-set, set-get_or, set-set}
use Rattle.std.proofs.lemmas.List.Elements.{All-filter, All-head, All-tail}
use Rattle.std.proofs.lemmas.Nat.{same_from_place}
use Rattle.bern_base.specs.Affine.{IsInBox, value_at}
use Rattle.bern_base.specs.declared.job.ArrayDecl.{ArrayDecl}
use Rattle.bern_base.specs.declared.job.Checked.{Checked}
use Rattle.bern_base.specs.declared.job.Nest.{Nest}
use Rattle.bern_base.specs.declared.job.Ref.{Ref}
use Rattle.bern_base.specs.declared.limits.TheConstants.{EXPRESSION_LEVELS}
use Rattle.job_model.specs.Accepted.{IsAccepted, IsNestOf, IsOneToOne, IsReadOf}
use Rattle.job_model.specs.Elements.{cols_of, element_of}
use Rattle.pass_model.specs.Sums.{applied, body_sum, is_written}
use Rattle.job_model.specs.Nests.{changed, after_found, after_nest, after_turn, at_point}
use Rattle.job_model.specs.Points.{bounds_at, box_of, meets, natural, points, spans_of}
use Rattle.job_model.specs.Runnable.{IsElementOf}
use Rattle.job_model.specs.State.{State, read, values_in}
use Rattle.job_model.specs.Values.{read_at, value_in}
use Rattle.job_model.proofs.AcceptedLaws.{IsExpr-weakens}
use Rattle.job_model.proofs.BoxLaws.{box_has_no_other}
use Rattle.nest_laws.specs.NestLaws.{IsStateOf, NestsLeaveSums, StatesStay}
use Rattle.nest_laws.proofs.ApartLemmas.{points_apart}
use Rattle.nest_laws.proofs.BodyLemmas.{sum_same, value_small}
use Rattle.nest_laws.proofs.WriteLemmas.{elsewhere, length-written, pairs_head, pairs_tail, written, written_is, written_small}

within : {X : Type 0} (xs : List X) (k : ℕ) (x : X) → slice_get xs k ≡ Some x → k < length xs
within [] k x is = absurd cc
within (y ∷ xs) zero x is = omega arith
within (y ∷ xs) (suc k) x is = let rest = within xs k x is in omega arith

all_at : {X : Type 0} (P : X → Type 0) (xs : List X) (k : ℕ) (x : X) → All P xs → slice_get xs k ≡ Some x → P x
all_at P [] k x all is = absurd cc
all_at P (y ∷ xs) zero x all is = let same : y ≡ x = cc in subst P same (all 0 y (omega arith))
all_at P (y ∷ xs) (suc k) x all is = all_at P xs k x (λ j d below. all (suc j) d (omega (arith, below))) is

-- ---- different points of a nest that is one-to-one write different elements

natural_same : (y z : ℤ) → pos 0 ≤ℤ y → pos 0 ≤ℤ z → natural y ≡ natural z → y ≡ z
natural_same (pos m) (pos n) low high same = ap pos same
natural_same (pos m) (negsuc n) low high same = absurd (omega (arith, ints, high))
natural_same (negsuc m) z low high same = absurd (omega (arith, ints, low))

natural_below : (y : ℤ) (n : ℕ) → pos 0 ≤ℤ y → y <ℤ pos n → natural y < n
natural_below (pos m) n low high = omega (arith, ints, high)
natural_below (negsuc m) n low high = absurd (omega (arith, ints, low))

element_once : (arrays : List ArrayDecl) (spans : List (ℤ × ℤ)) (target : Ref) (array : ArrayDecl) → IsElementOf arrays spans target array → IsOneToOne spans target → (p q : List ℤ) → IsInBox spans p → IsInBox spans q →
    element_of arrays target p ≡ element_of arrays target q → p ≡ q
element_once arrays spans target array is once p q first second same =
    let by : (x : List ℤ) → element_of arrays target x ≡ natural (value_at target.row x) * array.cols + natural (value_at target.col x) = λ x.
    ap (λ o. natural (value_at target.row x) * cols_of o + natural (value_at target.col x)) is.named in
    let col : (x : List ℤ) → IsInBox spans x → natural (value_at target.col x) < array.cols = λ x inside. natural_below (value_at target.col x) array.cols (is.col x inside).0 (is.col x inside).1 in
    let both = same_from_place (natural (value_at target.row p)) (natural (value_at target.col p)) (natural (value_at target.row q)) (natural (value_at target.col q)) array.cols (col p first) (col q second)
    (sym (by p) ∙ same ∙ by q) in
    once p q first second
    (natural_same (value_at target.row p) (value_at target.row q) (is.row p first).0 (is.row q second).0 both.0)
    (natural_same (value_at target.col p) (value_at target.col q) (is.col p first).0 (is.col q second).0 both.1)

pub points_in_box : (nest : Nest) → All (IsInBox (spans_of nest.vars)) (points nest)
points_in_box nest =
    All-filter (meets nest.guards) (IsInBox (spans_of nest.vars)) (box_of nest)
    (box_has_no_other (bounds_at nest.vars 0) (bounds_at nest.vars 1) (bounds_at nest.vars 2) (bounds_at nest.vars 3))

module _ (job : Checked) (nest : Nest) (is : IsNestOf job nest) where
  abbrev t : ℕ
  t = nest.target.array

  abbrev at : List ℤ → ℕ
  at x = element_of job.arrays nest.target x

  elements_apart : IsOneToOne (spans_of nest.vars) nest.target → AllPairs (λ x y. at x ≢ at y) (points nest)
  elements_apart once i j d up below same =
      points_apart nest i j d up below
      (element_once job.arrays (spans_of nest.vars) nest.target is.target.array is.target.element once (get_or (points nest) i d) (get_or (points nest) j d)
      (points_in_box nest i d (omega (arith, up, below))) (points_in_box nest j d below) same)

  module _ (first : State) (there : t < length first) where
    abbrev value : List ℤ → ℕ
    value x = value_in job.arrays first x nest.body

    -- the state with other values in the target
    abbrev with : List ℕ → State
    with values = slice_set first t values

    -- the values of all elements that a point may read are those of the first state
    abbrev Unread : List ℕ → List ℤ → Type 0
    Unread values x = IsOneToOne (spans_of nest.vars) nest.target → slice_index values (at x) ≡ read first t (at x)

    read_same : (values : List ℕ) (x : List ℤ) → Unread values x → (r : Ref) → IsReadOf job nest r → read_at job.arrays (with values) x r ≡ read_at job.arrays first x r
    read_same values x unread r of = ⊎_elim
        (λ (same : r.array ≡ t).
        let own = of.own same in
        let element : element_of job.arrays r x ≡ at x =
        ap (λ f. natural (value_at f x) * cols_of (slice_get job.arrays r.array) + natural (value_at r.col x)) own.row
        ∙ ap (λ f. natural (value_at nest.target.row x) * cols_of (slice_get job.arrays r.array) + natural (value_at f x)) own.col
        ∙ ap (λ a. natural (value_at nest.target.row x) * cols_of (slice_get job.arrays a) + natural (value_at nest.target.col x)) same in
        ap (λ a. read (with values) a (element_of job.arrays r x)) same
        ∙ ap (λ vs. slice_index vs (element_of job.arrays r x)) (get_or-set_same first t values [] there)
        ∙ ap (slice_index values) element
        ∙ unread own.one_to_one
        ∙ sym (ap (λ a. read first a (element_of job.arrays r x)) same ∙ ap (read first t) element))
        (λ (other : r.array ≢ t). ap (λ vs. slice_index vs (element_of job.arrays r x)) (get_or-set_other first t r.array values [] other))
        (cases_eq r.array t)

    value_same : (values : List ℕ) (x : List ℤ) → Unread values x → value_in job.arrays (with values) x nest.body ≡ value x
    value_same values x unread =
        sum_same (read_at job.arrays (with values) x) (read_at job.arrays first x) EXPRESSION_LEVELS nest.body
        (IsExpr-weakens (IsReadOf job nest) (λ r. read_at job.arrays (with values) x r ≡ read_at job.arrays first x r) (read_same values x unread) EXPRESSION_LEVELS nest.body is.body)

    step : (values : List ℕ) (x : List ℤ) → Unread values x → at_point job.arrays nest (with values) x ≡ with (written at value nest.replace values x)
    step values x unread =
        ap (λ v. slice_set (with values) t (slice_set (values_in (with values) t) (at x) (changed nest.replace (slice_index (values_in (with values) t) (at x)) v))) (value_same values x unread)
        ∙ ap (λ vs. slice_set (with values) t (slice_set vs (at x) (changed nest.replace (slice_index vs (at x)) (value x)))) (get_or-set_same first t values [] there)
        ∙ set-set first t values (written at value nest.replace values x)

    -- the loops put new values in the target, each by the values of the first state, and nothing else changes
    loops : (xs : List (List ℤ)) (values : List ℕ) → (IsOneToOne (spans_of nest.vars) nest.target → AllPairs (λ x y. at x ≢ at y) xs) → All (Unread values) xs →
        fold (at_point job.arrays nest) (with values) xs ≡ with (fold (written at value nest.replace) values xs)
    loops [] values apart unread = refl
    loops (x ∷ xs) values apart unread =
        ap (λ s. fold (at_point job.arrays nest) s xs) (step values x (All-head (Unread values) x xs unread))
        ∙ loops xs (written at value nest.replace values x) (λ once. pairs_tail (λ x y. at x ≢ at y) x xs (apart once))
        (λ k d below once.
        elsewhere at value nest.replace values x (at (get_or xs k d)) (pairs_head (λ x y. at x ≢ at y) x xs (apart once) k d below) ∙ All-tail (Unread values) x xs unread k d below once)

    abbrev last : List ℕ
    last = fold (written at value nest.replace) (values_in first t) (points nest)

    after_is : after_nest job.arrays first nest ≡ with last
    after_is =
        ap (λ s. fold (at_point job.arrays nest) s (points nest)) (sym (set-get_or first t []))
        ∙ loops (points nest) (values_in first t) elements_apart (λ k d below once. refl)

    last_is : IsStateOf job first → (k : ℕ) → k < length (values_in first t) →
        slice_index last k ≡ applied nest.replace (is_written job nest k (points nest)) (read first t k) (body_sum job first nest k (points nest))
    last_is state k below =
        written_is at value nest.replace (points nest) (values_in first t) k below (state.small t k) (λ x. value_small job.arrays first x nest.body) (λ replaces. elements_apart (is.replaces replaces))

    target_is : (element : ℕ) → read (after_nest job.arrays first nest) t element ≡ slice_index last element
    target_is element = ap (λ s. read s t element) after_is ∙ ap (λ vs. slice_index vs element) (get_or-set_same first t last [] there)

    others_are : (number : ℕ) → number ≢ t → values_in (after_nest job.arrays first nest) number ≡ values_in first number
    others_are number other = ap (λ s. values_in s number) after_is ∙ get_or-set_other first t number last [] other

    state_is : IsStateOf job first → IsStateOf job (after_nest job.arrays first nest)
    state_is state = record {
      count = ap length after_is ∙ length-set first t last ∙ state.count;
      sizes = λ number array named. ⊎_elim
          (λ (same : number ≡ t).
          ap (λ n. length (values_in (after_nest job.arrays first nest) n)) same ∙ ap (λ s. length (values_in s t)) after_is ∙ ap length (get_or-set_same first t last [] there)
          ∙ length-written at value nest.replace (values_in first t) (points nest) ∙ state.sizes t array (ap (slice_get job.arrays) (sym same) ∙ named))
          (λ (other : number ≢ t). ap length (others_are number other) ∙ state.sizes number array named)
          (cases_eq number t);
      small = λ number element. ⊎_elim
          (λ (same : number ≡ t).
          subst (λ v. v < 2 ^ 64) (sym (ap (λ n. read (after_nest job.arrays first nest) n element) same ∙ target_is element))
          (written_small at value nest.replace (points nest) (values_in first t) (state.small t) (λ x. value_small job.arrays first x nest.body) element))
          (λ (other : number ≢ t). subst (λ v. v < 2 ^ 64) (sym (ap (λ vs. slice_index vs element) (others_are number other))) (state.small number element))
          (cases_eq number t);
    }

pub nests-leave_sums : NestsLeaveSums
nests-leave_sums job nest state is of =
    let there : nest.target.array < length state = subst (λ n. nest.target.array < n) (sym of.count) (within job.arrays nest.target.array is.target.array is.target.element.named) in record {
      state = state_is job nest is state there of;
      target = λ element below. target_is job nest is state there element ∙ last_is job nest is state there of element below;
      others = others_are job nest is state there;
    }

turn_stays : (job : Checked) (state : State) (k : ℕ) → IsAccepted job → IsStateOf job state → IsStateOf job (after_turn job state k)
turn_stays job state k is of = found (slice_get job.nests k) refl
  where
    found : (nest : Option Nest) → slice_get job.nests k ≡ nest → IsStateOf job (after_found job.arrays state nest)
    found None at = of
    found (Some nest) at = (nests-leave_sums job nest state (all_at (IsNestOf job) job.nests k nest is.nests at) of).state

turns_stay : (job : Checked) (ks : List ℕ) (state : State) → IsAccepted job → IsStateOf job state → IsStateOf job (fold (after_turn job) state ks)
turns_stay job [] state is of = of
turns_stay job (k ∷ ks) state is of = turns_stay job ks (after_turn job state k) is (turn_stays job state k is of)

pub states-stay : StatesStay
states-stay job first is of t = turns_stay job (take t job.turns) first is of
