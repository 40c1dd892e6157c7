-- What the records of a term's boundary points add is what these points add.
use Rattle.std.proofs.Common.{◌≡◌, ◌∙◌, ℕ, zero, suc, ◌+◌, ◌*◌, ◌%◌, ◌^◌, ◌<◌, ◌≤◌, ◌==◌, Bool, true, false, ◌&&◌, List, [], ◌∷◌, map, length, get_or, Some, ℤ, refl, sym, ap, subst, arith}
use Rattle.std.specs.Prelude.{if◌then◌else◌, not, slice_get, slice_index}
use Rattle.std.specs.List.{All, AllZip, Contains, range_with_len, sum_by}
use Rattle.std.specs.List.Sorted.{IsPermutation}
use Rattle.std.specs.Option.{option_map}
use Rattle.std.proofs.Math.Nat.{add-mod-mod, mod-add-mod, mod-mod, mul_assoc, zero-add}
use Rattle.std.proofs.lemmas.Bool.{and_parts, eqb-true}
use Rattle.std.proofs.lemmas.List.{length-append}
use Rattle.std.proofs.lemmas.List.Elements.{All-cons, All-contains, All-filter, All-head, All-nil, All-tail, Contains-get_or}
use Rattle.std.proofs.lemmas.List.Sorted.{All-permutation, IsPermutation-sym, IsPermutation-trans, sum_by-IsPermutation}
use Rattle.std.proofs.lemmas.List.Sums.{sum_by-cons}
use Rattle.std.proofs.lemmas.Option.{get_or_from_slice_get, slice_get-get_or, slice_get-map, slice_get_within}
use Rattle.bern_base.specs.Affine.{IsInBox}
use Rattle.bern_base.specs.declared.job.ArrayDecl.{ArrayDecl}
use Rattle.bern_base.specs.declared.job.Ref.{Ref}
use Rattle.bern_base.specs.declared.letter.NeedSet.{NeedSet}
use Rattle.bern_base.specs.declared.limits.TheConstants.{MOST_REFERENCES}
use Rattle.format_model.specs.Grids.{HasElement, value_of_element}
use Rattle.job_model.specs.Accepted.{split_size}
use Rattle.job_model.specs.Elements.{element_of}
use Rattle.job_model.specs.Points.{box_of, meets, points, spans_of}
use Rattle.job_model.specs.State.{State, read}
use Rattle.job_model.specs.Values.{product_of, read_at}
use Rattle.loop_query.proofs.FreeLemmas.{filtered_in, filtered_passes}
use Rattle.loop_query.proofs.SizeLemmas.{terms_are_few}
use Rattle.loop_query.proofs.SumLemmas.{map_product}
use Rattle.node_prog.proofs.CourseLemmas.{are_the_answer}
use Rattle.node_prog.specs.Visiting.{term_course}
use Rattle.node_prog.specs.declared.record.Recorded.{Recorded}
use Rattle.node_prog.specs.declared.record.Slot.{Slot}
use Rattle.node_prog.specs.declared.record.Slot.TheVariants as slot
use Rattle.pass_model.specs.Interior.{boundary_points, is_interior}
use Rattle.pass_model.specs.Local.{IsOwn, local_element, triples_in}
use Rattle.pass_model.specs.Sums.{is_at, term_sum}
use Rattle.placement.specs.Placement.{IsPlacement}
use Rattle.plan_courses.proofs.BoxLemmas.{box_long}
use Rattle.plan_courses.specs.JobCourses.{no_ref}
use Rattle.plan_courses.specs.PlanCourses.{origin}
use Rattle.record_model.specs.Records.{AreRecords, IsRecordOf, LeadsTo, number_in, own_number, slot_at}
use Rattle.term_model.specs.declared.plan.PlannedTerm.{PlannedTerm}
use Rattle.term_model.specs.declared.term.Term.{Term}
use Rattle.term_model.specs.Activity.{Entries, is_active}
use Rattle.term_model.specs.Answers.{answer, home_of}
use Rattle.term_model.specs.Terms.{references_of, terms_of, value_of_term}
use Rattle.walks.specs.Courses.{walk}
use Rattle.walks.specs.declared.hit.Hit.{Hit}
use Rattle.split_exec.specs.declared.inbox.InSet.{InSet}
use Rattle.split_exec.specs.Hits.{IsNamed, IsSound, spot}
use Rattle.split_exec.specs.Passing.{CanPass}
use Rattle.split_exec.specs.Recalling.{HoldsState, IsFilled}
use Rattle.split_exec.specs.Recorded.{CanRead, HasValue, Source, dense_at, dense_of, leaf_of, leaves_of, record_adds, record_value, records_add, slot_value, values_of}
use Rattle.split_exec.specs.Settings.{HaveParts, Setting, ShowState, grid_in, scene_of}
use Rattle.split_exec.proofs.MeaningLemmas.{leaf_value, maps_by_place, own_is, spot_is, spot_tells}
use Rattle.split_exec.proofs.RankLemmas.{all_at}
use Rattle.split_exec.proofs.SoundLemmas.{can_start, dense_named, nest_is, plan_is, target_named, views_of}
use Rattle.split_exec.proofs.SumLemmas.{sum_filter}
use Rattle.split_exec.proofs.ViewLemmas.{contains_at}

-- ---- two lists, place by place

pub zip_get : {A B : Type 0} (R : A → B → Type 0) (xs : List A) (ys : List B) → AllZip R xs ys → (k : ℕ) (x : A) → slice_get xs k ≡ Some x → (y : B) × (slice_get ys k ≡ Some y) × R x y
zip_get R [] ys all k x some = absurd cc
zip_get R (a ∷ xs) [] all k x some = absurd all
zip_get R (a ∷ xs) (b ∷ ys) all zero x some = let same : a ≡ x = cc in (b, refl, subst (λ a. R a b) same all.0)
zip_get R (a ∷ xs) (b ∷ ys) all (suc k) x some = zip_get R xs ys all.1 k x some

pub zip_length : {A B : Type 0} (R : A → B → Type 0) (xs : List A) (ys : List B) → AllZip R xs ys → length ys ≡ length xs
zip_length R [] [] all = refl
zip_length R [] (b ∷ ys) all = absurd all
zip_length R (a ∷ xs) [] all = absurd all
zip_length R (a ∷ xs) (b ∷ ys) all = ap suc (zip_length R xs ys all.1)

zip_all : {A B : Type 0} (P : A → Type 0) (R : A → B → Type 0) (Q : B → Type 0) → ((x : A) (y : B) → P x → R x y → Q y) → (xs : List A) (ys : List B) → All P xs → AllZip R xs ys → All Q ys
zip_all P R Q f [] [] each all = All-nil Q
zip_all P R Q f [] (y ∷ ys) each all = absurd all
zip_all P R Q f (x ∷ xs) [] each all = absurd all
zip_all P R Q f (x ∷ xs) (y ∷ ys) each all = All-cons Q y ys (f x y (All-head P x xs each) all.0) (zip_all P R Q f xs ys (All-tail P x xs each) all.1)

pub add_alike : (m a b c d : ℕ) → a % m ≡ c % m → b % m ≡ d % m → (a + b) % m ≡ (c + d) % m
add_alike m a b c d first second =
    sym (mod-add-mod a m b) ∙ ap (λ n. (n + b) % m) first ∙ mod-add-mod c m b ∙ sym (add-mod-mod c b m) ∙ ap (λ n. (c + n) % m) second ∙ add-mod-mod c d m

zip_sum : {A B : Type 0} (m : ℕ) (P : A → Type 0) (R : A → B → Type 0) (f : B → ℕ) (g : A → ℕ) → ((x : A) (y : B) → P x → R x y → f y % m ≡ g x % m) →
    (xs : List A) (ys : List B) → All P xs → AllZip R xs ys → sum_by f ys % m ≡ sum_by g xs % m
zip_sum m P R f g same [] [] each all = refl
zip_sum m P R f g same [] (y ∷ ys) each all = absurd all
zip_sum m P R f g same (x ∷ xs) [] each all = absurd all
zip_sum m P R f g same (x ∷ xs) (y ∷ ys) each all =
    ap (λ n. n % m) (sum_by-cons f y ys)
    ∙ add_alike m (f y) (sum_by f ys) (g x) (sum_by g xs) (same x y (All-head P x xs each) all.0) (zip_sum m P R f g same xs ys (All-tail P x xs each) all.1)
    ∙ ap (λ n. n % m) (sym (sum_by-cons g x xs))

-- ---- slots

-- what the rank reads
abbrev pub from : Setting → List InSet → Source
from s inbox = record { trees = s.trees; grids = s.grids; inbox = inbox }

-- a value that came
came_value : (state : State) (came : InSet) (place e : ℕ) → came.values ≡ map (read state came.array) came.elements → slice_get came.elements place ≡ Some e →
    slice_index came.values place ≡ read state came.array e
came_value state came place e values there =
    get_or_from_slice_get came.values place (read state came.array e) 0
    (ap (λ vs. slice_get vs place) values ∙ slice_get-map (read state came.array) came.elements place ∙ ap (option_map (read state came.array)) there)

-- the number of an own element in the rank's part
number_is : (s : Setting) (rank : ℕ) (ref : Ref) (x : List ℤ) (is : IsNamed s.job ref x) → own_number s.job s.places rank x ref ≡ local_element s.places is.array rank (element_of s.job.arrays ref x)
number_is s rank ref x is = ap (λ o. number_in s.places o rank (element_of s.job.arrays ref x)) is.named

module _ (s : Setting) (rank : ℕ) (sets : List NeedSet) (inbox : List InSet) (filled : AllZip IsFilled sets inbox) where
  slot_there : (entries : Entries) → HaveParts s entries rank → (ref : Ref) (x : List ℤ) → IsNamed s.job ref x → (way : Slot) → LeadsTo s.job s.places rank sets x ref way → HasValue (from s inbox) ref.array way
  slot_there entries parts ref x is (slot.Own element) leads =
      subst (HasElement (grid_in s ref.array)) (sym (leads.number ∙ number_is s rank ref x is))
      (parts.whole ref.array is.array is.named is.whole (element_of s.job.arrays ref x) (own_is s.job ref x is s.places rank leads.own))
  slot_there entries parts ref x is (slot.Came set place) leads =
      let (came, there, fills) = zip_get IsFilled sets inbox filled set leads.found leads.set_is in
      let low = slice_get_within leads.found.elements place (element_of s.job.arrays ref x) leads.element in
      omega (arith, low, fills.count, ap (λ o. length (values_of o)) there)

  -- the value is that of the state
  slot_state : (entries : Entries) (state : State) → ShowState s entries state rank → HoldsState state inbox → (ref : Ref) (x : List ℤ) → IsNamed s.job ref x → (way : Slot) →
      LeadsTo s.job s.places rank sets x ref way → slot_value (from s inbox) ref.array way ≡ read_at s.job.arrays state x ref
  slot_state entries state show holds ref x is (slot.Own element) leads =
      ap (value_of_element (grid_in s ref.array)) (leads.number ∙ number_is s rank ref x is)
      ∙ show.values.whole ref.array is.array is.named is.whole (element_of s.job.arrays ref x) (own_is s.job ref x is s.places rank leads.own)
  slot_state entries state show holds ref x is (slot.Came set place) leads =
      let (came, there, fills) = zip_get IsFilled sets inbox filled set leads.found leads.set_is in
      let e = element_of s.job.arrays ref x in
      ap (λ o. slice_index (values_of o) place) there
      ∙ came_value state came place e (all_at (λ came. came.values ≡ map (read state came.array) came.elements) inbox set came holds there) (ap (λ es. slice_get es place) fills.elements ∙ leads.element)
      ∙ ap (λ a. read state a e) (fills.array ∙ leads.array)

-- ---- records

-- what is known of a boundary point
pub record IsVisited (s : Setting) (rank : ℕ) (entries : Entries) (t : Term) (x : List ℤ) : Type 0 where
  pub box : IsInBox (spans_of s.nest.vars) x
  pub home : home_of s.job s.places s.nest x ≡ rank
  pub active : is_active s.job entries x t ≡ true

module _ (s : Setting) (rank : ℕ) (p : PlannedTerm) (can : CanPass s rank (p ∷ [])) where
  -- the points that the rank visits for the term
  answer_visited : (entries : Entries) → All (IsVisited s rank entries p.term) (answer s.job entries s.places s.nest p.term rank)
  answer_visited entries k d below =
      let xs = answer s.job entries s.places s.nest p.term rank in
      let x = get_or xs k d in
      let at_home : List ℤ → Bool = λ x. home_of s.job s.places s.nest x == rank && is_active s.job entries x p.term in
      let within : Contains xs x = Contains-get_or xs k d below in
      let parts = and_parts (home_of s.job s.places s.nest x == rank) (is_active s.job entries x p.term) (filtered_passes at_home (points s.nest) x within) in
      record {
        box = All-contains (IsInBox (spans_of s.nest.vars)) (box_of s.nest) x (box_long s.nest) (filtered_in (meets s.nest.guards) (box_of s.nest) x (filtered_in at_home (points s.nest) x within));
        home = eqb-true (home_of s.job s.places s.nest x) rank parts.0;
        active = parts.1;
      }

  -- they are the same by the entries of any arrays of which the views have the rank's parts
  answers_alike : (one two : Entries) → HaveParts s one rank → HaveParts s two rank → IsPermutation (answer s.job one s.places s.nest p.term rank) (answer s.job two s.places s.nest p.term rank)
  answers_alike one two first second =
      let xs = answer s.job one s.places s.nest p.term rank in
      let ys = answer s.job two s.places s.nest p.term rank in
      let hits = map (λ (h : Hit). h.point) (walk (term_course (scene_of s p) rank) origin) in
      let start = can_start s rank p can in
      let plan = plan_is s rank p can in
      IsPermutation-trans xs hits ys (are_the_answer (scene_of s p) rank one start (views_of s rank p one plan first))
      (IsPermutation-sym ys hits (are_the_answer (scene_of s p) rank two start (views_of s rank p two plan second)))

  abbrev outside : List ℤ → Bool
  outside x = not (is_interior s.job s.places rank p.term x)

  pub boundary_visited : (one two : Entries) → HaveParts s one rank → HaveParts s two rank → All (IsVisited s rank two p.term) (boundary_points s.job one s.places s.nest p.term rank)
  boundary_visited one two first second =
      All-filter outside (IsVisited s rank two p.term) (answer s.job one s.places s.nest p.term rank)
      (All-permutation (IsVisited s rank two p.term) (answer s.job two s.places s.nest p.term rank) (answer s.job one s.places s.nest p.term rank) (answers_alike two one second first) (answer_visited two))

  boundary_alike : (f : List ℤ → ℕ) (one two : Entries) → HaveParts s one rank → HaveParts s two rank →
      sum_by f (boundary_points s.job one s.places s.nest p.term rank) ≡ sum_by f (boundary_points s.job two s.places s.nest p.term rank)
  boundary_alike f one two first second =
      let xs = answer s.job one s.places s.nest p.term rank in
      let ys = answer s.job two s.places s.nest p.term rank in
      sum_filter f outside xs ∙ sum_by-IsPermutation (λ x. if outside x then f x else 0) ys xs (answers_alike two one second first) ∙ sym (sum_filter f outside ys)

  few : length p.term.dense + length p.term.sparse ≤ 4
  few =
      let all = (terms_are_few s.job s.nest (nest_is s rank p can)).references in
      let here : length (references_of p.term) ≤ MOST_REFERENCES = All-contains (λ (t : Term). length (references_of t) ≤ MOST_REFERENCES) (terms_of s.job s.nest.body) p.term all (plan_is s rank p can).term_is in
      omega (arith, here, length-append p.term.dense p.term.sparse)

  module _ (sets : List NeedSet) (inbox : List InSet) (filled : AllZip IsFilled sets inbox) where
    named_dense : (k : ℕ) → k < length p.term.dense → (x : List ℤ) → IsInBox (spans_of s.nest.vars) x → IsNamed s.job (dense_at p.term k) x
    named_dense k low x box =
        dense_named s.job s.nest p (plan_is s rank p can) (dense_at p.term k) (contains_at p.term.dense k (dense_at p.term k) (slice_get-get_or p.term.dense k no_ref low)) x box

    -- a record can be read
    pub record_there : (entries : Entries) → HaveParts s entries rank → (x : List ℤ) (r : Recorded) → IsInBox (spans_of s.nest.vars) x → IsRecordOf s.job s.places rank s.nest sets p.term s.trees x r → CanRead (from s inbox) p.term r
    record_there entries parts x r box is = record {
      few_dense = omega (arith, few);
      few_sparse = omega (arith, few);
      slots = λ k low. slot_there s rank sets inbox filled entries parts (dense_at p.term k) x (named_dense k low x box) (slot_at r k) (is.slots k (dense_at p.term k) (slice_get-get_or p.term.dense k no_ref low));
      leaves = λ k low. (is.leaves k low).is_leaf;
    }

    -- its value is the term's in the state
    record_state : (entries : Entries) (state : State) → ShowState s entries state rank → HoldsState state inbox → (x : List ℤ) (r : Recorded) → IsVisited s rank entries p.term x →
        IsRecordOf s.job s.places rank s.nest sets p.term s.trees x r → record_value (from s inbox) p.term r % 2 ^ 64 ≡ value_of_term s.job.arrays state x p.term
    record_state entries state show holds x r at is =
        let t = p.term in
        let f = from s inbox in
        let element = read_at s.job.arrays state x in
        let h : Hit = record { point = x; leaves = r.leaves } in
        let sound : IsSound s rank t h = record { box = at.box; home = at.home; leaves = λ k low. (is.leaves k low).is_leaf } in
        let dense : map (dense_of f t r) (range_with_len 0 (length t.dense)) ≡ map element t.dense =
        maps_by_place (dense_of f t r) element t.dense no_ref 0 (λ k low. ap (dense_of f t r) (zero-add k)
        ∙ slot_state s rank sets inbox filled entries state show holds (dense_at t k) x (named_dense k low x at.box) (slot_at r k) (is.slots k (dense_at t k) (slice_get-get_or t.dense k no_ref low))) in
        let sparse : leaves_of f t r ≡ map element t.sparse =
        maps_by_place (leaf_of f t r) element t.sparse no_ref 0 (λ k low. ap (leaf_of f t r) (zero-add k) ∙ leaf_value s rank p can entries state show h sound at.active k low (is.leaves k low).leads) in
        ap (λ ns. t.factor * product_of ns * product_of (leaves_of f t r) % 2 ^ 64) dense
        ∙ ap (λ ns. t.factor * product_of (map element t.dense) * product_of ns % 2 ^ 64) sparse
        ∙ ap (λ n. n % 2 ^ 64) (mul_assoc t.factor (product_of (map element t.dense)) (product_of (map element t.sparse)))
        ∙ ap (λ n. t.factor * n % 2 ^ 64) (sym (map_product element t.dense t.sparse))

    -- its target is that of its point
    pub record_target : (x : List ℤ) (r : Recorded) → IsInBox (spans_of s.nest.vars) x → IsRecordOf s.job s.places rank s.nest sets p.term s.trees x r → r.target ≡ spot s.job s.places rank x s.nest.target
    record_target x r box is =
        let named = target_named s.job s.nest x (nest_is s rank p can) box in
        is.target ∙ number_is s rank s.nest.target x named ∙ sym (spot_is s.job s.nest.target x named s.places rank)

    module _ (given : Entries) (had : HaveParts s given rank) (records : List Recorded)
        (are : AreRecords s.job s.places rank s.nest sets p.term s.trees (boundary_points s.job given s.places s.nest p.term rank) records) where
      listed_visited : (entries : Entries) → HaveParts s entries rank → All (IsVisited s rank entries p.term) are.listed
      listed_visited entries parts =
          All-permutation (IsVisited s rank entries p.term) (boundary_points s.job given s.places s.nest p.term rank) are.listed are.once (boundary_visited given entries had parts)

      pub records_there : All (CanRead (from s inbox) p.term) records
      records_there =
          zip_all (IsVisited s rank given p.term) (IsRecordOf s.job s.places rank s.nest sets p.term s.trees) (CanRead (from s inbox) p.term)
          (λ x r at is. record_there given had x r at.box is) are.listed records (listed_visited given had) are.each

      -- what holds of the number of each home point's target holds of each record's target
      pub targets_there : (Q : ℕ → Type 0) → ((x : List ℤ) → IsInBox (spans_of s.nest.vars) x → home_of s.job s.places s.nest x ≡ rank → Q (spot s.job s.places rank x s.nest.target)) → All (λ (r : Recorded). Q r.target) records
      targets_there Q each =
          zip_all (IsVisited s rank given p.term) (IsRecordOf s.job s.places rank s.nest sets p.term s.trees) (λ (r : Recorded). Q r.target)
          (λ x r at is. subst Q (sym (record_target x r at.box is)) (each x at.box at.home)) are.listed records (listed_visited given had) are.each

      -- the records add what the boundary points add
      pub records_mean : (entries : Entries) (state : State) → ShowState s entries state rank → HoldsState state inbox → (ranks : ℕ) (array : ArrayDecl) → slice_get s.job.arrays s.nest.target.array ≡ Some array →
          IsPlacement ranks (triples_in s.places array) → length (triples_in s.places array) ≡ split_size array → (n : ℕ) → IsOwn s.places array rank n →
          records_add (from s inbox) p.term records (local_element s.places array rank n) % 2 ^ 64
          ≡ term_sum s.job state s.nest n p.term (boundary_points s.job entries s.places s.nest p.term rank) % 2 ^ 64
      records_mean entries state show holds ranks array named dealt long n own =
          let f = from s inbox in
          let l = local_element s.places array rank n in
          let adds : List ℤ → ℕ = λ x. if is_at s.job s.nest n x then value_of_term s.job.arrays state x p.term else 0 in
          let xs = boundary_points s.job given s.places s.nest p.term rank in
          zip_sum (2 ^ 64) (IsVisited s rank entries p.term) (IsRecordOf s.job s.places rank s.nest sets p.term s.trees) (record_adds f p.term l) adds
          (λ x r at is.
          ap (λ b. (if b then record_value f p.term r else 0) % 2 ^ 64)
          (ap (λ m. m == l) (record_target x r at.box is) ∙ spot_tells s.job s.places s.nest rank array n x (nest_is s rank p can) named dealt long own at.box at.home)
          ∙ either (is_at s.job s.nest n x) (record_value f p.term r) (value_of_term s.job.arrays state x p.term) (record_state entries state show holds x r at is))
          are.listed records (listed_visited entries show.parts) are.each
          ∙ ap (λ v. v % 2 ^ 64) (sum_by-IsPermutation adds xs are.listed are.once ∙ boundary_alike adds given entries had show.parts)
        where
          either : (b : Bool) (value due : ℕ) → value % 2 ^ 64 ≡ due → (if b then value else 0) % 2 ^ 64 ≡ (if b then due else 0) % 2 ^ 64
          either true value due same = sym (mod-mod value (2 ^ 64)) ∙ ap (λ v. v % 2 ^ 64) same
          either false value due same = refl
