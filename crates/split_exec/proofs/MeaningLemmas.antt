-- What the hits of a term add is what its interior points add.
use Rattle.std.proofs.Common.{◌≡◌, ◌∙◌, ℕ, suc, ◌+◌, ◌*◌, ◌/◌, ◌%◌, ◌^◌, ◌<◌, ◌≤◌, ◌==◌, Bool, true, false, ◌&&◌, List, [], ◌∷◌, map, length, get_or, Option, Some, ℤ, pos, ◌≤ℤ◌, ◌<ℤ◌, refl, sym, ap, subst, ⊎_elim, arith}
use Rattle.std.specs.Prelude.{if◌then◌else◌, slice_get, slice_index_or}
use Rattle.std.specs.List.{All, Contains, range_with_len}
use Rattle.std.specs.Option.{option_map}
use Rattle.std.proofs.Math.Nat.{div-add-mod', div-lt_iff_lt-mul, mod-lt, mod-mod, mul_assoc, zero-add}
use Rattle.std.proofs.lemmas.Bool.{and_parts, cases_eq, cases_lt, eq-eqb, eqb-true, ne_eqb}
use Rattle.std.proofs.lemmas.Int.{ints}
use Rattle.std.proofs.lemmas.List.Elements.{All-contains, Contains-get_or}
use Rattle.std.proofs.lemmas.List.Sorted.{sum_by-IsPermutation, All-permutation}
use Rattle.std.proofs.lemmas.Nat.{div-mul-add, mod-mul-add, mul-add-lt, same_from_place}
use Rattle.bern_base.proofs.SumLemmas.{sum_by-map, sum_by_agree-mod}
use Rattle.bern_base.specs.Affine.{IsInBox, value_at}
use Rattle.bern_base.specs.declared.job.ArrayDecl.{ArrayDecl}
use Rattle.bern_base.specs.declared.job.Checked.{Checked}
use Rattle.bern_base.specs.declared.job.Nest.{Nest}
use Rattle.bern_base.specs.declared.job.Ref.{Ref}
use Rattle.format_model.specs.Elements.{path_of}
use Rattle.format_model.specs.Grids.{HasElement, value_of_element}
use Rattle.format_model.specs.Laws.{reached, searched}
use Rattle.job_model.specs.Accepted.{split_form}
use Rattle.job_model.specs.Elements.{cols_of, element_of}
use Rattle.job_model.specs.Points.{natural, points, spans_of}
use Rattle.job_model.specs.Runnable.{IsElementOf}
use Rattle.job_model.specs.State.{State, read}
use Rattle.job_model.specs.Values.{product_of, read_at}
use Rattle.loop_query.proofs.FreeLemmas.{contains_map, filtered_passes}
use Rattle.loop_query.proofs.SumLemmas.{map_product}
use Rattle.pass_model.specs.Interior.{is_interior, is_own}
use Rattle.pass_model.specs.Local.{IsOwn, local_at, local_element, triples_in}
use Rattle.pass_model.specs.Sums.{is_at, term_sum}
use Rattle.term_model.specs.Activity.{Entries, is_active, is_stored_at}
use Rattle.term_model.specs.Answers.{Places, answer, home_of, owner_in}
use Rattle.term_model.specs.Terms.{value_of_term}
use Rattle.walks.specs.declared.hit.Hit.{Hit}
use Rattle.walks.specs.Courses.{node_of, walk}
use Rattle.split_exec.specs.Hits.{IsNamed, IsSound, cell_at, hit_adds, hit_value, hits_add, leaf_at, leaves_at, spot, spot_in}
use Rattle.split_exec.specs.Settings.{HaveParts, Setting, ShowState, grid_in, scene_of, tree_in}
use Rattle.bern_base.specs.declared.axes.Axis.{Axis}
use Rattle.bern_base.specs.declared.axes.Axis.TheVariants as axis
use Rattle.format_model.specs.Stored.{is_stored}
use Rattle.job_model.specs.Accepted.{IsNestOf, is_col, split_size}
use Rattle.node_prog.specs.Visiting.{term_course}
use Rattle.node_prog.proofs.CourseLemmas.{are_the_answer, name_their_leaves}
use Rattle.pass_model.specs.Interior.{interior_points}
use Rattle.placement.specs.Elements.{element_index, owner_of_element}
use Rattle.placement.specs.Placement.{IsPlacement, Triple, local_of, owned_of, owner_of}
use Rattle.plan_courses.specs.JobCourses.{IsPlanOf, no_ref, path_at, path_in_array, path_in_format, ref_at}
use Rattle.plan_courses.specs.PlanCourses.{origin}
use Rattle.plan_courses.proofs.ReferenceLemmas.{IsInside, col_at, element_is, inside_of, lies_of, natural_is, owner_by_form, read_of, ref_in, row_at, stored_is}
use Rattle.plan_courses.proofs.TestLemmas.{all_told}
use Rattle.term_model.specs.declared.plan.PlannedTerm.{PlannedTerm}
use Rattle.term_model.specs.Activity.{entries_of}
use Rattle.split_exec.specs.Passing.{CanPass}
use Rattle.split_exec.proofs.LocalLemmas.{local_low, local_once}
use Rattle.split_exec.proofs.SoundLemmas.{all_sound, can_start, dense_named, nest_is, plan_is, sparse_not_whole, target_named, views_of}
use Rattle.split_exec.proofs.SumLemmas.{sum_filter}

-- ---- elements and spots

natural_low : (z : ℤ) (n : ℕ) → pos 0 ≤ℤ z → z <ℤ pos n → natural z < n
natural_low z n low high = let same = natural_is z low in omega (arith, ints, same, high)

-- the row and the column that a reference names
abbrev row : Ref → List ℤ → ℕ
row ref x = natural (value_at ref.row x)

abbrev col : Ref → List ℤ → ℕ
col ref x = natural (value_at ref.col x)

-- an element that a reference names lies in its array
module _ (job : Checked) (ref : Ref) (x : List ℤ) (is : IsNamed job ref x) where
  pub row_inside : row ref x < is.array.rows
  row_inside = natural_low (value_at ref.row x) is.array.rows is.row_low is.row_high

  pub col_inside : col ref x < is.array.cols
  col_inside = natural_low (value_at ref.col x) is.array.cols is.col_low is.col_high

  pub element_named : element_of job.arrays ref x ≡ row ref x * is.array.cols + col ref x
  element_named = ap (λ o. row ref x * cols_of o + col ref x) is.named

  pub element_inside : element_of job.arrays ref x < is.array.rows * is.array.cols
  element_inside = omega (arith, element_named, mul-add-lt (row ref x) is.array.cols (col ref x) is.array.rows row_inside col_inside)

  -- its number in the part of a rank
  pub spot_is : (places : Places) (rank : ℕ) → spot job places rank x ref ≡ local_element places is.array rank (element_of job.arrays ref x)
  spot_is places rank =
      ap (λ o. spot_in places o rank ref x) is.named
      ∙ sym (ap (λ n. local_element places is.array rank n) element_named
      ∙ ap (λ r. local_at (triples_in places is.array) is.array rank r ((row ref x * is.array.cols + col ref x) % is.array.cols)) (div-mul-add (row ref x) is.array.cols (col ref x) col_inside)
      ∙ ap (λ c. local_at (triples_in places is.array) is.array rank (row ref x) c) (mod-mul-add (row ref x) is.array.cols (col ref x) col_inside))

  -- an own element is one of the part
  pub own_is : (places : Places) (rank : ℕ) → is_own job places rank x ref ≡ true → IsOwn places is.array rank (element_of job.arrays ref x)
  own_is places rank own = record {
    inside = element_inside;
    owner = ap (λ o. owner_in places o (element_of job.arrays ref x)) (sym is.named) ∙ eqb-true (owner_in places (slice_get job.arrays ref.array) (element_of job.arrays ref x)) rank own;
  }

-- an own dense element can be read
pub cell_there : (s : Setting) (entries : Entries) (rank : ℕ) (ref : Ref) (x : List ℤ) → HaveParts s entries rank → IsNamed s.job ref x → is_own s.job s.places rank x ref ≡ true →
    HasElement (grid_in s ref.array) (spot s.job s.places rank x ref)
cell_there s entries rank ref x parts is own =
    subst (HasElement (grid_in s ref.array)) (sym (spot_is s.job ref x is s.places rank))
    (parts.whole ref.array is.array is.named is.whole (element_of s.job.arrays ref x) (own_is s.job ref x is s.places rank own))

-- and has the state's value
pub cell_value : (s : Setting) (entries : Entries) (state : State) (rank : ℕ) (ref : Ref) (x : List ℤ) → ShowState s entries state rank → IsNamed s.job ref x → is_own s.job s.places rank x ref ≡ true →
    cell_at s rank x ref ≡ read_at s.job.arrays state x ref
cell_value s entries state rank ref x show is own =
    ap (value_of_element (grid_in s ref.array)) (spot_is s.job ref x is s.places rank)
    ∙ show.values.whole ref.array is.array is.named is.whole (element_of s.job.arrays ref x) (own_is s.job ref x is s.places rank own)

-- ---- numbers of their own

once_by : {ranks : ℕ} (a : Axis) (ts : List Triple) (cols extent rank n m : ℕ) → IsPlacement ranks ts → 0 < cols →
    element_index a cols n < length ts → element_index a cols m < length ts → owner_of_element a ts cols n ≡ rank → owner_of_element a ts cols m ≡ rank →
    (if is_col a then n / cols else local_of ts (n / cols)) * (if is_col a then owned_of ts rank else cols) + (if is_col a then local_of ts (n % cols) else n % cols)
    ≡ (if is_col a then m / cols else local_of ts (m / cols)) * (if is_col a then owned_of ts rank else cols) + (if is_col a then local_of ts (m % cols) else m % cols) → n ≡ m
once_by axis.Row ts cols extent rank n m is some low below own other same =
    let parts = same_from_place (local_of ts (n / cols)) (n % cols) (local_of ts (m / cols)) (m % cols) cols (mod-lt n some) (mod-lt m some) same in
    let rows : n / cols ≡ m / cols = local_once ts rank (n / cols) (m / cols) is low below own other parts.0 in
    sym (div-add-mod' n cols) ∙ ap (λ r. r * cols + n % cols) rows ∙ ap (λ c. m / cols * cols + c) parts.1 ∙ div-add-mod' m cols
once_by axis.Both ts cols extent rank n m is some low below own other same =
    let parts = same_from_place (local_of ts (n / cols)) (n % cols) (local_of ts (m / cols)) (m % cols) cols (mod-lt n some) (mod-lt m some) same in
    let rows : n / cols ≡ m / cols = local_once ts rank (n / cols) (m / cols) is low below own other parts.0 in
    sym (div-add-mod' n cols) ∙ ap (λ r. r * cols + n % cols) rows ∙ ap (λ c. m / cols * cols + c) parts.1 ∙ div-add-mod' m cols
once_by axis.Col ts cols extent rank n m is some low below own other same =
    let parts = same_from_place (n / cols) (local_of ts (n % cols)) (m / cols) (local_of ts (m % cols)) (owned_of ts rank) (local_low ts rank (n % cols) is low own) (local_low ts rank (m % cols) is below other) same in
    let cs : n % cols ≡ m % cols = local_once ts rank (n % cols) (m % cols) is low below own other parts.1 in
    sym (div-add-mod' n cols) ∙ ap (λ r. r * cols + n % cols) parts.0 ∙ ap (λ c. m / cols * cols + c) cs ∙ div-add-mod' m cols

index_low : (a : Axis) (rows cols n : ℕ) → 0 < cols → n < rows * cols → element_index a cols n < (if is_col a then cols else rows)
index_low axis.Row rows cols n some low = (div-lt_iff_lt-mul some).1 low
index_low axis.Both rows cols n some low = (div-lt_iff_lt-mul some).1 low
index_low axis.Col rows cols n some low = mod-lt n some

-- two own elements have numbers of their own
pub element_once : {ranks : ℕ} (places : Places) (array : ArrayDecl) (rank n m : ℕ) → IsPlacement ranks (triples_in places array) → length (triples_in places array) ≡ split_size array →
    IsOwn places array rank n → IsOwn places array rank m → local_element places array rank n ≡ local_element places array rank m → n ≡ m
element_once places array rank n m is long own other same =
    ⊎_elim
    (λ (some : 0 < array.cols). once_by array.axis (triples_in places array) array.cols (split_size array) rank n m is some
    (subst (λ k. element_index array.axis array.cols n < k) (sym long) (index_low array.axis array.rows array.cols n some own.inside))
    (subst (λ k. element_index array.axis array.cols m < k) (sym long) (index_low array.axis array.rows array.cols m some other.inside))
    own.owner other.owner same)
    (λ (none : array.cols ≤ 0). absurd (let zero : array.cols ≡ 0 = omega (arith, none) in let inside : n < array.rows * 0 = subst (λ k. n < array.rows * k) zero own.inside in omega (arith, inside)))
    (cases_lt 0 array.cols)

-- ---- lists

pub maps_alike : {X Y : Type 0} (f g : X → Y) (xs : List X) → ((x : X) → Contains xs x → f x ≡ g x) → map f xs ≡ map g xs
maps_alike f g [] same = refl
maps_alike f g (x ∷ xs) same =
    ap (λ y. y ∷ map f xs) (same x (0, omega arith, refl)) ∙ ap (λ ys. g x ∷ ys) (maps_alike f g xs (λ y (k, below, here). same y (suc k, omega (arith, below), here)))

-- by places
pub maps_by_place : {X Y : Type 0} (f : ℕ → Y) (g : X → Y) (xs : List X) (d : X) (a : ℕ) → ((k : ℕ) → k < length xs → f (a + k) ≡ g (get_or xs k d)) → map f (range_with_len a (length xs)) ≡ map g xs
maps_by_place f g [] d a same = refl
maps_by_place f g (x ∷ xs) d a same =
    let first : f a ≡ g x = ap f (let here : a ≡ a + 0 = omega arith in here) ∙ same 0 (omega arith) in
    let rest : map f (range_with_len (a + 1) (length xs)) ≡ map g xs =
    maps_by_place f g xs d (a + 1) (λ k low. ap f (let next : a + 1 + k ≡ a + suc k = omega arith in next) ∙ same (suc k) (omega (arith, low))) in
    ap (λ y. y ∷ map f (range_with_len (a + 1) (length xs))) first ∙ ap (λ ys. g x ∷ ys) rest

-- ---- values

one_array : (o : Option ArrayDecl) (a b : ArrayDecl) → o ≡ Some a → o ≡ Some b → a ≡ b
one_array o a b first second = let both : Some a ≡ Some b = sym first ∙ second in cc

some_is : {X : Type 0} (a b : X) → Some a ≡ Some b → a ≡ b
some_is a b same = cc

-- the target at a home point has the number of an own element where it is that element
pub spot_tells : {ranks : ℕ} (job : Checked) (places : Places) (nest : Nest) (rank : ℕ) (array : ArrayDecl) (n : ℕ) (x : List ℤ) → IsNestOf job nest → slice_get job.arrays nest.target.array ≡ Some array →
    IsPlacement ranks (triples_in places array) → length (triples_in places array) ≡ split_size array → IsOwn places array rank n → IsInBox (spans_of nest.vars) x → home_of job places nest x ≡ rank →
    (spot job places rank x nest.target == local_element places array rank n) ≡ is_at job nest n x
spot_tells job places nest rank array n x nest_is named dealt long own box home =
    let is = target_named job nest x nest_is box in
    let same : is.array ≡ array = one_array (slice_get job.arrays nest.target.array) is.array array is.named named in
    let m = element_of job.arrays nest.target x in
    let spot_m : spot job places rank x nest.target ≡ local_element places array rank m =
    spot_is job nest.target x is places rank ∙ ap (λ (a : ArrayDecl). local_element places a rank m) same in
    let own_m : IsOwn places array rank m = record {
      inside = subst (λ (a : ArrayDecl). m < a.rows * a.cols) same (element_inside job nest.target x is);
      owner = ap (λ o. owner_in places o m) (sym named) ∙ home;
    } in
    ⊎_elim
    (λ (one : m ≡ n). eq-eqb (spot job places rank x nest.target) (local_element places array rank n) (spot_m ∙ ap (local_element places array rank) one) ∙ sym (eq-eqb m n one))
    (λ (two : m ≡ n → ⊥).
    ne_eqb (spot job places rank x nest.target) (local_element places array rank n) (λ alike. two (element_once places array rank m n dealt long own_m own (sym spot_m ∙ alike)))
    ∙ sym (ne_eqb m n two))
    (cases_eq m n)

module _ (s : Setting) (rank : ℕ) (p : PlannedTerm) (can : CanPass s rank (p ∷ [])) (entries : Entries) (state : State) (show : ShowState s entries state rank) where
  plan : IsPlanOf s.job s.nest p.term p.plan
  plan = plan_is s rank p can

  -- a sparse reference lies where the target lies
  sparse_own : (r : ℕ) → r < length p.term.sparse → (x : List ℤ) → IsInBox (spans_of s.nest.vars) x → home_of s.job s.places s.nest x ≡ rank → (array : ArrayDecl) →
      slice_get s.job.arrays (ref_at p.term r).array ≡ Some array → IsInside array (ref_at p.term r) x →
      owner_in s.places (Some array) (row_at (ref_at p.term r) x * array.cols + col_at (ref_at p.term r) x) ≡ rank
  sparse_own r low x box home array named inside =
      let ref = ref_at p.term r in
      let lies = lies_of s.job s.nest p.term p.plan plan r low in
      let target = (nest_is s rank p can).target in
      let own : lies.own ≡ array = one_array (slice_get s.job.arrays ref.array) lies.own array lies.own_is named in
      let other : lies.other ≡ target.array = one_array (slice_get s.job.arrays s.nest.target.array) lies.other target.array lies.other_is target.element.named in
      owner_by_form s.places array ref x inside
      ∙ ap (λ (a : ArrayDecl). owner_of (slice_index_or s.places a.place []) (natural (value_at (split_form a ref) x))) (sym own)
      ∙ ap (λ n. owner_of (slice_index_or s.places n []) (natural (value_at (split_form lies.own ref) x))) lies.place
      ∙ ap (λ f. owner_of (slice_index_or s.places lies.other.place []) (natural (value_at f x))) lies.same
      ∙ ap (λ (a : ArrayDecl). owner_of (slice_index_or s.places a.place []) (natural (value_at (split_form a s.nest.target) x))) other
      ∙ sym (owner_by_form s.places target.array s.nest.target x (inside_of s.job.arrays (spans_of s.nest.vars) s.nest.target target.array x target.element box))
      ∙ ap (λ o. owner_in s.places o (row_at s.nest.target x * target.array.cols + col_at s.nest.target x)) (sym target.element.named)
      ∙ ap (λ n. owner_in s.places (slice_get s.job.arrays s.nest.target.array) n) (sym (element_is s.job.arrays s.nest.target target.array x target.element.named))
      ∙ home

  -- the leaf of a sparse reference has the state's value
  pub leaf_value : (h : Hit) → IsSound s rank p.term h → is_active s.job entries h.point p.term ≡ true → (r : ℕ) → r < length p.term.sparse →
      reached (tree_in s (ref_at p.term r).array) 0 0 (path_at s.job (ref_at p.term r) h.point) ≡ Some (node_of h r) →
      leaf_at s p.term h r ≡ read_at s.job.arrays state h.point (ref_at p.term r)
  leaf_value h sound active r low leads =
      let ref = ref_at p.term r in
      let x = h.point in
      let v = views_of s rank p entries plan show.parts r low in
      let (array, element) = (read_of s.job s.nest p.term p.plan plan r low).element in
      let same : array ≡ v.array = one_array (slice_get s.job.arrays ref.array) array v.array element.named v.array_is in
      let inside = inside_of s.job.arrays (spans_of s.nest.vars) ref v.array x (subst (IsElementOf s.job.arrays (spans_of s.nest.vars) ref) same element) sound.box in
      let there : is_stored v.format.shape (entries_of entries ref.array) (row_at ref x) (col_at ref x) ≡ true =
      sym (stored_is s.job entries ref v.array v.format x v.array_is v.format_is inside) ∙ all_told (is_stored_at s.job entries x) p.term.sparse ref active (ref_in p.term r low) in
      let value : searched (tree_in s ref.array) (path_of v.format.shape v.array.cols (row_at ref x) (col_at ref x)) ≡ Some (read state ref.array (row_at ref x * v.array.cols + col_at ref x)) =
      show.values.sparse ref.array v.array v.format v.array_is v.format_is (sparse_not_whole s.job s.nest p plan r low v.array v.array_is) (row_at ref x) (col_at ref x) inside.row inside.col
      (sparse_own r low x sound.box sound.home v.array v.array_is inside) there in
      let path : path_at s.job ref x ≡ path_of v.format.shape v.array.cols (row_at ref x) (col_at ref x) =
      ap (λ o. path_in_array s.job.formats o (row_at ref x) (col_at ref x)) v.array_is ∙ ap (λ o. path_in_format o v.array.cols (row_at ref x) (col_at ref x)) v.format_is in
      let found : searched (tree_in s ref.array) (path_of v.format.shape v.array.cols (row_at ref x) (col_at ref x)) ≡ Some ((tree_in s ref.array).value (node_of h r)) =
      ap (option_map (tree_in s ref.array).value) (sym (ap (reached (tree_in s ref.array) 0 0) path) ∙ leads) in
      some_is ((tree_in s ref.array).value (node_of h r)) (read state ref.array (row_at ref x * v.array.cols + col_at ref x)) (sym found ∙ value)
      ∙ ap (read state ref.array) (sym (element_is s.job.arrays ref v.array x v.array_is))

  -- at an interior hit the value is the term's in the state
  value_is : (h : Hit) → IsSound s rank p.term h → is_active s.job entries h.point p.term ≡ true →
      ((r : ℕ) → r < length p.term.sparse → reached (tree_in s (ref_at p.term r).array) 0 0 (path_at s.job (ref_at p.term r) h.point) ≡ Some (node_of h r)) →
      is_interior s.job s.places rank p.term h.point ≡ true → hit_value s rank p.term h % 2 ^ 64 ≡ value_of_term s.job.arrays state h.point p.term
  value_is h sound active leads interior =
      let element = read_at s.job.arrays state h.point in
      let dense : map (cell_at s rank h.point) p.term.dense ≡ map element p.term.dense =
      maps_alike (cell_at s rank h.point) element p.term.dense (λ ref within.
      cell_value s entries state rank ref h.point show (dense_named s.job s.nest p plan ref within h.point sound.box) (all_told (is_own s.job s.places rank h.point) p.term.dense ref interior within)) in
      let sparse : leaves_at s p.term h ≡ map element p.term.sparse =
      maps_by_place (leaf_at s p.term h) element p.term.sparse no_ref 0 (λ k low. ap (leaf_at s p.term h) (zero-add k) ∙ leaf_value h sound active k low (leads k low)) in
      ap (λ ns. p.term.factor * product_of ns * product_of (leaves_at s p.term h) % 2 ^ 64) dense
      ∙ ap (λ ns. p.term.factor * product_of (map element p.term.dense) * product_of ns % 2 ^ 64) sparse
      ∙ ap (λ n. n % 2 ^ 64) (mul_assoc p.term.factor (product_of (map element p.term.dense)) (product_of (map element p.term.sparse)))
      ∙ ap (λ n. p.term.factor * n % 2 ^ 64) (sym (map_product element p.term.dense p.term.sparse))

  module _ (ranks : ℕ) (array : ArrayDecl) (named : slice_get s.job.arrays s.nest.target.array ≡ Some array) (dealt : IsPlacement ranks (triples_in s.places array))
      (long : length (triples_in s.places array) ≡ split_size array) (n : ℕ) (own : IsOwn s.places array rank n) where
    abbrev adds : List ℤ → ℕ
    adds x = if is_at s.job s.nest n x then value_of_term s.job.arrays state x p.term else 0

    added_by : (h : Hit) (interior at : Bool) → is_interior s.job s.places rank p.term h.point ≡ interior →
        (is_interior s.job s.places rank p.term h.point ≡ true → hit_value s rank p.term h % 2 ^ 64 ≡ value_of_term s.job.arrays state h.point p.term) →
        (if interior && at then hit_value s rank p.term h else 0) % 2 ^ 64 ≡ (if interior then (if at then value_of_term s.job.arrays state h.point p.term else 0) else 0) % 2 ^ 64
    added_by h true true is value = sym (mod-mod (hit_value s rank p.term h) (2 ^ 64)) ∙ ap (λ v. v % 2 ^ 64) (value is)
    added_by h true false is value = refl
    added_by h false at is value = refl

    -- the hits add what the interior points add
    pub hits_mean : hits_add s rank p.term (walk (term_course (scene_of s p) rank) origin) (local_element s.places array rank n) % 2 ^ 64
        ≡ term_sum s.job state s.nest n p.term (interior_points s.job entries s.places s.nest p.term rank) % 2 ^ 64
    hits_mean =
        let hs = walk (term_course (scene_of s p) rank) origin in
        let l = local_element s.places array rank n in
        let start = can_start s rank p can in
        let views = views_of s rank p entries plan show.parts in
        let interior = is_interior s.job s.places rank p.term in
        let xs = answer s.job entries s.places s.nest p.term rank in
        let perm = are_the_answer (scene_of s p) rank entries start views in
        let leads = name_their_leaves (scene_of s p) rank entries start views in
        let sound = all_sound s rank p can in
        let at_home : List ℤ → Bool = λ x. home_of s.job s.places s.nest x == rank && is_active s.job entries x p.term in
        let active : All (λ x. is_active s.job entries x p.term ≡ true) (map (λ (h : Hit). h.point) hs) =
        All-permutation (λ x. is_active s.job entries x p.term ≡ true) xs (map (λ (h : Hit). h.point) hs) perm
        (λ k d below. (and_parts (home_of s.job s.places s.nest (get_or xs k d) == rank) (is_active s.job entries (get_or xs k d) p.term) (filtered_passes at_home (points s.nest) (get_or xs k d) (Contains-get_or xs k d below))).1) in
        let each : All (λ h. hit_adds s rank p.term l h % 2 ^ 64 ≡ (if interior h.point then adds h.point else 0) % 2 ^ 64) hs = λ k d below.
        let h = get_or hs k d in
        let here : is_active s.job entries h.point p.term ≡ true =
        All-contains (λ x. is_active s.job entries x p.term ≡ true) (map (λ (h : Hit). h.point) hs) h.point active (contains_map (λ (h : Hit). h.point) hs h (Contains-get_or hs k d below)) in
        let one = sound k d below in
        ap (λ b. (if interior h.point && b then hit_value s rank p.term h else 0) % 2 ^ 64) (spot_tells s.job s.places s.nest rank array n h.point (nest_is s rank p can) named dealt long own one.box one.home)
        ∙ added_by h (interior h.point) (is_at s.job s.nest n h.point) refl (λ inner. value_is h one here (leads k d below) inner) in
        sum_by_agree-mod (2 ^ 64) (hit_adds s rank p.term l) (λ h. if interior h.point then adds h.point else 0) hs each
        ∙ ap (λ v. v % 2 ^ 64)
        (sym (sum_by-map (λ x. if interior x then adds x else 0) (λ (h : Hit). h.point) hs)
        ∙ sum_by-IsPermutation (λ x. if interior x then adds x else 0) xs (map (λ (h : Hit). h.point) hs) perm
        ∙ sym (sum_filter adds interior xs))
