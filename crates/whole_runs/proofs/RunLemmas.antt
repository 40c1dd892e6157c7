-- What a run begins with: plans of all terms, and stores that hold the first state.
use Rattle.std.proofs.Common.{◌≡◌, ℕ, zero, suc, ◌*◌, ◌<◌, ◌≤◌, ◌^◌, true, false, List, [], ◌∷◌, Option, Some, None, length, get_or, slice_get, refl, sym, ap, ◌∙◌, subst, ⊎_elim, arith, zero-add}
use Rattle.std.specs.List.{All, AllZip}
use Rattle.std.proofs.Math.Nat.{mod-lt}
use Rattle.std.proofs.lemmas.Bool.{cases_lt}
use Rattle.std.proofs.lemmas.List.{get_or_past, length-map}
use Rattle.std.proofs.lemmas.List.FromFn.{get_or-map-range_with_len, length-map-range_with_len}
use Rattle.std.proofs.lemmas.Nat.{pow_pos}
use Rattle.std.proofs.lemmas.Option.{slice_get_within}
use Rattle.bern_base.specs.Matrix.{IsMatrix, element, values_of}
use Rattle.bern_base.specs.declared.axes.Axis.{Axis}
use Rattle.bern_base.specs.declared.axes.Axis.TheVariants as axis
use Rattle.bern_base.specs.declared.job.ArrayDecl.{ArrayDecl}
use Rattle.bern_base.specs.declared.job.Checked.{Checked}
use Rattle.bern_base.specs.declared.job.FormatDecl.{FormatDecl}
use Rattle.bern_base.specs.declared.matrix.Matrix.{Matrix}
use Rattle.bern_base.specs.declared.shape.Shape.{Shape}
use Rattle.bern_base.specs.declared.shape.Shape.TheVariants as shape
use Rattle.format_model.specs.Laws.{IsSide}
use Rattle.format_model.specs.Weights.{shape_weight}
use Rattle.formats.specs.Admitted.{HasLevels}
use Rattle.formats.specs.declared.any_store.AnyStore.{AnyStore}
use Rattle.job_files.specs.FileOrder.{IsArrayIn}
use Rattle.job_files.specs.Weight.{array_weight, format_weight, weight_of}
use Rattle.job_model.specs.Accepted.{IsArrayOf}
use Rattle.job_model.specs.Runnable.{is_dense_format}
use Rattle.job_model.specs.State.{read}
use Rattle.job_plans.specs.Laws.{IsPlannable, IsWithin}
use Rattle.job_plans.specs.Least.{AreLeast, measured}
use Rattle.job_plans.proofs.LawLemmas.{are_plans}
use Rattle.join_plan.specs.Laws.{HasOuterAxis}
use Rattle.nest_laws.specs.NestLaws.{IsStateOf}
use Rattle.node_prog.proofs.HomeLemmas.{item, no_item}
use Rattle.placement.specs.declared.any_place.AnyPlace.{AnyPlace}
use Rattle.split_exec.specs.Settings.{AreSmall}
use Rattle.term_model.specs.Plans.{is_both}
use Rattle.term_model.specs.declared.plan.Plans.{Plans}
use Rattle.whole_laws.specs.HeldArrays.{HoldsState}
use Rattle.whole_laws.proofs.ZeroLemmas.{wholes-hold-zeros}
use Rattle.whole_turns.specs.OneRank.{AreWhole}
use Rattle.whole_turns.specs.Turns.{IsHeld}
use Rattle.whole_runs.specs.Engine.{ArePlannedNests, CanRun, entries_in, first_state}
use Rattle.whole_runs.proofs.StoreLemmas.{some_at, one_of_sum, wholes, zip_get, zip_long}

-- ---- plans

one_axis : (a : Axis) → IsSide a → is_both a ≡ false
one_axis axis.Row side = refl
one_axis axis.Col side = refl
one_axis axis.Both side = absurd (side refl)

outer_axis : (s : Shape) → HasLevels s → HasOuterAxis s
outer_axis (shape.DenseDense outer) has = one_axis outer has
outer_axis (shape.DensePacked outer) has = one_axis outer has
outer_axis (shape.PackedPacked outer) has = one_axis outer has
outer_axis shape.DenseOne has = tt
outer_axis shape.PackedOne has = tt
outer_axis shape.ListOne has = tt
outer_axis shape.ListTwo has = tt
outer_axis shape.Jagged has = tt
outer_axis (shape.Diagonal offsets) has = tt
outer_axis (shape.Permute file) has = tt

zip_all : {A B : Type 0} (P : A → B → Type 0) (Q : A → Type 0) (R : B → Type 0) → ((x : A) (y : B) → P x y → Q x → R y) → (xs : List A) (ys : List B) → AllZip P xs ys → All Q xs → All R ys
zip_all P Q R each xs [] zip all k d low = absurd (omega (arith, low))
zip_all P Q R each [] (y ∷ ys) zip all k d low = absurd zip
zip_all P Q R each (x ∷ xs) (y ∷ ys) zip all zero d low = each x y zip.0 (all 0 x (omega arith))
zip_all P Q R each (x ∷ xs) (y ∷ ys) zip all (suc k) d low = zip_all P Q R each xs ys zip.1 (λ j e under. all (suc j) e (omega (arith, under))) k d (omega (arith, low))

pub matrices_are : (job : Checked) (ms : List Matrix) (orders : List (List ℕ)) → CanRun job ms orders → All IsMatrix ms
matrices_are job ms orders can = zip_all (IsArrayIn job.formats) (IsArrayOf job) IsMatrix (λ array m is of. is.is.matrix) job.arrays ms can.arrays can.accepted.arrays

pub plannable : (job : Checked) (ms : List Matrix) (orders : List (List ℕ)) → CanRun job ms orders → IsPlannable job ms
plannable job ms orders can = record {
  accepted = can.accepted;
  axes = λ k d low. outer_axis (get_or job.formats k d).shape (can.formed.levels k d low);
  count = zip_long (IsArrayIn job.formats) job.arrays ms can.arrays;
  within = zip_all (IsArrayIn job.formats) (IsArrayOf job) IsWithin
      (λ array m is of. record { rows = omega (arith, is.is.rows, of.rows.1); cols = omega (arith, is.is.cols, of.cols.1); entries = is.is.few })
      job.arrays ms can.arrays can.accepted.arrays;
}

-- ---- the first state

value_small : (m : Matrix) (n : ℕ) → get_or (values_of m) n 0 < 2 ^ 64
value_small m n = ⊎_elim
    (λ (inside : n < m.rows * m.cols).
    subst (λ v. v < 2 ^ 64) (sym (get_or-map-range_with_len (element m.cols m.entries) 0 (m.rows * m.cols) n n 0 inside (zero-add n))) (mod-lt _ (pow_pos 64)))
    (λ past. subst (λ v. v < 2 ^ 64) (sym (get_or_past (values_of m) n 0 (omega (arith, past, length-map-range_with_len (element m.cols m.entries) 0 (m.rows * m.cols))))) (pow_pos 64))
    (cases_lt n (m.rows * m.cols))

pub first_kept : (job : Checked) (ms : List Matrix) (orders : List (List ℕ)) → CanRun job ms orders → IsStateOf job (first_state ms)
first_kept job ms orders can = record {
  count = length-map ms values_of ∙ zip_long (IsArrayIn job.formats) job.arrays ms can.arrays;
  sizes = λ number array at.
      let m = some_at ms number (omega (arith, zip_long (IsArrayIn job.formats) job.arrays ms can.arrays, slice_get_within job.arrays number array at)) in
      let own = zip_get (IsArrayIn job.formats) job.arrays ms number array m.0 can.arrays at m.1 in
      ap length (item values_of ms number m.0 [] m.1) ∙ length-map-range_with_len (element m.0.cols m.0.entries) 0 (m.0.rows * m.0.cols)
      ∙ ap (λ r. r * m.0.cols) own.is.rows ∙ ap (λ c. array.rows * c) own.is.cols;
  small = λ number n. by_matrix number n (slice_get ms number) refl;
}
  where
    by_matrix : (number n : ℕ) (found : Option Matrix) → slice_get ms number ≡ found → read (first_state ms) number n < 2 ^ 64
    by_matrix number n None is = subst (λ vs. get_or vs n 0 < 2 ^ 64) (sym (no_item values_of ms number [] is)) (pow_pos 64)
    by_matrix number n (Some m) is = subst (λ vs. get_or vs n 0 < 2 ^ 64) (sym (item values_of ms number m [] is)) (value_small m n)

dense_weight : (format : Option FormatDecl) (ranks : ℕ) (array : ArrayDecl) → is_dense_format format ≡ true → format_weight format ranks array ≡ array.rows * array.cols
dense_weight None ranks array whole = absurd cc
dense_weight (Some format) ranks array whole = by_shape format.shape whole
  where
    by_shape : (s : Shape) → is_dense_format (Some (record { name = format.name; shape = s })) ≡ true → shape_weight s ranks array ≡ array.rows * array.cols
    by_shape shape.DenseOne is = refl
    by_shape (shape.DenseDense outer) is = refl
    by_shape shape.PackedOne is = absurd cc
    by_shape shape.ListOne is = absurd cc
    by_shape (shape.DensePacked outer) is = absurd cc
    by_shape (shape.PackedPacked outer) is = absurd cc
    by_shape shape.ListTwo is = absurd cc
    by_shape shape.Jagged is = absurd cc
    by_shape (shape.Diagonal offsets) is = absurd cc
    by_shape (shape.Permute file) is = absurd cc

pub small_arrays : (job : Checked) (ms : List Matrix) (orders : List (List ℕ)) → CanRun job ms orders → AreSmall job
small_arrays job ms orders can k d low whole =
    let array : ArrayDecl = get_or job.arrays k d in
    let found = some_at job.arrays k low in
    let at : slice_get job.arrays k ≡ Some array = get_is job.arrays k d low in
    let weight : array_weight job.formats can.ranks array ≤ weight_of job can.ranks = one_of_sum (array_weight job.formats can.ranks) job.arrays k array at in
    omega (arith, weight, can.light, dense_weight (slice_get job.formats array.format) can.ranks array whole)
  where
    get_is : {X : Type 0} (xs : List X) (k : ℕ) (d : X) → k < length xs → slice_get xs k ≡ Some (get_or xs k d)
    get_is [] k d low = absurd (omega (arith, low))
    get_is (x ∷ xs) zero d low = refl
    get_is (x ∷ xs) (suc k) d low = get_is xs k d (omega (arith, low))

pub first_held : (job : Checked) (ms : List Matrix) (orders : List (List ℕ)) (places : List AnyPlace) (stores : List AnyStore) → CanRun job ms orders → AreWhole job places → HoldsState job (entries_in ms) (first_state ms) stores →
    IsHeld job (entries_in ms) (first_state ms) places stores
first_held job ms orders places stores can placed holds = record {
  accepted = can.accepted;
  small = small_arrays job ms orders can;
  placed = placed;
  kept = first_kept job ms orders can;
  zeros = wholes-hold-zeros job ms (wholes job ms orders can);
  holds = holds;
}

-- the plans of least cost serve all turns
pub planned_nests : (job : Checked) (ms : List Matrix) (orders : List (List ℕ)) (plans : Plans) → CanRun job ms orders → AreLeast job (measured job ms) plans → ArePlannedNests job plans
planned_nests job ms orders plans can least = record {
  plans_are = are_plans job ms plans (plannable job ms orders can) least;
  variables = can.formed.variables;
  turns = can.accepted.turns;
}
