-- The stores of a job's arrays, one matrix more at a time.
use Rattle.std.proofs.Common.{◌≡◌, ℕ, zero, suc, ◌<◌, ◌≤◌, ◌==◌, ◌&&◌, true, List, [], ◌∷◌, ◌++◌, Option, Some, None, length, drop, slice_get, refl, sym, ap, ◌∙◌, subst, arith}
use Rattle.std.specs.Prelude.{if◌then◌else◌}
use Rattle.std.specs.List.{AllZip, sum_by}
use Rattle.std.proofs.lemmas.Bool.{eq-eqb}
use Rattle.std.proofs.lemmas.List.Sums.{sum_by-cons}
use Rattle.std.proofs.lemmas.Option.{slice_get_within}
use Rattle.bern_base.specs.Matrix.{values_of}
use Rattle.bern_base.specs.declared.job.ArrayDecl.{ArrayDecl}
use Rattle.bern_base.specs.declared.job.Checked.{Checked}
use Rattle.bern_base.specs.declared.job.FormatDecl.{FormatDecl}
use Rattle.bern_base.specs.declared.matrix.Matrix.{Matrix}
use Rattle.bern_base.specs.declared.refusal.Rule.{Rule}
use Rattle.bern_base.specs.declared.refusal.Rule.TheVariants.{F1}
use Rattle.bern_base.specs.declared.shape.Shape.{Shape}
use Rattle.bern_base.specs.declared.shape.Shape.TheVariants as shape
use Rattle.format_model.specs.Checks as checks
use Rattle.format_model.specs.Checks.{first_of, has_sizes, shape_rule}
use Rattle.format_model.specs.Weights.{shape_weight}
use Rattle.formats.specs.Admitted.{HasLevels, HasOrder}
use Rattle.formats.specs.AnyStores.{any_grid, any_is_tree, any_tree}
use Rattle.formats.specs.declared.any_store.AnyStore.{AnyStore}
use Rattle.job_files.specs.FileOrder.{IsArrayIn, astray_rule}
use Rattle.job_files.specs.RowOrders.{IsRowOrder, ListsRows}
use Rattle.job_files.specs.Uses.{listed_in, listed_by, named_in, named_by}
use Rattle.job_files.specs.Weight.{array_weight, format_weight, weight_of}
use Rattle.job_model.specs.Accepted.{IsArrayOf}
use Rattle.job_model.specs.State.{values_in}
use Rattle.node_prog.proofs.HomeLemmas.{item}
use Rattle.whole_turns.proofs.PlaceLemmas.{all_at}
use Rattle.whole_runs.proofs.ListLemmas.{each_more, some_same}
use Rattle.whole_laws.specs.HeldArrays.{HoldsArray, HoldsState}
use Rattle.whole_laws.specs.HeldLaws.{IsWholeAt}
use Rattle.whole_laws.proofs.HeldLemmas.{built-arrays-are_held}
use Rattle.whole_runs.specs.Engine.{BuildsStore, CanRun, IsForArray, entries_in, first_state}

-- ---- lists

pub zip_get : {A B : Type 0} (P : A → B → Type 0) (xs : List A) (ys : List B) (k : ℕ) (x : A) (y : B) → AllZip P xs ys → slice_get xs k ≡ Some x → slice_get ys k ≡ Some y → P x y
zip_get P [] ys k x y zip at there = absurd cc
zip_get P (v ∷ xs) [] k x y zip at there = absurd zip
zip_get P (v ∷ xs) (w ∷ ys) zero x y zip at there = let first : v ≡ x = cc in let second : w ≡ y = cc in subst (P x) second (subst (λ z. P z w) first zip.0)
zip_get P (v ∷ xs) (w ∷ ys) (suc k) x y zip at there = zip_get P xs ys k x y zip.1 at there

pub zip_long : {A B : Type 0} (P : A → B → Type 0) (xs : List A) (ys : List B) → AllZip P xs ys → length ys ≡ length xs
zip_long P [] [] zip = refl
zip_long P [] (y ∷ ys) zip = absurd zip
zip_long P (x ∷ xs) [] zip = absurd zip
zip_long P (x ∷ xs) (y ∷ ys) zip = ap suc (zip_long P xs ys zip.1)

pub some_at : {X : Type 0} (xs : List X) (k : ℕ) → k < length xs → (x : X) × (slice_get xs k ≡ Some x)
some_at [] k low = absurd (omega (arith, low))
some_at (x ∷ xs) zero low = (x, refl)
some_at (x ∷ xs) (suc k) low = some_at xs k (omega (arith, low))

pub one_of_sum : {X : Type 0} (f : X → ℕ) (xs : List X) (k : ℕ) (x : X) → slice_get xs k ≡ Some x → f x ≤ sum_by f xs
one_of_sum f [] k x at = absurd cc
one_of_sum f (y ∷ xs) zero x at = let same : f y ≡ f x = ap f (let here : y ≡ x = cc in here) in omega (arith, same, sum_by-cons f y xs)
one_of_sum f (y ∷ xs) (suc k) x at = let rest = one_of_sum f xs k x at in omega (arith, rest, sum_by-cons f y xs)

-- the first item of what is left of a list, and what follows it
pub drop_first : {A : Type 0} (xs : List A) (n : ℕ) (x : A) (ys : List A) → x ∷ ys ≡ drop n xs → slice_get xs n ≡ Some x
drop_first [] zero x ys is = absurd cc
drop_first [] (suc n) x ys is = absurd cc
drop_first (z ∷ xs) zero x ys is = let same : x ≡ z = cc in ap (λ y. Some y) (sym same)
drop_first (z ∷ xs) (suc n) x ys is = drop_first xs n x ys is

pub drop_rest : {A : Type 0} (xs : List A) (n : ℕ) (x : A) (ys : List A) → x ∷ ys ≡ drop n xs → ys ≡ drop (suc n) xs
drop_rest [] zero x ys is = absurd cc
drop_rest [] (suc n) x ys is = absurd cc
drop_rest (z ∷ xs) zero x ys is = cc
drop_rest (z ∷ xs) (suc n) x ys is = drop_rest xs n x ys is

pub drop_none : {A : Type 0} (xs : List A) (n : ℕ) → length (drop n xs) ≡ 0 → length xs ≤ n
drop_none [] n none = omega arith
drop_none (x ∷ xs) zero none = absurd (omega (arith, none))
drop_none (x ∷ xs) (suc n) none = let rest = drop_none xs n none in omega (arith, rest)

-- ---- an array that can be built

no_astray : (s : Shape) (m : Matrix) → astray_rule (listed_in s) m ≡ None → checks.astray_rule s m ≡ None
no_astray (shape.Diagonal offsets) m straight = straight
no_astray shape.DenseOne m straight = refl
no_astray shape.PackedOne m straight = refl
no_astray shape.ListOne m straight = refl
no_astray (shape.DenseDense outer) m straight = refl
no_astray (shape.DensePacked outer) m straight = refl
no_astray (shape.PackedPacked outer) m straight = refl
no_astray shape.ListTwo m straight = refl
no_astray shape.Jagged m straight = refl
no_astray (shape.Permute file) m straight = refl

has_order : (s : Shape) (rows : ℕ) (order : List ℕ) → ListsRows (named_in s) rows order → HasOrder s rows order
has_order (shape.Permute file) rows order lists = lists
has_order (shape.Diagonal offsets) rows order lists = tt
has_order shape.DenseOne rows order lists = tt
has_order shape.PackedOne rows order lists = tt
has_order shape.ListOne rows order lists = tt
has_order (shape.DenseDense outer) rows order lists = tt
has_order (shape.DensePacked outer) rows order lists = tt
has_order (shape.PackedPacked outer) rows order lists = tt
has_order shape.ListTwo rows order lists = tt
has_order shape.Jagged rows order lists = tt

no_size_rule : (rows cols : ℕ) (m : Matrix) (later : Option Rule) → m.rows ≡ rows → m.cols ≡ cols → later ≡ None → first_of (checks.sizes_rule rows cols m) later ≡ None
no_size_rule rows cols m later same_rows same_cols none =
    let both : has_sizes rows cols m ≡ true = ap (λ b. b && (m.cols == cols)) (eq-eqb m.rows rows same_rows) ∙ eq-eqb m.cols cols same_cols in
    ap (λ b. first_of (if b then None else Some F1) later) both ∙ none

pub for_array : (job : Checked) (ms : List Matrix) (orders : List (List ℕ)) (k : ℕ) (m : Matrix) (order : List ℕ) → CanRun job ms orders → slice_get ms k ≡ Some m → slice_get orders k ≡ Some order → IsForArray job k m order
for_array job ms orders k m order can at there =
    let found = some_at job.arrays k (omega (arith, zip_long (IsArrayIn job.formats) job.arrays ms can.arrays, slice_get_within ms k m at)) in
    let array : ArrayDecl = found.0 in
    let own = zip_get (IsArrayIn job.formats) job.arrays ms k array m can.arrays found.1 at in
    let rows = zip_get (IsRowOrder job.formats) job.arrays orders k array order can.rows found.1 there in
    let is = all_at (IsArrayOf job) job.arrays k array can.accepted.arrays found.1 in
    let format : FormatDecl = is.format.0 in
    let format_is : slice_get job.formats array.format ≡ Some format = is.format.1 in
    let weight : shape_weight format.shape can.ranks array ≤ weight_of job can.ranks =
    subst (λ o. format_weight o can.ranks array ≤ weight_of job can.ranks) format_is (one_of_sum (array_weight job.formats can.ranks) job.arrays k array found.1) in record {
      array = array;
      format = format;
      ranks = can.ranks;
      array_is = found.1;
      format_is = format_is;
      whole = record {
        rows = is.rows.1;
        cols = is.cols.1;
        levels = all_at (λ f. HasLevels f.shape) job.formats array.format format can.formed.levels format_is;
        dims = is.format.2.0;
        flat = λ one. (is.flat one).0;
        matrix = own.is.matrix;
        checked = no_size_rule array.rows array.cols m (checks.astray_rule format.shape m) own.is.rows own.is.cols
            (no_astray format.shape m (subst (λ o. astray_rule (listed_by o) m ≡ None) format_is own.straight));
        listed = has_order format.shape array.rows order (subst (λ o. ListsRows (named_by o) array.rows order) format_is rows);
        some = can.some;
        weight = omega (arith, weight, can.light);
        light = own.is.few;
      };
    }

-- ---- the stores so far

abbrev pub IsBuiltOf : Checked → List Matrix → ℕ → AnyStore → Type 0
IsBuiltOf job ms k s = (m : Matrix) → slice_get ms k ≡ Some m → BuildsStore job k m s

-- the first stores, and the matrices that are left
pub record AreBuilt (job : Checked) (ms : List Matrix) (stores : List AnyStore) (left : List Matrix) : Type 0 where
  pub left_is : left ≡ drop (length stores) ms
  pub most : length stores ≤ length ms
  pub each : (k : ℕ) (s : AnyStore) → slice_get stores k ≡ Some s → IsBuiltOf job ms k s

pub none_built : (job : Checked) (ms left : List Matrix) → left ≡ ms → AreBuilt job ms [] left
none_built job ms left same = record { left_is = same; most = omega arith; each = λ k s at. absurd cc }

pub next_matrix : (job : Checked) (ms : List Matrix) (stores : List AnyStore) (left rest : List Matrix) (m : Matrix) → AreBuilt job ms stores left → left ≡ m ∷ rest → slice_get ms (length stores) ≡ Some m
next_matrix job ms stores left rest m are is = drop_first ms (length stores) m rest (sym is ∙ are.left_is)

pub store_more : (job : Checked) (ms : List Matrix) (stores : List AnyStore) (left rest : List Matrix) (m : Matrix) (s : AnyStore) → AreBuilt job ms stores left → left ≡ m ∷ rest → BuildsStore job (length stores) m s → length (stores ++ s ∷ []) ≡ suc (length stores) →
    AreBuilt job ms (stores ++ s ∷ []) rest
store_more job ms stores left rest m s are is built long =
    let at = next_matrix job ms stores left rest m are is in record {
      left_is = drop_rest ms (length stores) m rest (sym is ∙ are.left_is) ∙ ap (λ n. drop n ms) (sym long);
      most = omega (arith, long, slice_get_within ms (length stores) m at);
      each = each_more (IsBuiltOf job ms) stores s are.each (λ other there. subst (λ n. BuildsStore job (length stores) n s) (some_same (sym at ∙ there)) built);
    }

-- a built store holds its array
held : (job : Checked) (ms : List Matrix) (k : ℕ) (m : Matrix) (s : AnyStore) → slice_get ms k ≡ Some m → BuildsStore job k m s → HoldsArray job (entries_in ms) k (values_in (first_state ms) k) (any_tree s) (any_grid s)
held job ms k m s at b =
    subst (λ vs. HoldsArray job (entries_in ms) k vs (any_tree s) (any_grid s)) (sym (item values_of ms k m [] at))
    (built-arrays-are_held job (entries_in ms) k m (any_tree s) (any_grid s) (record {
      array = b.array;
      format = b.format;
      ranks = b.ranks;
      order = b.order;
      array_is = b.array_is;
      format_is = b.format_is;
      whole = b.whole;
      small = b.small;
      entries_are = item (λ (n : Matrix). n.entries) ms k m [] at;
      lawful = any_is_tree s;
      described = b.described;
      grid = b.grid;
    }))

pub all_held : (job : Checked) (ms : List Matrix) (orders : List (List ℕ)) (stores : List AnyStore) (left : List Matrix) → CanRun job ms orders → AreBuilt job ms stores left → length left ≡ 0 → HoldsState job (entries_in ms) (first_state ms) stores
all_held job ms orders stores left can are none =
    let all : length ms ≤ length stores = drop_none ms (length stores) (ap length (sym are.left_is) ∙ none) in record {
      count = omega (arith, all, are.most, zip_long (IsArrayIn job.formats) job.arrays ms can.arrays);
      each = λ k s at.
          let m = some_at ms k (omega (arith, are.most, slice_get_within stores k s at)) in
          held job ms k m.0 s m.1 (are.each k s at m.0 m.1);
    }

-- each of the matrices is a whole one of its array
pub wholes : (job : Checked) (ms : List Matrix) (orders : List (List ℕ)) → CanRun job ms orders → (k : ℕ) (m : Matrix) → slice_get ms k ≡ Some m → IsWholeAt job k m
wholes job ms orders can k m at =
    let order = some_at orders k (omega (arith, slice_get_within ms k m at, zip_long (IsArrayIn job.formats) job.arrays ms can.arrays, zip_long (IsRowOrder job.formats) job.arrays orders can.rows)) in
    let f = for_array job ms orders k m order.0 can at order.1 in record {
      array = f.array;
      format = f.format;
      ranks = f.ranks;
      order = order.0;
      array_is = f.array_is;
      format_is = f.format_is;
      whole = f.whole;
    }
