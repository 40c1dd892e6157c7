-- The arrays of print lines, from stores and after a replay.
use Rattle.std.proofs.Common.{◌≡◌, ℕ, zero, suc, ◌+◌, ◌*◌, ◌<◌, ◌^◌, ◌==◌, Bool, true, false, List, [], ◌∷◌, ◌++◌, Some, length, map, flat_map, take, get_or, set, slice_get, append-nil, refl, sym, ap, ◌∙◌, subst, ⊎_elim, arith}
use Rattle.std.specs.Prelude.{slice_set}
use Rattle.std.specs.List.{All, range_with_len}
use Rattle.std.proofs.Math.Nat.{mul-one}
use Rattle.std.proofs.lemmas.Bool.{eq-eqb, eqb-true}
use Rattle.std.proofs.lemmas.Grind.{flat_map-append}
use Rattle.std.proofs.lemmas.List.{get_or-set_other, get_or-set_same, length-map, take_more}
use Rattle.std.proofs.lemmas.List.Concat.{flat_map-cons}
use Rattle.std.proofs.lemmas.List.FromFn.{fill_by_all, length-map-range_with_len}
use Rattle.std.proofs.lemmas.Option.{slice_get_within}
use Rattle.bern_base.specs.Matrix.{IsMatrix, element, values_of}
use Rattle.bern_base.specs.declared.job.ArrayDecl.{ArrayDecl}
use Rattle.bern_base.specs.declared.job.Checked.{Checked}
use Rattle.bern_base.specs.declared.matrix.Matrix.{Matrix}
use Rattle.format_model.specs.Grids.{HasElement, value_of_element}
use Rattle.formats.specs.AnyStores.{any_grid, any_tree}
use Rattle.formats.specs.declared.any_store.AnyStore.{AnyStore}
use Rattle.job_model.specs.Accepted.{IsDenseAt}
use Rattle.job_model.specs.Runnable.{is_dense, is_dense_format}
use Rattle.job_model.specs.State.{State, values_in}
use Rattle.mm_profile.specs.ArrayText.{array_text}
use Rattle.node_prog.proofs.HomeLemmas.{item}
use Rattle.rank_node.proofs.ListLemmas.{some_same}
use Rattle.rank_product.proofs.ListLemmas.{ComesFrom, all_at, map_at}
use Rattle.rank_product.proofs.ShapeLemmas.{has_array}
use Rattle.rank_product.specs.Runs.{AreOfJob, declared_sizes, first_state, sizes_of}
use Rattle.rank_product.specs.Shapes.{IsOver, IsProduct, cols_over, is_dense_level}
use Rattle.rank_product.specs.declared.shape.ProductShape.{ProductShape}
use Rattle.term_model.specs.Activity.{Entries}
use Rattle.whole_laws.specs.HeldArrays.{HoldsArray, HoldsState}
use Rattle.whole_laws.specs.HeldLaws.{HasCell}
use Rattle.whole_laws.proofs.HeldLemmas.{held-arrays-have_cells}
use Rattle.whole_turns.proofs.TurnLemmas.{dense_count}
use Rattle.job_runs.specs.Printing.{replayed_values}
use Rattle.job_runs.specs.Texts.{declared_text, text_of}
use Rattle.whole_runs.proofs.StoreLemmas.{some_at}

-- what the print line at a place is of
pub print_at : (job : Checked) (items : List ℕ) (i number : ℕ) → items ≡ job.prints → All (IsDenseAt job) job.prints → i < length items → number ≡ get_or items i number → IsDenseAt job number
print_at job items i number same prints within is = let all : All (IsDenseAt job) items = subst (All (IsDenseAt job)) (sym same) prints in subst (IsDenseAt job) (sym is) (all i number within)

pub print_below : (job : Checked) (number : ℕ) → IsDenseAt job number → number < length job.arrays
print_below job number is = slice_get_within job.arrays number is.0 is.1

-- one print line more
pub print_more : (job : Checked) (state : State) (items : List ℕ) (i number : ℕ) (array : ArrayDecl) (values old new : List ℕ) → i < length items → number ≡ get_or items i number → slice_get job.arrays number ≡ Some array → values ≡ values_in state number →
    old ≡ flat_map (text_of job.arrays state) (take i items) → new ≡ old ++ array_text array.name array.rows array.cols values → new ≡ flat_map (text_of job.arrays state) (take (i + 1) items)
print_more job state items i number array values old new within is declared same before after =
    let f : ℕ → List ℕ = text_of job.arrays state in
    let here : f number ≡ array_text array.name array.rows array.cols values =
    ap (declared_text state number) declared ∙ ap (array_text array.name array.rows array.cols) (sym same) in
    after
    ∙ ap (λ t. t ++ array_text array.name array.rows array.cols values) before
    ∙ ap (λ t. flat_map f (take i items) ++ t) (sym here ∙ sym (append-nil (f number)) ∙ sym (flat_map-cons f number []))
    ∙ sym (flat_map-append f (take i items) (number ∷ []))
    ∙ ap (λ n. flat_map f (take i items ++ n ∷ [])) is
    ∙ ap (flat_map f) (sym (take_more items i number within))

-- ---- from stores

-- a dense array of the job, with the store that holds it
record IsStored (job : Checked) (entries : Entries) (state : State) (number : ℕ) (array : ArrayDecl) (s : AnyStore) : Type 0 where
  holds : HoldsArray job entries number (values_in state number) (any_tree s) (any_grid s)
  area : holds.matrix.rows * holds.matrix.cols ≡ array.rows * array.cols
  few : array.rows * array.cols < 2 ^ 32
  long : length (values_in state number) ≡ array.rows * array.cols
  cells : (n : ℕ) → n < array.rows * array.cols → HasCell (any_grid s) (values_in state number) n

stored : (job : Checked) (entries : Entries) (state : State) (stores : List AnyStore) (number : ℕ) (array : ArrayDecl) (s : AnyStore) → HoldsState job entries state stores → IsDenseAt job number → slice_get job.arrays number ≡ Some array → slice_get stores number ≡ Some s →
    IsStored job entries state number array s
stored job entries state stores number array s held is declared at =
    let h = held.each number s at in
    let own : h.array ≡ array = some_same (sym h.array_is ∙ declared) in
    let whole = ap is_dense_format (sym h.format_is) ∙ ap (is_dense job.formats) (some_same (sym h.array_is ∙ is.1)) ∙ is.2 in
    let area : h.matrix.rows * h.matrix.cols ≡ array.rows * array.cols =
    ap (λ r. r * h.matrix.cols) (h.rows ∙ ap (λ (a : ArrayDecl). a.rows) own) ∙ ap (λ c. array.rows * c) (h.cols ∙ ap (λ (a : ArrayDecl). a.cols) own) in record {
      holds = h;
      area = area;
      few = omega (arith, h.can.few, area, dense_count h.format.shape (range_with_len 0 h.matrix.rows) h.matrix whole);
      long = ap length h.values_are ∙ length-map-range_with_len (element h.matrix.cols h.matrix.entries) 0 (h.matrix.rows * h.matrix.cols) ∙ area;
      cells = λ n low. held-arrays-have_cells job entries number (values_in state number) (any_tree s) (any_grid s) h whole n (subst (λ (a : ArrayDecl). n < a.rows * a.cols) (sym own) low);
    }

pub few_cells : (job : Checked) (entries : Entries) (state : State) (stores : List AnyStore) (number : ℕ) (array : ArrayDecl) → HoldsState job entries state stores → IsDenseAt job number → slice_get job.arrays number ≡ Some array → array.rows * array.cols < 2 ^ 32
few_cells job entries state stores number array held is declared =
    let s = some_at stores number (omega (arith, held.count, print_below job number is)) in (stored job entries state stores number array s.0 held is declared s.1).few

pub has_cells : (job : Checked) (entries : Entries) (state : State) (stores : List AnyStore) (number : ℕ) (array : ArrayDecl) (s : AnyStore) → HoldsState job entries state stores → IsDenseAt job number → slice_get job.arrays number ≡ Some array → slice_get stores number ≡ Some s →
    (n : ℕ) → n < array.rows * array.cols → HasElement (any_grid s) n
has_cells job entries state stores number array s held is declared at n low = ((stored job entries state stores number array s held is declared at).cells n low).there

pub cells_are : (job : Checked) (entries : Entries) (state : State) (stores : List AnyStore) (number : ℕ) (array : ArrayDecl) (s : AnyStore) → HoldsState job entries state stores → IsDenseAt job number → slice_get job.arrays number ≡ Some array → slice_get stores number ≡ Some s →
    map (value_of_element (any_grid s)) (range_with_len 0 (array.rows * array.cols)) ≡ values_in state number
cells_are job entries state stores number array s held is declared at =
    let t = stored job entries state stores number array s held is declared at in
    sym (fill_by_all (value_of_element (any_grid s)) (values_in state number) (array.rows * array.cols) 0 t.long (λ n low. sym (t.cells n low).value))

-- ---- after a replay

-- values of the target of a product
pub target_size : (job : Checked) (p : ProductShape) (array : ArrayDecl) (values : List ℕ) → IsProduct job p → slice_get job.arrays p.target ≡ Some array → length values ≡ p.size → length values ≡ array.rows * array.cols
target_size job p array values is declared long =
    let has = has_array is_dense_level 1 job.formats (slice_get job.arrays p.target) is.target in
    let own : has.array ≡ array = some_same (sym has.there ∙ declared) in
    let over : IsOver p array = all_at (IsOver p) job.arrays p.target array is.arrays declared in
    let dims : array.dims ≡ 1 = ap (λ (a : ArrayDecl). a.dims) (sym own) ∙ has.dims_are in
    let one : array.cols ≡ 1 = over.cols ∙ ap (cols_over p.size) dims in
    long ∙ sym over.rows ∙ sym (mul-one array.rows) ∙ ap (λ c. array.rows * c) (sym one)

pub matrix_size : (job : Checked) (ms : List Matrix) (number : ℕ) (array : ArrayDecl) (m : Matrix) → AreOfJob job ms → slice_get job.arrays number ≡ Some array → slice_get ms number ≡ Some m → length (values_of m) ≡ array.rows * array.cols
matrix_size job ms number array m are declared at =
    let here : slice_get (map declared_sizes job.arrays) number ≡ Some (sizes_of m) = ap (λ l. slice_get l number) (sym are.sizes) ∙ mapped ms number m at in
    let from : ComesFrom declared_sizes job.arrays number (sizes_of m) = map_at declared_sizes job.arrays number (sizes_of m) here in
    let same : sizes_of m ≡ declared_sizes array = from.is ∙ ap declared_sizes (some_same (sym from.there ∙ declared)) in
    length-map-range_with_len (element m.cols m.entries) 0 (m.rows * m.cols) ∙ ap (λ (s : ℕ × ℕ). s.0 * s.1) same
  where
    mapped : (ms : List Matrix) (number : ℕ) (m : Matrix) → slice_get ms number ≡ Some m → slice_get (map sizes_of ms) number ≡ Some (sizes_of m)
    mapped [] number m at = absurd cc
    mapped (n ∷ ms) zero m at = let same : n ≡ m = cc in ap (λ k. Some (sizes_of k)) same
    mapped (n ∷ ms) (suc number) m at = mapped ms number m at

pub matrix_there : (job : Checked) (ms : List Matrix) (number : ℕ) → AreOfJob job ms → IsDenseAt job number → number < length ms
matrix_there job ms number are is = omega (arith, print_below job number is, length-map ms sizes_of, length-map job.arrays declared_sizes, ap length are.sizes)

-- what is printed of an array is what it has in the end
pub replayed_are : (job : Checked) (p : ProductShape) (ms : List Matrix) (number : ℕ) (m : Matrix) (values : List ℕ) (replayed : Bool) → AreOfJob job ms → IsDenseAt job number → slice_get ms number ≡ Some m → replayed ≡ (number == p.target) →
    replayed_values replayed values m ≡ values_in (set (first_state ms) p.target values) number
replayed_are job p ms number m values true are is at told =
    let same : number ≡ p.target = eqb-true number p.target (sym told) in
    let low : p.target < length (first_state ms) = omega (arith, same, matrix_there job ms number are is, length-map ms values_of) in
    sym (ap (λ n. get_or (set (first_state ms) p.target values) n []) same ∙ get_or-set_same (first_state ms) p.target values [] low)
replayed_are job p ms number m values false are is at told =
    let apart : number ≡ p.target → ⊥ = λ same. (let all : (number == p.target) ≡ true = eq-eqb number p.target same in absurd cc) in
    sym (get_or-set_other (first_state ms) p.target number values [] apart ∙ item values_of ms number m [] at)
