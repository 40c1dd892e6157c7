-- What is listed, what is stored, the values of the matrix and the test of one element agree.
use Rattle.std.proofs.Common.{◌≡◌, ℕ, suc, ◌+◌, ◌*◌, ◌^◌, ◌<◌, Bool, true, false, cond, ◌==◌, ◌||◌, List, [], ◌∷◌, length, get_or, filter, All, Option, Some, None, ℤ, sym, ap, ◌∙◌, subst, refl, ⊎_elim, arith}
use Rattle.std.specs.List.{find, list_any, range_with_len}
use Rattle.std.specs.Option.{is_some, option_map}
use Rattle.std.specs.Prelude.{slice_index}
use Rattle.std.proofs.Math.Nat.{zero-add}
use Rattle.std.proofs.lemmas.Bool.{and_parts, cases_Bool, cond-false, cond-true, eqb-true, false≢true}
use Rattle.std.proofs.lemmas.List.FromFn.{get_or-range_with_len}
use Rattle.bern_base.proofs.ElementLemmas.{element_one}
use Rattle.bern_base.specs.Matrix.{IsMatrix, element}
use Rattle.bern_base.specs.declared.axes.Axis.TheVariants as axis
use Rattle.bern_base.specs.declared.matrix.Entry.{Entry}
use Rattle.bern_base.specs.declared.matrix.Matrix.{Matrix}
use Rattle.bern_base.specs.declared.shape.Shape.TheVariants as shape
use Rattle.format_model.specs.Axes.{index_of}
use Rattle.format_model.specs.Content.{all_lines, local_rows, rows_by_count}
use Rattle.format_model.specs.Elements.{entry_at, value_among}
use Rattle.format_model.specs.Laws.{ListsTheStoredValues, StoredElementsHaveTheirValues, TheTestAgreesWithTheList}
use Rattle.format_model.specs.Stored.{all_elements, has_entry_at, is_on_diagonal, stands_at}
use Rattle.format_model.proofs.ContentLemmas.{index_inside, once_in_range, row_side}
use Rattle.format_model.proofs.LookupLemmas.{has_entry-value_among}
use Rattle.format_model.proofs.OrderLemmas.{once_by_count, once_in_order}
use Rattle.format_model.proofs.ValueLemmas.{all_value, dense_value, dense_vector_value, filled_value, line_value, listed_diagonal_value, number_value, stored_diagonal_value, vector_value}

pub lists-the_stored_values : ListsTheStoredValues
lists-the_stored_values shape.DenseOne globals order m is suits row col high low = dense_vector_value m row col suits high low ∙ sym (all_value m row col high low)
lists-the_stored_values shape.PackedOne globals order m is suits row col high low = vector_value m row col suits is low
lists-the_stored_values shape.ListOne globals order m is suits row col high low = vector_value m row col suits is low
lists-the_stored_values (shape.DenseDense outer) globals order m is suits row col high low = dense_value outer m row col suits high low ∙ sym (all_value m row col high low)
lists-the_stored_values (shape.DensePacked outer) globals order m is suits row col high low =
    line_value outer m (all_lines outer m) row col suits (once_in_range _ (index_of outer m.cols (entry_at row col 0)) (index_inside outer m.rows m.cols (entry_at row col 0) suits (high, low)))
lists-the_stored_values (shape.PackedPacked outer) globals order m is suits row col high low = filled_value outer m row col suits high low
lists-the_stored_values shape.ListTwo globals order m is suits row col high low = number_value m row col is low
lists-the_stored_values shape.Jagged globals order m is suits row col high low = line_value axis.Row m (rows_by_count m) row col row_side (once_by_count m row high)
lists-the_stored_values (shape.Diagonal offsets) globals order m is suits row col high low =
    listed_diagonal_value offsets globals m row col suits high low ∙ sym (stored_diagonal_value offsets globals m row col high low)
lists-the_stored_values (shape.Permute file) globals order m is suits row col high low =
    line_value axis.Row m (local_rows globals order) row col row_side (once_in_order globals order m suits.0 row suits.1 high)

-- ---- the first entry that stands at an element

-- the first of a list that passes, with its place
record IsFound (p : Entry → Bool) (es : List Entry) (k : ℕ) (e : Entry) : Type 0 where
  within : k < length es
  at : get_or es k e ≡ e
  passes : p e ≡ true
  found : find p es ≡ Some e

found_first : (p : Entry → Bool) (es : List Entry) → list_any p es ≡ true → (k : ℕ) × (e : Entry) × IsFound p es k e
found_first p [] some = absurd (false≢true some)
found_first p (x ∷ es) some = ⊎_elim
    (λ (here : p x ≡ true). (0, x, record { within = omega arith; at = refl; passes = here; found = cond-true (p x) (Some x) (find p es) here }))
    (λ (other : p x ≡ false).
    let later = found_first p es (sym (ap (λ b. b || list_any p es) other) ∙ some) in
    let is : IsFound p es later.0 later.1 = later.2 in
    (suc later.0, later.1, record { within = omega (arith, is.within); at = is.at; passes = is.passes; found = cond-false (p x) (Some x) (find p es) other ∙ is.found }))
    (cases_Bool (p x))

entry_value : (m : Matrix) (row col : ℕ) → IsMatrix m → All (λ e. e.value < 2 ^ 64) m.entries → has_entry_at m.entries row col ≡ true → value_among m.entries row col ≡ Some (element m.cols m.entries (row * m.cols + col))
entry_value m row col is small there =
    let found = found_first (stands_at row col) m.entries there in
    let k : ℕ = found.0 in
    let e : Entry = found.1 in
    let first : IsFound (stands_at row col) m.entries k e = found.2 in
    let parts = and_parts (e.row == row) (e.col == col) first.passes in
    let value : element m.cols m.entries (row * m.cols + col) ≡ e.value = element_one m.cols m.entries (row * m.cols + col) k e is.rising first.within (sym first.at)
    (ap (λ r. r * m.cols + e.col) (eqb-true e.row row parts.0) ∙ ap (λ c. row * m.cols + c) (eqb-true e.col col parts.1))
    (subst (λ x. x.value < 2 ^ 64) first.at (small k e first.within)) in
    ap (option_map (λ x. x.value)) first.found ∙ ap Some (sym value)

none_there : (o : Option ℕ) → is_some o ≡ false → o ≡ None
none_there None none = refl
none_there (Some v) none = absurd (false≢true (sym none))

entries_have : (m : Matrix) (row col : ℕ) → IsMatrix m → All (λ e. e.value < 2 ^ 64) m.entries →
    value_among m.entries row col ≡ cond (has_entry_at m.entries row col) (Some (element m.cols m.entries (row * m.cols + col))) None
entries_have m row col is small =
    let value : ℕ = element m.cols m.entries (row * m.cols + col) in ⊎_elim
    (λ (yes : has_entry_at m.entries row col ≡ true). entry_value m row col is small yes ∙ sym (cond-true (has_entry_at m.entries row col) (Some value) None yes))
    (λ (no : has_entry_at m.entries row col ≡ false).
    none_there (value_among m.entries row col) (sym (has_entry-value_among m.entries row col) ∙ no) ∙ sym (cond-false (has_entry_at m.entries row col) (Some value) None no))
    (cases_Bool (has_entry_at m.entries row col))

-- what is found among elements tells whether one is there
told_by : (es : List Entry) (row col v : ℕ) (b : Bool) → value_among es row col ≡ cond b (Some v) None → has_entry_at es row col ≡ b
told_by es row col v true is = has_entry-value_among es row col ∙ ap is_some is
told_by es row col v false is = has_entry-value_among es row col ∙ ap is_some is

have_by : (es : List Entry) (row col v : ℕ) (b : Bool) → value_among es row col ≡ cond b (Some v) None → value_among es row col ≡ cond (has_entry_at es row col) (Some v) None
have_by es row col v b is = is ∙ ap (λ c. cond c (Some v) None) (sym (told_by es row col v b is))

pub stored_elements-have_their_values : StoredElementsHaveTheirValues
stored_elements-have_their_values shape.DenseOne globals m is small row col high low = have_by (all_elements m) row col (element m.cols m.entries (row * m.cols + col)) true (all_value m row col high low)
stored_elements-have_their_values (shape.DenseDense outer) globals m is small row col high low = have_by (all_elements m) row col (element m.cols m.entries (row * m.cols + col)) true (all_value m row col high low)
stored_elements-have_their_values (shape.Diagonal offsets) globals m is small row col high low =
    have_by (filter (λ e. is_on_diagonal offsets (slice_index globals e.row) e.col) (all_elements m)) row col (element m.cols m.entries (row * m.cols + col)) (is_on_diagonal offsets (slice_index globals row) col)
    (stored_diagonal_value offsets globals m row col high low)
stored_elements-have_their_values shape.PackedOne globals m is small row col high low = entries_have m row col is small
stored_elements-have_their_values shape.ListOne globals m is small row col high low = entries_have m row col is small
stored_elements-have_their_values (shape.DensePacked outer) globals m is small row col high low = entries_have m row col is small
stored_elements-have_their_values (shape.PackedPacked outer) globals m is small row col high low = entries_have m row col is small
stored_elements-have_their_values shape.ListTwo globals m is small row col high low = entries_have m row col is small
stored_elements-have_their_values shape.Jagged globals m is small row col high low = entries_have m row col is small
stored_elements-have_their_values (shape.Permute file) globals m is small row col high low = entries_have m row col is small

-- ---- the test of one element

diagonal_test : (offsets : List ℤ) (m : Matrix) (row col : ℕ) → row < m.rows → col < m.cols →
    has_entry_at (filter (λ e. is_on_diagonal offsets (slice_index (range_with_len 0 m.rows) e.row) e.col) (all_elements m)) row col ≡ is_on_diagonal offsets row col
diagonal_test offsets m row col high low =
    let globals : List ℕ = range_with_len 0 m.rows in
    told_by (filter (λ e. is_on_diagonal offsets (slice_index globals e.row) e.col) (all_elements m)) row col (element m.cols m.entries (row * m.cols + col)) (is_on_diagonal offsets (slice_index globals row) col)
    (stored_diagonal_value offsets globals m row col high low)
    ∙ ap (λ r. is_on_diagonal offsets r col) (get_or-range_with_len 0 m.rows row 0 high ∙ zero-add row)

pub the_test-agrees_with_the_list : TheTestAgreesWithTheList
the_test-agrees_with_the_list shape.DenseOne m row col high low = told_by (all_elements m) row col (element m.cols m.entries (row * m.cols + col)) true (all_value m row col high low)
the_test-agrees_with_the_list (shape.DenseDense outer) m row col high low = told_by (all_elements m) row col (element m.cols m.entries (row * m.cols + col)) true (all_value m row col high low)
the_test-agrees_with_the_list (shape.Diagonal offsets) m row col high low = diagonal_test offsets m row col high low
the_test-agrees_with_the_list shape.PackedOne m row col high low = refl
the_test-agrees_with_the_list shape.ListOne m row col high low = refl
the_test-agrees_with_the_list (shape.DensePacked outer) m row col high low = refl
the_test-agrees_with_the_list (shape.PackedPacked outer) m row col high low = refl
the_test-agrees_with_the_list shape.ListTwo m row col high low = refl
the_test-agrees_with_the_list shape.Jagged m row col high low = refl
the_test-agrees_with_the_list (shape.Permute file) m row col high low = refl
