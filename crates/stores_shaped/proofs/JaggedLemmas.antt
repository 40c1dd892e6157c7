-- What the calls of a jagged store read, and that its arrays describe the part.
use Rattle.std.proofs.Common.{◌≡◌, ℕ, zero, suc, ◌+◌, ◌-◌, ◌^◌, ◌<◌, ◌≤◌, List, [], length, map, get_or, None, Some, true, false, cond, refl, sym, ap, ◌∙◌, subst, arith}
use Rattle.std.specs.List.{All, range_with_len, slice_get}
use Rattle.std.specs.Option.{option_map}
use Rattle.std.specs.Prelude.{◌==◌}
use Rattle.std.proofs.lemmas.List.{get_or-map, get_or_default, length-map}
use Rattle.std.specs.List.Sorted.{IsPermutation}
use Rattle.std.proofs.lemmas.List.FromFn.{length-range_with_len}
use Rattle.std.proofs.lemmas.List.Sorted.{length_permutation}
use Rattle.std.proofs.lemmas.Simd.{map-map}
use Rattle.bern_base.specs.Matrix.{IsMatrix}
use Rattle.bern_base.specs.declared.axes.Axis.TheVariants as axis
use Rattle.bern_base.specs.declared.matrix.Matrix.{Matrix}
use Rattle.bern_base.specs.declared.shape.Shape.TheVariants as shape
use Rattle.format_model.specs.Content.{Two}
use Rattle.format_model.specs.Levels.{bits}
use Rattle.format_model.specs.Made.{length-made, made, made_at, made_found, made_none}
use Rattle.format_model.specs.Trees.{Describes, IsParent, child_at, weight_at}
use Rattle.format_model.proofs.ContentLemmas.{row_side}
use Rattle.format_model.proofs.GridLemmas.{map-shifted}
use Rattle.stores_packed.specs.Lines.{IsFilled, stretch}
use Rattle.stores_packed.specs.Packed.{RisesBetween, placed}
use Rattle.stores_packed.proofs.RangeLemmas.{range_same}
use Rattle.stores_packed.proofs.StoreLemmas.{filled_rises, filled_starts}
use Rattle.stores_packed.proofs.TreeLemmas.{length-placed}
use Rattle.stores_shaped.specs.Counts.{AreByCount, AreDealt, LiesIn, row_at}
use Rattle.stores_shaped.specs.Jagged.{IsJagged, jagged_children, jagged_index, jagged_leaf, jagged_tree}
use Rattle.stores_shaped.specs.Orders.{IsInverse, IsOrder}
use Rattle.stores_shaped.specs.Permuted.{row_leaves}
use Rattle.stores_shaped.specs.PermutedLaws.{rows_apart}
use Rattle.stores_shaped.specs.declared.counts.RowCount.{RowCount}
use Rattle.stores_shaped.proofs.ArrangeLemmas.{by_place, row_filled}
use Rattle.stores_shaped.proofs.DealLemmas.{counts_all, dealt_most}
use Rattle.stores_shaped.proofs.OrderLemmas.{order_below}
use Rattle.stores_shaped.proofs.PermutedLemmas.{got}

abbrev pub numbers : List RowCount → List ℕ
numbers rows = map (λ r. r.row) rows

abbrev pub sizes : List RowCount → List ℕ
sizes rows = map (λ r. r.count) rows

-- ---- the rows by falling count

pub count_rows : (m : Matrix) (rows : List RowCount) → AreByCount m rows → length rows ≡ m.rows
count_rows m rows by =
    sym (length-map rows (λ r. r.row)) ∙ length_permutation (range_with_len 0 m.rows) (numbers rows) by.once ∙ length-range_with_len 0 m.rows

pub numbers_are_order : (m : Matrix) (rows : List RowCount) → AreByCount m rows → IsOrder (numbers rows)
numbers_are_order m rows by =
    subst (λ n. IsPermutation (range_with_len 0 n) (numbers rows)) (sym (length-map rows (λ r. r.row) ∙ count_rows m rows by)) by.once

-- a row at a place, in the part and among its filled rows
pub record IsPlaced (m : Matrix) (starts indices values : List ℕ) (r : RowCount) : Type 0 where
  pub inside : r.row < m.rows
  pub there : r.row + 1 < length starts
  pub count : get_or starts (r.row + 1) 0 ≡ get_or starts r.row 0 + r.count
  pub within : get_or starts r.row 0 + r.count ≤ length indices
  pub leaves : stretch indices values (get_or starts r.row 0) r.count ≡ row_leaves m r.row
  pub rises : RisesBetween (λ k. get_or indices k 0) (get_or starts r.row 0) (get_or starts r.row 0 + r.count)

pub row_placed : (m : Matrix) (starts indices values : List ℕ) (rows : List RowCount) (place : ℕ) → IsMatrix m → IsFilled axis.Row m starts indices values → AreByCount m rows
    → place < length rows → IsPlaced m starts indices values (row_at rows place)
row_placed m starts indices values rows place is p by low =
    let r : RowCount = row_at rows place in
    let none : RowCount = record { row = 0; count = 0 } in
    let below : All (λ x. x < m.rows) (numbers rows) = subst (λ n. All (λ x. x < n) (numbers rows)) (length-map rows (λ r. r.row) ∙ count_rows m rows by) (order_below (numbers rows) (numbers_are_order m rows by)) in
    let inside : r.row < m.rows = subst (λ x. x < m.rows) (get_or-map (λ (r : RowCount). r.row) rows place none 0 low) (below place 0 (omega (arith, length-map rows (λ r. r.row), low))) in
    let at = row_filled m starts indices values r.row p inside in
    let size : r.count ≡ get_or starts (r.row + 1) 0 - get_or starts r.row 0 = ap (λ r. r.count) (by.counts place none low) ∙ sym at.count in
    let begins = filled_starts axis.Row m starts indices values r.row p inside in
    let end : get_or starts (r.row + 1) 0 ≡ get_or starts r.row 0 + r.count = omega (arith, size, at.order) in record {
      inside = inside;
      there = at.there;
      count = end;
      within = omega (arith, end, at.within);
      leaves = ap (stretch indices values (get_or starts r.row 0)) size ∙ at.leaves;
      rises = λ i j from up to.
          filled_rises axis.Row m starts indices values r.row row_side is p (omega (arith, at.there)) i j (omega (arith, from, begins.0)) up (omega (arith, to, end, begins.1));
    }

pub rows_lie : (m : Matrix) (starts indices values : List ℕ) (rows : List RowCount) → IsMatrix m → IsFilled axis.Row m starts indices values → AreByCount m rows
    → All (LiesIn starts (length indices)) rows
rows_lie m starts indices values rows is p by place d low =
    subst (LiesIn starts (length indices)) (get_or_default rows place (record { row = 0; count = 0 }) d low)
    (let at = row_placed m starts indices values rows place is p by low in (omega (arith, at.there), at.within))

-- ---- what a build makes

-- the arrays that a build makes of a part's rows: `from`, `columns` and `held` have them row after row
pub record AreMade (m : Matrix) (rows : List RowCount) (from columns held inverse starts indices values : List ℕ) : Type 0 where
  pub matrix : IsMatrix m
  pub few : length m.entries < 2 ^ 32
  pub filled : IsFilled axis.Row m from columns held
  pub by_count : AreByCount m rows
  pub undo : IsInverse (numbers rows) inverse
  pub deep : (place : ℕ) → place < length rows → (row_at rows place).count ≤ length starts
  pub dealt_indices : AreDealt rows columns from (length starts) starts indices
  pub dealt_values : AreDealt rows held from (length starts) starts values
  pub alike : length values ≡ length indices

size_at : (rows : List RowCount) (place : ℕ) → place < length rows → get_or (sizes rows) place 0 ≡ (row_at rows place).count
size_at rows place low = get_or-map (λ (r : RowCount). r.count) rows place (record { row = 0; count = 0 }) 0 low

-- what is dealt out is small where all that is given is
dealt_index : (m : Matrix) (rows : List RowCount) (from columns held inverse starts indices values : List ℕ) → AreMade m rows from columns held inverse starts indices values
    → (place d : ℕ) → place < length rows → d < (row_at rows place).count → jagged_index starts indices place d ≡ get_or columns (get_or from (row_at rows place).row 0 + d) 0
dealt_index m rows from columns held inverse starts indices values a place d low there = a.dealt_indices.same place d low (omega (arith, there, a.deep place low)) there

pub is_jagged : (m : Matrix) (rows : List RowCount) (from columns held inverse starts indices values : List ℕ) → AreMade m rows from columns held inverse starts indices values
    → IsJagged (numbers rows) inverse (sizes rows) starts indices values
is_jagged m rows from columns held inverse starts indices values a =
    let long : length (numbers rows) ≡ length rows = length-map rows (λ r. r.row) in
    let at = λ (place : ℕ) (low : place < length (numbers rows)). row_placed m from columns held rows place a.matrix a.filled a.by_count (omega (arith, long, low)) in
    let size = λ (place : ℕ) (low : place < length (numbers rows)). size_at rows place (omega (arith, long, low)) in record {
      few = omega (arith, long, count_rows m rows a.by_count, a.filled.few, a.filled.long);
      undo = a.undo;
      counts_long = length-map rows (λ r. r.count) ∙ sym long;
      leaves = omega (arith, a.dealt_indices.few, dealt_most rows (length starts), counts_all m rows a.matrix a.by_count, a.few);
      values_long = a.alike;
      diagonals = λ place low. omega (arith, size place low, a.deep place (omega (arith, long, low)));
      within = λ place d low there.
          let low' : place < length rows = omega (arith, long, low) in
          let there' : d < (row_at rows place).count = omega (arith, there, size place low) in
          a.dealt_indices.within place d low' (omega (arith, there', a.deep place low')) there';
      small = λ place d low there.
          let low' : place < length rows = omega (arith, long, low) in
          let there' : d < (row_at rows place).count = omega (arith, there, size place low) in
          omega (arith, dealt_index m rows from columns held inverse starts indices values a place d low' there', a.filled.small (get_or from (row_at rows place).row 0 + d));
      rises = λ place low i j first up last.
          let low' : place < length rows = omega (arith, long, low) in
          let r = row_at rows place in
          let last' : j < r.count = omega (arith, last, size place low) in
          let less : get_or columns (get_or from r.row 0 + i) 0 < get_or columns (get_or from r.row 0 + j) 0 = (at place low).rises (get_or from r.row 0 + i) (get_or from r.row 0 + j) (omega arith) (omega (arith, up)) (omega (arith, last')) in
          omega (arith, less, dealt_index m rows from columns held inverse starts indices values a place i low' (omega (arith, up, last')), dealt_index m rows from columns held inverse starts indices values a place j low' last');
    }

-- the leaves below a place are those of its row
place_leaves : (m : Matrix) (rows : List RowCount) (from columns held inverse starts indices values : List ℕ) → AreMade m rows from columns held inverse starts indices values
    → (place : ℕ) → place < length rows
    → map (λ c. (c.0, get_or values c.1 0)) (made (jagged_index starts indices place) (jagged_leaf starts place) 0 (get_or (sizes rows) place 0)) ≡ row_leaves m (row_at rows place).row
place_leaves m rows from columns held inverse starts indices values a place low =
    let r : RowCount = row_at rows place in
    let at = row_placed m from columns held rows place a.matrix a.filled a.by_count low in
    let leaf : ℕ → ℕ × ℕ = λ k. (get_or columns k 0, get_or held k 0) in
    let here : ℕ → ℕ × ℕ = λ d. (jagged_index starts indices place d, get_or values (jagged_leaf starts place d) 0) in
    map-map (λ c. (c.0, get_or values c.1 0)) (λ d. (jagged_index starts indices place d, jagged_leaf starts place d)) (range_with_len 0 (get_or (sizes rows) place 0))
    ∙ ap (λ n. map here (range_with_len 0 n)) (size_at rows place low)
    ∙ range_same here (λ d. leaf (get_or from r.row 0 + d)) 0 r.count
    (λ d first last.
    let there : d < r.count = omega arith in
    ap (λ i. (i, get_or values (jagged_leaf starts place d) 0)) (dealt_index m rows from columns held inverse starts indices values a place d low there)
    ∙ ap (λ v. (get_or columns (get_or from r.row 0 + d) 0, v)) (a.dealt_values.same place d low (omega (arith, there, a.deep place low)) there))
    ∙ sym (map-shifted leaf (get_or from r.row 0) 0 r.count)
    ∙ ap (λ b. map leaf (range_with_len b r.count)) (omega arith)
    ∙ at.leaves

pub jagged_describes : (m : Matrix) (rows : List RowCount) (from columns held inverse starts indices values : List ℕ) → AreMade m rows from columns held inverse starts indices values
    → (globals order : List ℕ) → Describes (jagged_tree (numbers rows) (sizes rows) starts indices values) shape.Jagged globals order m
jagged_describes m rows from columns held inverse starts indices values a globals order =
    let below : ℕ → List (ℕ × ℕ) = λ k. map {B = ℕ × ℕ} (λ c. (c.0, get_or values c.1 0)) (made (jagged_index starts indices k) (jagged_leaf starts k) 0 (get_or (sizes rows) k 0)) in
    let line : ℕ → ℕ × List (ℕ × ℕ) = λ l. (l, row_leaves m l) in
    let long : length (numbers rows) ≡ length rows = length-map rows (λ r. r.row) in record {
      levels = refl;
      content = ap Two
          (map-map (λ c. (c.0, below c.1)) (λ k. (get_or (numbers rows) k 0, k)) (range_with_len 0 (length (numbers rows)))
          ∙ range_same (λ k. (get_or (numbers rows) k 0, below k)) (λ k. line (get_or (numbers rows) k 0)) 0 (length (numbers rows))
          (λ k first last.
          let low : k < length rows = omega (arith, long) in
          ap (λ ls. (get_or (numbers rows) k 0, ls))
          (place_leaves m rows from columns held inverse starts indices values a k low
          ∙ ap (row_leaves m) (sym (get_or-map (λ (r : RowCount). r.row) rows k (record { row = 0; count = 0 }) 0 low))))
          ∙ sym (by_place line (0, []) (numbers rows))
          ∙ ap (map line) a.by_count.order);
    }

-- ---- what the calls read

-- below a place
pub record IsJaggedLine (order counts starts indices values : List ℕ) (level parent : ℕ) : Type 0 where
  pub there : parent < length order
  pub children : jagged_children order counts starts indices level parent ≡ made (jagged_index starts indices parent) (jagged_leaf starts parent) 0 (get_or counts parent 0)
  pub count : length (jagged_children order counts starts indices level parent) ≡ get_or counts parent 0
  pub weight : weight_at (jagged_tree order counts starts indices values) level parent ≡ bits (get_or counts parent 0)

pub line_of_place : (order counts starts indices values : List ℕ) (level parent : ℕ) → 0 < level → IsParent (jagged_tree order counts starts indices values) level parent
    → IsJaggedLine order counts starts indices values level parent
line_of_place order counts starts indices values zero parent later is = absurd (omega arith)
line_of_place order counts starts indices values (suc zero) parent later is =
    let count : length (made (jagged_index starts indices parent) (jagged_leaf starts parent) 0 (get_or counts parent 0)) ≡ get_or counts parent 0 = length-made (jagged_index starts indices parent) (jagged_leaf starts parent) 0 (get_or counts parent 0) in record {
      there = is.1;
      children = refl;
      count = count;
      weight = ap bits count;
    }
line_of_place order counts starts indices values (suc (suc level)) parent later is = absurd (omega (arith, is.0))

pub entry_of_place : (order counts starts indices values : List ℕ) (level parent d : ℕ) → IsJaggedLine order counts starts indices values level parent → d < get_or counts parent 0
    → slice_get (jagged_children order counts starts indices level parent) d ≡ Some (jagged_index starts indices parent d, jagged_leaf starts parent d)
entry_of_place order counts starts indices values level parent d line low =
    ap (λ cs. slice_get cs d) line.children ∙ made_at (jagged_index starts indices parent) (jagged_leaf starts parent) 0 (get_or counts parent 0) d low
    ∙ ap (λ k. Some (jagged_index starts indices parent k, jagged_leaf starts parent k)) (omega arith)

-- searching among children is searching among their places
found_child : (f g : ℕ → ℕ) (a n index : ℕ) → child_at (made f g a n) index ≡ option_map g (child_at (placed f a n) index)
found_child f g a zero index = refl
found_child f g a (suc n) index = elim (f a == index) as (λ b. cond b (Some (g a)) (child_at (made f g (a + 1) n) index) ≡ option_map g (cond b (Some a) (child_at (placed f (a + 1) n) index))) [
  | true ↦ refl
  | false ↦ found_child f g (a + 1) n index
]

pub found_of_place : (order counts starts indices values : List ℕ) (level parent index : ℕ) → IsJaggedLine order counts starts indices values level parent
    → child_at (jagged_children order counts starts indices level parent) index ≡ option_map (jagged_leaf starts parent) (child_at (placed (jagged_index starts indices parent) 0 (get_or counts parent 0)) index)
found_of_place order counts starts indices values level parent index line =
    ap (λ cs. child_at cs index) line.children ∙ found_child (jagged_index starts indices parent) (jagged_leaf starts parent) 0 (get_or counts parent 0) index

-- ---- level 0

pub root_count : (order counts starts indices : List ℕ) (level parent : ℕ) → level ≤ 0 → length (jagged_children order counts starts indices level parent) ≡ length order
root_count order counts starts indices zero parent first = length-placed (λ k. get_or order k 0) 0 (length order)
root_count order counts starts indices (suc level) parent first = absurd (omega arith)

pub root_entry : (order counts starts indices : List ℕ) (level parent place row : ℕ) → level ≤ 0 → place < length order → slice_get order place ≡ Some row
    → slice_get (jagged_children order counts starts indices level parent) place ≡ Some (row, place)
root_entry order counts starts indices zero parent place row first low read =
    made_at (λ k. get_or order k 0) (λ k. k) 0 (length order) place low
    ∙ ap (λ k. Some (get_or order k 0, k)) (omega arith)
    ∙ ap (λ r. Some (r, place)) (got order place 0 row low read)
root_entry order counts starts indices (suc level) parent place row first low read = absurd (omega arith)

pub root_found : (order inverse counts starts indices : List ℕ) (level parent row place : ℕ) → IsInverse order inverse → level ≤ 0 → row < length inverse → slice_get inverse row ≡ Some place
    → Some place ≡ child_at (jagged_children order counts starts indices level parent) row
root_found order inverse counts starts indices zero parent row place undo first low read =
    let at : get_or inverse row 0 ≡ place = got inverse row 0 place low read in
    let within : get_or inverse row 0 < length order = undo.places row (omega (arith, low, undo.long)) in
    let here : get_or order place 0 ≡ row = ap (λ k. get_or order k 0) (sym at) ∙ undo.row_at_place row (omega (arith, low, undo.long)) in
    sym (subst (λ r. child_at (placed (λ k. get_or order k 0) 0 (length order)) r ≡ Some place) here
    (made_found (λ k. get_or order k 0) (λ k. k) 0 (length order) place (omega arith) (omega (arith, at, within)) (λ j a b alike. rows_apart order inverse undo j place b (omega (arith, at, within)) alike)))
root_found order inverse counts starts indices (suc level) parent row place undo first low read = absurd (omega arith)

pub root_none : (order inverse counts starts indices : List ℕ) (level parent row : ℕ) → IsInverse order inverse → level ≤ 0 → length inverse ≤ row
    → None ≡ child_at (jagged_children order counts starts indices level parent) row
root_none order inverse counts starts indices zero parent row undo first past =
    sym (made_none (λ k. get_or order k 0) (λ k. k) 0 (length order) row (λ k low high same. let below = undo.rows k (omega arith) in omega (arith, undo.long, below, same, past)))
root_none order inverse counts starts indices (suc level) parent row undo first past = absurd (omega arith)

pub root_weight : (order counts starts indices values : List ℕ) (level parent : ℕ) → level ≤ 0 → weight_at (jagged_tree order counts starts indices values) level parent ≡ 1
root_weight order counts starts indices values zero parent first = refl
root_weight order counts starts indices values (suc level) parent first = absurd (omega arith)
