-- What the calls of a permuted store read, as the children of its tree.
use Rattle.std.proofs.Common.{◌≡◌, ℕ, zero, suc, ◌+◌, ◌<◌, ◌≤◌, List, [], length, map, get_or, Some, None, refl, sym, ap, ◌∙◌, subst, arith}
use Rattle.std.specs.List.{range_with_len, slice_get}
use Rattle.std.proofs.lemmas.List.{get_or-map, length-map}
use Rattle.std.proofs.lemmas.List.Folds.{map_fixed}
use Rattle.std.proofs.lemmas.List.FromFn.{get_or-map-range_with_len, length-map-range_with_len}
use Rattle.std.proofs.lemmas.Option.{slice_get-get_or}
use Rattle.std.proofs.lemmas.Simd.{map-map}
use Rattle.bern_base.specs.declared.axes.Axis.TheVariants as axis
use Rattle.bern_base.specs.declared.matrix.Matrix.{Matrix}
use Rattle.bern_base.specs.declared.shape.Shape.TheVariants as shape
use Rattle.format_model.specs.Content.{Two}
use Rattle.format_model.specs.Levels.{Level, level_at, levels_of}
use Rattle.format_model.specs.Made.{length-made, made_at, made_found, made_none}
use Rattle.format_model.specs.Trees.{Describes, IsTree, Tree, child_at, content, content_by, leaves_below}
use Rattle.stores_packed.proofs.RangeLemmas.{range_same}
use Rattle.stores_shaped.proofs.ArrangeLemmas.{by_place}
use Rattle.stores_shaped.specs.Orders.{IsInverse}
use Rattle.stores_shaped.specs.Permuted.{HasDenseRows, HoldsInOrder, child_of, permuted_children, permuted_levels, permuted_tree, row_leaves}
use Rattle.stores_shaped.specs.PermutedLaws.{length_rows, rows_apart}

-- what is read at a place
pub got : {X : Type 0} (xs : List X) (k : ℕ) (d x : X) → k < length xs → slice_get xs k ≡ Some x → get_or xs k d ≡ x
got xs k d x within is = let at : Some (get_or xs k d) ≡ Some x = sym (slice_get-get_or xs k d within) ∙ is in cc

pub root_within : (t : Tree) (order : List ℕ) (level parent k : ℕ) → level ≤ 0 → k < length (permuted_children t order level parent) → k < length order
root_within t order zero parent k first within = omega (arith, length-made (λ k. get_or order k 0) (child_of t parent) 0 (length order))
root_within t order (suc level) parent k first within = absurd (omega arith)

-- the child at a place of level 0
pub root_at : (t : Tree) (order : List ℕ) (level parent k row : ℕ) (c : ℕ × ℕ) → HasDenseRows t (length order) → level ≤ 0 → parent < t.nodes level → k < length order
    → slice_get (t.children level parent) k ≡ Some c → slice_get order k ≡ Some row → slice_get (permuted_children t order level parent) k ≡ Some (row, c.1)
root_at t order zero parent k row c dense first is within child place =
    let long : length (t.children 0 parent) ≡ length order = length_rows t (length order) parent dense is in
    let whole : 0 + k ≡ k = omega arith in
    made_at (λ k. get_or order k 0) (child_of t parent) 0 (length order) k within
    ∙ ap (λ k. Some (get_or order k 0, child_of t parent k)) whole
    ∙ ap (λ r. Some (r, child_of t parent k)) (got order k 0 row within place)
    ∙ ap (λ (x : ℕ × ℕ). Some (row, x.1)) (got (t.children 0 parent) k (0, 0) c (omega arith) child)
root_at t order (suc level) parent k row c dense first is within child place = absurd (omega arith)

-- a row is found at the place that the inverse has for it
pub root_found : (t : Tree) (order inverse : List ℕ) (level parent row place : ℕ) (c : ℕ × ℕ) → HasDenseRows t (length order) → IsInverse order inverse → level ≤ 0 → parent < t.nodes level
    → row < length inverse → slice_get inverse row ≡ Some place → slice_get (t.children level parent) place ≡ Some c → Some c.1 ≡ child_at (permuted_children t order level parent) row
root_found t order inverse zero parent row place c dense undo first is within read child =
    let long : length (t.children 0 parent) ≡ length order = length_rows t (length order) parent dense is in
    let same : length inverse ≡ length order = undo.long in
    let at : get_or inverse row 0 ≡ place = got inverse row 0 place within read in
    let low : get_or inverse row 0 < length order = undo.places row (omega arith) in
    let here : get_or order place 0 ≡ row = ap (λ k. get_or order k 0) (sym at) ∙ undo.row_at_place row (omega arith) in
    let found : child_at (permuted_children t order 0 parent) row ≡ Some (child_of t parent place) =
    subst (λ r. child_at (permuted_children t order 0 parent) r ≡ Some (child_of t parent place)) here
    (made_found (λ k. get_or order k 0) (child_of t parent) 0 (length order) place (omega arith) (omega arith) (λ j a b alike. rows_apart order inverse undo j place b (omega arith) alike)) in
    sym (found ∙ ap (λ (x : ℕ × ℕ). Some x.1) (got (t.children 0 parent) place (0, 0) c (omega arith) child))
root_found t order inverse (suc level) parent row place c dense undo first is within read child = absurd (omega arith)

pub root_none : (t : Tree) (order inverse : List ℕ) (level parent row : ℕ) → IsInverse order inverse → level ≤ 0 → length inverse ≤ row → None ≡ child_at (permuted_children t order level parent) row
root_none t order inverse zero parent row undo first past =
    sym (made_none (λ k. get_or order k 0) (child_of t parent) 0 (length order) row (λ k low high same. let below : get_or order k 0 < length order = undo.rows k (omega arith) in omega (arith, undo.long, below, same)))
root_none t order inverse (suc level) parent row undo first past = absurd (omega arith)

-- the place that the inverse has is one of the store's
pub place_within : (t : Tree) (order inverse : List ℕ) (level parent row place : ℕ) → HasDenseRows t (length order) → IsInverse order inverse → level ≤ 0 → parent < t.nodes level
    → row < length inverse → slice_get inverse row ≡ Some place → place < length (t.children level parent)
place_within t order inverse zero parent row place dense undo first is within read =
    let low : get_or inverse row 0 < length order = undo.places row (omega (arith, undo.long)) in
    omega (arith, length_rows t (length order) parent dense is, got inverse row 0 place within read, low)
place_within t order inverse (suc level) parent row place dense undo first is within read = absurd (omega arith)

-- ---- what it describes

-- a node of level 0 with the leaves below it, and a row with its own
abbrev line_of : Tree → ℕ × ℕ → ℕ × List (ℕ × ℕ)
line_of t c = (c.0, leaves_below t 1 c.1)

abbrev row_line : Matrix → ℕ → ℕ × List (ℕ × ℕ)
row_line m l = (l, row_leaves m l)

-- the leaves of each place are those of the row within
within_leaves : (t : Tree) (globals whole : List ℕ) (m : Matrix) → Describes t (shape.DensePacked axis.Row) globals whole m →
    map (line_of t) (t.children 0 0) ≡ map (row_line m) (range_with_len 0 m.rows)
within_leaves t globals whole m d =
    let two : content t ≡ Two (map (line_of t) (t.children 0 0)) = ap (λ (ls : List Level). content_by (length ls) t) d.levels in
    let same : Two (map (line_of t) (t.children 0 0)) ≡ Two (map (row_line m) (range_with_len 0 m.rows)) = sym two ∙ d.content in cc

pub dense_rows : (t : Tree) (globals whole : List ℕ) (m : Matrix) → IsTree t → Describes t (shape.DensePacked axis.Row) globals whole m → HasDenseRows t m.rows
dense_rows t globals whole m is d = record {
  level = ap (λ ls. level_at ls 0) d.levels;
  indices = λ parent low.
      let first : parent ≡ 0 = omega (arith, is.root) in
      subst (λ p. map (λ c. c.0) (t.children 0 p) ≡ range_with_len 0 m.rows) (sym first)
      (sym (map-map (λ (c : ℕ × List (ℕ × ℕ)). c.0) (line_of t) (t.children 0 0))
      ∙ ap (map (λ (c : ℕ × List (ℕ × ℕ)). c.0)) (within_leaves t globals whole m d)
      ∙ map-map (λ (c : ℕ × List (ℕ × ℕ)). c.0) (row_line m) (range_with_len 0 m.rows)
      ∙ map_fixed (λ l. l) (range_with_len 0 m.rows) (λ k x within. refl));
}

-- the leaves at a place
place_leaves : (t : Tree) (globals whole : List ℕ) (m : Matrix) (place : ℕ) → Describes t (shape.DensePacked axis.Row) globals whole m → place < m.rows →
    leaves_below t 1 (child_of t 0 place) ≡ row_leaves m place
place_leaves t globals whole m place d low =
    let all = within_leaves t globals whole m d in
    let long : length (t.children 0 0) ≡ m.rows = sym (length-map (t.children 0 0) (line_of t)) ∙ ap length all ∙ length-map-range_with_len (row_line m) 0 m.rows in
    ap (λ (c : ℕ × List (ℕ × ℕ)). c.1)
    (sym (get_or-map (line_of t) (t.children 0 0) place (0, 0) (0, []) (omega (arith, long)))
    ∙ ap (λ cs. get_or cs place (0, [])) all
    ∙ get_or-map-range_with_len (row_line m) 0 m.rows place place (0, []) low (omega arith))

pub permuted_describes : (t : Tree) (order globals whole : List ℕ) (m arranged : Matrix) (file : List ℕ) → HoldsInOrder t order globals whole m arranged → Describes (permuted_tree t order) (shape.Permute file) globals whole m
permuted_describes t order globals whole m arranged file h =
    let tree : Tree = permuted_tree t order in
    let leaves : ℕ → List (ℕ × ℕ) = λ k. leaves_below t 1 (child_of t 0 k) in
    let levels : permuted_levels t.levels ≡ levels_of (shape.Permute file) = ap permuted_levels h.described.levels in record {
      levels = levels;
      content = ap (λ (ls : List Level). content_by (length ls) tree) levels ∙ ap Two
          (map-map (line_of t) (λ k. (get_or order k 0, child_of t 0 k)) (range_with_len 0 (length order))
          ∙ range_same (λ k. (get_or order k 0, leaves k)) (λ k. (get_or order k 0, row_leaves m (get_or order k 0))) 0 (length order)
          (λ k low high. ap (λ ls. (get_or order k 0, ls)) (place_leaves t globals whole arranged k h.described (omega (arith, h.rows.rows)) ∙ h.rows.leaves k (omega arith)))
          ∙ sym (by_place (row_line m) (0, []) order)
          ∙ ap (map (row_line m)) h.order_is);
    }
