-- The tree of a permuted store is a tree.
use Rattle.std.proofs.Common.{◌≡◌, ℕ, zero, suc, ◌<◌, ◌≤◌, true, List, [], ◌∷◌, length, get_or, refl, sym, ap, ◌∙◌, subst, arith}
use Rattle.std.specs.List.{All, AllPairs, count_by, range_with_len}
use Rattle.std.specs.Prelude.{◌==◌}
use Rattle.std.proofs.lemmas.Bool.{false≢true}
use Rattle.std.proofs.lemmas.List.{get_or-map, length-map}
use Rattle.std.proofs.lemmas.List.FromFn.{get_or-range_with_len, length-range_with_len}
use Rattle.format_model.specs.Levels.{Level, level_at}
use Rattle.format_model.specs.Made.{made_all, made_once}
use Rattle.format_model.specs.Trees.{IsParent, IsTree, Tree, depth_of, ordered_at}
use Rattle.format_model.specs.declared.limits.TheConstants.{MOST_INDEX}
use Rattle.stores_shaped.specs.Orders.{IsInverse}
use Rattle.stores_shaped.specs.Permuted.{HasDenseRows, child_of, permuted_children, permuted_levels, permuted_tree}

pub depth_same : (levels : List Level) → 0 < length levels → length (permuted_levels levels) ≡ length levels
depth_same [] some = absurd (omega arith)
depth_same (outer ∷ levels) some = omega arith

pub level_same : (levels : List Level) (l : ℕ) → level_at (permuted_levels levels) (suc l) ≡ level_at levels (suc l)
level_same [] l = refl
level_same (outer ∷ levels) l = refl

-- the child of a dense row
pub length_rows : (t : Tree) (rows parent : ℕ) → HasDenseRows t rows → parent < t.nodes 0 → length (t.children 0 parent) ≡ rows
length_rows t rows parent dense is =
    sym (length-map (t.children 0 parent) (λ c. c.0)) ∙ ap length (dense.indices parent is) ∙ length-range_with_len 0 rows

pub row_at : (t : Tree) (rows parent place : ℕ) → HasDenseRows t rows → parent < t.nodes 0 → place < rows → (get_or (t.children 0 parent) place (0, 0)).0 ≡ place
row_at t rows parent place dense is low =
    let long : length (t.children 0 parent) ≡ rows = length_rows t rows parent dense is in
    let at : get_or (range_with_len 0 rows) place 0 ≡ place = omega (arith, get_or-range_with_len 0 rows place 0 low) in
    sym (get_or-map (λ c. c.0) (t.children 0 parent) place (0, 0) 0 (omega arith)) ∙ ap (λ xs. get_or xs place 0) (dense.indices parent is) ∙ at

parent_within : (t : Tree) (order : List ℕ) (level parent : ℕ) → IsTree t → IsParent (permuted_tree t order) level parent → IsParent t level parent
parent_within t order level parent is p =
    let some : 0 < depth_of t = is.some in
    let long : length (permuted_levels t.levels) ≡ depth_of t = depth_same t.levels some in
    let low : level < length (permuted_levels t.levels) = p.0 in (omega arith, p.1)

-- no row stands at two places
pub rows_apart : (order inverse : List ℕ) → IsInverse order inverse → (i j : ℕ) → i < j → j < length order → get_or order i 0 ≡ get_or order j 0 → ⊥
rows_apart order inverse undo i j up within same =
    let first : get_or inverse (get_or order i 0) 0 ≡ i = undo.place_of_row i (omega arith) in
    let second : get_or inverse (get_or order j 0) 0 ≡ j = undo.place_of_row j within in
    let alike : get_or inverse (get_or order i 0) 0 ≡ get_or inverse (get_or order j 0) 0 = ap (λ r. get_or inverse r 0) same in omega arith

child_within : (t : Tree) (rows parent place bound : ℕ) → HasDenseRows t rows → parent < t.nodes 0 → All (λ c. c.1 < bound) (t.children 0 parent) → place < rows → child_of t parent place < bound
child_within t rows parent place bound dense is all low = all place (0, 0) (subst (λ n. place < n) (sym (length_rows t rows parent dense is)) low)

row_small : (t : Tree) (rows parent row : ℕ) → HasDenseRows t rows → parent < t.nodes 0 → All (λ c. c.0 ≤ MOST_INDEX) (t.children 0 parent) → row < rows → row ≤ MOST_INDEX
row_small t rows parent row dense is all low =
    subst (λ r. r ≤ MOST_INDEX) (row_at t rows parent row dense is low) (all row (0, 0) (subst (λ n. row < n) (sym (length_rows t rows parent dense is)) low))

within_at : (t : Tree) (order inverse : List ℕ) → IsTree t → HasDenseRows t (length order) → IsInverse order inverse → (level parent : ℕ) → IsParent t level parent
    → All (λ c. c.1 < t.nodes (suc level)) (permuted_children t order level parent)
within_at t order inverse is dense undo zero parent p =
    made_all (λ c. c.1 < t.nodes 1) (λ k. get_or order k 0) (child_of t parent) 0 (length order)
    (λ k low high. child_within t (length order) parent k (t.nodes 1) dense p.1 (is.within 0 parent p) (omega arith))
within_at t order inverse is dense undo (suc level) parent p = is.within (suc level) parent p

once_at : (t : Tree) (order inverse : List ℕ) → IsTree t → HasDenseRows t (length order) → IsInverse order inverse → (level parent : ℕ) → IsParent t level parent
    → (index : ℕ) → count_by (λ c. c.0 == index) (permuted_children t order level parent) ≤ 1
once_at t order inverse is dense undo zero parent p index =
    made_once (λ k. get_or order k 0) (child_of t parent) 0 (length order) index (λ i j low up high. rows_apart order inverse undo i j up (omega arith))
once_at t order inverse is dense undo (suc level) parent p index = is.once (suc level) parent p index

rises_at : (t : Tree) (order : List ℕ) → IsTree t → (level parent : ℕ) → IsParent t level parent → ordered_at (permuted_tree t order) level ≡ true
    → AllPairs (λ a b. a.0 < b.0) (permuted_children t order level parent)
rises_at t order is zero parent p up = absurd (false≢true up)
rises_at t order is (suc level) parent p up = is.rises (suc level) parent p (ap (λ l. l.ordered) (sym (level_same t.levels level)) ∙ up)

small_at : (t : Tree) (order inverse : List ℕ) → IsTree t → HasDenseRows t (length order) → IsInverse order inverse → (level parent : ℕ) → IsParent t level parent
    → All (λ c. c.0 ≤ MOST_INDEX) (permuted_children t order level parent)
small_at t order inverse is dense undo zero parent p =
    made_all (λ c. c.0 ≤ MOST_INDEX) (λ k. get_or order k 0) (child_of t parent) 0 (length order)
    (λ k low high. row_small t (length order) parent (get_or order k 0) dense p.1 (is.small 0 parent p) (undo.rows k (omega arith)))
small_at t order inverse is dense undo (suc level) parent p = is.small (suc level) parent p

pub permuted_is_tree : (t : Tree) (order inverse : List ℕ) → IsTree t → HasDenseRows t (length order) → IsInverse order inverse → IsTree (permuted_tree t order)
permuted_is_tree t order inverse is dense undo = record {
  some = omega arith;
  few = let few : depth_of t ≤ 2 = is.few in let long = depth_same t.levels is.some in omega arith;
  root = is.root;
  within = λ level parent p. within_at t order inverse is dense undo level parent (parent_within t order level parent is p);
  once = λ level parent p. once_at t order inverse is dense undo level parent (parent_within t order level parent is p);
  rises = λ level parent p up. rises_at t order is level parent (parent_within t order level parent is p) up;
  small = λ level parent p. small_at t order inverse is dense undo level parent (parent_within t order level parent is p);
}
