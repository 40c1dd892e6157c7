-- The arrays of a diagonal store are a tree.
use Rattle.std.proofs.Common.{ℕ, zero, suc, ◌+◌, ◌-◌, ◌<◌, ◌≤◌, List, length, get_or, ℤ, pos, negsuc, ◌+ℤ◌, refl, arith}
use Rattle.std.specs.Prelude.{◌<ℤ◌, ◌≤ℤ◌}
use Rattle.std.proofs.lemmas.Int.{ints}
use Rattle.format_model.specs.Trees.{IsTree, IsParent}
use Rattle.stores_packed.specs.Packed.{RisesBetween}
use Rattle.stores_packed.specs.PackedLaws.{AreChildren, placed_are_children}
use Rattle.stores_shaped.specs.Diagonals.{IsDiagonal, diagonal_children, diagonal_index, diagonal_nodes, diagonal_tree, index_of_int, offset_at}

pub index_rises : (z w : ℤ) → pos 0 ≤ℤ z → z <ℤ w → index_of_int z < index_of_int w
index_rises (pos a) (pos b) low less = omega (arith, ints, less)
index_rises (pos a) (negsuc b) low less = absurd (omega (arith, ints, less))
index_rises (negsuc a) w low less = absurd (omega (arith, ints, low))

pub index_below : (z : ℤ) (n : ℕ) → pos 0 ≤ℤ z → z <ℤ pos n → index_of_int z < n
index_below (pos a) n low less = omega (arith, ints, less)
index_below (negsuc a) n low less = absurd (omega (arith, ints, low))

-- columns of a row rise from diagonal to diagonal
pub columns_rise : (cols : ℕ) (offsets : List ℤ) (globals firsts starts values : List ℕ) → IsDiagonal cols offsets globals firsts starts values
    → (row : ℕ) → row < length globals → RisesBetween (diagonal_index offsets globals firsts starts row) (get_or starts row 0) (get_or starts (row + 1) 0)
columns_rise cols offsets globals firsts starts values d row below i j from up to =
    let w = d.windows row below in
    let g : ℕ = get_or globals row 0 in
    let first : ℕ = get_or firsts row 0 in
    let a : ℕ = first + (i - get_or starts row 0) in
    let b : ℕ = first + (j - get_or starts row 0) in
    let less : offset_at offsets a <ℤ offset_at offsets b = d.rise a b (pos 0) (omega arith) (omega (arith, w.within)) in
    index_rises (pos g +ℤ offset_at offsets a) (pos g +ℤ offset_at offsets b) (w.low a (omega arith) (omega arith)) (omega (arith, ints, less))

-- and lie in the matrix
pub columns_inside : (cols : ℕ) (offsets : List ℤ) (globals firsts starts values : List ℕ) → IsDiagonal cols offsets globals firsts starts values
    → (row place : ℕ) → row < length globals → get_or starts row 0 ≤ place → place < get_or starts (row + 1) 0 → diagonal_index offsets globals firsts starts row place < cols
columns_inside cols offsets globals firsts starts values d row place below from to =
    let w = d.windows row below in
    let k : ℕ = get_or firsts row 0 + (place - get_or starts row 0) in
    index_below (pos (get_or globals row 0) +ℤ offset_at offsets k) cols (w.low k (omega arith) (omega arith)) (w.high k (omega arith) (omega arith))

children_of : (cols : ℕ) (offsets : List ℤ) (globals firsts starts values : List ℕ) → IsDiagonal cols offsets globals firsts starts values
    → (level parent : ℕ) → IsParent (diagonal_tree offsets globals firsts starts values) level parent
    → AreChildren (diagonal_nodes (length globals) (length values) (suc level)) (diagonal_children offsets globals firsts starts level parent)
children_of cols offsets globals firsts starts values d zero parent is =
    placed_are_children (λ k. k) 0 (length globals) (length globals) (omega arith) (λ i j low up high. up) (λ k low high. omega (arith, d.few))
children_of cols offsets globals firsts starts values d (suc zero) parent is =
    let a : ℕ = get_or starts parent 0 in
    let b : ℕ = get_or starts (parent + 1) 0 in
    let ordered : a ≤ b = d.order parent is.1 in
    let ends : b ≤ length values = d.within parent is.1 in
    placed_are_children (diagonal_index offsets globals firsts starts parent) a (b - a) (length values) (omega arith)
    (λ i j low up high. columns_rise cols offsets globals firsts starts values d parent is.1 i j low up (omega arith))
    (λ k low high. let in_cols = columns_inside cols offsets globals firsts starts values d parent k is.1 low (omega arith) in omega (arith, in_cols, d.narrow))
children_of cols offsets globals firsts starts values d (suc (suc level)) parent is = absurd (omega (arith, is.0))

pub diagonal_is_tree : (cols : ℕ) (offsets : List ℤ) (globals firsts starts values : List ℕ) → IsDiagonal cols offsets globals firsts starts values → IsTree (diagonal_tree offsets globals firsts starts values)
diagonal_is_tree cols offsets globals firsts starts values d = record {
  some = omega arith;
  few = omega arith;
  root = refl;
  within = λ level parent is. (children_of cols offsets globals firsts starts values d level parent is).within;
  once = λ level parent is. (children_of cols offsets globals firsts starts values d level parent is).once;
  rises = λ level parent is ordered. (children_of cols offsets globals firsts starts values d level parent is).rises;
  small = λ level parent is. (children_of cols offsets globals firsts starts values d level parent is).small;
}
