-- The arrays of a packed store are a tree.
use Rattle.std.proofs.Common.{ℕ, zero, suc, ◌+◌, ◌-◌, ◌^◌, ◌<◌, ◌≤◌, List, length, get_or, refl, arith}
use Rattle.std.specs.List.{All, AllPairs, count_by}
use Rattle.std.specs.Prelude.{◌==◌}
use Rattle.format_model.specs.Levels.{levels_of}
use Rattle.format_model.specs.Made.{made_all, made_once, made_rises}
use Rattle.format_model.specs.Trees.{IsTree, IsParent}
use Rattle.format_model.specs.declared.limits.TheConstants.{MOST_INDEX}
use Rattle.stores_packed.specs.declared.form.Form.{Form}
use Rattle.stores_packed.specs.declared.form.Form.TheVariants as form
use Rattle.stores_packed.specs.Packed.{IsPacked, RisesBetween, packed_children, packed_nodes, packed_tree, placed, outer_index, shape_of, width_of}

-- no format of these has a third level
pub two_levels : (f : Form) → length (levels_of (shape_of f)) ≤ 2
two_levels form.PackedOne = omega arith
two_levels (form.DensePacked outer lines) = omega arith
two_levels (form.PackedPacked outer) = omega arith

some_level : (f : Form) → 0 < length (levels_of (shape_of f))
some_level form.PackedOne = omega arith
some_level (form.DensePacked outer lines) = omega arith
some_level (form.PackedPacked outer) = omega arith

-- children with rising indices below 2^32, whose numbers are below a bound
pub record AreChildren (bound : ℕ) (children : List (ℕ × ℕ)) : Type 0 where
  pub within : All (λ c. c.1 < bound) children
  pub once : (index : ℕ) → count_by (λ c. c.0 == index) children ≤ 1
  pub rises : AllPairs (λ a b. a.0 < b.0) children
  pub small : All (λ c. c.0 ≤ MOST_INDEX) children

-- the places from one to another that lie below the bound have such children
pub placed_are_children : (index : ℕ → ℕ) (from count bound : ℕ) → from + count ≤ bound → RisesBetween index from (from + count)
    → ((k : ℕ) → from ≤ k → k < from + count → index k < 2 ^ 32) → AreChildren bound (placed index from count)
placed_are_children index from count bound below rises small = record {
  within = made_all (λ c. c.1 < bound) index (λ k. k) from count (λ k low high. omega arith);
  once = λ i. made_once index (λ k. k) from count i (λ a b low up high same. let less : index a < index b = rises a b low up high in omega arith);
  rises = made_rises index (λ k. k) from count rises;
  small = made_all (λ c. c.0 ≤ MOST_INDEX) index (λ k. k) from count (λ k low high. let few : index k < 2 ^ 32 = small k low high in omega arith);
}

children_of : (f : Form) (outers starts indices values : List ℕ) → IsPacked f outers starts indices values
    → (level parent : ℕ) → IsParent (packed_tree f outers starts indices values) level parent
    → AreChildren (packed_nodes f outers indices (suc level)) (packed_children f outers starts indices level parent)
children_of f outers starts indices values p zero parent is =
    placed_are_children (outer_index f outers) 0 (width_of f outers) (width_of f outers) (omega arith) (λ i j low up high. p.outer_rises i j low up (omega arith)) (λ k low high. p.outer_small k (omega arith))
children_of f outers starts indices values p (suc zero) parent is =
    let a : ℕ = get_or starts parent 0 in
    let b : ℕ = get_or starts (parent + 1) 0 in
    let ordered : a ≤ b = p.order parent is.1 in
    let ends : b ≤ length indices = p.within parent is.1 in
    placed_are_children (λ k. get_or indices k 0) a (b - a) (length indices) (omega arith) (λ i j low up high. p.rises parent is.1 i j low up (omega arith)) (λ k low high. p.small k)
children_of f outers starts indices values p (suc (suc level)) parent is = absurd (omega (arith, two_levels f, is.0))

pub packed_is_tree : (f : Form) (outers starts indices values : List ℕ) → IsPacked f outers starts indices values → IsTree (packed_tree f outers starts indices values)
packed_is_tree f outers starts indices values p = record {
  some = some_level f;
  few = two_levels f;
  root = refl;
  within = λ level parent is. (children_of f outers starts indices values p level parent is).within;
  once = λ level parent is. (children_of f outers starts indices values p level parent is).once;
  rises = λ level parent is ordered. (children_of f outers starts indices values p level parent is).rises;
  small = λ level parent is. (children_of f outers starts indices values p level parent is).small;
}
