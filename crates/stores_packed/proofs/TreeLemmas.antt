-- What the calls of a store read in its arrays, as the children of its tree.
use Rattle.std.proofs.Common.{◌≡◌, ℕ, zero, suc, ◌+◌, ◌-◌, ◌<◌, ◌≤◌, List, length, get_or, None, Some, ◌⊎◌, ⊎_elim, refl, sym, ap, ◌∙◌, subst, arith}
use Rattle.std.specs.List.{slice_get}
use Rattle.std.proofs.lemmas.List.{get_or_read}
use Rattle.bern_base.specs.declared.axes.Axis.{Axis}
use Rattle.format_model.specs.Levels.{bits}
use Rattle.format_model.specs.Made.{length-made, made_at, made_found, made_none}
use Rattle.format_model.specs.Trees.{IsLeaf, child_at, IsParent, weight_at}
use Rattle.stores_packed.specs.declared.form.Form.{Form}
use Rattle.stores_packed.specs.declared.form.Form.TheVariants as form
use Rattle.stores_packed.specs.Packed.{IsPacked, RisesBetween, outer_index, packed_children, packed_start, packed_tree, placed, root_weight, width_of}
use Rattle.stores_packed.specs.PackedLaws.{two_levels}

pub length-placed : (index : ℕ → ℕ) (from count : ℕ) → length (placed index from count) ≡ count
length-placed index from count = length-made index (λ k. k) from count

-- the child at a place of a line
pub placed_at : (index : ℕ → ℕ) (from count place : ℕ) → from ≤ place → place < from + count → slice_get (placed index from count) (place - from) ≡ Some (index place, place)
placed_at index from count place low high =
    let same : from + (place - from) ≡ place = omega arith in
    made_at index (λ k. k) from count (place - from) (omega arith) ∙ ap (λ k. Some (index k, k)) same

-- the line of a parent in one of the arrays of indices
pub record IsLineIn (index : ℕ → ℕ) (long : ℕ) (cs : List (ℕ × ℕ)) (from to : ℕ) : Type 0 where
  pub order : from ≤ to
  pub within : to ≤ long
  pub rises : RisesBetween index from to
  pub children : cs ≡ placed index from (to - from)
  pub count : length cs ≡ to - from

-- below the root
pub root_line : (f : Form) (outers starts indices values : List ℕ) (level parent : ℕ) → IsPacked f outers starts indices values
    → level ≤ 0 → IsLineIn (outer_index f outers) (width_of f outers) (packed_children f outers starts indices level parent) 0 (width_of f outers)
root_line f outers starts indices values zero parent p first =
    let same : width_of f outers ≡ width_of f outers - 0 = omega arith in record {
      order = omega arith;
      within = omega arith;
      rises = p.outer_rises;
      children = ap (λ n. placed (outer_index f outers) 0 n) same;
      count = length-placed (outer_index f outers) 0 (width_of f outers) ∙ same;
    }
root_line f outers starts indices values (suc level) parent p first = absurd (omega arith)

-- below a node of level 0
pub node_line : (f : Form) (outers starts indices values : List ℕ) (level parent : ℕ) → IsPacked f outers starts indices values
    → 0 < level → IsParent (packed_tree f outers starts indices values) level parent
    → IsLineIn (λ k. get_or indices k 0) (length indices) (packed_children f outers starts indices level parent) (get_or starts parent 0) (get_or starts (parent + 1) 0)
node_line f outers starts indices values zero parent p later is = absurd (omega arith)
node_line f outers starts indices values (suc zero) parent p later is = record {
  order = p.order parent is.1;
  within = p.within parent is.1;
  rises = p.rises parent is.1;
  children = refl;
  count = length-placed (λ k. get_or indices k 0) (get_or starts parent 0) (get_or starts (parent + 1) 0 - get_or starts parent 0);
}
node_line f outers starts indices values (suc (suc level)) parent p later is = absurd (omega (arith, two_levels f, is.0))

-- the place of a node of level 0 has a start, and the next one too
pub node_starts : (f : Form) (outers starts indices values : List ℕ) (level parent : ℕ) → IsPacked f outers starts indices values
    → 0 < level → IsParent (packed_tree f outers starts indices values) level parent → parent + 1 < length starts
node_starts form.PackedOne outers starts indices values level parent p later is = absurd (omega (arith, is.0))
node_starts (form.DensePacked outer lines) outers starts indices values (suc zero) parent p later is = omega (arith, p.starts_long, is.1)
node_starts (form.PackedPacked outer) outers starts indices values (suc zero) parent p later is = omega (arith, p.starts_long, is.1)
node_starts f outers starts indices values zero parent p later is = absurd (omega arith)
node_starts f outers starts indices values (suc (suc level)) parent p later is = absurd (omega (arith, two_levels f, is.0))

pub start_of : (starts : List ℕ) (level parent : ℕ) → 0 < level → packed_start starts level parent ≡ get_or starts parent 0
start_of starts zero parent later = absurd (omega arith)
start_of starts (suc level) parent later = refl

pub start_of_root : (starts : List ℕ) (level parent : ℕ) → level ≤ 0 → packed_start starts level parent ≡ 0
start_of_root starts zero parent first = refl
start_of_root starts (suc level) parent first = absurd (omega arith)

-- a leaf has a value
pub leaf_within : (f : Form) (outers starts indices values : List ℕ) (leaf : ℕ) → IsPacked f outers starts indices values
    → IsLeaf (packed_tree f outers starts indices values) leaf → leaf < length values
leaf_within form.PackedOne outers starts indices values leaf p is = omega (arith, p.values_long, is)
leaf_within (form.DensePacked outer lines) outers starts indices values leaf p is = omega (arith, p.values_long, is)
leaf_within (form.PackedPacked outer) outers starts indices values leaf p is = omega (arith, p.values_long, is)

-- a search below a node of level 0 may take as many steps as its count has binary digits
pub node_weight : (f : Form) (outers starts indices values : List ℕ) (level parent : ℕ) → 0 < level → IsParent (packed_tree f outers starts indices values) level parent
    → weight_at (packed_tree f outers starts indices values) level parent ≡ bits (length (packed_children f outers starts indices level parent))
node_weight form.PackedOne outers starts indices values level parent later is = absurd (omega (arith, is.0))
node_weight (form.DensePacked outer lines) outers starts indices values (suc zero) parent later is = refl
node_weight (form.PackedPacked outer) outers starts indices values (suc zero) parent later is = refl
node_weight f outers starts indices values zero parent later is = absurd (omega arith)
node_weight f outers starts indices values (suc (suc level)) parent later is = absurd (omega (arith, two_levels f, is.0))

-- a search in level 0 may take as many steps as that level's weight
pub root_weight_is : (f : Form) (outers starts indices values : List ℕ) (level parent : ℕ) → level ≤ 0
    → weight_at (packed_tree f outers starts indices values) level parent ≡ root_weight f outers
root_weight_is form.PackedOne outers starts indices values zero parent first = ap bits (length-placed (λ k. get_or outers k 0) 0 (length outers))
root_weight_is (form.DensePacked outer lines) outers starts indices values zero parent first = refl
root_weight_is (form.PackedPacked outer) outers starts indices values zero parent first = ap bits (length-placed (λ k. get_or outers k 0) 0 (length outers))
root_weight_is f outers starts indices values (suc level) parent first = absurd (omega arith)

-- each index of a dense level is found at its place
pub dense_found : (lines index : ℕ) → index < lines → Some index ≡ child_at (placed (λ k. k) 0 lines) index
dense_found lines index below = sym (made_found (λ k. k) (λ k. k) 0 lines index (omega arith) (omega arith) (λ j low high same. omega arith))

pub dense_none : (lines index : ℕ) → lines ≤ index → None ≡ child_at (placed (λ k. k) 0 lines) index
dense_none lines index past = sym (made_none (λ k. k) (λ k. k) 0 lines index (λ k low high same. omega arith))

-- `entry`, below a node of level 0
pub node_entry : (f : Form) (outers starts indices values : List ℕ) (level parent from place : ℕ) → IsPacked f outers starts indices values
    → 0 < level → IsParent (packed_tree f outers starts indices values) level parent → from ≡ packed_start starts level parent
    → from ≤ place → place < from + length (packed_children f outers starts indices level parent)
    → slice_get (packed_children f outers starts indices level parent) (place - from) ≡ Some (get_or indices place 0, place)
node_entry f outers starts indices values level parent from place p later is begins low high =
    let line = node_line f outers starts indices values level parent p later is in
    let at : from ≡ get_or starts parent 0 = begins ∙ start_of starts level parent later in
    let to : ℕ = get_or starts (parent + 1) 0 in
    let ends : place < from + (to - get_or starts parent 0) = omega (arith, line.count) in
    subst (λ cs. slice_get cs (place - from) ≡ Some (get_or indices place 0, place)) (sym line.children)
    (subst (λ a. slice_get (placed (λ k. get_or indices k 0) a (to - a)) (place - from) ≡ Some (get_or indices place 0, place)) at
    (placed_at (λ k. get_or indices k 0) from (to - from) place low (omega arith)))

pub node_place : (f : Form) (outers starts indices values : List ℕ) (level parent from place : ℕ) → IsPacked f outers starts indices values
    → 0 < level → IsParent (packed_tree f outers starts indices values) level parent → from ≡ packed_start starts level parent
    → place < from + length (packed_children f outers starts indices level parent) → place < length indices
node_place f outers starts indices values level parent from place p later is begins high =
    let line = node_line f outers starts indices values level parent p later is in
    let at : from ≡ get_or starts parent 0 = begins ∙ start_of starts level parent later in
    omega (arith, line.count, line.order, line.within)

-- `entry`, below the root
pub root_place : (f : Form) (outers starts indices values : List ℕ) (level parent from place : ℕ) → IsPacked f outers starts indices values
    → level ≤ 0 → from ≡ packed_start starts level parent → place < from + length (packed_children f outers starts indices level parent) → place < width_of f outers
root_place f outers starts indices values level parent from place p first begins high =
    let line = root_line f outers starts indices values level parent p first in
    omega (arith, line.count, start_of_root starts level parent first)

pub root_entry : (f : Form) (outers starts indices values : List ℕ) (level parent from place : ℕ) → IsPacked f outers starts indices values
    → level ≤ 0 → from ≡ packed_start starts level parent → from ≤ place → place < from + length (packed_children f outers starts indices level parent)
    → slice_get (packed_children f outers starts indices level parent) (place - from) ≡ Some (outer_index f outers place, place)
root_entry f outers starts indices values level parent from place p first begins low high =
    let line = root_line f outers starts indices values level parent p first in
    let at : from ≡ 0 = begins ∙ start_of_root starts level parent first in
    let within : place < width_of f outers = root_place f outers starts indices values level parent from place p first begins high in
    subst (λ cs. slice_get cs (place - from) ≡ Some (outer_index f outers place, place)) (sym line.children)
    (subst (λ a. slice_get (placed (outer_index f outers) 0 (width_of f outers - 0)) (place - a) ≡ Some (outer_index f outers place, place)) (sym at)
    (placed_at (outer_index f outers) 0 (width_of f outers - 0) place (omega arith) (omega arith)))

-- the line that `line` gives, below a node of level 0
pub node_line_at : (f : Form) (outers starts indices values : List ℕ) (level parent from to : ℕ) → IsPacked f outers starts indices values
    → 0 < level → IsParent (packed_tree f outers starts indices values) level parent → from ≡ packed_start starts level parent
    → to ≡ from + length (packed_children f outers starts indices level parent)
    → IsLineIn (λ k. get_or indices k 0) (length indices) (packed_children f outers starts indices level parent) from to
node_line_at f outers starts indices values level parent from to p later is begins ends =
    let line = node_line f outers starts indices values level parent p later is in
    let at : get_or starts parent 0 ≡ from = sym (begins ∙ start_of starts level parent later) in
    let past : get_or starts (parent + 1) 0 ≡ to = omega (arith, line.order, line.count) in
    subst (λ a. IsLineIn (λ k. get_or indices k 0) (length indices) (packed_children f outers starts indices level parent) a to) at
    (subst (λ b. IsLineIn (λ k. get_or indices k 0) (length indices) (packed_children f outers starts indices level parent) (get_or starts parent 0) b) past line)

pub root_children : (f : Form) (outers starts indices : List ℕ) (level parent : ℕ) → level ≤ 0 → placed (outer_index f outers) 0 (width_of f outers) ≡ packed_children f outers starts indices level parent
root_children f outers starts indices zero parent first = refl
root_children f outers starts indices (suc level) parent first = absurd (omega arith)

-- the indices of a packed level 0
pub outers_rise : (f : Form) (outers : List ℕ) → RisesBetween (outer_index f outers) 0 (width_of f outers) → (f ≡ form.PackedOne) ⊎ ((a : Axis) × (f ≡ form.PackedPacked a))
    → RisesBetween (λ k. get_or outers k 0) 0 (length outers)
outers_rise f outers rises is = ⊎_elim
    (λ (one : f ≡ form.PackedOne). subst (λ f. RisesBetween (outer_index f outers) 0 (width_of f outers)) one rises)
    (λ (two : (a : Axis) × (f ≡ form.PackedPacked a)). subst (λ f. RisesBetween (outer_index f outers) 0 (width_of f outers)) two.1 rises)
    is

-- what is read of a `Vec` at a place that is there
pub read_at : (xs : List ℕ) (i long x : ℕ) → i < long → long ≤ length xs → x ≡ get_or xs i x → x ≡ get_or xs i 0
read_at xs i long x low high is = get_or_read xs i x (omega arith) is 0
