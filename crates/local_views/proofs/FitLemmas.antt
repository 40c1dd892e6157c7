-- A store that describes the part of a rank has indices of that part alone, and each is one of the array.
use Rattle.std.proofs.Common.{◌≡◌, ℕ, zero, suc, ◌+◌, ◌*◌, ◌/◌, ◌%◌, ◌<◌, ◌≤◌, List, length, map, get_or, sym, ap, ◌∙◌, subst, refl, arith}
use Rattle.std.specs.Prelude.{◌≢◌}
use Rattle.std.specs.List.{All}
use Rattle.std.proofs.Math.Nat.{div-lt_iff_lt-mul, mod-lt, mul-le-mul}
use Rattle.std.proofs.lemmas.List.{get_or-map, length-map}
use Rattle.std.proofs.lemmas.List.Elements.{All-weaker}
use Rattle.std.proofs.lemmas.Nat.{mul-add-lt}
use Rattle.bern_base.specs.declared.axes.Axis.{Axis}
use Rattle.bern_base.specs.declared.axes.Axis.TheVariants as axis
use Rattle.bern_base.specs.declared.limits.TheConstants.{MOST_SIDE}
use Rattle.bern_base.specs.declared.matrix.Matrix.{Matrix}
use Rattle.format_model.specs.Axes.{extent_of}
use Rattle.format_model.specs.Levels.{levels_of}
use Rattle.format_model.specs.Trees.{IsParent, IsTree, Tree, axis_at, content, content_by, depth_of, leaves_below}
use Rattle.format_model.specs.declared.limits.TheConstants.{MOST_INDEX}
use Rattle.placement.specs.Placement.{IsPlacement, Triple, global_of, owned_of}
use Rattle.placement.specs.Part.{extent_on, part_cols, part_of, part_rows}
use Rattle.placement.specs.PlacementLaws.{global-below}
use Rattle.local_views.specs.Views.{Cut, DescribedPartsFit, IsInCut, IsOwnBy, IsPartOf, IsReached, col_by, cut_of, global_col, global_index, global_row, row_by}
use Rattle.local_views.proofs.InsideLemmas.{AreInside, indices_inside}

-- ---- one index

module _ (rows cols ranks rank : ℕ) (ts : List Triple) (part : Matrix) (placed : IsPlacement ranks ts) where
  row_known : (a : Axis) → IsPartOf a rows cols ts rank part → (row : ℕ) → row < part.rows → IsOwnBy a axis.Row (owned_of ts rank) row × (row_by a (global_of ts rank) row < rows)
  row_known axis.Row is row low =
      let sizes = is.by_row refl in
      let own : row < owned_of ts rank = omega (arith, low, sizes.1) in (own, omega (arith, global-below placed rank row own, sizes.0))
  row_known axis.Col is row low = (tt, omega (arith, low, (is.by_col refl).2))
  row_known axis.Both is row low = absurd (is.side refl)

  col_known : (a : Axis) → IsPartOf a rows cols ts rank part → (col : ℕ) → col < part.cols → IsOwnBy a axis.Col (owned_of ts rank) col × (col_by a (global_of ts rank) col < cols)
  col_known axis.Row is col low = (tt, omega (arith, low, (is.by_row refl).2))
  col_known axis.Col is col low =
      let sizes = is.by_col refl in
      let own : col < owned_of ts rank = omega (arith, low, sizes.1) in (own, omega (arith, global-below placed rank col own, sizes.0))
  col_known axis.Both is col low = absurd (is.side refl)

  own_is : (a : Axis) → IsPartOf a rows cols ts rank part → (cut_of a cols ts rank).own ≡ part.cols
  own_is axis.Row is = sym (is.by_row refl).2
  own_is axis.Col is = sym (is.by_col refl).1
  own_is axis.Both is = absurd (is.side refl)

  index_known : (a : Axis) → IsPartOf a rows cols ts rank part → (level : Axis) (i : ℕ) → i < extent_of level part.rows part.cols
      → IsInCut (cut_of a cols ts rank) level i × (global_index (cut_of a cols ts rank) level i ≤ MOST_INDEX)
  index_known a is axis.Row i low = let known = row_known a is i low in (known.0, omega (arith, known.1, is.few_rows))
  index_known a is axis.Col i low = let known = col_known a is i low in (known.0, omega (arith, known.1, is.few_cols))
  index_known a is axis.Both i low =
      let cut : Cut = cut_of a cols ts rank in
      let own : cut.own ≡ part.cols = own_is a is in
      let number : i < part.rows * cut.own = subst (λ n. i < part.rows * n) (sym own) low in
      let some : 0 < cut.own = positive part.rows cut.own i number in
      let above : i / cut.own < part.rows = (div-lt_iff_lt-mul some).1 number in
      let below : i % cut.own < part.cols = subst (λ n. i % cut.own < n) own (mod-lt i some) in
      let row = row_known a is (i / cut.own) above in
      let col = col_known a is (i % cut.own) below in
      let inside : global_row cut (i / cut.own) * cols + global_col cut (i % cut.own) < cols * rows = mul-add-lt (global_row cut (i / cut.own)) cols (global_col cut (i % cut.own)) rows row.1 col.1 in
      let most : cols * rows ≤ MOST_SIDE * MOST_SIDE = mul-le-mul {n₂ = MOST_SIDE} {m₂ = MOST_SIDE} is.few_cols is.few_rows in
      ((some, row.0, col.0), omega (arith, inside, most))
    where
      positive : (a b i : ℕ) → i < a * b → 0 < b
      positive a zero i low = absurd (let none : a * 0 ≡ 0 = omega arith in omega (arith, low, none))
      positive a (suc b) i low = omega arith

-- ---- all of a tree

all_back : {X Y : Type 0} (P : Y → Type 0) (f : X → Y) (xs : List X) → All P (map f xs) → All (λ x. P (f x)) xs
all_back P f xs all k d low = subst P (get_or-map f xs k d (f d) low) (all k (f d) (omega (arith, length-map xs f, low)))

-- the indices below a parent of level 1, from those of the lines
below_inside : (t : Tree) (extent : ℕ) → IsReached t → depth_of t ≡ 2 → All (λ c. All (λ i. i.0 < extent) (leaves_below t 1 c.1)) (t.children 0 0)
    → (parent : ℕ) → parent < t.nodes 1 → All (λ c. c.0 < extent) (t.children 1 parent)
below_inside t extent reached two lines parent low =
    let at = reached parent (omega (arith, two)) low in
    subst (λ n. All (λ c. c.0 < extent) (t.children 1 n)) at.2
    (all_back (λ i. i.0 < extent) (λ c. (c.0, t.value c.1)) (t.children 1 (get_or (t.children 0 0) at.0 (0, 0)).1) (lines at.0 (0, 0) at.1))

tree_inside : (t : Tree) (part : Matrix) (depth : ℕ) → IsTree t → IsReached t → depth_of t ≡ depth → AreInside t.levels part (content_by depth t) → (level parent : ℕ) → IsParent t level parent
    → All (λ c. c.0 < extent_of (axis_at t level) part.rows part.cols) (t.children level parent)
tree_inside t part zero is reached deep inside level parent p = absurd (omega (arith, is.some, deep))
tree_inside t part (suc zero) is reached deep inside zero parent p =
    let root : parent ≡ 0 = omega (arith, is.root, p.1) in
    subst (λ n. All (λ c. c.0 < extent_of (axis_at t 0) part.rows part.cols) (t.children 0 n)) (sym root)
    (all_back (λ i. i.0 < extent_of (axis_at t 0) part.rows part.cols) (λ c. (c.0, t.value c.1)) (t.children 0 0) inside)
tree_inside t part (suc zero) is reached deep inside (suc level) parent p = absurd (omega (arith, p.0, deep))
tree_inside t part (suc (suc zero)) is reached deep inside zero parent p =
    let root : parent ≡ 0 = omega (arith, is.root, p.1) in
    subst (λ n. All (λ c. c.0 < extent_of (axis_at t 0) part.rows part.cols) (t.children 0 n)) (sym root)
    (all_back (λ l. l.0 < extent_of (axis_at t 0) part.rows part.cols) (λ c. (c.0, leaves_below t 1 c.1)) (t.children 0 0) inside.0)
tree_inside t part (suc (suc zero)) is reached deep inside (suc zero) parent p =
    below_inside t (extent_of (axis_at t 1) part.rows part.cols) reached deep
    (all_back (λ l. All (λ i. i.0 < extent_of (axis_at t 1) part.rows part.cols) l.1) (λ c. (c.0, leaves_below t 1 c.1)) (t.children 0 0) inside.1) parent p.1
tree_inside t part (suc (suc zero)) is reached deep inside (suc (suc level)) parent p = absurd (omega (arith, p.0, deep))
tree_inside t part (suc (suc (suc depth))) is reached deep inside level parent p = absurd (omega (arith, is.few, deep))

pub described-parts_fit : DescribedPartsFit
described-parts_fit t s globals order split rows cols ranks rank ts part is reached described matrix suits placed cut =
    let listed = indices_inside s globals order part matrix suits in
    let inside : AreInside t.levels part (content t) = subst (λ ls. AreInside ls part (content t)) (sym described.levels) (subst (AreInside (levels_of s) part) (sym described.content) listed) in
    let each = tree_inside t part (depth_of t) is reached refl inside in record {
      side = cut.side;
      inside = λ level parent p. All-weaker (λ c. c.0 < extent_of (axis_at t level) part.rows part.cols) (λ c. IsInCut (cut_of split cols ts rank) (axis_at t level) c.0)
          (λ c low. (index_known rows cols ranks rank ts part placed split cut (axis_at t level) c.0 low).0) (t.children level parent) (each level parent p);
      small = λ level parent p. All-weaker (λ c. c.0 < extent_of (axis_at t level) part.rows part.cols) (λ c. global_index (cut_of split cols ts rank) (axis_at t level) c.0 ≤ MOST_INDEX)
          (λ c low. (index_known rows cols ranks rank ts part placed split cut (axis_at t level) c.0 low).1) (t.children level parent) (each level parent p);
    }

-- ---- a part that was cut from a matrix

pub part-is_part : (split : Axis) (m : Matrix) (ts : List Triple) (rank : ℕ) → split ≢ axis.Both → m.rows ≤ MOST_SIDE → m.cols ≤ MOST_SIDE → extent_on split m.rows m.cols ≡ length ts
    → IsPartOf split m.rows m.cols ts rank (part_of split ts rank m).matrix
part-is_part split m ts rank side few_rows few_cols extent = record {
  side = side;
  few_rows = few_rows;
  few_cols = few_cols;
  by_row = λ is. (sym extent ∙ ap (λ a. extent_on a m.rows m.cols) is, ap (λ a. part_rows a m (owned_of ts rank)) is, ap (λ a. part_cols a m (owned_of ts rank)) is);
  by_col = λ is. (sym extent ∙ ap (λ a. extent_on a m.rows m.cols) is, ap (λ a. part_cols a m (owned_of ts rank)) is, ap (λ a. part_rows a m (owned_of ts rank)) is);
}
