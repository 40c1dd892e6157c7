-- Where an element that a rank owns stands in the rank's part, and that searches in the part's view are searches in the part.
use Rattle.std.proofs.Common.{◌≡◌, ◌≢◌, ℕ, suc, ◌+◌, ◌*◌, ◌/◌, ◌%◌, ◌<◌, ◌≤◌, List, [], ◌∷◌, length, map, Option, Some, None, refl, sym, ap, ◌∙◌, subst, arith}
use Rattle.std.specs.Option.{option_and_then}
use Rattle.std.proofs.lemmas.Nat.{div-mul-add, mod-mul-add}
use Rattle.bern_base.specs.declared.axes.Axis.{Axis}
use Rattle.bern_base.specs.declared.axes.Axis.TheVariants as axis
use Rattle.format_model.specs.Axes.{index_of}
use Rattle.format_model.specs.Elements.{entry_at}
use Rattle.format_model.specs.Levels.{Level, level_at}
use Rattle.format_model.specs.Laws.{reached}
use Rattle.format_model.specs.Trees.{IsTree, Tree, axis_at, child_at, depth_of}
use Rattle.format_model.proofs.SearchLemmas.{child_within}
use Rattle.local_views.specs.Views.{Cut, Fits, IsCut, IsLocal, IsOwnBy, col_by, cut_of, global_index, moved_children, own_cols, row_by, view_tree}
use Rattle.local_views.proofs.ViewLemmas.{moved_found}
use Rattle.placement.specs.Elements.{owner_of_element}
use Rattle.placement.specs.Part.{extent_on}
use Rattle.placement.specs.Placement.{IsPlacement, Triple, global_of, local_of, owned_of, owner_of}
use Rattle.placement.specs.PlacementLaws.{global-below, global-owner-local, global-rises, local-below}

-- ---- one element

-- the row and column of the part for those of the array
abbrev pub local_row : Axis → List Triple → ℕ → ℕ
local_row axis.Row ts row = local_of ts row
local_row axis.Col ts row = row
local_row axis.Both ts row = row

abbrev pub local_col : Axis → List Triple → ℕ → ℕ
local_col axis.Row ts col = col
local_col axis.Col ts col = local_of ts col
local_col axis.Both ts col = col

-- how many rows the part has; its columns are `own_cols`
abbrev pub own_rows : Axis → ℕ → ℕ → ℕ
own_rows axis.Row rows owned = owned
own_rows axis.Col rows owned = rows
own_rows axis.Both rows owned = owned

-- an element that the rank owns stands in its part, and what stands there is that element
pub record IsAt (a : Axis) (ts : List Triple) (rank rows cols row col : ℕ) : Type 0 where
  pub row_inside : IsOwnBy a axis.Row (owned_of ts rank) (local_row a ts row)
  pub col_inside : IsOwnBy a axis.Col (owned_of ts rank) (local_col a ts col)
  pub row_is : row_by a (global_of ts rank) (local_row a ts row) ≡ row
  pub col_is : col_by a (global_of ts rank) (local_col a ts col) ≡ col
  pub high : local_row a ts row < own_rows a rows (owned_of ts rank)
  pub low : local_col a ts col < own_cols a cols (owned_of ts rank)

-- an index of the split axis at its owner
pub record IsOwned (ts : List Triple) (rank i : ℕ) : Type 0 where
  pub within : i < length ts
  pub owner : owner_of ts i ≡ rank
  pub below : local_of ts i < owned_of ts rank
  pub back : global_of ts rank (local_of ts i) ≡ i

owned_at : (ranks : ℕ) (ts : List Triple) (rank i : ℕ) → IsPlacement ranks ts → i < length ts → owner_of ts i ≡ rank → IsOwned ts rank i
owned_at ranks ts rank i placed within owner = record {
  within = within;
  owner = owner;
  below = subst (λ p. local_of ts i < owned_of ts p) owner (local-below placed i within);
  back = subst (λ p. global_of ts p (local_of ts i) ≡ i) owner (global-owner-local placed i within);
}

-- the index of an element on the split axis is one that its owner owns
abbrev pub split_index : Axis → ℕ → ℕ → ℕ
split_index axis.Row row col = row
split_index axis.Col row col = col
split_index axis.Both row col = row

pub split_owned : (a : Axis) (ranks : ℕ) (ts : List Triple) (rank rows cols row col : ℕ) → a ≢ axis.Both → IsPlacement ranks ts → extent_on a rows cols ≡ length ts → row < rows → col < cols →
    owner_of_element a ts cols (row * cols + col) ≡ rank → IsOwned ts rank (split_index a row col)
split_owned axis.Row ranks ts rank rows cols row col side placed extent high low owner =
    owned_at ranks ts rank row placed (omega (arith, extent, high)) (ap (owner_of ts) (sym (div-mul-add row cols col low)) ∙ owner)
split_owned axis.Col ranks ts rank rows cols row col side placed extent high low owner =
    owned_at ranks ts rank col placed (omega (arith, extent, low)) (ap (owner_of ts) (sym (mod-mul-add row cols col low)) ∙ owner)
split_owned axis.Both ranks ts rank rows cols row col side placed extent high low owner = absurd (side refl)

pub is_at : (a : Axis) (ts : List Triple) (rank rows cols row col : ℕ) → a ≢ axis.Both → row < rows → col < cols → IsOwned ts rank (split_index a row col) → IsAt a ts rank rows cols row col
is_at axis.Row ts rank rows cols row col side high low own = record { row_inside = own.below; col_inside = tt; row_is = own.back; col_is = refl; high = own.below; low = low }
is_at axis.Col ts rank rows cols row col side high low own = record { row_inside = tt; col_inside = own.below; row_is = refl; col_is = own.back; high = high; low = own.below }
is_at axis.Both ts rank rows cols row col side high low own = absurd (side refl)

-- the element's index in a level on any axis, in the array and in the part
pub is_local : (a : Axis) (ts : List Triple) (rank rows cols row col : ℕ) → IsAt a ts rank rows cols row col → (level : Axis) →
    IsLocal (cut_of a cols ts rank) level (index_of level cols (entry_at row col 0)) (index_of level (cut_of a cols ts rank).own (entry_at (local_row a ts row) (local_col a ts col) 0))
is_local a ts rank rows cols row col at axis.Row = record { inside = at.row_inside; is = at.row_is }
is_local a ts rank rows cols row col at axis.Col = record { inside = at.col_inside; is = at.col_is }
is_local a ts rank rows cols row col at axis.Both =
    let cut : Cut = cut_of a cols ts rank in
    let r : ℕ = local_row a ts row in
    let c : ℕ = local_col a ts col in
    let quotient : (r * cut.own + c) / cut.own ≡ r = div-mul-add r cut.own c at.low in
    let rest : (r * cut.own + c) % cut.own ≡ c = mod-mul-add r cut.own c at.low in record {
      inside = (
        omega (arith, at.low),
        subst (λ n. IsOwnBy a axis.Row (owned_of ts rank) n) (sym quotient) at.row_inside,
        subst (λ n. IsOwnBy a axis.Col (owned_of ts rank) n) (sym rest) at.col_inside,
      );
      is = ap (λ n. row_by a cut.global n * cols + col_by a cut.global ((r * cut.own + c) % cut.own)) quotient
          ∙ ap (λ n. row_by a cut.global r * cols + col_by a cut.global n) rest
          ∙ ap (λ n. n * cols + col_by a cut.global c) at.row_is ∙ ap (λ n. row * cols + n) at.col_is;
    }

-- ---- the part

pub is_cut : (a : Axis) (ranks : ℕ) (ts : List Triple) (rank rows cols : ℕ) → IsPlacement ranks ts → extent_on a rows cols ≡ length ts → IsCut (cut_of a cols ts rank)
is_cut a ranks ts rank rows cols placed extent = record { rises = global-rises placed rank; narrow = narrow a extent }
  where
    narrow : (a : Axis) → extent_on a rows cols ≡ length ts → (col : ℕ) → col < own_cols a cols (owned_of ts rank) → col_by a (global_of ts rank) col < cols
    narrow axis.Row extent col low = low
    narrow axis.Col extent col low = omega (arith, global-below placed rank col low, extent)
    narrow axis.Both extent col low = low

-- ---- searches

same_then : (o : Option ℕ) (f g : ℕ → Option ℕ) → ((child : ℕ) → o ≡ Some child → f child ≡ g child) → option_and_then f o ≡ option_and_then g o
same_then None f g each = refl
same_then (Some child) f g each = each child refl

module _ (cut : Cut) (t : Tree) (is : IsTree t) (rising : IsCut cut) (fits : Fits cut t) (index local : Axis → ℕ) (each : (a : Axis) → IsLocal cut a (index a) (local a)) where
  -- from any node on, searches in the view for indices of the array lead where searches in the part for those of the part do
  pub reached_moved : (levels : List Level) (level node : ℕ) → level + length levels ≤ depth_of t → ((k : ℕ) → k < length levels → axis_at t (level + k) ≡ (level_at levels k).axis) → node < t.nodes level →
      reached (view_tree cut t) level node (map (λ l. index l.axis) levels) ≡ reached t level node (map (λ l. local l.axis) levels)
  reached_moved [] level node deep same low = refl
  reached_moved (l ∷ levels) level node deep same low =
      let a : Axis = axis_at t level in
      let children : List (ℕ × ℕ) = t.children level node in
      let is_parent : (level < depth_of t) × (node < t.nodes level) = (omega (arith, deep), low) in
      let at : level ≡ level + 0 = omega arith in
      let here : a ≡ l.axis = ap (axis_at t) at ∙ same 0 (omega arith) in
      let found : child_at children (local l.axis) ≡ child_at (moved_children (global_index cut a) children) (index l.axis) =
      subst (λ b. child_at children (local b) ≡ child_at (moved_children (global_index cut a) children) (index b)) here
      (moved_found cut a (index a) (local a) children rising (each a) (fits.inside level node is_parent)) in
      ap (option_and_then (λ child. reached (view_tree cut t) (suc level) child (map (λ l. index l.axis) levels))) (sym found)
      ∙ same_then (child_at children (local l.axis)) (λ child. reached (view_tree cut t) (suc level) child (map (λ l. index l.axis) levels)) (λ child. reached t (suc level) child (map (λ l. local l.axis) levels))
      (λ child at. reached_moved levels (suc level) child (omega (arith, deep))
      (λ k below. ap (axis_at t) (omega arith) ∙ same (suc k) (omega (arith, below)))
      (child_within children (local l.axis) (t.nodes (suc level)) child (is.within level node is_parent) at))
