-- What the rules of a job and the checks of its files leave of an array, as what a build needs of its parts.
use Rattle.std.proofs.Common.{◌≡◌, ℕ, suc, ◌+◌, ◌*◌, ◌<◌, ◌≤◌, ◌^◌, Bool, true, false, ◌==◌, List, [], ◌∷◌, length, length-append, map, None, Some, ℤ, pos, negsuc, ◌+ℤ◌, refl, ◌∙◌, subst, arith}
use Rattle.std.specs.Prelude.{◌&&◌, if◌then◌else◌, nat_lt, Option, unsigned_abs}
use Rattle.bern_base.specs.declared.refusal.Rule.TheVariants.{F1}
use Rattle.std.specs.List.{All, filter, range_with_len}
use Rattle.std.specs.List.Sorted.{IsStrictlyIncreasing}
use Rattle.std.proofs.Math.Nat.{mul-le-mul}
use Rattle.std.proofs.lemmas.Bool.{eqb-true}
use Rattle.std.proofs.lemmas.Int.{ints}
use Rattle.std.proofs.lemmas.List.{get_or_default, length-map}
use Rattle.std.proofs.lemmas.List.Elements.{All-weaker}
use Rattle.std.proofs.lemmas.List.FromFn.{length-map-range_with_len}
use Rattle.std.proofs.lemmas.List.Sums.{count_by-le-length, length-filter, sum_by-cons}
use Rattle.bern_base.specs.Matrix.{IsMatrix}
use Rattle.bern_base.specs.Shapes.{dims_of, is_by_row}
use Rattle.bern_base.specs.declared.axes.Axis.{Axis}
use Rattle.bern_base.specs.declared.axes.Axis.TheVariants as axis
use Rattle.bern_base.specs.declared.job.ArrayDecl.{ArrayDecl}
use Rattle.bern_base.specs.declared.limits.TheConstants.{MOST_OFFSET, MOST_OFFSETS, MOST_SIDE, MOST_WEIGHT}
use Rattle.bern_base.specs.declared.matrix.Matrix.{Matrix}
use Rattle.bern_base.specs.declared.refusal.Rule.{Rule}
use Rattle.bern_base.specs.declared.shape.Shape.{Shape}
use Rattle.bern_base.specs.declared.shape.Shape.TheVariants as shape
use Rattle.format_model.specs.Checks.{astray_rule, first_of, has_sizes, sizes_rule}
use Rattle.format_model.specs.Content.{columns_of, diagonal_columns}
use Rattle.format_model.specs.Laws.{Suits}
use Rattle.format_model.specs.Stored.{element_at, stored_elements}
use Rattle.format_model.specs.Weights.{shape_weight}
use Rattle.formats.specs.Admitted.{HasLevels, HasOrder, PartsCanBeBuilt, PartsCanBeViewed}
use Rattle.formats.specs.AnyStores.{any_is_tree, any_tree}
use Rattle.formats.specs.Builds.{HasDiagonals}
use Rattle.formats.proofs.BuildLemmas.{diagonals_count}
use Rattle.formats.proofs.ReachLemmas.{any_reached}
use Rattle.local_views.specs.Views.{Fits, cut_of}
use Rattle.local_views.proofs.FitLemmas.{described-parts_fit, part-is_part}
use Rattle.placement.specs.Part.{extent_on, is_owned, localized, part_of}
use Rattle.placement.specs.Placement.{IsPlacement, Triple, owned_indices, owned_of}
use Rattle.placement.specs.PlacementLaws.{global-below}
use Rattle.placement.proofs.IndexLemmas.{get_or-owned_indices, length-owned_indices, owned_indices-rise}
use Rattle.placement.proofs.PartLemmas.{sized-IsMatrix}
use Rattle.stores_shaped.specs.Diagonals.{IsOffset, diagonal_count}

-- ---- the check of the sizes

both : (a b : Bool) → (a && b) ≡ true → (a ≡ true) × (b ≡ true)
both true b all = (refl, all)
both false b all = absurd cc

sized : (sizes : Bool) (later : Option Rule) → first_of (if sizes then None else Some F1) later ≡ None → sizes ≡ true
sized true later passed = refl
sized false later passed = absurd cc

pub sizes_of : (rows cols : ℕ) (m : Matrix) (later : Option Rule) → first_of (sizes_rule rows cols m) later ≡ None → (m.rows ≡ rows) × (m.cols ≡ cols)
sizes_of rows cols m later passed =
    let tests = both (m.rows == rows) (m.cols == cols) (sized (has_sizes rows cols m) later passed) in
    (eqb-true m.rows rows tests.0, eqb-true m.cols cols tests.1)

-- ---- a part

-- the part of a rank beside the whole matrix
pub record IsPart (a : Axis) (m part : Matrix) (globals : List ℕ) : Type 0 where
  pub matrix : IsMatrix part
  pub rows : part.rows ≤ m.rows
  pub cols : part.cols ≤ m.cols
  pub entries : length part.entries ≤ length m.entries
  pub rising : IsStrictlyIncreasing globals
  pub by_rows : a ≡ axis.Row → (length globals ≡ part.rows) × (part.cols ≡ m.cols) × All (λ g. g < m.rows) globals

kept_most : {X : Type 0} (p : X → Bool) (xs : List X) → length (filter p xs) ≤ length xs
kept_most p xs = omega (arith, length-filter p xs, count_by-le-length p xs)

owned_most : (ts : List Triple) (p : ℕ) → owned_of ts p ≤ length ts
unfolding owned_of
owned_most ts p = kept_most (λ t. t.rank == p) ts

part_is : (a : Axis) (m : Matrix) (ranks : ℕ) (ts : List Triple) (p : ℕ) → (a ≡ axis.Both → ⊥) → IsMatrix m → IsPlacement ranks ts → extent_on a m.rows m.cols ≡ length ts
    → IsPart a m (part_of a ts p m).matrix (part_of a ts p m).globals
part_is a m ranks ts p side is placed extent = parts a side extent
  where
    few : (a : Axis) → length (part_of a ts p m).matrix.entries ≤ length m.entries
    few a = omega (arith, length-map (filter (is_owned a ts p) m.entries) (localized a ts), kept_most (is_owned a ts p) m.entries)

    good : (a : Axis) → extent_on a m.rows m.cols ≡ length ts → IsMatrix (part_of a ts p m).matrix
    good a extent = sized-IsMatrix ranks ts a p m (part_of a ts p m).matrix (owned_of ts p) (part_of a ts p m).matrix.entries m.entries placed is extent refl refl refl refl

    parts : (a : Axis) → (a ≡ axis.Both → ⊥) → extent_on a m.rows m.cols ≡ length ts → IsPart a m (part_of a ts p m).matrix (part_of a ts p m).globals
    parts axis.Row side extent = record {
      matrix = good axis.Row extent;
      rows = omega (arith, owned_most ts p, extent);
      cols = omega arith;
      entries = few axis.Row;
      rising = owned_indices-rise placed p;
      by_rows = λ _. (
        length-owned_indices ts p,
        refl,
        λ k d within.
            let low : k < owned_of ts p = omega (arith, within, length-owned_indices ts p) in
            omega (arith, get_or_default (owned_indices ts p) k d 0 within, get_or-owned_indices ts p k, global-below placed p k low, extent),
      );
    }
    parts axis.Col side extent = record {
      matrix = good axis.Col extent;
      rows = omega arith;
      cols = omega (arith, owned_most ts p, extent);
      entries = few axis.Col;
      rising = owned_indices-rise placed p;
      by_rows = λ same. absurd cc;
    }
    parts axis.Both side extent = absurd (side refl)

-- ---- a format

offset_small : (offset : ℤ) → unsigned_abs offset ≤ MOST_OFFSET → IsOffset offset
offset_small (pos n) small = (omega (arith, ints, small), omega (arith, ints, small))
offset_small (negsuc n) small = (omega (arith, ints, small), omega (arith, ints, small))

one_column : (cols : ℕ) (at : ℤ) → length (columns_of cols at) ≤ 1
one_column cols (pos col) = kept_most (λ c. nat_lt c cols) (col ∷ [])
one_column cols (negsuc n) = omega arith

columns_most : (cols row : ℕ) (offsets : List ℤ) → length (diagonal_columns cols offsets row) ≤ length offsets
columns_most cols row [] = omega arith
columns_most cols row (offset ∷ offsets) =
    let here : length (columns_of cols (pos row +ℤ offset)) ≤ 1 = one_column cols (pos row +ℤ offset) in
    let rest : length (diagonal_columns cols offsets row) ≤ length offsets = columns_most cols row offsets in
    omega (arith, here, rest, length-append (columns_of cols (pos row +ℤ offset)) (diagonal_columns cols offsets row))

diagonals_most : (cols : ℕ) (offsets : List ℤ) (globals : List ℕ) → diagonal_count cols offsets globals ≤ length globals * length offsets
diagonals_most cols offsets [] = omega arith
diagonals_most cols offsets (g ∷ globals) =
    let rest : diagonal_count cols offsets globals ≤ length globals * length offsets = diagonals_most cols offsets globals in
    let more : suc (length globals) * length offsets ≡ length globals * length offsets + length offsets = omega arith in
    omega (arith, rest, more, columns_most cols g offsets, sum_by-cons (λ g. length (diagonal_columns cols offsets g)) g globals)

-- what is known of a part and its format
pub record IsFit (s : Shape) (decl : ArrayDecl) (ranks : ℕ) (order globals : List ℕ) (m part : Matrix) : Type 0 where
  pub is : IsPart decl.axis m part globals
  pub rows : m.rows ≡ decl.rows
  pub cols : m.cols ≡ decl.cols
  pub few_rows : decl.rows ≤ MOST_SIDE
  pub few_cols : decl.cols ≤ MOST_SIDE
  pub levels : HasLevels s
  pub dims : decl.dims ≡ dims_of s
  pub by_row : is_by_row s ≡ true → decl.axis ≡ axis.Row
  pub flat : decl.dims ≡ 1 → (decl.cols ≡ 1) × (decl.axis ≡ axis.Row)
  pub listed : HasOrder s decl.rows order
  pub weight : shape_weight s ranks decl ≤ MOST_WEIGHT
  pub light : length m.entries ≤ MOST_WEIGHT

vector_cols : (s : Shape) (decl : ArrayDecl) (ranks : ℕ) (order globals : List ℕ) (m part : Matrix) → IsFit s decl ranks order globals m part → dims_of s ≡ 1 → part.cols ≡ 1
vector_cols s decl ranks order globals m part f one =
    let flat = f.flat (f.dims ∙ one) in (f.is.by_rows flat.1).1 ∙ f.cols ∙ flat.0

pub suits_of : (s : Shape) (decl : ArrayDecl) (ranks : ℕ) (order globals : List ℕ) (m part : Matrix) → IsFit s decl ranks order globals m part → Suits s globals order part
suits_of shape.DenseOne decl ranks order globals m part f = vector_cols shape.DenseOne decl ranks order globals m part f refl
suits_of shape.PackedOne decl ranks order globals m part f = vector_cols shape.PackedOne decl ranks order globals m part f refl
suits_of shape.ListOne decl ranks order globals m part f = vector_cols shape.ListOne decl ranks order globals m part f refl
suits_of (shape.DenseDense outer) decl ranks order globals m part f = f.levels
suits_of (shape.DensePacked outer) decl ranks order globals m part f = f.levels
suits_of (shape.PackedPacked outer) decl ranks order globals m part f = f.levels
suits_of shape.ListTwo decl ranks order globals m part f = tt
suits_of shape.Jagged decl ranks order globals m part f = tt
suits_of (shape.Diagonal offsets) decl ranks order globals m part f = f.levels.2
suits_of (shape.Permute file) decl ranks order globals m part f =
    let rows = f.is.by_rows (f.by_row refl) in (
      decl.rows,
      record {
        each_once = f.listed;
        rising = f.is.rising;
        within = subst (λ n. All (λ g. g < n) globals) f.rows rows.2;
        long = rows.0;
      },
    )

dense_few : (decl : ArrayDecl) (m part : Matrix) (globals : List ℕ) → IsPart decl.axis m part globals → m.rows ≡ decl.rows → m.cols ≡ decl.cols → decl.rows * decl.cols ≤ MOST_WEIGHT
    → length (map (element_at part) (range_with_len 0 (part.rows * part.cols))) < 2 ^ 32
dense_few decl m part globals is rows cols weight =
    let most : part.rows * part.cols ≤ decl.rows * decl.cols = mul-le-mul (omega (arith, is.rows, rows)) (omega (arith, is.cols, cols)) in
    omega (arith, most, weight, length-map-range_with_len (element_at part) 0 (part.rows * part.cols))

pub few_of : (s : Shape) (decl : ArrayDecl) (ranks : ℕ) (order globals : List ℕ) (m part : Matrix) → IsFit s decl ranks order globals m part → length (stored_elements s globals part) < 2 ^ 32
few_of shape.DenseOne decl ranks order globals m part f = dense_few decl m part globals f.is f.rows f.cols f.weight
few_of (shape.DenseDense outer) decl ranks order globals m part f = dense_few decl m part globals f.is f.rows f.cols f.weight
few_of (shape.Diagonal offsets) decl ranks order globals m part f =
    let rows = f.is.by_rows (f.by_row refl) in
    let count = diagonals_count offsets globals order part f.is.matrix f.levels.2 rows.0 in
    let most : length globals * length offsets ≤ MOST_SIDE * MOST_OFFSETS = mul-le-mul {n₂ = MOST_SIDE} {m₂ = MOST_OFFSETS} (omega (arith, rows.0, f.is.rows, f.rows, f.few_rows)) f.levels.0 in
    omega (arith, count, most, diagonals_most part.cols offsets globals)
few_of shape.PackedOne decl ranks order globals m part f = omega (arith, f.is.entries, f.light)
few_of shape.ListOne decl ranks order globals m part f = omega (arith, f.is.entries, f.light)
few_of (shape.DensePacked outer) decl ranks order globals m part f = omega (arith, f.is.entries, f.light)
few_of (shape.PackedPacked outer) decl ranks order globals m part f = omega (arith, f.is.entries, f.light)
few_of shape.ListTwo decl ranks order globals m part f = omega (arith, f.is.entries, f.light)
few_of shape.Jagged decl ranks order globals m part f = omega (arith, f.is.entries, f.light)
few_of (shape.Permute file) decl ranks order globals m part f = omega (arith, f.is.entries, f.light)

pub diagonals_of : (s : Shape) (decl : ArrayDecl) (ranks : ℕ) (order globals : List ℕ) (m part : Matrix) → IsFit s decl ranks order globals m part → HasDiagonals s globals part
diagonals_of (shape.Diagonal offsets) decl ranks order globals m part f =
    ((f.is.by_rows (f.by_row refl)).0, All-weaker (λ offset. unsigned_abs offset ≤ MOST_OFFSET) IsOffset offset_small offsets f.levels.1)
diagonals_of shape.DenseOne decl ranks order globals m part f = tt
diagonals_of (shape.DenseDense outer) decl ranks order globals m part f = tt
diagonals_of shape.PackedOne decl ranks order globals m part f = tt
diagonals_of shape.ListOne decl ranks order globals m part f = tt
diagonals_of (shape.DensePacked outer) decl ranks order globals m part f = tt
diagonals_of (shape.PackedPacked outer) decl ranks order globals m part f = tt
diagonals_of shape.ListTwo decl ranks order globals m part f = tt
diagonals_of shape.Jagged decl ranks order globals m part f = tt
diagonals_of (shape.Permute file) decl ranks order globals m part f = tt

pub parts-can-be-built : PartsCanBeBuilt
parts-can-be-built decl format ranks order m ts p a placed extent =
    let part : Matrix = (part_of decl.axis ts p m).matrix in
    let globals : List ℕ = (part_of decl.axis ts p m).globals in
    let is = part_is decl.axis m ranks ts p a.side a.matrix placed extent in
    let sizes = sizes_of decl.rows decl.cols m (astray_rule format.shape m) a.checked in
    let fit : IsFit format.shape decl ranks order globals m part = record {
      is = is;
      rows = sizes.0;
      cols = sizes.1;
      few_rows = a.rows;
      few_cols = a.cols;
      levels = a.levels;
      dims = a.dims;
      by_row = a.by_row;
      flat = a.flat;
      listed = a.listed;
      weight = omega (arith, a.weight);
      light = omega (arith, a.weight);
    } in record {
      matrix = is.matrix;
      suits = suits_of format.shape decl ranks order globals m part fit;
      few = few_of format.shape decl ranks order globals m part fit;
      small = let most : part.rows * part.cols ≤ MOST_SIDE * MOST_SIDE = mul-le-mul {n₂ = MOST_SIDE} {m₂ = MOST_SIDE} (omega (arith, is.rows, sizes.0, a.rows)) (omega (arith, is.cols, sizes.1, a.cols)) in omega (arith, most);
      diagonals = diagonals_of format.shape decl ranks order globals m part fit;
    }

pub parts-can-be-viewed : PartsCanBeViewed
parts-can-be-viewed decl format ranks order m ts p s a placed extent described =
    let part : Matrix = (part_of decl.axis ts p m).matrix in
    let globals : List ℕ = (part_of decl.axis ts p m).globals in
    let can = parts-can-be-built decl format ranks order m ts p a placed extent in
    let sizes = sizes_of decl.rows decl.cols m (astray_rule format.shape m) a.checked in
    subst (λ n. Fits (cut_of decl.axis n ts p) (any_tree s)) sizes.1
    (described-parts_fit (any_tree s) format.shape globals order decl.axis m.rows m.cols ranks p ts part (any_is_tree s) (any_reached s) described can.matrix can.suits placed
    (part-is_part decl.axis m ts p a.side (omega (arith, sizes.0, a.rows)) (omega (arith, sizes.1, a.cols)) extent))
