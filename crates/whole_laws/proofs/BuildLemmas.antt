-- A whole matrix that keeps the rules can be built.
use Rattle.std.proofs.Common.{◌≡◌, ℕ, ◌+◌, ◌*◌, ◌<◌, ◌≤◌, Bool, true, false, List, refl, subst, arith}
use Rattle.std.specs.Prelude.{if◌then◌else◌}
use Rattle.std.specs.List.{range_with_len}
use Rattle.std.specs.List.Sorted.{IsStrictlyIncreasing}
use Rattle.std.proofs.Math.Nat.{mul-le-mul}
use Rattle.std.proofs.lemmas.List.FromFn.{get_or-range_with_len, length-range_with_len}
use Rattle.bern_base.specs.declared.axes.Axis.TheVariants as axis
use Rattle.bern_base.specs.declared.job.ArrayDecl.{ArrayDecl}
use Rattle.bern_base.specs.declared.job.FormatDecl.{FormatDecl}
use Rattle.bern_base.specs.declared.limits.TheConstants.{MOST_SIDE}
use Rattle.bern_base.specs.declared.matrix.Matrix.{Matrix}
use Rattle.bern_base.specs.declared.shape.Shape.{Shape}
use Rattle.bern_base.specs.declared.shape.Shape.TheVariants as shape
use Rattle.bern_base.proofs.SumLemmas.{All-range}
use Rattle.format_model.specs.Axes.{same_axis}
use Rattle.format_model.specs.Checks.{astray_rule}
use Rattle.format_model.specs.Weights.{extent_on, shape_weight}
use Rattle.formats.proofs.AdmittedLemmas.{IsFit, IsPart, diagonals_of, few_of, sizes_of, suits_of}
use Rattle.whole_laws.specs.HeldArrays.{IsWhole, all_rows}
use Rattle.whole_laws.specs.HeldLaws.{WholesCanBeBuilt}

-- the array as one that is split along its rows
by_rows : ArrayDecl → ArrayDecl
by_rows decl = record decl { axis = axis.Row }

-- which weighs no more on one rank than the array on any number
lines_lighter : (b c : Bool) (e ranks : ℕ) → 1 ≤ ranks → (if b then e else e * 1) ≤ (if c then e else e * ranks)
lines_lighter true true e ranks some = omega arith
lines_lighter true false e ranks some = let more : e * 1 ≤ e * ranks = mul-le-mul {n₂ = e} {m₂ = ranks} (omega arith) some in omega (arith, more)
lines_lighter false true e ranks some = omega arith
lines_lighter false false e ranks some = mul-le-mul {n₂ = e} {m₂ = ranks} (omega arith) some

lighter : (s : Shape) (decl : ArrayDecl) (ranks : ℕ) → 1 ≤ ranks → shape_weight s 1 (by_rows decl) ≤ shape_weight s ranks decl
unfolding by_rows
lighter shape.DenseOne decl ranks some = omega arith
lighter shape.PackedOne decl ranks some = omega arith
lighter shape.ListOne decl ranks some = omega arith
lighter (shape.DenseDense outer) decl ranks some = omega arith
lighter (shape.DensePacked outer) decl ranks some = lines_lighter (same_axis axis.Row outer) (same_axis decl.axis outer) (extent_on outer decl) ranks some
lighter (shape.PackedPacked outer) decl ranks some = omega arith
lighter shape.ListTwo decl ranks some = omega arith
lighter shape.Jagged decl ranks some = omega arith
lighter (shape.Diagonal offsets) decl ranks some = omega arith
lighter (shape.Permute file) decl ranks some = omega arith

rows_rise : (n : ℕ) → IsStrictlyIncreasing (range_with_len 0 n)
rows_rise n k within =
    let low : k + 1 < n = subst (λ m. k + 1 < m) (length-range_with_len 0 n) within in
    omega (arith, get_or-range_with_len 0 n k 0 (omega (arith, low)), get_or-range_with_len 0 n (k + 1) 0 low)

whole_part : (m : Matrix) (decl : ArrayDecl) (format : FormatDecl) (ranks : ℕ) (order : List ℕ) → IsWhole decl format ranks order m → IsPart axis.Row m m (all_rows m)
whole_part m decl format ranks order is = record {
  matrix = is.matrix;
  rows = omega arith;
  cols = omega arith;
  entries = omega arith;
  rising = rows_rise m.rows;
  by_rows = λ _. (length-range_with_len 0 m.rows, refl, All-range (λ g. g < m.rows) m.rows (λ j low. low));
}

pub sides : (decl : ArrayDecl) (format : FormatDecl) (ranks : ℕ) (order : List ℕ) (m : Matrix) → IsWhole decl format ranks order m → (m.rows ≡ decl.rows) × (m.cols ≡ decl.cols)
sides decl format ranks order m is = sizes_of decl.rows decl.cols m (astray_rule format.shape m) is.checked

whole_fit : (decl : ArrayDecl) (format : FormatDecl) (ranks : ℕ) (order : List ℕ) (m : Matrix) → IsWhole decl format ranks order m → IsFit format.shape (by_rows decl) 1 order (all_rows m) m m
unfolding by_rows
whole_fit decl format ranks order m is =
    let sizes = sides decl format ranks order m is in record {
      is = whole_part m decl format ranks order is;
      rows = sizes.0;
      cols = sizes.1;
      few_rows = is.rows;
      few_cols = is.cols;
      levels = is.levels;
      dims = is.dims;
      by_row = λ _. refl;
      flat = λ one. (is.flat one, refl);
      listed = is.listed;
      weight = omega (arith, is.weight, lighter format.shape decl ranks is.some);
      light = is.light;
    }

pub wholes-can-be-built : WholesCanBeBuilt
wholes-can-be-built decl format ranks order m is =
    let fit = whole_fit decl format ranks order m is in
    let sizes = sides decl format ranks order m is in record {
      matrix = is.matrix;
      suits = suits_of format.shape (by_rows decl) 1 order (all_rows m) m m fit;
      few = few_of format.shape (by_rows decl) 1 order (all_rows m) m m fit;
      small = let most : m.rows * m.cols ≤ MOST_SIDE * MOST_SIDE = mul-le-mul {n₂ = MOST_SIDE} {m₂ = MOST_SIDE} (omega (arith, sizes.0, is.rows)) (omega (arith, sizes.1, is.cols)) in omega (arith, most);
      diagonals = diagonals_of format.shape (by_rows decl) 1 order (all_rows m) m m fit;
    }
