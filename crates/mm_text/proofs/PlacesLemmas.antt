-- The places of columns, step by step.
use Rattle.std.proofs.Common.{◌≡◌, ℕ, zero, suc, ◌+◌, ◌-◌, ◌<◌, ◌≤◌, [], ◌∷◌, ◌++◌, refl, arith}
use Rattle.mm_profile.specs.declared.kinds.Symmetry.{Symmetry}
use Rattle.mm_profile.specs.declared.kinds.Symmetry.TheVariants.{General, Symmetric, Skew}
use Rattle.mm_profile.specs.declared.sizes.Head.{Head}
use Rattle.mm_profile.specs.Places.{At, first_row, column_from, columns}

-- a place and those below it
pub column_step : (rows row col : ℕ) → row < rows → column_from rows row col ≡ At row col ∷ column_from rows (row + 1) col
column_step rows row col below = let more : rows - row ≡ suc (rows - (row + 1)) = omega arith in rw more refl

-- no place is below the last row
pub column_none : (rows row col : ℕ) → rows ≤ row → column_from rows row col ≡ []
column_none rows row col above = let none : rows - row ≡ 0 = omega arith in rw none refl

-- a column and those after it
pub columns_step : (head : Head) (col : ℕ) → col < head.cols → columns head col (head.cols - col) ≡ column_from head.rows (first_row head.kind.symmetry col) col ++ columns head (col + 1) (head.cols - (col + 1))
columns_step head col below = let more : head.cols - col ≡ suc (head.cols - (col + 1)) = omega arith in rw more refl

first_rows_rise : (symmetry : Symmetry) (col : ℕ) → first_row symmetry col ≤ first_row symmetry (col + 1)
first_rows_rise General col = omega arith
first_rows_rise Symmetric col = omega arith
first_rows_rise Skew col = omega arith

-- first rows never fall, so where a column lists no place, no later one does
pub columns_none : (head : Head) (col count : ℕ) → head.rows ≤ first_row head.kind.symmetry col → columns head col count ≡ []
columns_none head col zero above = refl
columns_none head col (suc count) above =
    let rise = first_rows_rise head.kind.symmetry col in
    rw (column_none head.rows (first_row head.kind.symmetry col) col above) (columns_none head (col + 1) count (omega (arith, rise, above)))
