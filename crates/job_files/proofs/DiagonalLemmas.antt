-- How many elements a diagonal has.
use Rattle.std.proofs.Common.{◌≡◌, ℕ, zero, suc, ◌+◌, ◌-◌, ◌<◌, Bool, false, cond, min, max, nat_lt, ℤ, pos, negsuc, ◌+ℤ◌, ◌≤ℤ◌, ◌<ℤ◌, ap, ◌∙◌, refl, arith}
use Rattle.std.specs.Int.RustNames.{unsigned_abs}
use Rattle.std.specs.List.{count_by, range_with_len}
use Rattle.std.proofs.lemmas.Bool.Decides.{nat_tests}
use Rattle.std.proofs.lemmas.Int.{ints}
use Rattle.std.proofs.lemmas.List.Sums.{sum_by-cons}
use Rattle.format_model.specs.Weights.{is_column, diagonal_len}

-- one more number in front of a range
more : (low high a n : ℕ) → cond (cond (nat_lt a low) false (nat_lt a high)) 1 0 + (min (a + 1 + n) high - max (a + 1) low) ≡ min (a + suc n) high - max a low
more low high a n = grind (arith, nat_tests)

-- how many numbers of a range lie between two bounds
between : (p : ℕ → Bool) (low high : ℕ) → ((k : ℕ) → p k ≡ cond (nat_lt k low) false (nat_lt k high)) → (a n : ℕ) → count_by p (range_with_len a n) ≡ min (a + n) high - max a low
between p low high is a zero = omega arith
between p low high is a (suc n) =
    sum_by-cons (λ x. cond (p x) 1 0) a (range_with_len (a + 1) n)
    ∙ ap (λ s. cond (p a) 1 0 + s) (between p low high is (a + 1) n)
    ∙ ap (λ b. cond b 1 0 + (min (a + 1 + n) high - max (a + 1) low)) (is a)
    ∙ more low high a n

right : (cols d row : ℕ) → nat_lt (row + d) cols ≡ cond (nat_lt row 0) false (nat_lt row (cols - d))
right cols d row = grind (arith, nat_tests)

left_inside : (cols low row col : ℕ) → row ≡ col + (low + 1) → nat_lt col cols ≡ cond (nat_lt row (low + 1)) false (nat_lt row (cols + (low + 1)))
left_inside cols low row col at = grind (arith, nat_tests)

left_outside : (cols low row : ℕ) → row < low + 1 → false ≡ cond (nat_lt row (low + 1)) false (nat_lt row (cols + (low + 1)))
left_outside cols low row at = grind (arith, nat_tests)

left_at : (cols low row : ℕ) (column : ℤ) → column ≡ pos row +ℤ negsuc low → is_column cols column ≡ cond (nat_lt row (low + 1)) false (nat_lt row (cols + (low + 1)))
left_at cols low row (pos col) is = left_inside cols low row col (omega (arith, ints))
left_at cols low row (negsuc n) is = left_outside cols low row (omega (arith, ints))

pub diagonal_left : (rows cols : ℕ) (offset : ℤ) → offset <ℤ pos 0 → diagonal_len rows cols offset ≡ min (rows - unsigned_abs offset) cols
diagonal_left rows cols (pos n) below = absurd (omega (arith, ints))
diagonal_left rows cols (negsuc d) below =
    between (λ row. is_column cols (pos row +ℤ negsuc d)) (d + 1) (cols + (d + 1)) (λ row. left_at cols d row (pos row +ℤ negsuc d) refl) 0 rows ∙ omega arith

pub diagonal_right : (rows cols : ℕ) (offset : ℤ) → pos 0 ≤ℤ offset → diagonal_len rows cols offset ≡ min (cols - unsigned_abs offset) rows
diagonal_right rows cols (pos d) above =
    between (λ row. nat_lt (row + d) cols) 0 (cols - d) (λ row. right cols d row) 0 rows ∙ omega arith
diagonal_right rows cols (negsuc n) above = absurd (omega (arith, ints))
