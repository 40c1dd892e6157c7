-- Estimates, weights and digits of small matrices, computed.
use Rattle.std.proofs.Common.{◌≡◌, ℕ, Bool, true, false, [], ◌∷◌, map, pos, negsuc, None, codes, refl}
use Rattle.bern_base.specs.declared.axes.Axis.{Axis}
use Rattle.bern_base.specs.declared.axes.Axis.TheVariants as axis
use Rattle.bern_base.specs.declared.job.ArrayDecl.{ArrayDecl}
use Rattle.bern_base.specs.declared.shape.Shape.TheVariants as shape
use Rattle.bern_base.specs.declared.stats.LevelStat.{LevelStat}
use Rattle.format_model.proofs.Examples.{matrix, vector, wide, nothing, tied, three_diagonals, banded}
use Rattle.format_model.specs.Estimates.{stats_of, rounded_up}
use Rattle.format_model.specs.Levels.{bits}
use Rattle.format_model.specs.Weights.{shape_weight}

abbrev pub stat : Axis → Bool → ℕ → ℕ → LevelStat
stat axis ordered estimate weight = record { axis = axis; ordered = ordered; estimate = estimate; weight = weight }

-- ---- digits and rounding

bits_of_0 : bits 0 ≡ 0
unfolding bits
bits_of_0 = refl

bits_of_1 : bits 1 ≡ 1
unfolding bits
bits_of_1 = refl

bits_of_4 : bits 4 ≡ 3
unfolding bits
bits_of_4 = refl

bits_of_7 : bits 7 ≡ 3
unfolding bits
bits_of_7 = refl

bits_of_8 : bits 8 ≡ 4
unfolding bits
bits_of_8 = refl

three_over_two : rounded_up 3 2 ≡ 2
three_over_two = refl

four_over_two : rounded_up 4 2 ≡ 2
four_over_two = refl

none_over_three : rounded_up 0 3 ≡ 0
none_over_three = refl

three_over_none : rounded_up 3 0 ≡ 0
three_over_none = refl

-- ---- what join orders are chosen by

dense_vector_stats : stats_of shape.DenseOne vector ≡ stat axis.Row true 4 1 ∷ []
dense_vector_stats = refl

packed_vector_stats : stats_of shape.PackedOne vector ≡ stat axis.Row true 2 2 ∷ []
unfolding bits
packed_vector_stats = refl

list_vector_stats : stats_of shape.ListOne vector ≡ stat axis.Row false 2 2 ∷ []
list_vector_stats = refl

coordinates_stats : stats_of shape.ListTwo matrix ≡ stat axis.Both false 3 3 ∷ []
coordinates_stats = refl

dense_rows_stats : stats_of (shape.DenseDense axis.Row) wide ≡ stat axis.Row true 2 1 ∷ stat axis.Col true 3 1 ∷ []
dense_rows_stats = refl

dense_cols_stats : stats_of (shape.DenseDense axis.Col) wide ≡ stat axis.Col true 3 1 ∷ stat axis.Row true 2 1 ∷ []
dense_cols_stats = refl

-- four entries over two lines are two a line; over three they are two as well, since a part counts whole
csr_stats : stats_of (shape.DensePacked axis.Row) wide ≡ stat axis.Row true 2 1 ∷ stat axis.Col true 2 2 ∷ []
unfolding bits
csr_stats = refl

csc_stats : stats_of (shape.DensePacked axis.Col) wide ≡ stat axis.Col true 3 1 ∷ stat axis.Row true 2 2 ∷ []
unfolding bits
csc_stats = refl

csr_of_matrix_stats : stats_of (shape.DensePacked axis.Row) matrix ≡ stat axis.Row true 3 1 ∷ stat axis.Col true 1 1 ∷ []
unfolding bits
csr_of_matrix_stats = refl

-- two lines have an entry, and three entries are spread over them
dcsr_stats : stats_of (shape.PackedPacked axis.Row) matrix ≡ stat axis.Row true 2 2 ∷ stat axis.Col true 2 2 ∷ []
unfolding bits
dcsr_stats = refl

dcsc_stats : stats_of (shape.PackedPacked axis.Col) matrix ≡ stat axis.Col true 2 2 ∷ stat axis.Row true 2 2 ∷ []
unfolding bits
dcsc_stats = refl

dcsr_of_nothing_stats : stats_of (shape.PackedPacked axis.Row) nothing ≡ stat axis.Row true 0 0 ∷ stat axis.Col true 0 0 ∷ []
unfolding bits
dcsr_of_nothing_stats = refl

jagged_stats : stats_of shape.Jagged tied ≡ stat axis.Row false 4 1 ∷ stat axis.Col true 1 1 ∷ []
unfolding bits
jagged_stats = refl

diagonal_stats : stats_of three_diagonals banded ≡ stat axis.Row true 3 1 ∷ stat axis.Col true 3 2 ∷ []
unfolding bits
diagonal_stats = refl

permuted_stats : stats_of (shape.Permute (codes "p")) matrix ≡ stat axis.Row false 3 1 ∷ stat axis.Col true 1 1 ∷ []
unfolding bits
permuted_stats = refl

-- ---- weights without entries, on four ranks

abbrev pub decl : Axis → ArrayDecl
decl axis = record { name = codes "A"; dims = 2; rows = 3; cols = 5; format = 0; axis = axis; place = 0; file = None }

weights_by_rows : map (λ s. shape_weight s 4 (decl axis.Row)) (shape.DenseDense axis.Col ∷ shape.DensePacked axis.Row ∷ shape.DensePacked axis.Col ∷ shape.PackedPacked axis.Row ∷ shape.ListTwo ∷ shape.Jagged ∷ []) ≡
    15 ∷ 3 ∷ 20 ∷ 0 ∷ 0 ∷ 3 ∷ []
weights_by_rows = refl

-- offset 2 crosses the rows 0 to 2, offset 4 row 0 alone, offset -2 row 2, and offset -3 none
weights_of_diagonals : map (λ offset. shape_weight (shape.Diagonal (offset ∷ [])) 4 (decl axis.Row)) (pos 2 ∷ pos 4 ∷ negsuc 1 ∷ negsuc 2 ∷ []) ≡ 3 ∷ 1 ∷ 1 ∷ 0 ∷ []
weights_of_diagonals = refl
