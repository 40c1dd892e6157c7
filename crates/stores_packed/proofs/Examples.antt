-- The arrays of a small matrix in each format, and what they list: 5 at (0, 1), 7 at (2, 0) and 8 at (2, 1).
use Rattle.std.proofs.Common.{◌≡◌, ℕ, List, [], ◌∷◌, refl}
use Rattle.bern_base.specs.declared.axes.Axis.TheVariants as axis
use Rattle.bern_base.specs.declared.matrix.Matrix.{Matrix}
use Rattle.bern_base.specs.declared.shape.Shape.TheVariants as shape
use Rattle.format_model.specs.Content.{One, Two, content_of}
use Rattle.format_model.specs.Trees.{content}
use Rattle.stores_packed.specs.declared.form.Form.TheVariants as form
use Rattle.stores_packed.specs.Lines.{before}
use Rattle.stores_packed.specs.Packed.{packed_tree}

abbrev pub small : Matrix
small = record {
  rows = 3;
  cols = 3;
  entries = record { row = 0; col = 1; value = 5 } ∷ record { row = 2; col = 0; value = 7 } ∷ record { row = 2; col = 1; value = 8 } ∷ [];
}

abbrev pub rows_listed : List (ℕ × List (ℕ × ℕ))
rows_listed = (0, (1, 5) ∷ []) ∷ (1, []) ∷ (2, (0, 7) ∷ (1, 8) ∷ []) ∷ []

by_rows : content (packed_tree (form.DensePacked axis.Row 3) [] (0 ∷ 1 ∷ 1 ∷ 3 ∷ []) (1 ∷ 0 ∷ 1 ∷ []) (5 ∷ 7 ∷ 8 ∷ [])) ≡ Two rows_listed
by_rows = refl

by_rows_of_it : content_of (shape.DensePacked axis.Row) [] [] small ≡ Two rows_listed
by_rows_of_it = refl

by_columns : content (packed_tree (form.DensePacked axis.Col 3) [] (0 ∷ 1 ∷ 3 ∷ 3 ∷ []) (2 ∷ 0 ∷ 2 ∷ []) (7 ∷ 5 ∷ 8 ∷ [])) ≡ content_of (shape.DensePacked axis.Col) [] [] small
by_columns = refl

kept_rows : content (packed_tree (form.PackedPacked axis.Row) (0 ∷ 2 ∷ []) (0 ∷ 1 ∷ 3 ∷ []) (1 ∷ 0 ∷ 1 ∷ []) (5 ∷ 7 ∷ 8 ∷ [])) ≡ content_of (shape.PackedPacked axis.Row) [] [] small
kept_rows = refl

-- a row that is left out of the arrays is left out of what they list
kept_rows_listed : content (packed_tree (form.PackedPacked axis.Row) (0 ∷ 2 ∷ []) (0 ∷ 1 ∷ 3 ∷ []) (1 ∷ 0 ∷ 1 ∷ []) (5 ∷ 7 ∷ 8 ∷ [])) ≡ Two ((0, (1, 5) ∷ []) ∷ (2, (0, 7) ∷ (1, 8) ∷ []) ∷ [])
kept_rows_listed = refl

-- a vector with 4 in row 1 and 6 in row 3
a_vector : content (packed_tree form.PackedOne (1 ∷ 3 ∷ []) [] [] (4 ∷ 6 ∷ [])) ≡ One ((1, 4) ∷ (3, 6) ∷ [])
a_vector = refl

-- the lines of the columns begin at 0, 1 and 3, and end at 3
columns_begin : before axis.Col 3 (record { row = 0; col = 1; value = 5 } ∷ record { row = 2; col = 0; value = 7 } ∷ record { row = 2; col = 1; value = 8 } ∷ []) 2 ≡ 3
columns_begin = refl
