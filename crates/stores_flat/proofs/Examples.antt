-- Worked examples: one part in each of the formats, and places in memory.
use Rattle.std.proofs.Common.{◌≡◌, true, false, Some, None, [], ◌∷◌, refl}
use Rattle.bern_base.specs.declared.axes.Axis.TheVariants as axis
use Rattle.bern_base.specs.declared.matrix.Matrix.{Matrix}
use Rattle.format_model.specs.Content.{One, Two, content_of}
use Rattle.format_model.specs.Trees.{child_at, content, weight_at}
use Rattle.stores_flat.specs.declared.layout.Layout.TheVariants as layout
use Rattle.stores_flat.specs.Dense.{dense_grid, dense_shape, dense_tree, grid_of}
use Rattle.stores_flat.specs.Lists.{flat_shape, list_tree}

-- 5 at (0, 1), 6 at (1, 0) and 7 at (1, 2) of two rows and three columns
part : Matrix
part = record {
  rows = 2;
  cols = 3;
  entries = record { row = 0; col = 1; value = 5 } ∷ record { row = 1; col = 0; value = 6 } ∷ record { row = 1; col = 2; value = 7 } ∷ [];
}

-- in memory row after row, and column after column
by_rows : dense_grid layout.RowMajor 2 3 (0 ∷ 5 ∷ 0 ∷ 6 ∷ 0 ∷ 7 ∷ []) ≡ grid_of false axis.Row part
unfolding part
by_rows = refl

by_cols : dense_grid layout.ColMajor 3 2 (0 ∷ 6 ∷ 5 ∷ 0 ∷ 0 ∷ 7 ∷ []) ≡ grid_of false axis.Col part
unfolding part
by_cols = refl

-- each element is listed, by columns with the rows below them
cols_listed : content (dense_tree layout.ColMajor 3 2 (0 ∷ 6 ∷ 5 ∷ 0 ∷ 0 ∷ 7 ∷ []))
    ≡ Two ((0, (0, 0) ∷ (1, 6) ∷ []) ∷ (1, (0, 5) ∷ (1, 0) ∷ []) ∷ (2, (0, 0) ∷ (1, 7) ∷ []) ∷ [])
cols_listed = refl

-- as the format asks
cols_described : content (dense_tree layout.ColMajor 3 2 (0 ∷ 6 ∷ 5 ∷ 0 ∷ 0 ∷ 7 ∷ [])) ≡ content_of (dense_shape false axis.Col) [] [] part
unfolding part
cols_described = refl

-- a list by element number has the entries alone; its last one is found in three steps, and no other index
numbers_described : content (list_tree axis.Both (1 ∷ 3 ∷ 5 ∷ []) (5 ∷ 6 ∷ 7 ∷ [])) ≡ content_of (flat_shape true) [] [] part
unfolding part
numbers_described = refl

numbers_listed : content (list_tree axis.Both (1 ∷ 3 ∷ 5 ∷ []) (5 ∷ 6 ∷ 7 ∷ [])) ≡ One ((1, 5) ∷ (3, 6) ∷ (5, 7) ∷ [])
numbers_listed = refl

last_found : child_at ((list_tree axis.Both (1 ∷ 3 ∷ 5 ∷ []) (5 ∷ 6 ∷ 7 ∷ [])).children 0 0) 5 ≡ Some 2
last_found = refl

none_found : child_at ((list_tree axis.Both (1 ∷ 3 ∷ 5 ∷ []) (5 ∷ 6 ∷ 7 ∷ [])).children 0 0) 4 ≡ None
none_found = refl

three_steps : weight_at (list_tree axis.Both (1 ∷ 3 ∷ 5 ∷ []) (5 ∷ 6 ∷ 7 ∷ [])) 0 0 ≡ 3
three_steps = refl
