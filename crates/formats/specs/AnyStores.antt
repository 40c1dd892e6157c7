-- Any store, by what it is to those who walk and search it.
use Rattle.std.specs.Prelude.{Option, Some, None}
use Rattle.format_model.specs.Grids.{Grid, Lists}
use Rattle.format_model.specs.Trees.{IsTree, Tree}
use Rattle.formats.specs.declared.any_store.AnyStore.{AnyStore}
use Rattle.formats.specs.declared.any_store.AnyStore.TheVariants.{Dense, Diagonal, Jagged, List, Packed, Permuted}
use Rattle.stores_flat.specs.Dense.{dense_grid, dense_tree}
use Rattle.stores_flat.specs.DenseLaws.{dense_is_tree, dense_lists}
use Rattle.stores_flat.specs.ListLaws.{list_is_tree}
use Rattle.stores_flat.specs.Lists.{index_list, list_axis, list_tree}
use Rattle.stores_packed.specs.Packed.{packed_tree}
use Rattle.stores_packed.specs.PackedLaws.{packed_is_tree}
use Rattle.stores_shaped.specs.DiagonalLaws.{diagonal_is_tree}
use Rattle.stores_shaped.specs.Diagonals.{diagonal_tree}
use Rattle.stores_shaped.specs.Jagged.{jagged_tree}
use Rattle.stores_shaped.specs.JaggedLaws.{jagged_is_tree}
use Rattle.stores_shaped.specs.Permuted.{permuted_tree}
use Rattle.stores_shaped.specs.PermutedLaws.{permuted_is_tree}

abbrev pub any_tree : AnyStore → Tree
any_tree (Dense s) = dense_tree s.layout s.lines s.width s.values
any_tree (List s) = list_tree (list_axis s.indices) (index_list s.indices) s.values
any_tree (Packed s) = packed_tree s.form s.outers.items s.starts.items s.indices.items s.values.items
any_tree (Jagged s) = jagged_tree s.order s.counts.items s.starts.items s.indices.items s.values.items
any_tree (Diagonal s) = diagonal_tree s.offsets s.globals s.firsts.items s.starts.items s.values.items
any_tree (Permuted s) = permuted_tree (packed_tree s.inner.form s.inner.outers.items s.inner.starts.items s.inner.indices.items s.inner.values.items) s.order

pub any_is_tree : (s : AnyStore) → IsTree (any_tree s)
any_is_tree (Dense s) = dense_is_tree s.layout s.lines s.width s.values s.lines_fit s.width_fits
any_is_tree (List s) = list_is_tree (list_axis s.indices) (index_list s.indices) s.values s.apart s.small
any_is_tree (Packed s) = packed_is_tree s.form s.outers.items s.starts.items s.indices.items s.values.items s.packed
any_is_tree (Jagged s) = jagged_is_tree s.order s.inverse s.counts.items s.starts.items s.indices.items s.values.items s.jagged
any_is_tree (Diagonal s) = diagonal_is_tree s.cols s.offsets s.globals s.firsts.items s.starts.items s.values.items s.diagonal
any_is_tree (Permuted s) =
    permuted_is_tree (packed_tree s.inner.form s.inner.outers.items s.inner.starts.items s.inner.indices.items s.inner.values.items) s.order s.inverse
    (packed_is_tree s.inner.form s.inner.outers.items s.inner.starts.items s.inner.indices.items s.inner.values.items s.inner.packed) s.dense s.undo

-- a dense store is kept whole
abbrev pub any_grid : AnyStore → Option Grid
any_grid (Dense s) = Some (dense_grid s.layout s.lines s.width s.values)
any_grid other = None

pub any_lists : (s : AnyStore) → Lists (any_tree s) (any_grid s)
any_lists (Dense s) = dense_lists s.layout s.lines s.width s.values s.single
any_lists (List s) = tt
any_lists (Packed s) = tt
any_lists (Jagged s) = tt
any_lists (Diagonal s) = tt
any_lists (Permuted s) = tt
