use Rattle.std.proofs.Common.{◌≡◌, ◌∙◌, ◌*◌, ℕ, Some, ap, refl, rules}
use Rattle.std.specs.Prelude.{replicate}
use Rattle.stores_flat.specs.Dense.{cols_of, dense_grid, grid_with, is_single, outer_of, rows_of}
use Rattle.stores_flat.proofs.DenseLemmas.{elements_zero}
use Rattle.stores_flat.proofs.dense.DenseStore.zeros.Goals as goal

pub returns : goal.returns
returns c =
    let l = c.of-layout.result in
    let lines : ℕ = c.extents-lines.result.0 in
    let width : ℕ = c.extents-lines.result.1 in
    let rows : ℕ = rows_of l lines width in
    let cols : ℕ = cols_of l lines width in
    let zeros : c.from_vec.result ≡ replicate (lines * width) 0 = search rules in
    let form : grid_with (is_single l) (outer_of l) rows cols (replicate (rows * cols) 0) ≡ grid_with c.args.single c.args.axis c.args.rows c.args.cols (replicate (c.args.rows * c.args.cols) 0) =
    rw (c.of-layout.ensures.single, c.of-layout.ensures.outer, c.extents-lines.ensures.rows, c.extents-lines.ensures.cols) refl in
    ap Some (ap (dense_grid l lines width) zeros ∙ ap (grid_with (is_single l) (outer_of l) rows cols) (elements_zero l lines width) ∙ form)
