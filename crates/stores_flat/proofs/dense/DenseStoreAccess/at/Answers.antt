use Rattle.std.proofs.Common.{◌+◌, ◌*◌, ap, arith}
use Rattle.stores_flat.specs.Dense.{level_extent}
use Rattle.stores_flat.proofs.DenseLemmas.{dense_child, length-dense_children, stretch_fits}
use Rattle.stores_flat.proofs.dense.DenseStoreAccess.at.Goals as goal

pub overflow_add-result : goal.overflow_add-result
overflow_add-result c =
    let s = c.args.self.now in
    let fits = stretch_fits s.layout s.lines s.width c.args.level c.args.parent c.requires.parent.0 c.requires.parent.1 s.lines_fit s.few in
    let product = ap (λ extent. c.args.parent * extent) c.extent.ensures in
    omega (arith, fits, product, length-dense_children (level_extent s.lines s.width c.args.level) c.args.parent)

pub returns : goal.returns
returns c =
    let s = c.args.self.now in
    dense_child (level_extent s.lines s.width c.args.level) c.args.parent c.args.k (c.args.parent * c.extent.result + c.args.k) c.requires.within
    (ap (λ extent. c.args.parent * extent + c.args.k) c.extent.ensures)
