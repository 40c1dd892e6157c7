use Rattle.std.proofs.Common.{◌-◌, arith}
use Rattle.stores_flat.specs.Dense.{level_extent}
use Rattle.stores_flat.proofs.DenseLemmas.{dense_child}
use Rattle.stores_flat.proofs.dense.DenseStoreAccess.entry.Goals as goal

pub returns : goal.returns
returns c =
    let s = c.args.self.now in
    dense_child (level_extent s.lines s.width c.args.level) c.args.parent (c.args.place - c.args.from) c.args.place (omega arith) (omega arith)
