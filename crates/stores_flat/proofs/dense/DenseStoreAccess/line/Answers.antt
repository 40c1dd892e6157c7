use Rattle.std.proofs.Common.{arith}
use Rattle.stores_flat.specs.Dense.{level_extent}
use Rattle.stores_flat.proofs.DenseLemmas.{length-dense_children}
use Rattle.stores_flat.proofs.dense.DenseStoreAccess.line.Goals as goal

pub returns-clause-to : goal.returns-clause-to
returns-clause-to c =
    let s = c.args.self.now in omega (arith, length-dense_children (level_extent s.lines s.width c.args.level) c.args.parent)
