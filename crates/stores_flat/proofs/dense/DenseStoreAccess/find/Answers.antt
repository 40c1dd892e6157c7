use Rattle.std.proofs.Common.{◌+◌, ◌*◌, ap, sym, arith}
use Rattle.stores_flat.specs.Dense.{level_extent}
use Rattle.stores_flat.proofs.DenseLemmas.{dense_found, dense_none}
use Rattle.stores_flat.proofs.dense.DenseStoreAccess.find.Goals as goal

pub returns-then-index-extent-clause-found : goal.returns-then-index-extent-clause-found
returns-then-index-extent-clause-found g c =
    let s = c.args.self.now in
    dense_found (level_extent s.lines s.width c.args.level) c.args.parent c.args.index (c.args.parent * c.extent-extent.result + c.args.index) (omega arith)
    (ap (λ extent. c.args.parent * extent + c.args.index) c.extent-extent.ensures)

pub returns-else-index-extent-clause-found : goal.returns-else-index-extent-clause-found
returns-else-index-extent-clause-found g c =
    let s = c.args.self.now in sym (dense_none (level_extent s.lines s.width c.args.level) c.args.parent c.args.index (omega arith))
