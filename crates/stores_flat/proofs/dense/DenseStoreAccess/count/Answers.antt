use Rattle.std.proofs.Common.{◌∙◌, sym}
use Rattle.stores_flat.specs.Dense.{level_extent}
use Rattle.stores_flat.proofs.DenseLemmas.{length-dense_children}
use Rattle.stores_flat.proofs.dense.DenseStoreAccess.count.Goals as goal

pub returns : goal.returns
returns c =
    c.extent.ensures ∙ sym (length-dense_children (level_extent c.args.self.now.lines c.args.self.now.width c.args.level) c.args.parent)
