use Rattle.std.proofs.Common.{arith}
use Rattle.stores_flat.specs.Lists.{index_list}
use Rattle.stores_flat.proofs.ListLemmas.{length-places}
use Rattle.stores_flat.proofs.list.ListStoreAccess.line.Goals as goal

pub returns-clause-to : goal.returns-clause-to
returns-clause-to c = omega (arith, length-places (index_list c.args.self.now.indices), c.args.self.now.full)
