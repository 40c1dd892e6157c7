use Rattle.std.proofs.Common.{arith}
use Rattle.stores_flat.specs.Lists.{index_list}
use Rattle.stores_flat.proofs.ListLemmas.{length-places, place_at}
use Rattle.stores_flat.proofs.list.ListStoreAccess.at.Goals as goal

pub at-requires : goal.at-requires
at-requires c = omega (arith, length-places (index_list c.args.self.now.indices))

pub returns : goal.returns
returns c = place_at (index_list c.args.self.now.indices) c.args.k c.at.result c.requires.within c.at.ensures
