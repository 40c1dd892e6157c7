use Rattle.std.proofs.Common.{◌∙◌, sym}
use Rattle.stores_flat.specs.Lists.{index_list}
use Rattle.stores_flat.proofs.ListLemmas.{length-places}
use Rattle.stores_flat.proofs.list.ListStoreAccess.count.Goals as goal

pub returns : goal.returns
returns c = c.len.ensures ∙ sym c.args.self.now.full ∙ sym (length-places (index_list c.args.self.now.indices))
