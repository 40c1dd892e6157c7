use Rattle.std.proofs.Common.{◌-◌, ◌≡◌, ap, ◌∙◌, arith}
use Rattle.std.specs.List.{slice_get}
use Rattle.stores_flat.specs.Lists.{index_list}
use Rattle.stores_flat.proofs.ListLemmas.{length-places, place_at, places}
use Rattle.stores_flat.proofs.list.ListStoreAccess.entry.Goals as goal

pub at-requires : goal.at-requires
at-requires c = omega (arith, length-places (index_list c.args.self.now.indices))

pub returns : goal.returns
returns c =
    let here : c.args.place - c.args.from ≡ c.args.place = omega arith in
    ap (slice_get (places (index_list c.args.self.now.indices))) here
    ∙ place_at (index_list c.args.self.now.indices) c.args.place c.at.result (omega arith) c.at.ensures
