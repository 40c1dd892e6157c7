use Rattle.std.proofs.Common.{◌∙◌, sym, arith}
use Rattle.stores_flat.specs.Lists.{index_list, list_axis}
use Rattle.stores_flat.proofs.ListLemmas.{list_weight, place_found, place_none}
use Rattle.stores_flat.proofs.list.ListStoreAccess.find.Goals as goal

pub returns-then-at-index-clause-found : goal.returns-then-at-index-clause-found
returns-then-at-index-clause-found g c =
    sym (place_found (index_list c.args.self.now.indices) c.loop-place.place c.args.index (omega (arith, c.args.self.now.full)) (sym c.at.ensures ∙ c.if-at-index.true) c.loop-place.invariant.others)

pub returns-then-at-index-clause-cost : goal.returns-then-at-index-clause-cost
returns-then-at-index-clause-cost g c =
    omega (arith, list_weight (list_axis c.args.self.now.indices) c.args.level (index_list c.args.self.now.indices), c.args.self.now.full)

pub returns-clause-found : goal.returns-clause-found
returns-clause-found g c =
    sym (place_none (index_list c.args.self.now.indices) c.args.index (λ j below. c.loop-place.invariant.others j (omega (arith, c.args.self.now.full))))

pub returns-clause-cost : goal.returns-clause-cost
returns-clause-cost g c =
    omega (arith, list_weight (list_axis c.args.self.now.indices) c.args.level (index_list c.args.self.now.indices), c.args.self.now.full)
