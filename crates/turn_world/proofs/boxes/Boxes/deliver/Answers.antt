use Rattle.std.proofs.Common.{◌≡◌, ◌<◌, [], OnOk, length, take, get_or, sym, ap, ◌∙◌, subst}
use Rattle.std.proofs.lemmas.List.{get_or_read}
use Rattle.turn_node.specs.NodeStates.{CanTake, HasTaken}
use Rattle.turn_world.proofs.boxes.Boxes.deliver.Goals as goal

pub deliver-requires : goal.deliver-requires
deliver-requires g c =
    let read = c.index_mut-row.ensures.value ∙ ap (λ xs. get_or xs c.args.from c.index_mut-row.result.now) c.self.view_is in
    let old : c.index_mut-row.result.now ≡ get_or c.args.self.now c.args.from [] = get_or_read c.args.self.now c.args.from c.index_mut-row.result.now c.requires.1.0 read [] in
    λ κs within. (within, (subst (λ row. c.args.rank < length row) (sym old) c.requires.1.1.0, subst (λ row. CanTake g.P.Part.stands g.run c.args.from (get_or row c.args.rank []) c.args.node.now) (sym old) c.requires.1.1.1))

pub returns-clause-node : goal.returns-clause-node
returns-clause-node g c =
    let read = c.index_mut-row.ensures.value ∙ ap (λ xs. get_or xs c.args.from c.index_mut-row.result.now) c.self.view_is in
    let old : c.index_mut-row.result.now ≡ get_or c.args.self.now c.args.from [] = get_or_read c.args.self.now c.args.from c.index_mut-row.result.now c.requires.1.0 read [] in
    subst (λ row. OnOk c.deliver.result (HasTaken g.P.Part.stands g.run c.args.from (take 1 (get_or row c.args.rank [])) c.args.node.now c.deliver.new.node)) old c.deliver.ensures.node
