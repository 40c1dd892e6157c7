use Rattle.std.proofs.Common.{◌≡◌, ◌<◌, ◌&&◌, [], Some, nat_lt, length, get_or, set, slice_get, ap, ◌∙◌}
use Rattle.rank_scripts.specs.Worlds.{has_some}
use Rattle.turn_world.specs.Worlds.{flight_in}
use Rattle.turn_world.proofs.WorldLemmas as l
use Rattle.turn_world.proofs.world.World.take.Goals as goal

pub deliver-done-requires : goal.deliver-done-requires
deliver-done-requires g c =
    let r = c.args.rank in
    let nodes = c.args.self.now.nodes in
    let is = c.requires.1.0 in
    let rank = l.enabled_rank g.run.ranks r (nat_lt c.args.from g.run.ranks && has_some (flight_in c.args.self.now.boxes c.args.from c.args.rank)) c.requires.1.1 in
    let items : c.into_vec-nodes.result.items ≡ nodes = c.into_vec-nodes.ensures ∙ c.replace.ensures.value in
    let at : slice_get nodes r ≡ Some c.index_mut.result.now = l.lent_node g.P.Part.stands g.run nodes c.into_vec-nodes.result.items c.args.self.now.boxes r c.index_mut.result.now is items rank.0 c.index_mut.ensures.value in
    let from = l.enabled_rank g.run.ranks c.args.from (has_some (flight_in c.args.self.now.boxes c.args.from r)) rank.1 in
    let row : c.args.from < length c.args.self.now.boxes = rw is.rows from.0 in
    let column : r < length (get_or c.args.self.now.boxes c.args.from []) = rw (is.row c.args.from [] row) rank.0 in λ κs within. (
      within,
      (
        row,
        (
          column,
          record {
            node = (is.nodes_are r c.index_mut.result.now at).node;
            from = from.0;
            some = l.some_in (flight_in c.args.self.now.boxes c.args.from r) from.1;
            next = λ letter first. l.next_taken g.P.Part.stands g.run nodes c.args.self.now.boxes r c.args.from c.index_mut.result.now letter is c.requires.1.1 at first;
          },
        ),
      ),
    )

pub returns-clause-ok : goal.returns-clause-ok
returns-clause-ok g c =
    let r = c.args.rank in
    let nodes = c.args.self.now.nodes in
    let is = c.requires.1.0 in
    let rank = l.enabled_rank g.run.ranks r (nat_lt c.args.from g.run.ranks && has_some (flight_in c.args.self.now.boxes c.args.from c.args.rank)) c.requires.1.1 in
    let items : c.into_vec-nodes.result.items ≡ nodes = c.into_vec-nodes.ensures ∙ c.replace.ensures.value in
    let at : slice_get nodes r ≡ Some c.index_mut.result.now = l.lent_node g.P.Part.stands g.run nodes c.into_vec-nodes.result.items c.args.self.now.boxes r c.index_mut.result.now is items rank.0 c.index_mut.ensures.value in
    let nodes_are : c.from_vec.result ≡ set nodes r c.deliver-done.new.node = c.from_vec.ensures ∙ ap (λ xs. set xs r c.deliver-done.new.node) items in
    let from_below = (l.enabled_rank g.run.ranks c.args.from (has_some (flight_in c.args.self.now.boxes c.args.from r)) rank.1).0 in
    l.ok_two c.deliver-done.result _ _ _ c.deliver-done.ensures.queue c.deliver-done.ensures.node
    (λ boxes_are has. l.takes_done_of g.P.Part.stands g.run nodes c.from_vec.result c.args.self.now.boxes c.deliver-done.new.self r c.args.from c.index_mut.result.now c.deliver-done.new.node is c.requires.1.1 at nodes_are has from_below boxes_are)

pub returns-clause-err : goal.returns-clause-err
returns-clause-err g c =
    let items : c.into_vec-nodes.result.items ≡ c.args.self.now.nodes = c.into_vec-nodes.ensures ∙ c.replace.ensures.value in
    l.err_two c.deliver-done.result _ _ _ c.deliver-done.ensures.kept c.deliver-done.ensures.err
    (λ kept same. l.world_kept c.args.self.now c.into_vec-nodes.result.items c.from_vec.result c.deliver-done.new.self c.args.rank c.index_mut.result.now c.deliver-done.new.node items c.index_mut.ensures.value c.from_vec.ensures kept same)

pub returns-clause-allowance : goal.returns-clause-allowance
returns-clause-allowance g c =
    let r = c.args.rank in
    let nodes = c.args.self.now.nodes in
    let is = c.requires.1.0 in
    let rank = l.enabled_rank g.run.ranks r (nat_lt c.args.from g.run.ranks && has_some (flight_in c.args.self.now.boxes c.args.from c.args.rank)) c.requires.1.1 in
    let items : c.into_vec-nodes.result.items ≡ nodes = c.into_vec-nodes.ensures ∙ c.replace.ensures.value in
    let at : slice_get nodes r ≡ Some c.index_mut.result.now = l.lent_node g.P.Part.stands g.run nodes c.into_vec-nodes.result.items c.args.self.now.boxes r c.index_mut.result.now is items rank.0 c.index_mut.ensures.value in
    let nodes_are : c.from_vec.result ≡ set nodes r c.deliver-done.new.node = c.from_vec.ensures ∙ ap (λ xs. set xs r c.deliver-done.new.node) items in
    l.ok_then c.deliver-done.result _ _ c.deliver-done.ensures.allowance
    (λ kept. l.steps_same g.run nodes c.from_vec.result r c.index_mut.result.now c.deliver-done.new.node at nodes_are kept)
