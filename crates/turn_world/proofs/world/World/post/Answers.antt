use Rattle.std.proofs.Common.{◌≡◌, ◌<◌, [], Some, length, set, slice_get, ap, ◌∙◌}
use Rattle.rank_scripts.specs.Acts.{at_post}
use Rattle.turn_world.specs.Worlds.{node_in}
use Rattle.turn_world.proofs.WorldLemmas as l
use Rattle.turn_world.proofs.world.World.post.Goals as goal

pub post_letter-done-requires : goal.post_letter-done-requires
post_letter-done-requires g c =
    let r = c.args.rank in
    let nodes = c.args.self.now.nodes in
    let is = c.requires.1.0 in
    let rank = l.enabled_rank g.run.ranks r (at_post (node_in g.run c.args.self.now.nodes c.args.rank).todo) c.requires.1.1 in
    let items : c.into_vec-nodes.result.items ≡ nodes = c.into_vec-nodes.ensures ∙ c.replace.ensures.value in
    let at : slice_get nodes r ≡ Some c.index_mut.result.now = l.lent_node g.P.Part.stands g.run nodes c.into_vec-nodes.result.items c.args.self.now.boxes r c.index_mut.result.now is items rank.0 c.index_mut.ensures.value in
    let row : r < length c.args.self.now.boxes = rw is.rows rank.0 in
    λ κs within. (within, (is.nodes_are r c.index_mut.result.now at, (l.todo_at g.run nodes r c.index_mut.result.now at_post at rank.1, (row, λ to below. rw (is.row r [] row) below))))

pub returns-clause-ok : goal.returns-clause-ok
returns-clause-ok g c =
    let r = c.args.rank in
    let nodes = c.args.self.now.nodes in
    let is = c.requires.1.0 in
    let rank = l.enabled_rank g.run.ranks r (at_post (node_in g.run c.args.self.now.nodes c.args.rank).todo) c.requires.1.1 in
    let items : c.into_vec-nodes.result.items ≡ nodes = c.into_vec-nodes.ensures ∙ c.replace.ensures.value in
    let at : slice_get nodes r ≡ Some c.index_mut.result.now = l.lent_node g.P.Part.stands g.run nodes c.into_vec-nodes.result.items c.args.self.now.boxes r c.index_mut.result.now is items rank.0 c.index_mut.ensures.value in
    let nodes_are : c.from_vec.result ≡ set nodes r c.post_letter-done.new.node = c.from_vec.ensures ∙ ap (λ xs. set xs r c.post_letter-done.new.node) items in
    l.ok_two c.post_letter-done.result _ _ _ c.post_letter-done.ensures.node c.post_letter-done.ensures.boxes
    (λ has put_in. l.posts_done g.P.Part.stands g.run nodes c.from_vec.result c.args.self.now.boxes c.post_letter-done.new.boxes r c.index_mut.result.now c.post_letter-done.new.node is c.requires.1.1 at nodes_are has put_in)

pub returns-clause-allowance : goal.returns-clause-allowance
returns-clause-allowance g c =
    let r = c.args.rank in
    let nodes = c.args.self.now.nodes in
    let is = c.requires.1.0 in
    let rank = l.enabled_rank g.run.ranks r (at_post (node_in g.run c.args.self.now.nodes c.args.rank).todo) c.requires.1.1 in
    let items : c.into_vec-nodes.result.items ≡ nodes = c.into_vec-nodes.ensures ∙ c.replace.ensures.value in
    let at : slice_get nodes r ≡ Some c.index_mut.result.now = l.lent_node g.P.Part.stands g.run nodes c.into_vec-nodes.result.items c.args.self.now.boxes r c.index_mut.result.now is items rank.0 c.index_mut.ensures.value in
    let nodes_are : c.from_vec.result ≡ set nodes r c.post_letter-done.new.node = c.from_vec.ensures ∙ ap (λ xs. set xs r c.post_letter-done.new.node) items in
    l.ok_then c.post_letter-done.result _ _ c.post_letter-done.ensures.allowance
    (λ kept. l.steps_same g.run nodes c.from_vec.result r c.index_mut.result.now c.post_letter-done.new.node at nodes_are kept)
