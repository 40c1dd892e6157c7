use Rattle.std.proofs.Common.{◌≡◌, Some, set, slice_get, ap, ◌∙◌}
use Rattle.rank_scripts.specs.Acts.{at_work}
use Rattle.turn_world.specs.Worlds.{node_in}
use Rattle.turn_world.proofs.WorldLemmas as l
use Rattle.turn_world.proofs.world.World.work.Goals as goal

pub work-done-requires : goal.work-done-requires
work-done-requires g c =
    let r = c.args.rank in
    let nodes = c.args.self.now.nodes in
    let is = c.requires.1.1.0 in
    let rank = l.enabled_rank g.run.ranks r (at_work (node_in g.run c.args.self.now.nodes c.args.rank).todo) c.requires.1.1.1 in
    let items : c.into_vec-nodes.result.items ≡ nodes = c.into_vec-nodes.ensures ∙ c.replace.ensures.value in
    let at : slice_get nodes r ≡ Some c.index_mut.result.now = l.lent_node g.P.Part.stands g.run nodes c.into_vec-nodes.result.items c.args.self.now.boxes r c.index_mut.result.now is items rank.0 c.index_mut.ensures.value in
    λ κs within. (within.0, (within.1, ((is.nodes_are r c.index_mut.result.now at).node, l.todo_at g.run nodes r c.index_mut.result.now at_work at rank.1)))

pub returns-clause-ok : goal.returns-clause-ok
returns-clause-ok g c =
    let r = c.args.rank in
    let nodes = c.args.self.now.nodes in
    let is = c.requires.1.1.0 in
    let rank = l.enabled_rank g.run.ranks r (at_work (node_in g.run c.args.self.now.nodes c.args.rank).todo) c.requires.1.1.1 in
    let items : c.into_vec-nodes.result.items ≡ nodes = c.into_vec-nodes.ensures ∙ c.replace.ensures.value in
    let at : slice_get nodes r ≡ Some c.index_mut.result.now = l.lent_node g.P.Part.stands g.run nodes c.into_vec-nodes.result.items c.args.self.now.boxes r c.index_mut.result.now is items rank.0 c.index_mut.ensures.value in
    let nodes_are : c.from_vec.result ≡ set nodes r c.work-done.new.self = c.from_vec.ensures ∙ ap (λ xs. set xs r c.work-done.new.self) items in
    l.ok_then c.work-done.result _ _ c.work-done.ensures.ok
    (λ has. l.works_done g.P.Part.stands g.run nodes c.from_vec.result c.args.self.now.boxes r c.index_mut.result.now c.work-done.new.self is c.requires.1.1.1 at nodes_are has)

pub returns-clause-cost : goal.returns-clause-cost
returns-clause-cost g c =
    let r = c.args.rank in
    let nodes = c.args.self.now.nodes in
    let is = c.requires.1.1.0 in
    let rank = l.enabled_rank g.run.ranks r (at_work (node_in g.run c.args.self.now.nodes c.args.rank).todo) c.requires.1.1.1 in
    let items : c.into_vec-nodes.result.items ≡ nodes = c.into_vec-nodes.ensures ∙ c.replace.ensures.value in
    let at : slice_get nodes r ≡ Some c.index_mut.result.now = l.lent_node g.P.Part.stands g.run nodes c.into_vec-nodes.result.items c.args.self.now.boxes r c.index_mut.result.now is items rank.0 c.index_mut.ensures.value in
    let nodes_are : c.from_vec.result ≡ set nodes r c.work-done.new.self = c.from_vec.ensures ∙ ap (λ xs. set xs r c.work-done.new.self) items in
    l.ok_then c.work-done.result _ _ c.work-done.ensures.cost
    (λ spent. l.steps_spent g.run nodes c.from_vec.result r c.index_mut.result.now c.work-done.new.self c.args.steps.now c.work-done.new.steps at nodes_are spent)
