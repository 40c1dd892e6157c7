use Rattle.std.proofs.Common.{sym, ap, ◌∙◌}
use Rattle.rank_scripts.specs.Acts.{at_work}
use Rattle.turn_node.specs.NodeStates.{rank_in}
use Rattle.turn_world.specs.Worlds.{is_work}
use Rattle.turn_world.proofs.WorldLemmas.{is_work-want, test_there, test_past}
use Rattle.turn_world.proofs.world.World.wants_work.Goals as goal

pub want-requires : goal.want-requires
want-requires g c = λ κs within. (within, (c.requires.1.nodes_are c.args.rank c.in-Some.node.now (sym c.in-Some.ensures.value)).node)

pub returns-in-Some : goal.returns-in-Some
returns-in-Some g c =
    c.is_work.ensures ∙ ap is_work c.want.ensures ∙ is_work-want (rank_in g.run c.in-Some.node.now).todo ∙
    test_there g.run c.args.self.now.nodes c.args.rank c.in-Some.node.now at_work c.requires.1.count (sym c.in-Some.ensures.value)

pub returns-in-None : goal.returns-in-None
returns-in-None g c = test_past g.run c.args.self.now.nodes c.args.rank _ c.requires.1.count (sym c.in-None.ensures.value)
