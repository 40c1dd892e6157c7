use Rattle.std.proofs.Common.{sym, ap, ◌∙◌}
use Rattle.rank_scripts.specs.Acts.{at_post}
use Rattle.turn_node.specs.NodeStates.{rank_in}
use Rattle.turn_world.specs.Worlds.{is_post}
use Rattle.turn_world.proofs.WorldLemmas.{is_post-want, test_there, test_past}
use Rattle.turn_world.proofs.world.World.wants_post.Goals as goal

pub want-requires : goal.want-requires
want-requires g c = λ κs within. (within, (c.requires.1.nodes_are c.args.rank c.in-Some.node.now (sym c.in-Some.ensures.value)).node)

pub returns-in-Some : goal.returns-in-Some
returns-in-Some g c =
    c.is_post.ensures ∙ ap is_post c.want.ensures ∙ is_post-want (rank_in g.run c.in-Some.node.now).todo ∙
    test_there g.run c.args.self.now.nodes c.args.rank c.in-Some.node.now at_post c.requires.1.count (sym c.in-Some.ensures.value)

pub returns-in-None : goal.returns-in-None
returns-in-None g c = test_past g.run c.args.self.now.nodes c.args.rank _ c.requires.1.count (sym c.in-None.ensures.value)
