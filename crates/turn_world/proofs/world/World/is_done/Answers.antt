use Rattle.std.proofs.Common.{sym, ap, ◌∙◌}
use Rattle.rank_scripts.specs.Acts.{at_end}
use Rattle.rank_scripts.specs.Nodes as scripted
use Rattle.bern_base.specs.declared.letter.Letter.{Letter}
use Rattle.turn_node.specs.NodeStates.{rank_in}
use Rattle.turn_world.specs.Worlds.{node_or, is_end}
use Rattle.turn_world.proofs.WorldLemmas.{is_end-want}
use Rattle.turn_world.proofs.world.World.is_done.Goals as goal

pub want-requires : goal.want-requires
want-requires g c = λ κs within. (within, (c.requires.1.0.nodes_are c.args.rank c.at.result.now c.at.ensures).node)

pub returns : goal.returns
returns g c =
    c.is_end.ensures ∙ ap is_end c.want.ensures ∙ is_end-want (rank_in g.run c.at.result.now).todo ∙ ap (λ (m : scripted.Node Letter). at_end m.todo) (sym (ap (node_or g.run c.args.rank) c.at.ensures))
