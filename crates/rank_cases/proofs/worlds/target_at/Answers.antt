use Rattle.std.proofs.Common.{◌≡◌, Some, slice_get, lit<, refl, sym, ap, ◌∙◌}
use Rattle.rank_node.specs.declared.node.Node.{Node}
use Rattle.std.specs.Prelude.{List}
use Rattle.rank_cases.proofs.worlds.target_at.Goals as goal

pub owned_values-requires : goal.owned_values-requires
owned_values-requires c =
    let at : slice_get c.args.world.now.nodes c.args.rank ≡ Some c.at-node.result.now = ap (λ (nodes : List Node). slice_get nodes c.args.rank) (sym c.nodes.ensures) ∙ c.at-node.ensures in
    ((c.requires.world.nodes_are c.args.rank c.at-node.result.now at).node, (lit< tt, refl))
