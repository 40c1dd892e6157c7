use Rattle.std.proofs.Common.{◌≡◌, ℕ, ◌<◌, List, true, length, slice_get, ◌∙◌, sym, ap, subst}
use Rattle.rank_model.specs.Products.{end_state, part_values}
use Rattle.rank_node.specs.declared.node.Node.{Node}
use Rattle.rank_product.proofs.EndLemmas.{holds_end, owner_within, local_within, end_read_at}
use Rattle.rank_product.proofs.ranks.value_at.Goals as goal

pub at-node-requires : goal.at-node-requires
at-node-requires g c =
    let P : List Node → Type 0 = λ ns. c.owner.result < length ns in
    subst P (sym c.nodes.ensures)
    (owner_within g.run c.args.world.now.nodes c.args.world.now.boxes _ c.args.i c.owner.result c.requires.0 c.requires.1.1.1.0 c.requires.1.1.1.1 c.owner.ensures)

pub owned_values-held-requires : goal.owned_values-held-requires
owned_values-held-requires g c =
    let at = ap (λ (ns : List Node). slice_get ns c.owner.result) (sym c.nodes.ensures) ∙ c.at-node.ensures in
    let is = c.requires.0.run_is in
    let within : ℕ → Type 0 = λ t. t < length g.run.first in
    let whole : ℕ → Type 0 = λ t. g.run.dense t ≡ true in
    ((c.requires.0.nodes_are c.owner.result c.at-node.result.now at).node, (subst within (sym c.requires.1.1.0) is.target, subst whole (sym c.requires.1.1.0) is.target_dense))

pub at-requires : goal.at-requires
at-requires g c =
    let holds = holds_end g.run c.args.world.now.nodes c.nodes.result.now c.args.world.now.boxes _ c.args.i c.owner.result c.at-node.result.now c.owned_values-held.result.now
    c.requires.0 c.requires.1.0 c.requires.1.1.1.0 c.requires.1.1.1.1 c.owner.ensures c.nodes.ensures c.at-node.ensures
    (λ done. c.owned_values-held.ensures.end done ∙ ap (λ t. part_values g.run (end_state g.run) t c.at-node.result.now.rank) c.requires.1.1.0) in
    local_within g.run _ c.args.i c.local.result c.owned_values-held.result.now c.requires.0.run_is holds c.local.ensures

pub returns : goal.returns
returns g c =
    let holds = holds_end g.run c.args.world.now.nodes c.nodes.result.now c.args.world.now.boxes _ c.args.i c.owner.result c.at-node.result.now c.owned_values-held.result.now
    c.requires.0 c.requires.1.0 c.requires.1.1.1.0 c.requires.1.1.1.1 c.owner.ensures c.nodes.ensures c.at-node.ensures
    (λ done. c.owned_values-held.ensures.end done ∙ ap (λ t. part_values g.run (end_state g.run) t c.at-node.result.now.rank) c.requires.1.1.0) in
    end_read_at g.run _ c.args.i c.local.result c.at.result.now c.owned_values-held.result.now c.requires.0.run_is holds c.local.ensures c.at.ensures
