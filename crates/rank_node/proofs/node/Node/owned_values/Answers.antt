use Rattle.std.proofs.Common.{[], sym, ◌∙◌}
use Rattle.std.proofs.lemmas.Option.{get_or_from_slice_get}
use Rattle.rank_node.proofs.WorkLemmas.{held_before, held_at_end}
use Rattle.rank_node.proofs.node.Node.owned_values.Goals as goal

pub returns-clause-before : goal.returns-clause-before
returns-clause-before g c = λ at.
    sym (get_or_from_slice_get c.args.self.now.values c.args.array c.at.result.now [] c.at.ensures) ∙ held_before g.run c.args.self.now c.args.array c.requires.0 c.requires.1.1 at

pub returns-clause-end : goal.returns-clause-end
returns-clause-end g c = λ at.
    sym (get_or_from_slice_get c.args.self.now.values c.args.array c.at.result.now [] c.at.ensures) ∙ held_at_end g.run c.args.self.now c.args.array c.requires.0 c.requires.1.1 at
