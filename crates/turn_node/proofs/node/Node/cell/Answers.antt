use Rattle.std.proofs.Common.{ap, ◌∙◌}
use Rattle.std.specs.Prelude.{slice_index}
use Rattle.turn_model.specs.Runs.{part_values}
use Rattle.turn_node.specs.Positions.{phase_of}
use Rattle.turn_node.specs.Progresses.{at}
use Rattle.turn_node.proofs.PositionLemmas.{end_turn}
use Rattle.turn_node.proofs.node.Node.cell.Goals as goal

pub returns-clause-end : goal.returns-clause-end
returns-clause-end g c = λ ended.
    let n = c.args.self.now in
    let is = c.requires.1.0 in
    c.cell.ensures (at g.run n.progress) (phase_of n.progress.stage) is.part c.requires.1.1 ∙
    ap (λ t. slice_index (part_values g.run t c.args.array n.progress.rank) c.args.element) (end_turn g.run n.progress.rank n.progress.stage is.progress.stage ended)
