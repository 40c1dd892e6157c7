use Rattle.turn_node.proofs.PositionLemmas.{end_turn}
use Rattle.turn_node.proofs.node.Node.part.Goals as goal

pub returns-clause-end : goal.returns-clause-end
returns-clause-end g c =
    end_turn g.run c.args.self.now.progress.rank c.args.self.now.progress.stage c.requires.1.progress.stage
