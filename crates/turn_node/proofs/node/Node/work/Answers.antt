use Rattle.turn_node.proofs.PositionLemmas.{Inspects, Sums, Applies, works_at}
use Rattle.turn_node.proofs.node.Node.work.Goals as goal

pub unreachable-requires : goal.unreachable-requires
unreachable-requires g c =
    elim (works_at g.run c.args.self.now.progress.rank c.args.self.now.progress.stage c.requires.1.1.0.progress.stage c.requires.1.1.1) [
      | Inspects e ↦ c.in_default.not-Inspect e
      | Sums turn e ↦ c.in_default.not-Inner turn e
      | Applies turn e ↦ c.in_default.not-Outer turn e
    ]
