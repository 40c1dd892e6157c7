use Rattle.std.proofs.Common.{inl, inr}
use Rattle.rank_node.proofs.WorkLemmas.{works_at}
use Rattle.rank_node.proofs.node.Node.work.Goals as goal

pub unreachable-requires : goal.unreachable-requires
unreachable-requires g c =
    elim (works_at g.run c.args.self.now.rank c.args.self.now.stage c.requires.0.letter c.requires.1) [
      | inl at ↦ c.in_default.not-Inspect at
      | inr (inl at) ↦ c.in_default.not-Inner at
      | inr (inr at) ↦ c.in_default.not-Outer at
    ]
