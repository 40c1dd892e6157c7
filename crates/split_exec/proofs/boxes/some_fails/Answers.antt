use Rattle.job_model.specs.Points.{holds}
use Rattle.split_exec.proofs.ViewLemmas.{all_fails, all_more}
use Rattle.split_exec.proofs.boxes.some_fails.Goals as goal

pub returns-then-fails-clause-some : goal.returns-then-fails-clause-some
returns-then-fails-clause-some c is x alike = all_fails (holds x) c.args.guards.now c.guards.at c.at.result.now c.at.ensures (c.fails.ensures.some c.if-fails.true x alike)

pub guards-preserved : goal.guards-preserved
guards-preserved c deep = all_more (holds c.args.point.now) c.args.guards.now c.guards.at c.at.result.now c.at.ensures (c.guards.invariant deep) (c.fails.ensures.none c.if-fails.false deep)
