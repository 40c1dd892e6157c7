use Rattle.rank_node.specs.declared.stage.Stage.TheVariants.{Done}
use Rattle.rank_node.proofs.WorkLemmas.{outer_leaves, work_moves}
use Rattle.rank_node.proofs.node.Node.sum_outer.Goals as goal

pub returns-clause-ok : goal.returns-clause-ok
returns-clause-ok g c =
    let n = c.args.self.now in
    rw c.set.ensures (work_moves g.run n _ n.asks n.sums Done Done c.requires.0 (outer_leaves g.run n c.in-Ok.values c.requires.0 c.requires.1 c.in-Ok.ensures))
