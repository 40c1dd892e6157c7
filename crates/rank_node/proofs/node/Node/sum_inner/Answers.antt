use Rattle.std.proofs.Common.{sym, ap, ◌∙◌, arith}
use Rattle.rank_node.specs.declared.stage.Stage.TheVariants.{AwaitValues}
use Rattle.rank_node.specs.Positions.{passed_of, is_inspected}
use Rattle.rank_node.proofs.WorkLemmas.{inner_leaves, work_moves}
use Rattle.rank_node.proofs.node.Node.sum_inner.Goals as goal

pub settled-self-requires : goal.settled-self-requires
settled-self-requires g c =
    let is = c.requires.0 in
    let passed = ap passed_of c.requires.1 in (
      record { rank = is.of_run.rank; ranks = is.of_run.ranks; long = is.boxes ∙ sym is.of_run.ranks; fronts = is.fronts },
      (λ e. is.asked (ap is_inspected c.requires.1), λ e. is.fit.past 0 (omega arith)),
    )

pub returns-clause-ok : goal.returns-clause-ok
returns-clause-ok g c =
    let n = c.args.self.now in
    let leaves = inner_leaves g.run n c.in-Ok.sums c.settled-self.result c.requires.0 c.requires.1 c.in-Ok.ensures c.settled-self.ensures in
    work_moves g.run n n.values n.asks c.in-Ok.sums AwaitValues c.settled-self.result c.requires.0 leaves
