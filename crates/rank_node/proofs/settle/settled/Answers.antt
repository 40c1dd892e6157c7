use Rattle.std.proofs.Common.{sym, subst}
use Rattle.rank_node.specs.declared.stage.Stage.{Stage}
use Rattle.rank_node.specs.Positions.{GoesTo}
use Rattle.rank_node.specs.Waits.{letters_from}
use Rattle.rank_node.proofs.settle.settled.Goals as goal

pub returns-in-AwaitRequests : goal.returns-in-AwaitRequests
returns-in-AwaitRequests g c =
    let P : Stage → Type 0 = λ stage. GoesTo g.run c.args.rank (letters_from c.args.given.now) stage c.at_request_wait.result in
    subst P (sym c.in-AwaitRequests.is) c.at_request_wait.ensures

pub returns-in-AwaitValues : goal.returns-in-AwaitValues
returns-in-AwaitValues g c =
    let P : Stage → Type 0 = λ stage. GoesTo g.run c.args.rank (letters_from c.args.given.now) stage c.at_values_wait.result in
    subst P (sym c.in-AwaitValues.is) c.at_values_wait.ensures
