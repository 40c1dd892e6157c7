use Rattle.std.proofs.Common.{sym, ap, subst}
use Rattle.turn_node.specs.declared.stage.Stage.{Stage}
use Rattle.turn_node.specs.Positions.{is_inspected, passed_of, turn_of, GoesTo, IsComing}
use Rattle.turn_node.specs.Progresses.{given_of, HasMailAt}
use Rattle.rank_scripts.specs.Nodes.{HasAllBefore}
use Rattle.turn_model.specs.Runs.{scripts}
use Rattle.turn_node.proofs.progress.Progress.settled.Goals as goal

pub at_values_wait-requires : goal.at_values_wait-requires
at_values_wait-requires g c =
    let n = c.args.self.now in
    let P : Stage → Type 0 = λ s. HasAllBefore (scripts g.run) n.rank (given_of g.run n) (passed_of g.run s) in
    (subst (λ (s : Stage). HasMailAt g.run n (turn_of g.run s)) c.in-AwaitValues.is c.requires.0, (c.requires.1.0 (ap is_inspected c.in-AwaitValues.is), (subst (IsComing g.run) c.in-AwaitValues.is c.requires.1.1.0, subst P c.in-AwaitValues.is c.requires.1.1.1)))

pub returns-in-AwaitRequests : goal.returns-in-AwaitRequests
returns-in-AwaitRequests g c =
    subst (λ (s : Stage). GoesTo g.run c.args.self.now.rank (given_of g.run c.args.self.now) s c.at_request_wait.result) (sym c.in-AwaitRequests.is) c.at_request_wait.ensures

pub returns-in-AwaitValues : goal.returns-in-AwaitValues
returns-in-AwaitValues g c =
    subst (λ (s : Stage). GoesTo g.run c.args.self.now.rank (given_of g.run c.args.self.now) s c.at_values_wait.result) (sym c.in-AwaitValues.is) c.at_values_wait.ensures
