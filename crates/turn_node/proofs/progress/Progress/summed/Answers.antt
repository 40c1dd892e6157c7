use Rattle.std.proofs.Common.{ap, subst}
use Rattle.rank_scripts.specs.Nodes.{HasAllBefore}
use Rattle.turn_model.specs.Runs.{scripts}
use Rattle.turn_node.specs.declared.stage.Stage.{Stage}
use Rattle.turn_node.specs.Positions.{is_inspected, passed_of, turn_of, IsStage}
use Rattle.turn_node.specs.Progresses.{given_of, HasMailAt}
use Rattle.turn_node.proofs.ProgressLemmas.{summed_goes}
use Rattle.turn_node.proofs.progress.Progress.summed.Goals as goal

pub settled-self-requires : goal.settled-self-requires
settled-self-requires g c =
    let n = c.args.self.now in
    let is = c.requires.0 in
    let P : Stage → Type 0 = λ s. HasAllBefore (scripts g.run) n.rank (given_of g.run n) (passed_of g.run s) in
    (subst (λ (s : Stage). HasMailAt g.run n (turn_of g.run s)) c.requires.1 is.mail, ((λ e. is.asks (ap is_inspected c.requires.1)), (subst (IsStage g.run n.rank) c.requires.1 is.stage, subst P c.requires.1 is.fit.past)))

pub returns : goal.returns
returns g c =
    summed_goes g.run c.args.self.now c.args.turn c.settled-self.result c.requires.0 c.requires.1 c.settled-self.ensures
