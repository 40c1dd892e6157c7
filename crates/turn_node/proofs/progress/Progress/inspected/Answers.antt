use Rattle.turn_node.proofs.ProgressLemmas.{inspected_goes}
use Rattle.turn_node.proofs.progress.Progress.inspected.Goals as goal

pub returns : goal.returns
returns g c =
    inspected_goes g.run c.args.self.now c.args.asks c.settled-self.result c.requires.0 c.requires.1.0 c.requires.1.1 c.settled-self.ensures
