use Rattle.std.proofs.Common.{sym, ap}
use Rattle.turn_node.specs.Positions.{want_of}
use Rattle.turn_node.proofs.PositionLemmas.{post_request, post_values}
use Rattle.turn_node.proofs.progress.Progress.want.Goals as goal

pub returns-in-Request : goal.returns-in-Request
returns-in-Request g c = sym (ap want_of (post_request g.run c.args.self.now.rank c.in-Request.to c.args.self.now.stage c.in-Request.is c.requires.stage))

pub returns-in-Values : goal.returns-in-Values
returns-in-Values g c = sym (ap want_of (post_values g.run c.args.self.now.rank c.in-Values.turn c.in-Values.to c.args.self.now.stage c.in-Values.is c.requires.stage).todo)
