use Rattle.std.proofs.Common.{sym, ap}
use Rattle.rank_node.specs.Positions.{want_of}
use Rattle.rank_node.proofs.PositionLemmas.{post_request, post_values}
use Rattle.rank_node.proofs.node.Node.want.Goals as goal

pub returns-in-Request : goal.returns-in-Request
returns-in-Request g c = sym (ap want_of (post_request g.run c.args.self.now.rank c.in-Request.to c.args.self.now.stage c.in-Request.is c.requires.letter))

pub returns-in-Values : goal.returns-in-Values
returns-in-Values g c = sym (ap want_of (post_values g.run c.args.self.now.rank c.in-Values.to c.args.self.now.stage c.in-Values.is c.requires.letter).todo)
