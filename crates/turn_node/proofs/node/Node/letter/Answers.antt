use Rattle.turn_node.proofs.LetterLemmas.{request_fits, values_fits}
use Rattle.turn_node.proofs.node.Node.letter.Goals as goal

pub returns-in-Request-clause-rest : goal.returns-in-Request-clause-rest
returns-in-Request-clause-rest g c =
    (request_fits g.run c.args.self.now.progress c.in-Request.to c.request.result c.in-Request.is c.requires.1.0.progress c.request.ensures).0

pub returns-in-Request-clause-next : goal.returns-in-Request-clause-next
returns-in-Request-clause-next g c =
    (request_fits g.run c.args.self.now.progress c.in-Request.to c.request.result c.in-Request.is c.requires.1.0.progress c.request.ensures).1

pub returns-in-Values-clause-rest : goal.returns-in-Values-clause-rest
returns-in-Values-clause-rest g c =
    (values_fits g.run c.args.self.now.progress c.in-Values.turn c.in-Values.to c.values.result c.in-Values.is c.requires.1.0.progress c.values.ensures).0

pub returns-in-Values-clause-next : goal.returns-in-Values-clause-next
returns-in-Values-clause-next g c =
    (values_fits g.run c.args.self.now.progress c.in-Values.turn c.in-Values.to c.values.result c.in-Values.is c.requires.1.0.progress c.values.ensures).1
