use Rattle.std.proofs.Common.{sym, ◌∙◌}
use Rattle.turn_node.specs.Progresses.{given_of}
use Rattle.turn_node.proofs.PositionLemmas.{goes_on_requests}
use Rattle.turn_node.proofs.progress.Progress.at_request_wait.Goals as goal

pub returns-then-has_requests : goal.returns-then-has_requests
returns-then-has_requests g c =
    goes_on_requests g.run c.args.self.now.rank (given_of g.run c.args.self.now) c.begun.result (sym c.has_requests.ensures ∙ c.if-has_requests.true) c.begun.ensures
