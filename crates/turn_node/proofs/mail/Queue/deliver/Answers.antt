use Rattle.std.proofs.Common.{◌≡◌, [], ◌∷◌, take, sym, ap, ◌∙◌, subst}
use Rattle.turn_node.specs.NodeStates.{HasTaken}
use Rattle.turn_node.proofs.mail.Queue.deliver.Goals as goal

pub returns-in-Ok-clause-node : goal.returns-in-Ok-clause-node
returns-in-Ok-clause-node g c =
    let front : take 1 c.args.self.now ≡ c.in-Some.letter ∷ [] = ap (λ xs. take 1 xs) (sym c.self.view_is ∙ c.in-Some.ensures.items) in
    subst (λ letters. HasTaken g.P.Part.stands g.run c.args.from letters c.args.node.now c.take.new.self) (sym front) c.in-Ok.ensures.ok
