use Rattle.std.proofs.Common.{[], length, sym, ap, ◌∙◌, subst}
use Rattle.std.proofs.lemmas.Option.{get_or_from_slice_get}
use Rattle.rank_node.specs.declared.stage.Stage.{Stage}
use Rattle.rank_node.specs.Letters.{asked_in}
use Rattle.rank_node.specs.Positions.{HasItsLetter}
use Rattle.rank_node.proofs.PositionLemmas.{posts_request, posts_values}
use Rattle.rank_node.proofs.NodeKept.{asked_at}
use Rattle.rank_node.proofs.node.Node.posted.Goals as goal

pub post-requires : goal.post-requires
post-requires g c =
    let n = c.args.self.now in
    let is = c.requires.0 in
    let P : Stage → Type 0 = λ stage. HasItsLetter g.run n.rank stage in
    let has = subst P c.in-Request.is is.letter in
    (is, (has.0, posts_request g.run n.rank c.in-Request.to n.stage c.in-Request.is is.letter))

pub post-requires-in-Values : goal.post-requires-in-Values
post-requires-in-Values g c =
    let n = c.args.self.now in
    let is = c.requires.0 in
    let P : Stage → Type 0 = λ stage. HasItsLetter g.run n.rank stage in
    let has = subst P c.in-Values.is is.letter in
    let counted = ap length (c.asked_in.ensures ∙ ap asked_in (sym (get_or_from_slice_get n.given c.in-Values.to c.at.result.now [] c.at.ensures)) ∙ asked_at g.run n c.in-Values.to is c.in-Values.is) in
    (is, (has.0, posts_values g.run n.rank c.in-Values.to _ n.stage c.in-Values.is is.letter counted))
