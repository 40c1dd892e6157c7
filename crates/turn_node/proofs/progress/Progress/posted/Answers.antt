use Rattle.std.proofs.Common.{ℕ, ◌<◌, ◌^◌, sym, ◌∙◌, subst}
use Rattle.turn_node.specs.Positions.{IsStage, PostsTo, SendsTo}
use Rattle.turn_node.proofs.ProgressLemmas.{elements_are, elements_few, posts_request, posts_values}
use Rattle.turn_node.proofs.progress.Progress.posted.Goals as goal

pub post-requires : goal.post-requires
post-requires g c =
    let n = c.args.self.now in
    let is = c.requires.0 in
    let to : PostsTo g.run n.rank c.in-Request.to = subst (IsStage g.run n.rank) c.in-Request.is is.stage in
    (is, (to.there, posts_request g.run n c.in-Request.to c.in-Request.is is))

pub elements_due-count-requires : goal.elements_due-count-requires
elements_due-count-requires g c =
    let n = c.args.self.now in
    let is = c.requires.0 in
    let same = elements_are g.run n c.in-Values.turn c.in-Values.to c.nest-nest.result c.at.result.now c.as_slice.result.now c.in-Values.is is c.nest-nest.ensures c.at.ensures c.as_slice.ensures in
    subst (λ (k : ℕ). k < 2 ^ 64) (sym same) (elements_few g.run n c.in-Values.turn c.in-Values.to c.in-Values.is is)

pub post-requires-in-Values : goal.post-requires-in-Values
post-requires-in-Values g c =
    let n = c.args.self.now in
    let is = c.requires.0 in
    let same = elements_are g.run n c.in-Values.turn c.in-Values.to c.nest-nest.result c.at.result.now c.as_slice.result.now c.in-Values.is is c.nest-nest.ensures c.at.ensures c.as_slice.ensures in
    let to : SendsTo g.run n.rank c.in-Values.turn c.in-Values.to = subst (IsStage g.run n.rank) c.in-Values.is is.stage in
    (is, (to.there, posts_values g.run n c.in-Values.turn c.in-Values.to c.elements_due-count.result c.in-Values.is is (c.elements_due-count.ensures ∙ same)))
