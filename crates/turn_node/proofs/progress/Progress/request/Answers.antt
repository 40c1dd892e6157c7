use Rattle.std.proofs.Common.{◌≡◌, sym, ap, ◌∙◌, subst, arith}
use Rattle.std.proofs.lemmas.Option.{get_or_from_slice_get}
use Rattle.bern_base.specs.declared.letter.Letter.TheVariants as letter
use Rattle.turn_node.specs.Asks.{no_needs}
use Rattle.turn_node.specs.Parts.{all_asks}
use Rattle.turn_node.specs.Positions.{is_inspected, IsStage, PostsTo}
use Rattle.turn_node.proofs.MailLemmas.{asks_at, asks_long}
use Rattle.turn_node.proofs.progress.Progress.request.Goals as goal

pub at-needs-requires : goal.at-needs-requires
at-needs-requires g c =
    let n = c.args.self.now in
    let is = c.requires.0 in
    let asks : n.asks ≡ all_asks g.run n.rank = is.asks (ap is_inspected c.requires.1) in
    let long = asks_long g.run n.rank n.asks asks in
    let to : PostsTo g.run n.rank c.args.to = subst (IsStage g.run n.rank) c.requires.1 is.stage in
    let there = to.there in
    omega arith

pub returns : goal.returns
returns g c =
    let n = c.args.self.now in
    let is = c.requires.0 in
    let asks : n.asks ≡ all_asks g.run n.rank = is.asks (ap is_inspected c.requires.1) in
    let to : PostsTo g.run n.rank c.args.to = subst (IsStage g.run n.rank) c.requires.1 is.stage in
    ap letter.Request (c.in_ok-needs_like.ensures ∙ sym (get_or_from_slice_get n.asks c.args.to c.at-needs.result.now no_needs c.at-needs.ensures) ∙ asks_at g.run n.rank c.args.to n.asks asks to.there)
