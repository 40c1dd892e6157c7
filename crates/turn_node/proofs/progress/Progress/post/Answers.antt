use Rattle.std.proofs.Common.{sym, ◌∙◌, subst, arith}
use Rattle.rank_scripts.specs.Nodes.{HasAllBefore}
use Rattle.turn_model.specs.Runs.{scripts}
use Rattle.turn_node.specs.Progresses.{given_of, HasMailAt}
use Rattle.turn_node.proofs.KeptLemmas.{book_few}
use Rattle.turn_node.proofs.ProgressLemmas.{post_counts, posted_goes}
use Rattle.turn_node.proofs.progress.Progress.post.Goals as goal

pub overflow_add-tally : goal.overflow_add-tally
overflow_add-tally g c =
    let small = post_counts g.run c.args.self.now c.args.to c.args.values c.args.next c.at-tally.result.now c.requires.0 c.requires.1.0 c.requires.1.1 c.at-tally.ensures in
    let few = small.0 in
    let long = book_few g.run c.args.self.now.rank c.args.to c.requires.1.0 in
    let turns = c.requires.0.mail.run_is.turns in
    omega arith

pub overflow_add-tally-2 : goal.overflow_add-tally-2
overflow_add-tally-2 g c =
    let small = post_counts g.run c.args.self.now c.args.to c.args.values c.args.next c.at-tally.result.now c.requires.0 c.requires.1.0 c.requires.1.1 c.at-tally.ensures in
    let few = small.1 in
    omega arith

pub settled-self-requires : goal.settled-self-requires
settled-self-requires g c =
    let n = c.args.self.now in
    let is = c.requires.0 in
    let p = c.requires.1.1 in
    (subst (HasMailAt g.run n) (sym p.turn) is.mail, ((λ e. is.asks (sym p.inspected ∙ e)), (p.coming, subst (HasAllBefore (scripts g.run) n.rank (given_of g.run n)) (sym p.passed) is.fit.past)))

pub returns : goal.returns
returns g c =
    posted_goes g.run c.args.self.now c.args.to c.args.values c.args.next c.settled-self.result c.at-tally.result.now c.set.new.self c.requires.0 c.requires.1.0 c.requires.1.1 c.at-tally.ensures c.set.ensures c.settled-self.ensures
