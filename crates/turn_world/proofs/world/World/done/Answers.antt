use Rattle.std.proofs.Common.{◌<◌, sym, ◌∙◌, arith}
use Rattle.std.proofs.lemmas.Bool.{false_from_ne_true, false≢true}
use Rattle.rank_scripts.specs.Acts.{at_end}
use Rattle.rank_scripts.proofs.RankLemmas.{all_below_at, all_below_from}
use Rattle.turn_world.specs.Worlds.{node_in}
use Rattle.turn_world.proofs.EventLemmas.{all_at_end}
use Rattle.turn_world.proofs.world.World.done.Goals as goal

pub returns-then-not-is_done-clause-done : goal.returns-then-not-is_done-clause-done
returns-then-not-is_done-clause-done g c =
    let count = c.requires.1.count in
    let below : c.loop-rank.rank < g.run.ranks = omega arith in
    sym (false_from_ne_true _ (λ all. false≢true (sym c.if-not-is_done.true ∙ c.is_done.ensures ∙ all_below_at g.run.ranks (λ r. at_end (node_in g.run c.args.self.now.nodes r).todo) all c.loop-rank.rank below)))

pub returns-clause-done : goal.returns-clause-done
returns-clause-done g c =
    let count = c.requires.1.count in
    sym (all_below_from g.run.ranks (λ r. at_end (node_in g.run c.args.self.now.nodes r).todo) (λ r below. c.loop-rank.invariant r (omega arith)))

pub returns-clause-end : goal.returns-clause-end
returns-clause-end g c =
    let count = c.requires.1.count in
    λ _. all_at_end g.P.Part.stands g.run c.args.self.now.nodes c.args.self.now.boxes c.requires.1
    (all_below_from g.run.ranks (λ r. at_end (node_in g.run c.args.self.now.nodes r).todo) (λ r below. c.loop-rank.invariant r (omega arith)))
