use Rattle.std.proofs.Common.{◌≡◌, ℕ, ◌+◌, ◌<◌, sym, ◌∙◌, subst, arith}
use Rattle.turn_node.specs.Positions.{from_values}
use Rattle.turn_node.specs.Progresses.{given_of}
use Rattle.turn_node.proofs.MailLemmas.{due_none, due_own, due_some, nest_is}
use Rattle.turn_node.proofs.PositionLemmas.{goes_inner, goes_values, values_end, values_none}
use Rattle.turn_node.proofs.ProgressLemmas.{asked_reads}
use Rattle.turn_node.proofs.progress.Progress.next_values.Goals.{else-to-self-via-then-to-self+else-is_due, else-to-self-via-else-to-self}
use Rattle.turn_node.proofs.progress.Progress.next_values.Goals as goal

pub returns-then-is_due : goal.returns-then-is_due
returns-then-is_due g c =
    let n = c.args.self.now in
    let to = c.loop-to.to in
    let long = c.requires.0.asked_long in
    let below : to < g.run.ranks = omega (arith, c.len-ranks.ensures, c.loop-to-test.true) in
    let nest = nest_is g.run n.turns c.args.turn c.nest-nest.result c.requires.0.turns_are c.nest-nest.ensures in
    let same = asked_reads g.run n c.args.turn c.nest-nest.result to c.at.result.now c.as_slice.result.now c.requires.0 c.requires.1.0 below c.if-to-self.true c.at.ensures c.as_slice.ensures nest in
    let due = due_some g.run c.args.turn n.rank to (λ e. c.if-to-self.true (sym e)) (sym same ∙ sym c.is_due.ensures ∙ c.if-is_due.true) in
    goes_values g.run n.rank c.args.turn c.args.from to (given_of g.run n) due.0 c.requires.1.1 below due.1 c.loop-to.invariant

pub loop-to-preserved : goal.loop-to-preserved
loop-to-preserved g c =
    let n = c.args.self.now in
    let to = c.loop-to.to in
    let long = c.requires.0.asked_long in
    let below : to < g.run.ranks = omega (arith, c.len-ranks.ensures, c.loop-to-test.true) in
    let P : ℕ → Type 0 = λ k. from_values g.run n.rank c.args.turn k ≡ from_values g.run n.rank c.args.turn (k + 1) in
    c.loop-to.invariant ∙ (elim c.else-to-self.branch [
      | else-to-self-via-then-to-self+else-is_due w ↦
          let nest = nest_is g.run n.turns c.args.turn c.nest-nest.result c.requires.0.turns_are c.nest-nest.ensures in
          let same = asked_reads g.run n c.args.turn c.nest-nest.result to w.at.result.now w.as_slice.result.now c.requires.0 c.requires.1.0 below w.if-to-self.true w.at.ensures w.as_slice.ensures nest in
          values_none g.run n.rank c.args.turn to below (due_none g.run c.args.turn n.rank to (λ e. w.if-to-self.true (sym e)) (sym same ∙ sym w.is_due.ensures ∙ w.if-is_due.false))
      | else-to-self-via-else-to-self w ↦ subst P (sym w.if-to-self.false) (values_none g.run n.rank c.args.turn n.rank c.requires.0.rank (due_own g.run c.args.turn n.rank))
    ])

pub returns : goal.returns
returns g c =
    let long = c.requires.0.asked_long in
    goes_inner g.run c.args.self.now.rank c.args.turn c.args.from (given_of g.run c.args.self.now) c.requires.1.1
    (c.loop-to.invariant ∙ values_end g.run c.args.self.now.rank c.args.turn c.loop-to.to (omega (arith, c.len-ranks.ensures, c.loop-to-test.false)))
