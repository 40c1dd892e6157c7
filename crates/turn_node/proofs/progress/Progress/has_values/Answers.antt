use Rattle.std.proofs.Common.{◌≡◌, ℕ, ◌<◌, suc, true, refl, sym, ◌∙◌, arith}
use Rattle.std.proofs.lemmas.Bool.{false≢true}
use Rattle.rank_scripts.specs.Rounds.{round_given}
use Rattle.turn_model.specs.Runs.{schedule}
use Rattle.turn_model.specs.Schedules.{rounds}
use Rattle.turn_node.specs.Progresses.{given_of, used}
use Rattle.turn_node.proofs.MailLemmas.{asks_long, below_next, came, empty_box, has_turn, lacks_turn, nest_is, none_due, not_come, not_owed, owed, some_box}
use Rattle.turn_node.proofs.progress.Progress.has_values.Goals.{else-is_empty-via-then-is_empty+else-owes, else-is_empty-via-else-is_empty}
use Rattle.turn_node.proofs.progress.Progress.has_values.Goals as goal

pub overflow_cast-ranks : goal.overflow_cast-ranks
overflow_cast-ranks g c =
    let long = asks_long g.run c.args.self.now.rank c.args.self.now.asks c.requires.1.0 in
    let few = c.requires.0.run_is.ranks in
    omega (arith, c.len-ranks.ensures)

pub is_empty-requires : goal.is_empty-requires
is_empty-requires g c =
    let long = asks_long g.run c.args.self.now.rank c.args.self.now.asks c.requires.1.0 in
    let mail = c.requires.0.mail_long in
    omega (arith, c.len-ranks.ensures, c.loop-from-test.true)

pub returns-then-owes : goal.returns-then-owes
returns-then-owes g c =
    let n = c.args.self.now in
    let q = c.loop-from.from in
    let long = asks_long g.run n.rank n.asks c.requires.1.0 in
    let below : q < g.run.ranks = omega (arith, c.len-ranks.ensures, c.loop-from-test.true) in
    let nest = nest_is g.run n.turns c.args.turn c.nest-nest.result c.requires.0.turns_are c.nest-nest.ensures in
    let due = owed g.run c.args.turn n.rank q c.nest-nest.result n.asks nest c.requires.1.0 below (sym c.owes.ensures ∙ c.if-owes.true) in
    let short = empty_box _ (given_of g.run n q) (used g.run n.rank c.args.turn q) (c.requires.0.early q) (c.if-is_empty.ensures.0 refl) in
    lacks_turn g.run n.rank c.args.turn q (given_of g.run n) c.requires.0.rank below c.requires.1.1.1 (not_come g.run n.rank c.args.turn q (given_of g.run n) due.0 c.requires.1.1.0 due.1 short)

pub loop-from-preserved : goal.loop-from-preserved
loop-from-preserved g c =
    let n = c.args.self.now in
    let q = c.loop-from.from in
    let long = asks_long g.run n.rank n.asks c.requires.1.0 in
    let below : q < g.run.ranks = omega (arith, c.len-ranks.ensures, c.loop-from-test.true) in
    let P : ℕ → Type 0 = λ k. round_given (rounds (schedule g.run)) n.rank (given_of g.run n) (suc c.args.turn) k ≡ true in
    below_next P q c.loop-from.invariant
    (elim c.else-is_empty.branch [
      | else-is_empty-via-then-is_empty+else-owes w ↦
          let nest = nest_is g.run n.turns c.args.turn c.nest-nest.result c.requires.0.turns_are c.nest-nest.ensures in
          none_due g.run n.rank c.args.turn q (given_of g.run n) c.requires.1.1.0 (not_owed g.run c.args.turn n.rank q c.nest-nest.result n.asks nest c.requires.1.0 below (sym w.owes.ensures ∙ w.if-owes.false))
      | else-is_empty-via-else-is_empty w ↦
          came g.run n.rank c.args.turn q (given_of g.run n) (some_box _ (given_of g.run n q) (used g.run n.rank c.args.turn q) (c.requires.0.early q) (λ e. false≢true (w.if-is_empty.ensures.1 e)))
    ])

pub returns : goal.returns
returns g c =
    let long = asks_long g.run c.args.self.now.rank c.args.self.now.asks c.requires.1.0 in
    has_turn g.run c.args.self.now.rank c.args.turn (given_of g.run c.args.self.now) c.requires.0.rank c.requires.1.1.1 (λ q below. c.loop-from.invariant q (omega (arith, c.len-ranks.ensures, c.loop-from-test.false)))
