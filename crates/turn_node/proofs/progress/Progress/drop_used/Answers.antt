use Rattle.std.proofs.Common.{◌≡◌, ◌+◌, ◌<◌, true, false, sym, ◌∙◌, subst, arith}
use Rattle.turn_node.specs.declared.progress.Progress.{Progress}
use Rattle.turn_node.specs.Drops.{HaveDropped}
use Rattle.turn_node.specs.Progresses.{owes}
use Rattle.turn_node.proofs.MailLemmas.{asks_long, nest_is}
use Rattle.turn_node.proofs.KeptLemmas.{drops_none, drops_one}
use Rattle.turn_node.proofs.ProgressLemmas.{dropped_uses}
use Rattle.turn_node.proofs.progress.Progress.drop_used.Goals.{then-owes, else-owes}
use Rattle.turn_node.proofs.progress.Progress.drop_used.Goals as goal

pub overflow_cast-ranks : goal.overflow_cast-ranks
overflow_cast-ranks g c =
    let long = asks_long g.run c.args.self.now.rank c.args.self.now.asks c.requires.1.0 in
    let few = c.requires.0.run_is.ranks in
    omega (arith, c.len-ranks.ensures)

pub drop_front-requires : goal.drop_front-requires
drop_front-requires g c =
    let long = asks_long g.run c.args.self.now.rank c.args.self.now.asks c.requires.1.0 in
    let mail = c.requires.0.mail_long in
    let same = c.loop-from.invariant.long in
    omega (arith, c.len-ranks.ensures, c.loop-from-test.true)

pub loop-from-preserved : goal.loop-from-preserved
loop-from-preserved g c =
    let n = c.args.self.now in
    let m = c.loop-from.self in
    let q = c.loop-from.from in
    let long = asks_long g.run n.rank n.asks c.requires.1.0 in
    let below : q < g.run.ranks = omega (arith, c.len-ranks.ensures, c.loop-from-test.true) in
    let nest = nest_is g.run n.turns c.args.turn c.nest-nest.result c.requires.0.turns_are c.nest-nest.ensures in
    let had = c.loop-from.invariant in
    let P : Progress → Type 0 = λ k. HaveDropped g.run n k c.args.turn (q + 1) in
    elim c.if-owes.branch [
      | then-owes w ↦
          let Q : Progress → Type 0 = λ k. owes k.rank q c.nest-nest.result k.asks ≡ true in
          subst P (sym w.self-is) (drops_one g.run n m c.args.turn q c.nest-nest.result w.drop_front.new.self c.requires.1.1 c.requires.0 c.requires.1.0 below nest had (subst Q had.same (sym c.owes.ensures ∙ w.if-owes.true)) w.drop_front.ensures)
      | else-owes w ↦
          let Q : Progress → Type 0 = λ k. owes k.rank q c.nest-nest.result k.asks ≡ false in
          subst P (sym w.self-is) (drops_none g.run n m c.args.turn q c.nest-nest.result c.requires.1.1 c.requires.0 c.requires.1.0 below nest had (subst Q had.same (sym c.owes.ensures ∙ w.if-owes.false)))
    ]

pub returns : goal.returns
returns g c =
    let n = c.args.self.now in
    let long = asks_long g.run n.rank n.asks c.requires.1.0 in
    let last : c.loop-from.from ≡ g.run.ranks = omega (arith, c.len-ranks.ensures, c.loop-from-test.false, c.loop-from.auto.from-end) in
    dropped_uses g.run n c.loop-from.self c.args.turn c.loop-from.from c.requires.0 last c.loop-from.invariant
