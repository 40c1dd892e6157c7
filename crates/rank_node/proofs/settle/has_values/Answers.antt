use Rattle.std.proofs.Common.{◌≡◌, ℕ, ◌<◌, true, nat_le, [], length, sym, ap, ◌∙◌, subst, arith}
use Rattle.std.proofs.lemmas.Option.{get_or_from_slice_get}
use Rattle.rank_scripts.specs.Scripts.{named}
use Rattle.rank_model.specs.Products.{receive, scripts}
use Rattle.rank_node.specs.Waits.{letters_from}
use Rattle.rank_node.proofs.ListLemmas.{below_next}
use Rattle.rank_node.specs.Waits.{due_for}
use Rattle.rank_node.proofs.PositionLemmas.{named_own, named_values, enough, lacks, has_all_from}
use Rattle.rank_node.proofs.settle.has_values.Goals.{else-from-rank-via-then-from-rank+else-len-letters_due, else-from-rank-via-else-from-rank}
use Rattle.rank_node.proofs.settle.has_values.Goals as goal

pub returns-then-len-letters_due : goal.returns-then-len-letters_due
returns-then-len-letters_due g c =
    let r = c.args.rank in
    let q = c.loop-from.from in
    let read : letters_from c.args.given.now q ≡ c.at.result.now = get_or_from_slice_get c.args.given.now q c.at.result.now [] c.at.ensures in
    let many : length (letters_from c.args.given.now q) ≡ length c.at.result.now = ap length read in
    let due = named_values g.run r q c.requires.0 c.if-from-rank.true in
    let below : q < g.run.ranks = omega arith in
    let asked : due_for c.at-then-from-rank.result.now ≡ named (scripts g.run) r 1 q = ap due_for (sym (get_or_from_slice_get c.args.asks.now q c.at-then-from-rank.result.now [] c.at-then-from-rank.ensures) ∙ c.requires.1.1.each q [] below) ∙ sym due in
    lacks g.run r 1 q (letters_from c.args.given.now) below (omega (arith, c.letters_due.ensures, c.len.ensures, c.if-len-letters_due.true))

pub loop-from-preserved : goal.loop-from-preserved
loop-from-preserved g c =
    let r = c.args.rank in
    let q = c.loop-from.from in
    let P : ℕ → Type 0 = λ k. nat_le (named (scripts g.run) r 1 k) (length (letters_from c.args.given.now k)) ≡ true in
    below_next P q c.loop-from.invariant
    (elim c.else-from-rank.branch [
      | else-from-rank-via-then-from-rank+else-len-letters_due w ↦
          let below : q < g.run.ranks = omega arith in
          let many : length (letters_from c.args.given.now q) ≡ length w.at.result.now = ap length (get_or_from_slice_get c.args.given.now q w.at.result.now [] w.at.ensures) in
          let asked : due_for w.at-then-from-rank.result.now ≡ due_for (receive g.run r q) = ap due_for (sym (get_or_from_slice_get c.args.asks.now q w.at-then-from-rank.result.now [] w.at-then-from-rank.ensures) ∙ c.requires.1.1.each q [] below) in
          enough (named (scripts g.run) r 1 q) (due_for (receive g.run r q)) _ (named_values g.run r q c.requires.0 w.if-from-rank.true)
          (omega (arith, w.letters_due.ensures, w.len.ensures, w.if-len-letters_due.false))
      | else-from-rank-via-else-from-rank w ↦ subst P (sym w.if-from-rank.false) (enough (named (scripts g.run) r 1 r) 0 _ (named_own g.run r 1 c.requires.0) (omega arith))
    ])

pub returns : goal.returns
returns g c = has_all_from g.run c.args.rank 1 (letters_from c.args.given.now) (λ q below. c.loop-from.invariant q (omega arith))
