use Rattle.std.proofs.Common.{◌≡◌, ℕ, ◌+◌, ◌<◌, [], length, sym, ap, ◌∙◌, subst, arith}
use Rattle.std.proofs.lemmas.Option.{get_or_from_slice_get}
use Rattle.std.proofs.lemmas.Bool.{false≢true, eq-eqb, eqb-true}
use Rattle.std.proofs.lemmas.List.{nil_from_length}
use Rattle.rank_node.specs.Positions.{from_values}
use Rattle.rank_model.specs.Products.{send}
use Rattle.rank_node.specs.Letters.{asked_in}
use Rattle.rank_node.specs.Waits.{letters_from}
use Rattle.rank_node.proofs.PositionLemmas.{asked_is, goes_values, goes_inner, values_own, values_none, values_end}
use Rattle.rank_node.proofs.settle.next_values.Goals.{else-to-rank-via-then-to-rank+else-not-is_empty, else-to-rank-via-else-to-rank}
use Rattle.rank_node.proofs.settle.next_values.Goals as goal

pub returns-then-not-is_empty : goal.returns-then-not-is_empty
returns-then-not-is_empty g c =
    let r = c.args.rank in
    let to = c.loop-to.to in
    let below : to < g.run.ranks = omega arith in
    let asked : asked_in (letters_from c.args.given.now to) ≡ send g.run r to = asked_is g.run r to (letters_from c.args.given.now) c.requires.0.rank below c.if-to-rank.true c.requires.1 (c.requires.0.fronts to below) in
    let read : letters_from c.args.given.now to ≡ c.at.result.now = get_or_from_slice_get c.args.given.now to c.at.result.now [] c.at.ensures in
    let slice : send g.run r to ≡ c.asked_in.result.now = sym asked ∙ ap asked_in read ∙ sym c.asked_in.ensures in
    let some : send g.run r to ≡ [] → ⊥ = λ none. false≢true (sym c.if-not-is_empty.true ∙ c.is_empty.ensures ∙ eq-eqb (length c.asked_in.result.now) 0 (ap length (sym slice ∙ none))) in
    goes_values g.run r c.args.from to (letters_from c.args.given.now) below c.if-to-rank.true some c.loop-to.invariant

pub loop-to-preserved : goal.loop-to-preserved
loop-to-preserved g c =
    let r = c.args.rank in
    let to = c.loop-to.to in
    let below : to < g.run.ranks = omega arith in
    let P : ℕ → Type 0 = λ k. from_values g.run r k ≡ from_values g.run r (k + 1) in
    c.loop-to.invariant ∙ (elim c.else-to-rank.branch [
      | else-to-rank-via-then-to-rank+else-not-is_empty w ↦
          let asked : asked_in (letters_from c.args.given.now to) ≡ send g.run r to = asked_is g.run r to (letters_from c.args.given.now) c.requires.0.rank below w.if-to-rank.true c.requires.1 (c.requires.0.fronts to below) in
          let read : letters_from c.args.given.now to ≡ w.at.result.now = get_or_from_slice_get c.args.given.now to w.at.result.now [] w.at.ensures in
          let slice : send g.run r to ≡ w.asked_in.result.now = sym asked ∙ ap asked_in read ∙ sym w.asked_in.ensures in
          values_none g.run r to below (slice ∙ nil_from_length w.asked_in.result.now (eqb-true _ _ (sym w.is_empty.ensures ∙ w.if-not-is_empty.false)))
      | else-to-rank-via-else-to-rank w ↦ subst P (sym w.if-to-rank.false) (values_own g.run r c.requires.0.rank)
    ])

pub returns : goal.returns
returns g c = goes_inner g.run c.args.rank c.args.from (letters_from c.args.given.now) (c.loop-to.invariant ∙ values_end g.run c.args.rank c.loop-to.to (let same = c.requires.0.ranks in omega arith))
