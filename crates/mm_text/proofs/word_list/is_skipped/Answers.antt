use Rattle.std.proofs.Common.{◌≡◌, length, arith, sym, ◌∙◌}
use Rattle.std.proofs.lemmas.Bool.{eqb-true, eqb-false}
use Rattle.mm_text.proofs.LinesLemmas.{skipped_none, skipped_first}
use Rattle.mm_text.proofs.word_list.is_skipped.Goals as goal

pub returns-then-is_empty : goal.returns-then-is_empty
returns-then-is_empty c =
    c.if-is_empty.true ∙ sym (skipped_none c.args.line.now (rw (← c.from_word-from.ensures) (eqb-true _ _ (sym c.is_empty.ensures ∙ c.if-is_empty.true))))

pub returns-else-is_empty : goal.returns-else-is_empty
returns-else-is_empty c =
    let some : length c.from_word-from.result.now ≡ 0 → ⊥ = eqb-false _ _ (sym c.is_empty.ensures ∙ c.if-is_empty.false) in
    rw c.from_word-from.ensures (sym (skipped_first c.args.line.now (rw (← c.from_word-from.ensures) (omega (arith, some)))))
