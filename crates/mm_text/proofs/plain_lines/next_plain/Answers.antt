use Rattle.std.proofs.Common.{◌≡◌, ◌<◌, true, arith}
use Rattle.std.proofs.lemmas.Bool.{and_parts, ltb-true}
use Rattle.mm_text.specs.declared.due.Due.TheVariants.{Listed}
use Rattle.mm_text.specs.Cursor.{is_due}
use Rattle.mm_text.proofs.TableLemmas.{says_more, next_stated, next_listed}
use Rattle.mm_text.proofs.plain_lines.next_plain.Goals as goal

pub returns-in-Some-clause-entry : goal.returns-in-Some-clause-entry
returns-in-Some-clause-entry c =
    let some : 0 < c.in-Lines.count = let other : c.in-Lines.count ≡ 0 → ⊥ = rw c.in-Lines.is at c.in-Lines.count-test.1 in omega (arith, other) in
    rw c.in-Lines.is (says_more c.in-Some.ensures.entry (λ line says. next_stated c.args.head.now c.in-Lines.count c.in-Some.counted line some says))

pub returns-in-Some-listed-clause-entry : goal.returns-in-Some-listed-clause-entry
returns-in-Some-listed-clause-entry c =
    let within : is_due c.args.head.now (Listed c.in-Listed.row c.in-Listed.col) ≡ true = rw c.in-Listed.is at c.requires.within in
    let below : c.in-Listed.row < c.args.head.now.rows = ltb-true _ _ (and_parts _ _ within).0 in
    rw c.in-Listed.is (says_more c.in-Some-listed.ensures.entry (λ line says. next_listed c.args.head.now c.in-Listed.row c.in-Listed.col c.in-Some-listed.counted c.due_after.result line below c.due_after.ensures.places says))
