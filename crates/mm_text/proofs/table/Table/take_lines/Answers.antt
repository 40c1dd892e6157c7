use Rattle.std.proofs.Common.{◌++◌, ◌∷◌, ap, sym, subst, length, ◌∙◌, arith, Err}
use Rattle.std.proofs.lemmas.List.{length-append}
use Rattle.mm_profile.specs.Lines.{lines}
use Rattle.mm_text.specs.declared.error.LineError.{LineError}
use Rattle.mm_text.specs.Tables.{lines_rest, AfterAnyLine}
use Rattle.mm_text.proofs.PieceLemmas.{lines_split}
use Rattle.mm_text.proofs.table.Table.take_lines.Goals as goal

pub returns-in-Err-Broken-clause-refused : goal.returns-in-Err-Broken-clause-refused
returns-in-Err-Broken-clause-refused c = λ more.
    let At : LineError → Type 0 = λ e. AfterAnyLine c.loop-line.self c.without_return.result.now c.take_any.new.self (Err e) in
    let refused = subst At c.in-Err-Broken.field-0-is c.in-Err-Broken.ensures in
    c.loop-line.invariant.reads more
    ∙ ap (lines_rest c.loop-line.self c.loop-line.next) (lines_split c.loop-line.rest.now c.in-Some.line.now c.in-Some.after.now more c.in-Some.ensures.0 c.in-Some.ensures.1)
    ∙ (rw c.without_return.ensures at (refused c.loop-line.next (lines (c.in-Some.after.now ++ more))))
    ∙ sym (ap (λ rule. Err (c.loop-line.next, rule)) c.in-Err-Broken.rule-is)

pub loop-line-preserved : goal.loop-line-preserved
loop-line-preserved c =
    let split = ap length c.in-Some.ensures.1 ∙ length-append c.in-Some.line.now (10 ∷ c.in-Some.after.now) in
    record {
      reads = λ more.
          c.loop-line.invariant.reads more
          ∙ ap (lines_rest c.loop-line.self c.loop-line.next) (lines_split c.loop-line.rest.now c.in-Some.line.now c.in-Some.after.now more c.in-Some.ensures.0 c.in-Some.ensures.1)
          ∙ (rw c.without_return.ensures at (c.in-Ok.ensures c.loop-line.next (lines (c.in-Some.after.now ++ more))))
          ∙ c.take_plain_lines-later.ensures.lines more;
      number = omega (arith, split, c.loop-line.invariant.number, c.take_plain_lines-later.ensures.number);
      shorter = omega (arith, split, c.loop-line.invariant.shorter, c.take_plain_lines-later.ensures.shorter);
    }
