use Rattle.std.proofs.Common.{◌≡◌, ◌+◌, ◌^◌, take_all, sym, ap, ◌∙◌, arith}
use Rattle.std.proofs.lemmas.Int.Digits.{digits_value_more}
use Rattle.std.proofs.lemmas.Str.Parse.{digits_value-take-le}
use Rattle.std.specs.Str.Parse.{digits_value}
use Rattle.job_text.proofs.NumberLemmas.{limited-fits, limited-past, limited-some, limited-none}
use Rattle.job_text.proofs.numbers.value_of.Goals as goal

pub returns-in-None : goal.returns-in-None
returns-in-None c =
    let word = c.args.word.now in
    let i = c.loop-digit.digit-index in
    let past = limited-none (2 ^ 64) _ (sym c.with_digit.ensures ∙ c.in-None.is) in
    let more = digits_value_more 10 word i c.loop-digit-test.true in
    let whole = digits_value-take-le 10 word (i + 1) (omega arith) in
    let is = c.loop-digit.invariant.0 in
    limited-past (2 ^ 64) (digits_value 10 word) (omega arith)

pub loop-digit-preserved : goal.loop-digit-preserved
loop-digit-preserved c =
    let word = c.args.word.now in
    let i = c.loop-digit.digit-index in
    let some = limited-some (2 ^ 64) _ c.in-Some.more (sym c.with_digit.ensures ∙ c.in-Some.is) in
    let more = digits_value_more 10 word i c.loop-digit-test.true in
    let is = c.loop-digit.invariant.0 in
    (omega arith, omega arith)

pub returns : goal.returns
returns c =
    let word = c.args.word.now in
    let all = take_all c.loop-digit.digit-index word c.loop-digit-test.false in
    let is : c.loop-digit.value ≡ digits_value 10 word = c.loop-digit.invariant.0 ∙ ap (digits_value 10) all in
    rw is (limited-fits (2 ^ 64) (digits_value 10 word) (rw (sym is) c.loop-digit.invariant.1))
