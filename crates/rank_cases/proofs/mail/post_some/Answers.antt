use Rattle.std.proofs.Common.{List, sym, ◌∙◌, subst, arith}
use Rattle.bern_base.specs.declared.letter.Letter.{Letter}
use Rattle.rank_scripts.specs.Scripts.{IsNextOf}
use Rattle.rank_mail.specs.Desks.{posted}
use Rattle.rank_mail.specs.Examples.{numbers}
use Rattle.rank_mail.proofs.EndLemmas.{book_to-same}
use Rattle.rank_mail.proofs.ExampleLemmas.{next_number}
use Rattle.rank_cases.proofs.mail.post_some.Goals as goal

pub post-requires-clause-next : goal.post-requires-clause-next
post-requires-clause-next g c =
    let end = c.loop-number.end in
    let book = book_to-same c.args.end.now end c.loop-number.invariant.0 c.args.to ∙ c.requires.ready.book in
    let within = c.loop-number-test.true in
    let few = c.requires.few in
    let Book : List Letter → Type 0 = λ xs. IsNextOf xs (posted end c.args.to) c.in_ok-letter.letter in
    let Next : Letter → Type 0 = λ x. IsNextOf (numbers 1000) (posted end c.args.to) x in
    subst Book (sym book) (subst Next (sym c.in_ok-letter.ensures) (next_number 1000 (posted end c.args.to) c.loop-number.number c.loop-number.invariant.1 (omega (arith, within, few))))
