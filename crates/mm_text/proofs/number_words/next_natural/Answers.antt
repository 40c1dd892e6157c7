use Rattle.std.proofs.Common.{◌<◌, arith, refl}
use Rattle.mm_text.proofs.NumberWordLemmas.{next-other, next-none, next-number}
use Rattle.mm_text.proofs.number_words.next_natural.Goals as goal

pub returns-then-not-ends_at : goal.returns-then-not-ends_at
returns-then-not-ends_at c =
    let inside = c.if-not-ends_at.ensures.within refl in
    next-other c.args.line.now c.from_word-from.result.now c.in-Some.len c.from_word-from.ensures c.in-Some.ensures.digits inside (c.in-Some.ensures.all inside) (c.if-not-ends_at.ensures.goes_on refl)

pub returns-then-len-eq0 : goal.returns-then-len-eq0
returns-then-len-eq0 c =
    next-none c.args.line.now c.from_word-from.result.now c.from_word-from.ensures
    (rw c.if-len-eq0.true at (c.if-not-ends_at.ensures.ends refl))

pub returns : goal.returns
returns c =
    let above : 0 < c.in-Some.len = let some = c.if-len-eq0.false in omega (arith, some) in
    rw c.split_at.ensures.back
    (next-number c.args.line.now c.from_word-from.result.now c.in-Some.len c.in-Some.number c.from_word-from.ensures above c.in-Some.ensures.within c.in-Some.ensures.digits
    (c.if-not-ends_at.ensures.ends refl) c.in-Some.ensures.number)
