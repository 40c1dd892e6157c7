use Rattle.std.proofs.Common.{◌≡◌, ◌+◌, Some, None, option_map, drop, sym, ap, ◌∙◌, subst, arith}
use Rattle.std.proofs.lemmas.List.{drop_all}
use Rattle.std.proofs.lemmas.Int.{ints, to_z-of_z}
use Rattle.job_text.specs.WordReading.{onto, next_offset, offsets_from}
use Rattle.job_text.proofs.OffsetLemmas.{onto-nil, offsets_end, offsets_fail, offsets_on}
use Rattle.job_text.proofs.PlaceLemmas.{drop_at}
use Rattle.job_text.proofs.offsets.rising.Goals as goal

pub loop-word-init : goal.loop-word-init
loop-word-init c = rw c.new-offsets.ensures (onto-nil _)

pub loop-word-preserved : goal.loop-word-preserved
loop-word-preserved c =
    let front = c.loop-word.offsets in
    let all = offsets_from None c.args.words.now in
    let words = c.args.words.now in
    let i = c.loop-word.word-index in
    let word = c.word-item.result in
    let fit : ◌≡◌ (mir.Val.to_z mir.Syntax.w128 (mir.Val.of_z mir.Syntax.w128 c.in-Some.next)) c.in-Some.next = grind (arith, ints, to_z-of_z) in
    let here = drop_at words i word c.loop-word-test.true c.word-item.is in
    let read : next_offset c.loop-word.last word ≡ Some c.in-Some.next = ap (next_offset c.loop-word.last) (sym c.bytes.ensures) ∙ sym c.next_offset.ensures ∙ c.in-Some.is in
    rw (c.in_ok-push-in-Some.ensures.ok, fit)
    (offsets_on front c.loop-word.last all word (drop (i + 1) words) (subst (λ ws. option_map (onto front) (offsets_from c.loop-word.last ws) ≡ all) here c.loop-word.invariant) c.in-Some.next read)

pub returns-in-None : goal.returns-in-None
returns-in-None c =
    let front = c.loop-word.offsets in
    let all = offsets_from None c.args.words.now in
    let words = c.args.words.now in
    let i = c.loop-word.word-index in
    let word = c.word-item.result in
    let here = drop_at words i word c.loop-word-test.true c.word-item.is in
    let read : next_offset c.loop-word.last word ≡ None = ap (next_offset c.loop-word.last) (sym c.bytes.ensures) ∙ sym c.next_offset.ensures ∙ c.in-None.is in
    offsets_fail front c.loop-word.last all word (drop (i + 1) words) (subst (λ ws. option_map (onto front) (offsets_from c.loop-word.last ws) ≡ all) here c.loop-word.invariant) read

pub returns : goal.returns
returns c =
    let front = c.loop-word.offsets in
    let all = offsets_from None c.args.words.now in
    let none = drop_all c.loop-word.word-index c.args.words.now c.loop-word-test.false in
    offsets_end front c.loop-word.last all (subst (λ ws. option_map (onto front) (offsets_from c.loop-word.last ws) ≡ all) none c.loop-word.invariant)
