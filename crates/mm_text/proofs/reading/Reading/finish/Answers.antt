use Rattle.std.proofs.Common.{◌≡◌, ℕ, ◌<◌, List, [], length, sym, ap, subst, ◌∙◌, arith}
use Rattle.std.proofs.lemmas.Bool.{eqb-false}
use Rattle.mm_profile.specs.Lines.{without_return}
use Rattle.mm_text.specs.Stages.{Steps, Gives, outcome}
use Rattle.mm_text.proofs.PieceLemmas.{lines_whole}
use Rattle.mm_text.proofs.reading.Reading.finish.Goals as goal

pub returns-in-Ok-clause-read : goal.returns-in-Ok-clause-read
returns-in-Ok-clause-read c =
    let some : length c.as_slice.result.now ≡ 0 → ⊥ = eqb-false _ _ (sym c.is_empty.ensures ∙ c.if-is_empty.false) in
    let begun : 0 < length c.args.self.line.items = rw (← c.as_slice.ensures.value) (omega (arith, some)) in
    let Takes : List ℕ → Type 0 = λ line. Steps c.args.self.stage c.args.self.number line c.in-Ok.stage in
    let steps : Takes (without_return c.args.self.line.items) = subst Takes (c.without_return.ensures ∙ ap without_return c.as_slice-2.ensures.value) c.in-Ok.ensures.steps in
    let e = ap (outcome c.args.self.stage c.args.self.number) (lines_whole c.args.self.line.items begun c.args.self.unended) ∙ steps [] in
    subst (Gives c.finish-in-Ok.result) (sym e) c.finish-in-Ok.ensures.read
