use Rattle.std.proofs.Common.{◌≡◌, ℕ, List, [], length, refl, sym, ap, subst, ◌∙◌}
use Rattle.std.proofs.lemmas.Bool.{eqb-true}
use Rattle.std.proofs.lemmas.List.{nil_from_length}
use Rattle.mm_profile.specs.Lines.{without_return}
use Rattle.mm_text.specs.Stages.{Steps}
use Rattle.mm_text.proofs.PieceLemmas.{ends_line}
use Rattle.mm_text.proofs.reading.Reading.end_line.Goals as goal

pub returns-then-is_empty-clause-reads : goal.returns-then-is_empty-clause-reads
returns-then-is_empty-clause-reads c = λ more.
    let none : length c.as_slice.result.now ≡ 0 = eqb-true _ _ (sym c.is_empty.ensures ∙ c.if-is_empty.true) in
    let empty : c.args.self.line.items ≡ [] = sym c.as_slice.ensures.value ∙ nil_from_length _ none in
    let Takes : List ℕ → Type 0 = λ line. Steps c.args.self.stage c.args.self.number line c.in_ok-stage.stage in
    rw empty (ends_line c.args.self.stage c.in_ok-stage.stage c.args.self.number [] c.args.end.now refl c.requires.whole (subst Takes c.without_return.ensures c.in_ok-stage.ensures.steps) more)

pub returns-clause-reads : goal.returns-clause-reads
returns-clause-reads c = λ more.
    let Takes : List ℕ → Type 0 = λ line. Steps c.args.self.stage c.args.self.number line c.in_ok-stage-2.stage in
    let whole = c.without_return-2.ensures ∙ ap without_return (c.as_slice-2.ensures.value ∙ c.in_ok-extend_from_slice.ensures.items) in
    rw c.clear.ensures.items
    (ends_line c.args.self.stage c.in_ok-stage-2.stage c.args.self.number c.args.self.line.items c.args.end.now c.args.self.unended c.requires.whole (subst Takes whole c.in_ok-stage-2.ensures.steps) more)
