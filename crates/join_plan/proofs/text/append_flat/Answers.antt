use Rattle.std.proofs.Common.{◌≡◌, ◌∙◌, ◌++◌, [], ℕ, List, sym, ap, append_assoc}
use Rattle.std.specs.List.{flat_map}
use Rattle.std.proofs.lemmas.Grind.{flat_map-append}
use Rattle.term_model.specs.Plans.{waiting}
use Rattle.join_plan.specs.PlanText.{flat_variables, variable_word}
use Rattle.join_plan.proofs.text.append_flat.Goals as goal

pub returns : goal.returns
returns c = λ vs marks.
    let found = c.in-Some.found.now in
    let g : ℕ → List ℕ = variable_word c.args.nest.now in
    let row : List ℕ = waiting vs found.row in
    let col : List ℕ = waiting (row ++ vs) found.col in
    c.in_ok-append_waiting-2.ensures (row ++ vs) (c.marked-after.ensures vs marks)
    ∙ ap (λ o. o ++ flat_map g col) (c.in_ok-append_waiting.ensures vs marks)
    ∙ append_assoc c.args.out.now (flat_map g row) (flat_map g col)
    ∙ ap (λ x. c.args.out.now ++ x) (sym (flat_map-append g row col))
    ∙ ap (λ ref. c.args.out.now ++ flat_map g (flat_variables vs ref)) c.in-Some.ensures.value
