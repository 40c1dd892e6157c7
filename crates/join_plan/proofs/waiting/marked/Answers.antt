use Rattle.std.proofs.Common.{◌≡◌, ◌∙◌, ◌||◌, ap, lit<}
use Rattle.term_model.specs.Plans.{has_factor, is_in}
use Rattle.join_plan.proofs.MarkLemmas.{marks_more}
use Rattle.join_plan.proofs.waiting.marked.Goals as goal

pub returns : goal.returns
returns c = λ vs marks. marks_more vs c.args.form.now _ _ _ _
    (ap (λ b. b || c.has_factor.result) (marks 0 (lit< tt)) ∙ ap (λ b. is_in 0 vs || b) c.has_factor.ensures)
    (ap (λ b. b || c.has_factor-2.result) (marks 1 (lit< tt)) ∙ ap (λ b. is_in 1 vs || b) c.has_factor-2.ensures)
    (ap (λ b. b || c.has_factor-3.result) (marks 2 (lit< tt)) ∙ ap (λ b. is_in 2 vs || b) c.has_factor-3.ensures)
    (ap (λ b. b || c.has_factor-4.result) (marks 3 (lit< tt)) ∙ ap (λ b. is_in 3 vs || b) c.has_factor-4.ensures)
