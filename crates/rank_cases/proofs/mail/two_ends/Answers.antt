use Rattle.std.proofs.Common.{◌++◌, ◌∷◌, [], ap, ◌∙◌}
use Rattle.rank_mail.proofs.ExampleLemmas.{ready_first, ready_last}
use Rattle.rank_cases.proofs.mail.two_ends.Goals as goal

pub returns-clause-first : goal.returns-clause-first
returns-clause-first c =
    ready_first 1000 c.in_ok-ends.ends c.pop-2.new.self c.in-Some-Some.first c.in-Some-Some.second c.in_ok-ends.ensures.ends
    (c.in-Some-Some.ensures ∙ ap (λ ds. ds ++ c.in-Some-Some.second ∷ []) c.in-Some-Some.ensures')

pub returns-clause-second : goal.returns-clause-second
returns-clause-second c =
    ready_last 1000 c.in_ok-ends.ends c.pop-2.new.self c.in-Some-Some.first c.in-Some-Some.second c.in_ok-ends.ensures.ends
    (c.in-Some-Some.ensures ∙ ap (λ ds. ds ++ c.in-Some-Some.second ∷ []) c.in-Some-Some.ensures')
