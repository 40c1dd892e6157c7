-- The points of an answer.
use Rattle.std.proofs.Common.{◌∙◌, ◌==◌, Bool, ◌&&◌, List, ℤ, ap}
use Rattle.std.specs.List.{Contains, filter}
use Rattle.std.proofs.lemmas.Bool.{eq-eqb, eqb-true}
use Rattle.job_model.specs.Points.{points}
use Rattle.term_model.specs.Activity.{is_active}
use Rattle.term_model.specs.Answers.{home_of}
use Rattle.loop_query.specs.AnswerLaws.{IsAnswer, AnswersAreActivePoints}
use Rattle.loop_query.proofs.FreeLemmas.{contains_filter, filtered_in, filtered_passes, both_true}

pub answers_are_active_points : AnswersAreActivePoints
answers_are_active_points job entries places nest t rank point =
    let home : List ℤ → Bool = λ p. home_of job places nest p == rank in
    let active : List ℤ → Bool = λ p. is_active job entries p t in
    let test : List ℤ → Bool = λ p. home p && active p in
    let there : Contains (filter test (points nest)) point → IsAnswer job entries places nest t rank point = λ within.
    let parts = both_true (home point) (active point) (filtered_passes test (points nest) point within) in
    record { visited = filtered_in test (points nest) point within; home = eqb-true (home_of job places nest point) rank parts.0; active = parts.1 } in
    let back : IsAnswer job entries places nest t rank point → Contains (filter test (points nest)) point = λ is.
    contains_filter test (points nest) point is.visited (ap (λ b. b && active point) (eq-eqb (home_of job places nest point) rank is.home) ∙ is.active) in
    (there, back)
