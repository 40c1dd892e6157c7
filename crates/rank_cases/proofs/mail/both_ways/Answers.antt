use Rattle.std.proofs.Common.{◌≡◌, ◌++◌, ◌∷◌, [], length, ap, ◌∙◌, arith}
use Rattle.rank_mail.specs.Examples.{alike}
use Rattle.rank_mail.proofs.ExampleLemmas.{two_same}
use Rattle.rank_cases.proofs.mail.both_ways.Goals as goal

pub close-requires : goal.close-requires
close-requires g c κs within =
    let first = c.join-first.result.0.0 in
    let second = c.join-first.result.1.0 in
    let one = c.in_ok-push.ensures.ok ∙ ap (λ ds. ds ++ first ∷ []) c.new-ends.ensures in
    let two : c.push-2.new.self ≡ first ∷ second ∷ [] = c.in_ok-push-2.ensures.ok ∙ ap (λ ds. ds ++ second ∷ []) one in (
      within,
      (
        (let size = ap length two in omega (arith, size)),
        two_same (alike 1000) c.in_ok-first.first c.in_ok-first.second first second c.push-2.new.self c.in_ok-first.ensures.issue c.join-first.ensures.first c.join-first.ensures.second two,
      ),
    )
