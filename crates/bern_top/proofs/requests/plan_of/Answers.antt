use Rattle.std.proofs.Common.{◌≡◌, length, map, refl, ◌∙◌, arith}
use Rattle.std.specs.String.{string_bytes}
use Rattle.std.proofs.lemmas.List.{length-map}
use Rattle.bern_top.proofs.RequestLemmas.{plan_answer, word_is}
use Rattle.bern_top.proofs.requests.plan_of.Goals as goal

pub returns-in-len2 : goal.returns-in-len2
returns-in-len2 c =
    let words = c.args.words.now in
    let long : length words ≡ 2 = omega (arith, c.in-len2.len_at_least, c.in-len2.len_below) in
    let answer = plan_answer (map string_bytes words) (string_bytes c.job-item.result) c.request_for.result c.requires (length-map words string_bytes ∙ long)
    (word_is string_bytes words 1 c.job-item.result (string_bytes c.job-item.result) c.job-item.is (omega (arith, long)) refl)
    c.request_for.ensures in
    record { found = answer.found; refused = answer.refused }
