use Rattle.std.proofs.Common.{◌≡◌, length, map, refl, ◌∙◌, arith}
use Rattle.std.specs.String.{string_bytes}
use Rattle.std.proofs.lemmas.List.{length-map}
use Rattle.bern_top.proofs.RequestLemmas.{replay_answer, word_is}
use Rattle.bern_top.proofs.requests.replay_of.Goals as goal

pub returns-in-Some-seed_of : goal.returns-in-Some-seed_of
returns-in-Some-seed_of c =
    let words = c.args.words.now in
    let seed = c.in-Some-seed_of.seed in
    let long : length words ≡ 4 = omega (arith, c.in-len4.len_at_least, c.in-len4.len_below) in
    let answer = replay_answer (map string_bytes words) (string_bytes c.job-item.result) c.as_bytes.result.now c.as_bytes-in-Some.result.now c.in-Some.ranks seed c.request_for.result c.requires (length-map words string_bytes ∙ long)
    (word_is string_bytes words 1 c.job-item.result (string_bytes c.job-item.result) c.job-item.is (omega (arith, long)) refl)
    (word_is string_bytes words 2 c.ranks-item.result c.as_bytes.result.now c.ranks-item.is (omega (arith, long)) c.as_bytes.ensures.value)
    (word_is string_bytes words 3 c.seed-item.result c.as_bytes-in-Some.result.now c.seed-item.is (omega (arith, long)) c.as_bytes-in-Some.ensures.value)
    c.in-Some.ensures.found c.in-Some-seed_of.ensures.found c.request_for.ensures in
    record { found = answer.found; refused = answer.refused }
