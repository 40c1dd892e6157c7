use Rattle.std.proofs.Common.{Err, map, ap}
use Rattle.std.specs.String.{string_bytes}
use Rattle.job_files.proofs.ShelfLemmas.{if_some_weaker}
use Rattle.bern_top.specs.Answers.{AnswersRequest, AnswersWords}
use Rattle.bern_top.specs.Requests.{request}
use Rattle.bern_top.specs.declared.requests.Command.TheVariants.{Plan, Replay, Run}
use Rattle.bern_top.proofs.EndingLemmas.{no_request_for, no_request_in, words_answered}
use Rattle.bern_top.proofs.RequestLemmas.{has_ranks, request_fine}
use Rattle.bern_top.proofs.TopLemmas.{for_all}
use Rattle.bern_top.proofs.top.text_of_words.Goals as goal

pub run_call-requires-clause-some : goal.run_call-requires-clause-some
run_call-requires-clause-some g c = (has_ranks (map string_bytes c.args.words.now) c.in-Ok.request (Run c.in-Run.ranks) c.in-Ok.ensures.found c.in-Run.is).0

pub run_call-requires-clause-most : goal.run_call-requires-clause-most
run_call-requires-clause-most g c = (has_ranks (map string_bytes c.args.words.now) c.in-Ok.request (Run c.in-Run.ranks) c.in-Ok.ensures.found c.in-Run.is).1

pub replay_call-requires-clause-some : goal.replay_call-requires-clause-some
replay_call-requires-clause-some g c = (has_ranks (map string_bytes c.args.words.now) c.in-Ok.request (Replay c.in-Replay.ranks c.in-Replay.seed) c.in-Ok.ensures.found c.in-Replay.is).0

pub replay_call-requires-clause-most : goal.replay_call-requires-clause-most
replay_call-requires-clause-most g c = (has_ranks (map string_bytes c.args.words.now) c.in-Ok.request (Replay c.in-Replay.ranks c.in-Replay.seed) c.in-Ok.ensures.found c.in-Replay.is).1

pub returns-in-Run-clause-words : goal.returns-in-Run-clause-words
returns-in-Run-clause-words g c = λ rule broken. absurd (request_fine (map string_bytes c.args.words.now) c.in-Ok.request rule c.in-Ok.ensures.found broken)

pub returns-in-Run-clause-told : goal.returns-in-Run-clause-told
returns-in-Run-clause-told g c =
    let words = map string_bytes c.args.words.now in
    let r = c.in-Ok.request in
    if_some_weaker (g.F.Shelf.files c.args.shelf.now) (λ fs. AnswersRequest fs (request r.job (Run c.in-Run.ranks)) c.run_call.result) (λ fs. AnswersWords fs words c.run_call.result)
    (λ fs answers. words_answered fs words r (Run c.in-Run.ranks) c.run_call.result c.in-Ok.ensures.found c.in-Run.is answers) c.run_call.ensures.told

pub returns-in-Plan-clause-words : goal.returns-in-Plan-clause-words
returns-in-Plan-clause-words g c = λ rule broken. absurd (request_fine (map string_bytes c.args.words.now) c.in-Ok.request rule c.in-Ok.ensures.found broken)

pub returns-in-Plan-clause-told : goal.returns-in-Plan-clause-told
returns-in-Plan-clause-told g c =
    let words = map string_bytes c.args.words.now in
    let r = c.in-Ok.request in
    if_some_weaker (g.F.Shelf.files c.args.shelf.now) (λ fs. AnswersRequest fs (request r.job Plan) c.plan_call.result) (λ fs. AnswersWords fs words c.plan_call.result)
    (λ fs answers. words_answered fs words r Plan c.plan_call.result c.in-Ok.ensures.found c.in-Plan.is answers) c.plan_call.ensures.told

pub returns-in-Ok-clause-words : goal.returns-in-Ok-clause-words
returns-in-Ok-clause-words g c = λ rule broken. absurd (request_fine (map string_bytes c.args.words.now) c.in-Ok.request rule c.in-Ok.ensures.found broken)

pub returns-in-Ok-clause-told : goal.returns-in-Ok-clause-told
returns-in-Ok-clause-told g c =
    let words = map string_bytes c.args.words.now in
    let r = c.in-Ok.request in
    let command = Replay c.in-Replay.ranks c.in-Replay.seed in
    if_some_weaker (g.F.Shelf.files c.args.shelf.now) (λ fs. AnswersRequest fs (request r.job command) c.replay_call.result) (λ fs. AnswersWords fs words c.replay_call.result)
    (λ fs answers. words_answered fs words r command c.replay_call.result c.in-Ok.ensures.found c.in-Replay.is answers) c.replay_call.ensures.told

pub returns-clause-words : goal.returns-clause-words
returns-clause-words g c = λ rule broken.
    ap (λ f. Err f) (no_request_for (map string_bytes c.args.words.now) c.in-Err.refused c.no_request.result rule c.in-Err.ensures.refused c.no_request.ensures broken)

pub returns-clause-told : goal.returns-clause-told
returns-clause-told g c =
    let words = map string_bytes c.args.words.now in
    for_all (g.F.Shelf.files c.args.shelf.now) (λ fs. AnswersWords fs words (Err c.no_request.result))
    (λ fs. no_request_in fs words c.in-Err.refused c.no_request.result c.in-Err.ensures.refused c.no_request.ensures)
