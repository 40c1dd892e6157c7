use Rattle.std.proofs.Common.{Err}
use Rattle.job_files.proofs.ShelfLemmas.{if_some_weaker}
use Rattle.bern_top.specs.Answers.{AnswersBytes, AnswersJob}
use Rattle.bern_top.specs.Requests.{request, running}
use Rattle.bern_top.proofs.EndingLemmas.{bytes_accepted, no_job_in}
use Rattle.bern_top.proofs.TopLemmas.{for_all}
use Rattle.bern_top.proofs.FormLemmas.{accepted_formed}
use Rattle.bern_top.proofs.texts.text_of_bytes.Goals as goal

pub text_of_job-requires-clause-formed : goal.text_of_job-requires-clause-formed
text_of_job-requires-clause-formed g c = accepted_formed c.args.bytes.now c.in-Ok.job c.in-Ok.ensures.accepted c.in-Ok.ensures.keeps

pub returns-in-Ok-clause-told : goal.returns-in-Ok-clause-told
returns-in-Ok-clause-told g c =
    let r = request c.args.name.now (running c.args.ranks c.args.seed) in
    let bytes = c.args.bytes.now in
    let job = c.in-Ok.job in
    let result = c.text_of_job.result in
    if_some_weaker (g.F.Shelf.files c.args.shelf.now) (λ fs. AnswersJob fs r job result) (λ fs. AnswersBytes fs r bytes result)
    (λ fs answers. bytes_accepted fs r bytes job result c.in-Ok.ensures.accepted answers) c.text_of_job.ensures.told

pub returns-in-Err-clause-told : goal.returns-in-Err-clause-told
returns-in-Err-clause-told g c =
    let r = request c.args.name.now (running c.args.ranks c.args.seed) in
    let bytes = c.args.bytes.now in
    for_all (g.F.Shelf.files c.args.shelf.now) (λ fs. AnswersBytes fs r bytes (Err c.no_job.result))
    (λ fs. no_job_in fs r bytes c.in-Err.refused c.no_job.result c.in-Err.ensures.refused c.no_job.ensures)
