use Rattle.std.proofs.Common.{Err}
use Rattle.job_accept.proofs.AxisLemmas.{axes_one}
use Rattle.job_files.proofs.ShelfLemmas.{if_some_weaker}
use Rattle.bern_top.specs.Answers.{AnswersBytes, AnswersJob}
use Rattle.bern_top.specs.Requests.{request}
use Rattle.bern_top.specs.declared.requests.Command.TheVariants.{Plan}
use Rattle.bern_top.proofs.EndingLemmas.{bytes_accepted, no_job_in}
use Rattle.bern_top.proofs.TopLemmas.{for_all}
use Rattle.bern_top.proofs.texts.plans_of_bytes.Goals as goal

pub text_of_plan-requires-clause-axes : goal.text_of_plan-requires-clause-axes
text_of_plan-requires-clause-axes g c = axes_one c.args.bytes.now c.in-Ok.job c.in-Ok.ensures.accepted

pub returns-in-Ok-clause-told : goal.returns-in-Ok-clause-told
returns-in-Ok-clause-told g c =
    let r = request c.args.name.now Plan in
    let bytes = c.args.bytes.now in
    let job = c.in-Ok.job in
    let result = c.text_of_plan.result in
    if_some_weaker (g.F.Shelf.files c.args.shelf.now) (λ fs. AnswersJob fs r job result) (λ fs. AnswersBytes fs r bytes result)
    (λ fs answers. bytes_accepted fs r bytes job result c.in-Ok.ensures.accepted answers) c.text_of_plan.ensures.told

pub returns-in-Err-clause-told : goal.returns-in-Err-clause-told
returns-in-Err-clause-told g c =
    let r = request c.args.name.now Plan in
    let bytes = c.args.bytes.now in
    for_all (g.F.Shelf.files c.args.shelf.now) (λ fs. AnswersBytes fs r bytes (Err c.no_job.result))
    (λ fs. no_job_in fs r bytes c.in-Err.refused c.no_job.result c.in-Err.ensures.refused c.no_job.ensures)
