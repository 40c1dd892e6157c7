use Rattle.std.proofs.Common.{Ok}
use Rattle.job_files.proofs.ShelfLemmas.{if_some_weaker}
use Rattle.job_files.specs.FileOrder.{Loads}
use Rattle.job_files.specs.Uses.{unplaced}
use Rattle.job_runs.proofs.DueLemmas.{are_of_job}
use Rattle.bern_top.specs.Answers.{AnswersJob}
use Rattle.bern_top.specs.Requests.{request}
use Rattle.bern_top.specs.declared.requests.Command.TheVariants.{Plan}
use Rattle.bern_top.proofs.EndingLemmas.{plan_done}
use Rattle.bern_top.proofs.PlanLemmas.{can_be_planned}
use Rattle.bern_top.proofs.texts.text_of_plan.Goals as goal

pub text_of_plans-requires-clause-matrices : goal.text_of_plans-requires-clause-matrices
text_of_plans-requires-clause-matrices g c = (are_of_job c.args.job.now c.in-Ok.matrices c.in-Ok.ensures.matrices).matrices_are

pub text_of_plans-requires-clause-can : goal.text_of_plans-requires-clause-can
text_of_plans-requires-clause-can g c = can_be_planned c.args.job.now c.in-Ok.matrices c.requires.accepted c.requires.axes c.in-Ok.ensures.matrices

pub returns-in-Ok-text_of_plans-clause-told : goal.returns-in-Ok-text_of_plans-clause-told
returns-in-Ok-text_of_plans-clause-told g c =
    let job = c.args.job.now in
    let name = c.args.name.now in
    if_some_weaker (g.F.Shelf.files c.args.shelf.now) (λ fs. Loads fs name 1 (unplaced job) (Ok c.in-Ok.matrices)) (λ fs. AnswersJob fs (request name Plan) job (Ok c.in-Ok-text_of_plans.text))
    (λ fs loads. plan_done fs name job c.in-Ok.matrices c.in-Ok-text_of_plans.text loads c.in-Ok-text_of_plans.ensures) c.in-Ok.ensures.told
