use Rattle.std.proofs.Common.{Ok}
use Rattle.job_files.proofs.ShelfLemmas.{if_some_weaker}
use Rattle.job_files.specs.FileOrder.{Loads}
use Rattle.bern_top.specs.Answers.{AnswersJob}
use Rattle.bern_top.specs.Requests.{request}
use Rattle.bern_top.specs.declared.requests.Command.TheVariants.{Run}
use Rattle.bern_top.proofs.EndingLemmas.{run_done}
use Rattle.bern_top.proofs.texts.text_of_run.Goals as goal

pub run_text-requires : goal.run_text-requires
run_text-requires g c = record {
  accepted = c.requires.accepted;
  formed = c.requires.formed;
  ranks = c.args.ranks;
  some = c.requires.some;
  light = c.in-Ok.ensures.light;
  arrays = c.in-Ok.ensures.matrices;
  rows = c.in-Ok.ensures.orders;
}

pub returns-in-Ok-run_text-clause-told : goal.returns-in-Ok-run_text-clause-told
returns-in-Ok-run_text-clause-told g c =
    let job = c.args.job.now in
    let name = c.args.name.now in
    let ranks = c.args.ranks in
    if_some_weaker (g.F.Shelf.files c.args.shelf.now) (λ fs. Loads fs name ranks job (Ok c.in-Ok.files.matrices)) (λ fs. AnswersJob fs (request name (Run ranks)) job (Ok c.in-Ok-run_text.text))
    (λ fs loads. run_done fs name ranks job c.in-Ok.files.matrices c.in-Ok-run_text.text loads c.in-Ok-run_text.ensures) c.in-Ok.ensures.told
