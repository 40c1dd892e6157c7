use Rattle.std.proofs.Common.{Ok}
use Rattle.job_files.proofs.ShelfLemmas.{if_some_weaker}
use Rattle.job_files.specs.FileOrder.{Loads}
use Rattle.job_runs.proofs.DueLemmas.{are_of_job}
use Rattle.bern_top.specs.Answers.{AnswersJob}
use Rattle.bern_top.specs.Requests.{request}
use Rattle.bern_top.specs.declared.requests.Command.TheVariants.{Replay}
use Rattle.bern_top.proofs.EndingLemmas.{replay_done}
use Rattle.bern_top.proofs.texts.text_of_replay.Goals as goal

pub replay_text-requires-clause-matrices : goal.replay_text-requires-clause-matrices
replay_text-requires-clause-matrices g c = are_of_job c.args.job.now c.in-Ok.files.matrices c.in-Ok.ensures.matrices

pub returns-in-Ok-replay_text-clause-told : goal.returns-in-Ok-replay_text-clause-told
returns-in-Ok-replay_text-clause-told g c =
    let job = c.args.job.now in
    let name = c.args.name.now in
    let ranks = c.args.ranks in
    let seed = c.args.seed in
    let product = c.args.product in
    if_some_weaker (g.F.Shelf.files c.args.shelf.now) (λ fs. Loads fs name ranks job (Ok c.in-Ok.files.matrices)) (λ fs. AnswersJob fs (request name (Replay ranks seed)) job (Ok c.in-Ok-replay_text.text))
    (λ fs loads. replay_done fs name ranks seed job product c.in-Ok.files.matrices c.in-Ok-replay_text.text c.requires.product loads c.in-Ok-replay_text.ensures) c.in-Ok.ensures.told
