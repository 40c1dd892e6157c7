use Rattle.std.proofs.Common.{List, ℕ, Ok, Some}
use Rattle.bern_base.specs.declared.limits.TheConstants.{MOST_JOB_BYTES}
use Rattle.job_files.proofs.ShelfLemmas.{told_both}
use Rattle.job_files.specs.Answers.{ReadsWhole}
use Rattle.bern_top.specs.Answers.{AnswersBytes, AnswersRequest}
use Rattle.bern_top.specs.Requests.{request}
use Rattle.bern_top.specs.declared.requests.Command.TheVariants.{Plan}
use Rattle.bern_top.proofs.EndingLemmas.{file_there}
use Rattle.bern_top.proofs.texts.plans_of_file.Goals as goal

pub returns-in-Ok-Some-clause-told : goal.returns-in-Ok-Some-clause-told
returns-in-Ok-Some-clause-told g c =
    let name = c.args.name.now in
    let r = request name Plan in
    let bytes : List ℕ = c.in-Ok-Some.bytes in
    let result = c.plans_of_bytes.result in
    told_both (g.F.Shelf.files c.args.shelf.now) (g.F.Shelf.files c.read_file.new.shelf)
    (λ fs. ReadsWhole fs name MOST_JOB_BYTES (Ok (Some bytes))) (λ fs. AnswersBytes fs r bytes result) (λ fs. AnswersRequest fs r result)
    c.in-Ok-Some.ensures.keeps.files
    (λ fs there answers. file_there fs r bytes result there.0 answers)
    (rw c.in-Ok-Some.field-0-is at c.in-Ok-Some.ensures.told) (rw c.as_bytes.ensures at c.plans_of_bytes.ensures.told)
