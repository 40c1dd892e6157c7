use Rattle.std.proofs.Common.{Ok, subst}
use Rattle.job_files.specs.Answers.{LoadsMatrix}
use Rattle.job_files.specs.Serving.{IsTaken, Takes}
use Rattle.job_files.proofs.ShelfLemmas.{if_some_weaker}
use Rattle.job_files.proofs.LoadingLemmas.{fit_taken, grows_taken, takes_read}
use Rattle.job_files.proofs.serving.load_file.Goals as goal

pub returns-in-Ok-clause-fit : goal.returns-in-Ok-clause-fit
returns-in-Ok-clause-fit g c =
    fit_taken c.args.uses.now c.args.weight c.args.file.now c.in-Ok.matrix c.taken.result c.in-Ok.ensures.matrix
    (subst (λ n. IsTaken c.args.uses.now c.args.weight n c.in-Ok.matrix c.taken.result) c.as_bytes.ensures c.taken.ensures)

pub returns-in-Ok-clause-grows : goal.returns-in-Ok-clause-grows
returns-in-Ok-clause-grows g c =
    grows_taken c.args.uses.now c.args.weight c.args.file.now c.in-Ok.matrix c.taken.result
    (subst (λ n. IsTaken c.args.uses.now c.args.weight n c.in-Ok.matrix c.taken.result) c.as_bytes.ensures c.taken.ensures)

pub returns-in-Ok-clause-told : goal.returns-in-Ok-clause-told
returns-in-Ok-clause-told g c =
    if_some_weaker (g.F.Shelf.files c.args.shelf.now)
    (λ fs. LoadsMatrix fs c.args.file.now (Ok c.in-Ok.matrix))
    (λ fs. Takes fs c.args.uses.now c.args.weight c.args.file.now c.taken.result)
    (λ fs read. takes_read fs c.args.uses.now c.args.weight c.args.file.now c.in-Ok.matrix c.taken.result read
    (subst (λ n. IsTaken c.args.uses.now c.args.weight n c.in-Ok.matrix c.taken.result) c.as_bytes.ensures c.taken.ensures))
    c.in-Ok.ensures.told
