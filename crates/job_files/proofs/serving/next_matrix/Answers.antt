use Rattle.std.proofs.Common.{◌≡◌, Some, Ok, position, sym, ap, ◌∙◌}
use Rattle.job_files.specs.Uses.{is_of}
use Rattle.job_files.specs.Serving.{Beside, IsServed, Serves, beside_first, is_known}
use Rattle.job_files.proofs.ShelfLemmas.{if_some_weaker}
use Rattle.job_files.proofs.ServingLemmas.{fit_again, serves_again}
use Rattle.job_files.proofs.serving.next_matrix.Goals as goal

pub returns-in-Ok-clause-fit : goal.returns-in-Ok-clause-fit
returns-in-Ok-clause-fit g c first low beside =
    fit_again first c.args.uses.now c.args.uses.now c.args.matrices.now c.args.file.now c.in-Ok.matrix beside (sym c.in-Some.ensures ∙ ap (λ m. Some m) (sym c.in-Ok.ensures))

pub returns-in-Ok-clause-told : goal.returns-in-Ok-clause-told
returns-in-Ok-clause-told g c =
    let there : beside_first c.args.matrices.now (position (is_of c.args.file.now) c.args.uses.now) ≡ Some c.in-Ok.matrix = sym c.in-Some.ensures ∙ ap (λ m. Some m) (sym c.in-Ok.ensures) in
    if_some_weaker (g.F.Shelf.files c.args.shelf.now)
    (λ fs. Beside (IsServed fs c.args.uses.now) c.args.uses.now c.args.matrices.now)
    (λ fs. Serves fs c.args.uses.now c.args.weight c.args.file.now (is_known c.args.uses.now c.args.matrices.now c.args.file.now) (Ok (record { matrix = c.in-Ok.matrix; weight = c.args.weight })))
    (λ fs beside. serves_again fs c.args.uses.now c.args.matrices.now c.args.weight c.args.file.now c.in-Ok.matrix beside there)
    c.requires.served
