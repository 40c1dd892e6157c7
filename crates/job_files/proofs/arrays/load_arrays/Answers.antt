use Rattle.std.proofs.Common.{IfSome, subst}
use Rattle.job_files.specs.FileOrder.{Loads}
use Rattle.job_files.specs.RowOrders.{matrices_in}
use Rattle.job_files.specs.Uses.{with_places}
use Rattle.job_files.proofs.arrays.load_arrays.Goals as goal

pub returns-clause-told : goal.returns-clause-told
returns-clause-told g c =
    subst (λ places. IfSome (g.F.Shelf.files c.args.shelf.now) (λ fs. Loads fs c.args.name.now c.args.ranks (with_places places c.args.job.now) (matrices_in c.load_with.result)))
    c.as_slice.ensures c.load_with.ensures.told
