-- A job that was read with its files can be run.
use Rattle.std.proofs.Common.{ℕ, ◌≤◌, List}
use Rattle.std.specs.List.{AllZip}
use Rattle.bern_base.specs.declared.job.Checked.{Checked}
use Rattle.bern_base.specs.declared.limits.TheConstants.{MOST_WEIGHT}
use Rattle.bern_base.specs.declared.matrix.Matrix.{Matrix}
use Rattle.bern_top.proofs.FormLemmas.{accepted_formed}
use Rattle.job_accept.specs.Front.{AcceptsBytes}
use Rattle.job_files.specs.FileOrder.{IsArrayIn}
use Rattle.job_files.specs.RowOrders.{IsRowOrder}
use Rattle.job_files.specs.Weight.{weight_of}
use Rattle.job_model.specs.Accepted.{IsAccepted}
use Rattle.whole_runs.specs.Engine.{CanRun}

pub can_run : (bytes : List ℕ) (job : Checked) (ms : List Matrix) (orders : List (List ℕ)) (ranks : ℕ) → AcceptsBytes bytes job → IsAccepted job → 1 ≤ ranks →
    weight_of job ranks ≤ MOST_WEIGHT → AllZip (IsArrayIn job.formats) job.arrays ms → AllZip (IsRowOrder job.formats) job.arrays orders → CanRun job ms orders
can_run bytes job ms orders ranks accepts accepted some light arrays rows = record {
  accepted = accepted;
  formed = accepted_formed bytes job accepts accepted;
  ranks = ranks;
  some = some;
  light = light;
  arrays = arrays;
  rows = rows;
}
