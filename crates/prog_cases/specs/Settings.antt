-- What the tests have: loaded jobs, views of their arrays, and runs of visits.
use Rattle.std.specs.Prelude.{◌≡◌, ◌≢◌, ℕ, ◌<◌, List, Some, length, map, pos, slice_get}
use Rattle.bern_base.specs.Affine.{IsWithin}
use Rattle.bern_base.specs.declared.axes.Axis.TheVariants as axis
use Rattle.bern_base.specs.declared.job.Checked.{Checked}
use Rattle.bern_base.specs.declared.job.FormatDecl.{FormatDecl}
use Rattle.bern_base.specs.declared.matrix.Matrix.{Matrix}
use Rattle.bern_base.specs.declared.stats.Stats.{Stats}
use Rattle.format_model.specs.Levels.{levels_of}
use Rattle.format_model.specs.Trees.{IsParent, IsTree, Tree, axis_at, depth_of}
use Rattle.job_plans.specs.Least.{measured}
use Rattle.node_prog.specs.declared.run_line.RunLine.{RunLine}
use Rattle.node_prog.specs.Conditions.{ArePlaced, IsViewIn}
use Rattle.placement.specs.Cyclic.{cyclic_triples}
use Rattle.placement.specs.declared.cyclic.Cyclic.{Cyclic}
use Rattle.visits.specs.declared.open_loop.OpenLoop.{OpenLoop}
use Rattle.visits.specs.Lines.{IsLine}
use Rattle.walks.specs.Courses.{node_of}
use Rattle.whole_runs.specs.Engine.{CanRun}

-- an accepted job with what its files give its arrays, and what is measured of it
pub record IsLoaded (job : Checked) (matrices : List Matrix) (orders : List (List ℕ)) (stats : List Stats) : Type 0 where
  pub can : CanRun job matrices orders
  pub measured_is : stats ≡ measured job matrices

-- a view with the levels of a format
pub record IsSeen (format : FormatDecl) (t : Tree) : Type 0 where
  pub lawful : IsTree t
  pub levels : t.levels ≡ levels_of format.shape
  pub outer : (level : ℕ) → level < depth_of t → axis_at t level ≡ axis.Both → level ≡ 0

-- a view of each array of a job, by its number
pub record AreViewsIn (job : Checked) (trees : List Tree) : Type 0 where
  pub count : length trees ≡ length job.arrays
  pub each : (k : ℕ) (t : Tree) → slice_get trees k ≡ Some t → IsViewIn job k t

-- places of a job at each of so many ranks
abbrev pub AreDealt : Checked → ℕ → List Cyclic → Type 0
AreDealt job ranks places =
    (rank : ℕ) → rank < ranks → ArePlaced job (map (λ p. cyclic_triples p.extent p.ranks p.block) places) (map (λ p. p.ranks) places) rank

-- a run that can be gone over along its line in a view
pub record CanGoAlong (t : Tree) (line : RunLine) (run : OpenLoop) : Type 0 where
  pub reference : line.reference < 4
  pub variable : line.var < 4
  pub wide : length run.hit.leaves ≡ 4
  pub parent : IsParent t line.level (node_of run.hit line.reference)
  pub base : IsWithin 140737488355327 run.base
  pub slope : run.slope ≢ pos 0
  pub places : IsLine t line.level (node_of run.hit line.reference) run.from run.place run.end
