-- The points with the first k values of the variable have written.
use Rattle.std.proofs.Common.{◌+◌, ◌-◌, length, map, take, drop}
use Rattle.format_model.specs.Grids.{SameBranches}
use Rattle.job_model.specs.Points.{spans_of}
use Rattle.split_exec.specs.Applying.{CanApply}
use Rattle.split_exec.specs.Boxes.{Replaces, points_below}
use Rattle.split_exec.proofs.boxes.+write_from.Given as goal

abbrev pub decreases-write_from : goal.decreases-write_from
decreases-write_from g l = 4 - l.depth

abbrev pub invariant-loop-k : goal.invariant-loop-k
invariant-loop-k g l = record {
  can : CanApply l.job (map g.P.Placement.triples l.places) (map g.P.Placement.ranks l.places) l.nest l.rank (length l.delta) (g.D.Cells.grid l.target);
  replaces : Replaces l.job (map g.P.Placement.triples l.places) l.nest l.rank l.delta (g.D.Cells.grid l.fn.target) (g.D.Cells.grid l.target) (points_below (take l.depth l.values) (drop (l.depth + 1) (spans_of l.nest.vars)) l.span.0 l.k);
  branches : SameBranches (g.D.Access.tree l.fn.target) (g.D.Access.tree l.target);
}
