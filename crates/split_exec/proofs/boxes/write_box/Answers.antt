use Rattle.std.proofs.Common.{◌∷◌, [], map, pos, subst}
use Rattle.job_model.specs.Points.{spans_of}
use Rattle.split_exec.specs.Boxes.{Replaces}
use Rattle.split_exec.proofs.BoxLemmas.{no_point}
use Rattle.split_exec.proofs.boxes.write_box.Goals as goal

pub returns-clause-replaces : goal.returns-clause-replaces
returns-clause-replaces g c =
    subst (Replaces c.args.job.now (map g.P.Placement.triples c.args.places.now) c.args.nest.now c.args.rank c.args.delta.now (g.D.Cells.grid c.args.target.now) (g.D.Cells.grid c.write_from.new.target))
    (no_point (pos 0 ∷ pos 0 ∷ pos 0 ∷ pos 0 ∷ []) (spans_of c.args.nest.now.vars)) c.write_from.ensures.replaces
