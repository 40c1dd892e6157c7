use Rattle.std.proofs.Common.{subst}
use Rattle.node_prog.specs.Visiting.{GoesAlong}
use Rattle.split_exec.specs.Settings.{Setting, scene_of, setting}
use Rattle.split_exec.proofs.RunLemmas.{line_low}
use Rattle.split_exec.proofs.interior.line_of.Goals as goal

pub only_moving-requires : goal.only_moving-requires
only_moving-requires g c =
    let s : Setting = setting g.P.Placement.triples g.P.Placement.ranks g.V.Access.tree g.V.Cells.grid c.args.job.now c.args.places.now c.args.nest.now c.args.stores.now in
    let along : GoesAlong (scene_of s c.args.planned.now) c.args.rank c.in-Some.line = subst (λ r. GoesAlong (scene_of s c.args.planned.now) r c.in-Some.line) c.requires.rank c.in-Some.ensures in
    line_low s c.args.rank c.args.planned.now c.requires.can c.in-Some.line along
