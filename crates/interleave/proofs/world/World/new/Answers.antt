use Rattle.std.proofs.Common.{◌∙◌}
use Rattle.interleave.proofs.WorldLemmas.{new_same, new_fit}
use Rattle.interleave.proofs.world.World.new.Goals as goal

pub returns-clause-start : goal.returns-clause-start
returns-clause-start g c = new_same g.run c.args.nodes _ c.in_ok-boxes.boxes c.requires.1 c.in_ok-boxes.ensures

pub returns-clause-fit : goal.returns-clause-fit
returns-clause-fit g c = new_fit g.run c.args.nodes _ c.in_ok-boxes.boxes c.requires.0 c.requires.1 c.in_ok-boxes.ensures (c.len.ensures ∙ c.requires.1.count)
