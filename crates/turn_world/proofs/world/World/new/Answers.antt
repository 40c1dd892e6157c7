use Rattle.std.proofs.Common.{◌∙◌}
use Rattle.turn_world.proofs.WorldLemmas.{new_same, new_fit}
use Rattle.turn_world.proofs.world.World.new.Goals as goal

pub returns-clause-start : goal.returns-clause-start
returns-clause-start g c = new_same g.P.Part.stands g.run c.args.nodes _ c.in_ok-boxes.boxes c.requires.1.1 c.in_ok-boxes.ensures

pub returns-clause-fit : goal.returns-clause-fit
returns-clause-fit g c = new_fit g.P.Part.stands g.run c.args.nodes _ c.in_ok-boxes.boxes c.requires.1.0 c.requires.1.1 c.in_ok-boxes.ensures (c.len.ensures ∙ c.requires.1.1.count)
