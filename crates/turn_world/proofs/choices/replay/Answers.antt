use Rattle.std.proofs.Common.{sym, ◌∙◌, arith}
use Rattle.turn_world.specs.Worlds.{world_in}
use Rattle.turn_world.proofs.EventLemmas.{start_left, done_left, events_small, total_is}
use Rattle.turn_world.proofs.choices.replay.Goals as goal

pub events-init : goal.events-init
events-init g c =
    let first = start_left g.run (world_in g.run c.args.world.nodes c.args.world.boxes) c.requires.1.1.1 in
    let whole = total_is g.run in
    record { fit = c.requires.1.1.0; counted = omega arith; spent = omega arith }

pub overflow_add-count : goal.overflow_add-count
overflow_add-count g c =
    let small = events_small g.run c.requires.1.1.0.run_is in
    let counted = c.events.invariant.counted in
    let left = c.in-Ok.ensures.left in
    omega arith

pub returns-clause-events : goal.returns-clause-events
returns-clause-events g c =
    let none = done_left g.run (world_in g.run c.events.world.nodes c.events.world.boxes) c.events.invariant.fit.fit (sym c.done.ensures.done ∙ c.events-test.false) in
    let counted = c.events.invariant.counted in
    omega arith

pub returns-clause-end : goal.returns-clause-end
returns-clause-end g c = c.done.ensures.end c.events-test.false
