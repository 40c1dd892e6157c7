use Rattle.std.proofs.Common.{◌^◌, arith}
use Rattle.turn_node.proofs.CountLemmas.{count_fits}
use Rattle.turn_node.proofs.due.elements_due.Goals as goal

pub overflow_add-count : goal.overflow_add-count
overflow_add-count c =
    let fits = count_fits c.args.nest c.args.sets.now c.loop-set.set-index c.set-item.result c.loop-set.count (2 ^ 64) c.loop-set-test.true c.set-item.is c.if-set-nest.true c.loop-set.invariant c.requires in
    omega (arith, fits, c.len.ensures)
