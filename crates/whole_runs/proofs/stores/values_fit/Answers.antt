use Rattle.std.proofs.Common.{◌<◌, ◌^◌}
use Rattle.whole_runs.proofs.ListLemmas.{taken_all, taken_more}
use Rattle.whole_runs.proofs.stores.values_fit.Goals as goal

pub loop-entry-preserved : goal.loop-entry-preserved
loop-entry-preserved c =
    taken_more (λ e. e.value < 2 ^ 64) c.as_slice-entry-items.result.now c.loop-entry.entry-index c.entry-item.result c.loop-entry-test.true c.entry-item.is c.loop-entry.invariant c.bits-bits.ensures.fits

pub returns : goal.returns
returns c =
    taken_all (λ e. e.value < 2 ^ 64) c.as_slice-entry-items.result.now c.args.matrix.now.entries c.loop-entry.entry-index c.as_slice-entry-items.ensures c.loop-entry.auto.entry-index-end c.loop-entry-test.false c.loop-entry.invariant
