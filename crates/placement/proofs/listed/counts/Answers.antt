use Rattle.std.proofs.Common.{◌<◌, sym, subst}
use Rattle.bern_base.specs.declared.matrix.Entry.{Entry}
use Rattle.placement.proofs.DealtLemmas.{at_item}
use Rattle.placement.proofs.listed.counts.Goals as goal

pub index_mut-count-requires : goal.index_mut-count-requires
index_mut-count-requires c =
    subst (λ n. c.entry-item.result.col < n) (sym c.loop-entry.invariant)
    (at_item (λ (e : Entry). e.col < c.args.ranks) c.args.entries.now c.loop-entry.entry-index c.entry-item.result c.loop-entry-test.true c.entry-item.is c.requires)
