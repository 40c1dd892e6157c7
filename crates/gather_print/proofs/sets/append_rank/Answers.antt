use Rattle.std.proofs.Common.{◌==◌, []}
use Rattle.std.specs.Prelude.{if◌then◌else◌}
use Rattle.gather_print.specs.SetsText.{set_line}
use Rattle.gather_print.proofs.TextLemmas.{item_piece}
use Rattle.gather_print.proofs.sets.append_rank.Goals as goal

pub loop-set-preserved : goal.loop-set-preserved
loop-set-preserved c =
    item_piece (λ set. if set.nest == c.args.nest then set_line c.args.job.now c.args.rank set else []) c.args.text.now c.loop-set.text _ c.as_slice-set-items.result.now c.loop-set.set-index
    c.set-item.result c.loop-set-test.true c.set-item.is c.loop-set.invariant c.in_ok-append_where.ensures
