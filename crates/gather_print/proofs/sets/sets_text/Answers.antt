use Rattle.std.proofs.Common.{[]}
use Rattle.gather_print.specs.SetsText.{nest_text}
use Rattle.gather_print.proofs.TextLemmas.{table_piece}
use Rattle.gather_print.proofs.sets.sets_text.Goals as goal

pub loop-nest-preserved : goal.loop-nest-preserved
loop-nest-preserved c =
    table_piece (nest_text c.args.job.now c.args.needs.now) [] c.loop-nest.text _ c.loop-nest.nest c.loop-nest.invariant c.in_ok-append_nest.ensures
