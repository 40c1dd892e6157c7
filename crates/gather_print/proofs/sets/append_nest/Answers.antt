use Rattle.std.proofs.Common.{◌∙◌, ◌++◌, slice_get, sym, ap}
use Rattle.gather_print.specs.SetsText.{numbered_text}
use Rattle.gather_print.proofs.TextLemmas.{table_piece}
use Rattle.gather_print.proofs.sets.append_nest.Goals as goal

pub loop-rank-preserved : goal.loop-rank-preserved
loop-rank-preserved c =
    table_piece (λ rank. numbered_text c.args.job.now c.args.nest rank (slice_get c.args.needs.now rank)) c.args.text.now c.loop-rank.text _ c.loop-rank.rank c.loop-rank.invariant
    (c.in_ok-append_rank.ensures ∙ ap (λ found. c.loop-rank.text ++ numbered_text c.args.job.now c.args.nest c.loop-rank.rank found) (sym c.at.ensures))
