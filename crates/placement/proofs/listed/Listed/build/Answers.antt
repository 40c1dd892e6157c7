use Rattle.std.proofs.Common.{◌≡◌, List, map, length, sym, ap, ◌∙◌, subst, arith}
use Rattle.std.specs.List.{range_with_len}
use Rattle.bern_base.specs.declared.matrix.Entry.{Entry}
use Rattle.placement.specs.Placement.{Triple}
use Rattle.placement.proofs.ListedLemmas.{length-listed_triples, seating-length, seating-rows}
use Rattle.placement.proofs.listed.Listed.build.Goals as goal

pub seated-requires-clause-rows : goal.seated-requires-clause-rows
seated-requires-clause-rows c = subst (λ (es : List Entry). map (λ e. e.row) es ≡ range_with_len 0 (length es)) (sym c.as_slice.ensures) (seating-rows c.args.extent c.args.ranks c.args.matrix.now c.in-Ok.ensures.seating)

pub seated-requires-clause-fits : goal.seated-requires-clause-fits
seated-requires-clause-fits c =
    omega (arith, ap (λ (es : List Entry). length es) c.as_slice.ensures, seating-length c.args.extent c.args.ranks c.args.matrix.now c.in-Ok.ensures.seating, c.ranges.extent)

pub returns-in-Ok-seated-clause-extent : goal.returns-in-Ok-seated-clause-extent
returns-in-Ok-seated-clause-extent c =
    ap (λ (ts : List Triple). length ts) c.in-Ok-seated.ensures.triples ∙ length-listed_triples c.as_slice.result.now
    ∙ ap (λ (es : List Entry). length es) c.as_slice.ensures ∙ seating-length c.args.extent c.args.ranks c.args.matrix.now c.in-Ok.ensures.seating
