use Rattle.std.proofs.Common.{◌≡◌, List, take, take_all, ◌∙◌, subst, arith}
use Rattle.bern_base.specs.declared.matrix.Entry.{Entry}
use Rattle.format_model.specs.Axes.{extent_of}
use Rattle.formats.proofs.MarkLemmas.{AreMarked, all_marked}
use Rattle.formats.proofs.filled.marks.Goals as goal

pub returns : goal.returns
returns c =
    let entries : List Entry = c.args.matrix.now.entries in
    let whole : take c.loop-entry.entry-index c.as_slice-entry-items.result.now ≡ entries = take_all c.loop-entry.entry-index c.as_slice-entry-items.result.now (omega arith) ∙ c.as_slice-entry-items.ensures in
    all_marked c.args.axis c.args.matrix.now.cols (extent_of c.args.axis c.args.matrix.now.rows c.args.matrix.now.cols) entries c.loop-entry.filled.items c.loop-entry.invariant.long
    (subst (λ es. AreMarked c.args.axis c.args.matrix.now.cols es c.loop-entry.filled.items) whole c.loop-entry.invariant.marked)
