use Rattle.std.proofs.Common.{Bool, List, length, ap, ◌∙◌}
use Rattle.std.specs.List.{filter}
use Rattle.format_model.specs.Axes.{extent_of}
use Rattle.formats.proofs.MarkLemmas.{count_marked}
use Rattle.formats.proofs.filled.filled_lines.Goals as goal

pub returns : goal.returns
returns c =
    c.count_true.ensures ∙ ap (λ (marks : List Bool). length (filter (λ mark. mark) marks)) (c.as_slice.ensures.value ∙ c.in_ok-filled.ensures) ∙ count_marked c.args.axis c.args.matrix.now.cols (extent_of c.args.axis c.args.matrix.now.rows c.args.matrix.now.cols) c.args.matrix.now.entries
