use Rattle.std.proofs.Common.{sym, ap, ◌∙◌}
use Rattle.std.specs.List.{before_first}
use Rattle.job_text.specs.Lines.{trimmed, is_hash}
use Rattle.job_text.proofs.TokenLemmas.{trimmed-trimmed}
use Rattle.job_text.proofs.job.add_line.Goals as goal

pub line_form-requires : goal.line_form-requires
line_form-requires c = ap trimmed c.said-text.ensures ∙ trimmed-trimmed (before_first is_hash c.args.line.now) ∙ sym c.said-text.ensures
