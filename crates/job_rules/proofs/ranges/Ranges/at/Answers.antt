use Rattle.std.proofs.Common.{◌∙◌, sym, ap, pos}
use Rattle.std.specs.Prelude.{slice_get}
use Rattle.job_rules.proofs.ListLemmas.{get_or-none}
use Rattle.job_rules.proofs.ranges.Ranges.at.Goals as goal

pub returns-in-None-clause-value : goal.returns-in-None-clause-value
returns-in-None-clause-value c =
    let none = ap (λ r. slice_get r c.args.variable) (sym c.self.view_is) ∙ sym c.in-None.ensures.value in
    sym (get_or-none c.args.self.now c.args.variable (record { lo = pos 0; hi = pos 1 }) none)
