use Rattle.std.proofs.Common.{◌∙◌, sym, ap}
use Rattle.job_rules.specs.Nests.{is_too_wide, ranges_of}
use Rattle.job_rules.proofs.NestLemmas.{near_bounds}
use Rattle.job_rules.proofs.nests.checked.Goals as goal

pub numbered-requires-clause-near : goal.numbered-requires-clause-near
numbered-requires-clause-near c =
    near_bounds _ c.args.nest.now (ap (λ w. is_too_wide (ranges_of w) w) (sym c.in_ok-resolved.ensures) ∙ c.in_ok-try_rules.ensures.near)
