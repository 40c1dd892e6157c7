use Rattle.std.proofs.Common.{refl, sym, subst}
use Rattle.rank_node.specs.Jobs.{ArePartsOf, IsJobOf}
use Rattle.interleave.specs.TwoRanks.{run_of_two}
use Rattle.interleave.proofs.TwoRanksLemmas.{run_is, job_is, parts_are}
use Rattle.rank_cases.proofs.worlds.node.Goals as goal

pub new-requires : goal.new-requires
new-requires c = (
  run_is,
  (
    subst (IsJobOf run_of_two) (sym c.in_ok-job.ensures) job_is,
    (c.requires, (refl, subst (ArePartsOf run_of_two c.args.rank) (sym c.in_ok-parts.ensures) (parts_are c.args.rank c.requires))),
  ),
)
