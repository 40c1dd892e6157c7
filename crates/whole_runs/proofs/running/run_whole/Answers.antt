use Rattle.std.proofs.Common.{subst, sym}
use Rattle.job_plans.proofs.LawLemmas.{can_plan}
use Rattle.job_plans.specs.Least.{AreLeast, CanPlan}
use Rattle.std.specs.List.{All}
use Rattle.std.proofs.lemmas.Result.{IfOk-weaker}
use Rattle.job_files.specs.FileOrder.{IsArrayIn}
use Rattle.job_model.specs.Nests.{end_state}
use Rattle.whole_laws.specs.HeldArrays.{HoldsState}
use Rattle.whole_turns.specs.Turns.{IsHeld}
use Rattle.whole_runs.specs.Engine.{entries_in, first_state}
use Rattle.whole_runs.proofs.RunLemmas.{first_held, matrices_are, plannable, planned_nests}
use Rattle.whole_runs.proofs.StoreLemmas.{zip_long}
use Rattle.whole_runs.proofs.running.run_whole.Goals as goal

pub measured-requires-clause-count : goal.measured-requires-clause-count
measured-requires-clause-count g c = zip_long (IsArrayIn c.args.job.now.formats) c.args.job.now.arrays c.args.matrices c.requires.arrays

pub measured-requires-clause-matrices : goal.measured-requires-clause-matrices
measured-requires-clause-matrices g c = matrices_are c.args.job.now c.args.matrices c.args.orders.now c.requires

pub plans-requires : goal.plans-requires
plans-requires g c =
    subst (λ stats. All (CanPlan c.args.job.now stats) c.args.job.now.nests) (sym c.in_ok-stats.ensures)
    (can_plan c.args.job.now c.args.matrices (plannable c.args.job.now c.args.matrices c.args.orders.now c.requires))

pub run_turns-requires-clause-held : goal.run_turns-requires-clause-held
run_turns-requires-clause-held g c = record {
  entries = entries_in c.args.matrices;
  state = first_state c.args.matrices;
  held = first_held c.args.job.now c.args.matrices c.args.orders.now c.in_ok-places.places c.in_ok-stores.stores c.requires c.in_ok-places.ensures c.in_ok-stores.ensures;
}

pub run_turns-requires-clause-plans : goal.run_turns-requires-clause-plans
run_turns-requires-clause-plans g c =
    planned_nests c.args.job.now c.args.matrices c.args.orders.now c.in_ok-plans.plans c.requires
    (subst (λ stats. AreLeast c.args.job.now stats c.in_ok-plans.plans) c.in_ok-stats.ensures c.in_ok-plans.ensures)

pub returns : goal.returns
returns g c =
    let job = c.args.job.now in
    let ms = c.args.matrices in
    IfOk-weaker c.run_turns.result (IsHeld job (entries_in ms) (end_state job (first_state ms)) c.in_ok-places.places) (HoldsState job (entries_in ms) (end_state job (first_state ms)))
    (λ after held. held.holds)
    (c.run_turns.ensures (entries_in ms) (first_state ms) (first_held job ms c.args.orders.now c.in_ok-places.places c.in_ok-stores.stores c.requires c.in_ok-places.ensures c.in_ok-stores.ensures))
