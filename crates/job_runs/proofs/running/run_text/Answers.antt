use Rattle.job_model.specs.Nests.{end_state}
use Rattle.whole_runs.specs.Engine.{entries_in, first_state}
use Rattle.job_runs.proofs.running.run_text.Goals as goal

pub print_stores-requires : goal.print_stores-requires
print_stores-requires g c = record {
  prints = c.requires.accepted.prints;
  entries = entries_in c.args.matrices;
  state = end_state c.args.job.now (first_state c.args.matrices);
  held = c.in_ok-stores.ensures;
}

pub returns : goal.returns
returns g c = c.print_stores.ensures (entries_in c.args.matrices) (end_state c.args.job.now (first_state c.args.matrices)) c.in_ok-stores.ensures
