use Rattle.whole_runs.proofs.RunLemmas.{matrices_are}
use Rattle.prog_cases.proofs.LoadLemmas.{can_run}
use Rattle.prog_cases.proofs.loading.load.Goals as goal

pub measured-requires-clause-matrices : goal.measured-requires-clause-matrices
measured-requires-clause-matrices c =
    let job = c.in_ok-job.job in
    let files = c.in-Ok.files in
    matrices_are job files.matrices files.orders
    (can_run c.args.text.now job files.matrices files.orders c.args.ranks c.in_ok-job.ensures.accepted c.in_ok-job.ensures.keeps c.requires c.in-Ok.ensures.light c.in-Ok.ensures.matrices c.in-Ok.ensures.orders)

pub returns-in_ok-stats-in-Ok : goal.returns-in_ok-stats-in-Ok
returns-in_ok-stats-in-Ok c =
    let files = c.in-Ok.files in record {
      can = can_run c.args.text.now c.in_ok-job.job files.matrices files.orders c.args.ranks c.in_ok-job.ensures.accepted c.in_ok-job.ensures.keeps c.requires c.in-Ok.ensures.light c.in-Ok.ensures.matrices
          c.in-Ok.ensures.orders;
      measured_is = c.in_ok-stats-in-Ok.ensures;
    }
