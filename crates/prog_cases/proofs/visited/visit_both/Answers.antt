use Rattle.prog_cases.proofs.StartLemmas.{can_start}
use Rattle.prog_cases.proofs.visited.visit_both.Goals as goal

pub hits-requires : goal.hits-requires
hits-requires g c =
    let l = c.args.loaded.now in
    can_start l.job l.files.matrices l.files.orders l.stats _ _ c.args.nest.now c.args.planned.now c.args.rank _ c.requires.loaded c.requires.plan (c.requires.dealt c.args.rank c.requires.rank) c.requires.views

pub hits_by_runs-requires : goal.hits_by_runs-requires
hits_by_runs-requires g c =
    let l = c.args.loaded.now in
    can_start l.job l.files.matrices l.files.orders l.stats _ _ c.args.nest.now c.args.planned.now c.args.rank _ c.requires.loaded c.requires.plan (c.requires.dealt c.args.rank c.requires.rank) c.requires.views
