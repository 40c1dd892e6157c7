use Rattle.std.proofs.Common.{sym, subst}
use Rattle.std.specs.List.{All}
use Rattle.split_exec.specs.Hits.{Grow, IsSound, hits_add}
use Rattle.split_exec.specs.Settings.{Setting, setting}
use Rattle.split_exec.proofs.SoundLemmas.{all_sound, can_start}
use Rattle.split_exec.proofs.interior.add_term.Goals as goal

pub new-visit-requires : goal.new-visit-requires
new-visit-requires g c =
    let s : Setting = setting g.P.Placement.triples g.P.Placement.ranks g.V.Access.tree g.V.Cells.grid c.args.job.now c.args.places.now c.args.nest.now c.args.stores.now in
    can_start s c.args.rank c.args.planned.now c.requires.can

pub add_hits-requires-clause-sound : goal.add_hits-requires-clause-sound
add_hits-requires-clause-sound g c =
    let s : Setting = setting g.P.Placement.triples g.P.Placement.ranks g.V.Access.tree g.V.Cells.grid c.args.job.now c.args.places.now c.args.nest.now c.args.stores.now in
    subst (All (IsSound s c.args.rank c.args.planned.now.term)) (sym c.new-visit.ensures.given) (all_sound s c.args.rank c.args.planned.now c.requires.can)

pub add_runs-requires-clause-sound : goal.add_runs-requires-clause-sound
add_runs-requires-clause-sound g c =
    let s : Setting = setting g.P.Placement.triples g.P.Placement.ranks g.V.Access.tree g.V.Cells.grid c.args.job.now c.args.places.now c.args.nest.now c.args.stores.now in
    subst (All (IsSound s c.args.rank c.args.planned.now.term)) (sym c.new-visit.ensures.given) (all_sound s c.args.rank c.args.planned.now c.requires.can)

pub returns-clause-grows : goal.returns-clause-grows
returns-clause-grows g c =
    let s : Setting = setting g.P.Placement.triples g.P.Placement.ranks g.V.Access.tree g.V.Cells.grid c.args.job.now c.args.places.now c.args.nest.now c.args.stores.now in
    subst (λ hs. Grow c.args.delta.now c.add_runs.new.delta (hits_add s c.args.rank c.args.planned.now.term hs)) c.new-visit.ensures.given c.add_runs.ensures.grows
