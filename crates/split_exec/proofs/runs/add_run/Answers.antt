use Rattle.std.proofs.Common.{◌∙◌, ◌+◌, ◌<◌, length, refl, sym, ap, subst, arith}
use Rattle.std.specs.List.{All}
use Rattle.std.specs.Prelude.{slice_index_or}
use Rattle.std.proofs.lemmas.List.{length-map}
use Rattle.std.proofs.lemmas.List.Elements.{All-head}
use Rattle.bern_base.proofs.AffineLemmas.{word, word_kept}
use Rattle.bern_base.specs.declared.job.Ref.{Ref}
use Rattle.format_model.specs.Trees.{depth_of}
use Rattle.node_prog.proofs.HomeLemmas.{item}
use Rattle.plan_courses.specs.JobCourses.{ref_at}
use Rattle.visits.specs.Ways.{no_tree}
use Rattle.split_exec.specs.Hits.{Grow, IsSound, hits_add}
use Rattle.split_exec.specs.Runs.{hit_at, hits_from}
use Rattle.split_exec.specs.Settings.{Setting, setting}
use Rattle.split_exec.proofs.RunLemmas.{deep_low, grow_whole, lacks_along, sum_low, tree_is}
use Rattle.split_exec.proofs.SumLemmas.{grow_alike, grow_none}
use Rattle.split_exec.proofs.ViewLemmas.{ref_is}
use Rattle.split_exec.proofs.runs.add_run.Goals as goal

pub at-view-requires : goal.at-view-requires
at-view-requires g c =
    let s : Setting = setting g.P.Placement.triples g.P.Placement.ranks g.V.Access.tree g.V.Cells.grid c.args.job.now c.args.places.now c.args.nest.now c.args.stores.now in
    let p = c.args.planned.now in
    let r = c.args.line.reference in
    let same = ref_is p.term r c.at.result.now c.at.ensures in
    let deep = subst (λ t. c.args.line.level < depth_of t) (tree_is s p c.args.rank r) c.requires.run.can.node.parent.0 in
    omega (arith, deep_low s.trees (ref_at p.term r).array c.args.line.level deep, length-map c.args.stores.now g.V.Access.tree, ap (λ (ref : Ref). ref.array) same)

pub first_bound-requires-clause-view : goal.first_bound-requires-clause-view
first_bound-requires-clause-view g c =
    let s : Setting = setting g.P.Placement.triples g.P.Placement.ranks g.V.Access.tree g.V.Cells.grid c.args.job.now c.args.places.now c.args.nest.now c.args.stores.now in
    let p = c.args.planned.now in
    let r = c.args.line.reference in
    let same = ref_is p.term r c.at.result.now c.at.ensures in
    sym (ap (λ (ref : Ref). slice_index_or s.trees ref.array no_tree) same ∙ item g.V.Access.tree c.args.stores.now c.at.result.now.array c.at-view.result.now no_tree c.at-view.ensures)

pub at-requires-2-clause-sound : goal.at-requires-2-clause-sound
at-requires-2-clause-sound g c =
    let s : Setting = setting g.P.Placement.triples g.P.Placement.ranks g.V.Access.tree g.V.Cells.grid c.args.job.now c.args.places.now c.args.nest.now c.args.stores.now in
    let p = c.args.planned.now in
    let line = c.args.line in
    let run = c.args.run.now in
    let first = c.in-Some.first in
    let found = c.in-Some.ensures.some in
    subst (λ x. IsSound s c.args.rank p.term (hit_at line run first.node x)) (sym (word_kept 4194303 first.value (omega arith) found.near))
    (All-head (IsSound s c.args.rank p.term) (hit_at line run first.node first.value) (hits_from s p c.args.rank line run (first.place + 1))
    (subst (All (IsSound s c.args.rank p.term)) (found.same ∙ found.here) c.requires.run.sound))

pub returns-in_default-at-clause-grows : goal.returns-in_default-at-clause-grows
returns-in_default-at-clause-grows g c =
    let s : Setting = setting g.P.Placement.triples g.P.Placement.ranks g.V.Access.tree g.V.Cells.grid c.args.job.now c.args.places.now c.args.nest.now c.args.stores.now in
    let p = c.args.planned.now in
    let line = c.args.line in
    let run = c.args.run.now in
    grow_none c.args.delta.now (hits_add s c.args.rank p.term (hits_from s p c.args.rank line run run.place))
    (lacks_along s p c.args.rank line run c.requires.run c.args.moving c.requires.others (word c.in-Some.first.value) c.in_default-at.ensures.lacks run.place)

pub add_places-held-requires-clause-view : goal.add_places-held-requires-clause-view
add_places-held-requires-clause-view g c =
    let s : Setting = setting g.P.Placement.triples g.P.Placement.ranks g.V.Access.tree g.V.Cells.grid c.args.job.now c.args.places.now c.args.nest.now c.args.stores.now in
    let p = c.args.planned.now in
    let r = c.args.line.reference in
    let same = ref_is p.term r c.at.result.now c.at.ensures in
    sym (ap (λ (ref : Ref). slice_index_or s.trees ref.array no_tree) same ∙ item g.V.Access.tree c.args.stores.now c.at.result.now.array c.at-view.result.now no_tree c.at-view.ensures)

pub add_places-held-requires-clause-start : goal.add_places-held-requires-clause-start
add_places-held-requires-clause-start g c =
    let s : Setting = setting g.P.Placement.triples g.P.Placement.ranks g.V.Access.tree g.V.Cells.grid c.args.job.now c.args.places.now c.args.nest.now c.args.stores.now in
    sum_low s c.args.rank c.args.planned.now c.requires.can (length c.args.delta.now) (length c.args.delta.now) c.in-Some-at.still.start c.requires.sums refl c.in-Some-at.ensures.start

pub returns-clause-grows : goal.returns-clause-grows
returns-clause-grows g c =
    let s : Setting = setting g.P.Placement.triples g.P.Placement.ranks g.V.Access.tree g.V.Cells.grid c.args.job.now c.args.places.now c.args.nest.now c.args.stores.now in
    let p = c.args.planned.now in
    let rank = c.args.rank in
    let line = c.args.line in
    let run = c.args.run.now in
    let first = c.in-Some.first in
    let found = c.in-Some.ensures.some in
    let old = c.args.delta.now in
    grow_alike old c.add.new.self (hits_add s rank p.term (hits_from s p rank line run first.place)) (hits_add s rank p.term (hits_from s p rank line run run.place))
    (λ k. ap (λ hs. hits_add s rank p.term hs k) (sym found.same))
    (subst (λ new. Grow old new (hits_add s rank p.term (hits_from s p rank line run first.place))) (sym c.add.ensures)
    (grow_whole old c.add_places-held.new.delta c.in-Some-at.still.start c.add_places-held.result (hits_add s rank p.term (hits_from s p rank line run first.place)) c.add_places-held.ensures.grows))
