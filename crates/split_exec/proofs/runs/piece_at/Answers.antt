use Rattle.std.proofs.Common.{◌≡◌, ◌∙◌, ℕ, ℤ, ◌+◌, Some, sym, ap, arith}
use Rattle.bern_base.proofs.AffineLemmas.{word, word_kept}
use Rattle.split_exec.specs.Hits.{hit_adds, hits_add}
use Rattle.split_exec.specs.Runs.{IsPieceAt, IsPieceOf, bound_of, hit_at, hits_from}
use Rattle.split_exec.specs.Settings.{Setting, setting}
use Rattle.split_exec.proofs.RunLemmas.{child_idle, child_passed, child_piece, child_sound}
use Rattle.split_exec.proofs.RankLemmas.{if_none, if_some}
use Rattle.split_exec.proofs.runs.piece_at.Goals as goal

pub returns-in_default-clause-none : goal.returns-in_default-clause-none
returns-in_default-clause-none g c k =
    let s : Setting = setting g.P.Placement.triples g.P.Placement.ranks g.V.Access.tree g.V.Cells.grid c.args.job.now c.args.places.now c.args.nest.now c.args.stores.now in
    let p = c.args.planned.now in
    let line = c.args.line in
    let run = c.args.run.now in
    ap (λ hs. hits_add s c.args.rank p.term hs k)
    (child_passed s p c.args.rank line run c.requires.run c.args.place c.child_at-index.result.0 c.child_at-index.result.1 c.requires.order c.child_at-index.ensures.child
    (c.in_default.ensures.none _ line.reference line.level line.var c.child_at-index.result.1 c.requires.run.driving.driven))

pub piece_of-requires-clause-sound : goal.piece_of-requires-clause-sound
piece_of-requires-clause-sound g c =
    let s : Setting = setting g.P.Placement.triples g.P.Placement.ranks g.V.Access.tree g.V.Cells.grid c.args.job.now c.args.places.now c.args.nest.now c.args.stores.now in
    let p = c.args.planned.now in
    let line = c.args.line in
    let run = c.args.run.now in
    let kept : word c.in-Some.x ≡ c.in-Some.x = word_kept 4194303 c.in-Some.x (omega arith) c.in-Some.ensures.near in
    let x : ℤ = word c.in-Some.x in
    let binds : bound_of s p c.args.rank line run (c.child_at-index.result.0, c.child_at-index.result.1) ≡ Some (hit_at line run c.child_at-index.result.1 x) =
    c.in-Some.ensures.some _ line.reference line.level line.var c.child_at-index.result.1 c.requires.run.driving.driven
    ∙ ap (λ y. Some (hit_at line run c.child_at-index.result.1 y)) (sym kept) in
    child_sound s p c.args.rank line run c.requires.run c.args.place c.child_at-index.result.0 c.child_at-index.result.1 c.requires.order c.child_at-index.ensures.child x binds c.requires.sound

pub returns-clause-some : goal.returns-clause-some
returns-clause-some g c =
    let s : Setting = setting g.P.Placement.triples g.P.Placement.ranks g.V.Access.tree g.V.Cells.grid c.args.job.now c.args.places.now c.args.nest.now c.args.stores.now in
    let p = c.args.planned.now in
    let line = c.args.line in
    let run = c.args.run.now in
    let kept : word c.in-Some.x ≡ c.in-Some.x = word_kept 4194303 c.in-Some.x (omega arith) c.in-Some.ensures.near in
    let x : ℤ = word c.in-Some.x in
    let binds : bound_of s p c.args.rank line run (c.child_at-index.result.0, c.child_at-index.result.1) ≡ Some (hit_at line run c.child_at-index.result.1 x) =
    c.in-Some.ensures.some _ line.reference line.level line.var c.child_at-index.result.1 c.requires.run.driving.driven
    ∙ ap (λ y. Some (hit_at line run c.child_at-index.result.1 y)) (sym kept) in
    if_some c.piece_of.result (IsPieceOf s c.args.rank p.term (hit_at line run c.child_at-index.result.1 x)) (IsPieceAt s p c.args.rank line run c.args.place)
    (child_piece s p c.args.rank line run c.requires.run c.args.place c.child_at-index.result.0 c.child_at-index.result.1 c.requires.order c.child_at-index.ensures.child x binds) c.piece_of.ensures.some

pub returns-clause-none : goal.returns-clause-none
returns-clause-none g c =
    let s : Setting = setting g.P.Placement.triples g.P.Placement.ranks g.V.Access.tree g.V.Cells.grid c.args.job.now c.args.places.now c.args.nest.now c.args.stores.now in
    let p = c.args.planned.now in
    let line = c.args.line in
    let run = c.args.run.now in
    let kept : word c.in-Some.x ≡ c.in-Some.x = word_kept 4194303 c.in-Some.x (omega arith) c.in-Some.ensures.near in
    let x : ℤ = word c.in-Some.x in
    let binds : bound_of s p c.args.rank line run (c.child_at-index.result.0, c.child_at-index.result.1) ≡ Some (hit_at line run c.child_at-index.result.1 x) =
    c.in-Some.ensures.some _ line.reference line.level line.var c.child_at-index.result.1 c.requires.run.driving.driven
    ∙ ap (λ y. Some (hit_at line run c.child_at-index.result.1 y)) (sym kept) in
    if_none c.piece_of.result ((k : ℕ) → hit_adds s c.args.rank p.term k (hit_at line run c.child_at-index.result.1 x) ≡ 0)
    ((k : ℕ) → hits_add s c.args.rank p.term (hits_from s p c.args.rank line run c.args.place) k ≡ hits_add s c.args.rank p.term (hits_from s p c.args.rank line run (c.args.place + 1)) k)
    (child_idle s p c.args.rank line run c.requires.run c.args.place c.child_at-index.result.0 c.child_at-index.result.1 c.requires.order c.child_at-index.ensures.child x binds) c.piece_of.ensures.none
