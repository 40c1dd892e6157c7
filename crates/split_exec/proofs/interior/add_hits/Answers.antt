use Rattle.std.proofs.Common.{◌∙◌, ◌+◌, List, refl, sym, ap, subst, arith}
use Rattle.std.specs.List.{All}
use Rattle.std.proofs.lemmas.List.Elements.{All-head, All-tail}
use Rattle.std.proofs.lemmas.List.Sums.{sum_by-cons}
use Rattle.node_prog.specs.Visiting.{left_in}
use Rattle.walks.specs.declared.hit.Hit.{Hit}
use Rattle.split_exec.specs.Hits.{IsSound, hit_adds, hits_add}
use Rattle.split_exec.specs.Settings.{Setting, scene_of, setting}
use Rattle.split_exec.proofs.SumLemmas.{owe_last, owe_next}
use Rattle.split_exec.proofs.interior.add_hits.Goals as goal

pub add_hit-requires-clause-sound : goal.add_hit-requires-clause-sound
add_hit-requires-clause-sound g c =
    let s : Setting = setting g.P.Placement.triples g.P.Placement.ranks g.V.Access.tree g.V.Cells.grid c.args.job.now c.args.places.now c.args.nest.now c.args.stores.now in
    let t = c.args.planned.now.term in
    let next = c.hits-test.ensures.given refl in
    subst (IsSound s c.args.rank t) (sym c.hit.ensures)
    (All-head (IsSound s c.args.rank t) c.advance.new.self.visit.hit (left_in (scene_of s c.args.planned.now) c.advance.new.self) (subst (All (IsSound s c.args.rank t)) next c.hits.invariant.sound))

pub hits-preserved : goal.hits-preserved
hits-preserved g c =
    let s : Setting = setting g.P.Placement.triples g.P.Placement.ranks g.V.Access.tree g.V.Cells.grid c.args.job.now c.args.places.now c.args.nest.now c.args.stores.now in
    let t = c.args.planned.now.term in
    let next = c.hits-test.ensures.given refl in
    let h : Hit = c.advance.new.self.visit.hit in
    let rest : List Hit = left_in (scene_of s c.args.planned.now) c.advance.new.self in
    record {
      visit = c.advance.ensures.visit;
      sound = All-tail (IsSound s c.args.rank t) h rest (subst (All (IsSound s c.args.rank t)) next c.hits.invariant.sound);
      owe = owe_next c.hits.delta c.add_hit.new.delta c.args.delta.now (hits_add s c.args.rank t (left_in (scene_of s c.args.planned.now) c.hits.visit)) (hits_add s c.args.rank t rest)
          (hits_add s c.args.rank t (left_in (scene_of s c.args.planned.now) c.args.visit.now)) (λ k. hit_adds s c.args.rank t k c.hit.result.now) c.hits.invariant.owe c.add_hit.ensures
          (λ k. ap (λ hs. hits_add s c.args.rank t hs k) next ∙ sum_by-cons (hit_adds s c.args.rank t k) h rest ∙ ap (λ a. hit_adds s c.args.rank t k a + hits_add s c.args.rank t rest k) (sym c.hit.ensures));
      cost = (let cost = c.advance.ensures.cost in omega (arith, cost, c.hits.invariant.cost));
    }

pub returns-clause-grows : goal.returns-clause-grows
returns-clause-grows g c =
    let s : Setting = setting g.P.Placement.triples g.P.Placement.ranks g.V.Access.tree g.V.Cells.grid c.args.job.now c.args.places.now c.args.nest.now c.args.stores.now in
    let t = c.args.planned.now.term in
    let last = c.hits-test.ensures.end refl in
    owe_last c.hits.delta c.args.delta.now (hits_add s c.args.rank t (left_in (scene_of s c.args.planned.now) c.hits.visit)) (hits_add s c.args.rank t (left_in (scene_of s c.args.planned.now) c.args.visit.now)) c.hits.invariant.owe
    (λ k. ap (λ hs. hits_add s c.args.rank t hs k) last)
