use Rattle.std.proofs.Common.{◌≡◌, ◌∙◌, ◌+◌, ◌≤◌, refl, sym, ap, subst, arith}
use Rattle.node_prog.specs.Visiting.{budget_in, left_in}
use Rattle.visits.specs.declared.open_loop.OpenLoop.{OpenLoop}
use Rattle.split_exec.specs.Hits.{hits_add}
use Rattle.split_exec.specs.Runs.{IsRunOf, hits_from}
use Rattle.split_exec.specs.Settings.{Setting, scene_of, setting}
use Rattle.split_exec.proofs.RunLemmas.{hits_both, is_run, left_sound, paid}
use Rattle.split_exec.proofs.SumLemmas.{owe_next}
use Rattle.split_exec.proofs.runs.add_runs.Goals as goal

pub add_run-requires-clause-run : goal.add_run-requires-clause-run
add_run-requires-clause-run g c =
    let s : Setting = setting g.P.Placement.triples g.P.Placement.ranks g.V.Access.tree g.V.Cells.grid c.args.job.now c.args.places.now c.args.nest.now c.args.stores.now in
    let p = c.args.planned.now in
    let rank_is : c.advance_run.new.self.rank ≡ c.args.rank = c.runs-test.ensures.rank ∙ c.runs.invariant.rank in
    subst (IsRunOf s p c.args.rank c.args.line) (sym c.run.ensures)
    (is_run s c.args.rank p c.requires.can c.args.line c.requires.line c.runs.visit c.advance_run.new.self rank_is (c.runs-test.ensures.given refl) (c.runs-test.ensures.run refl) c.runs.invariant.sound)

pub runs-preserved : goal.runs-preserved
runs-preserved g c =
    let s : Setting = setting g.P.Placement.triples g.P.Placement.ranks g.V.Access.tree g.V.Cells.grid c.args.job.now c.args.places.now c.args.nest.now c.args.stores.now in
    let p = c.args.planned.now in
    let rank = c.args.rank in
    let w = c.advance_run.new.self in
    let rank_is : w.rank ≡ rank = c.runs-test.ensures.rank ∙ c.runs.invariant.rank in
    let given = c.runs-test.ensures.given refl in
    let run = c.runs-test.ensures.run refl in
    record {
      visit = c.advance_run.ensures.visit;
      rank = rank_is;
      sound = left_sound s rank p c.requires.can c.args.line c.requires.line c.runs.visit w rank_is given run c.runs.invariant.sound;
      owe = owe_next c.runs.delta c.add_run.new.delta c.args.delta.now (hits_add s rank p.term (left_in (scene_of s p) c.runs.visit)) (hits_add s rank p.term (left_in (scene_of s p) w))
          (hits_add s rank p.term (left_in (scene_of s p) c.args.visit.now)) (hits_add s rank p.term (hits_from s p rank c.args.line c.run.result.now c.run.result.now.place)) c.runs.invariant.owe c.add_run.ensures.grows
          (λ k. hits_both s rank p c.requires.can c.args.line c.requires.line c.runs.visit w rank_is given run k
          ∙ ap (λ (r : OpenLoop). hits_add s rank p.term (hits_from s p rank c.args.line r r.place) k + hits_add s rank p.term (left_in (scene_of s p) w) k) (sym c.run.ensures));
      cost =
          (let spent = subst (λ (r : OpenLoop). c.add_run.new.steps + r.place ≤ c.advance_run.new.steps + r.end) c.run.ensures c.add_run.ensures.cost in
          let left = paid s rank p c.requires.can c.args.line c.requires.line c.runs.visit w rank_is given run (c.runs.steps + budget_in (scene_of s p) c.runs.visit) c.advance_run.new.steps c.add_run.new.steps (c.runs-test.ensures.cost refl) spent in
          omega (arith, left, c.runs.invariant.cost));
    }
