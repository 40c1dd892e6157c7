use Rattle.std.proofs.Common.{◌≡◌, ◌∙◌, ◌+◌, ◌∷◌, sym, subst, arith}
use Rattle.bern_base.specs.Affine.{IsWithin}
use Rattle.bern_base.proofs.AffineLemmas.{word, word_kept}
use Rattle.split_exec.specs.Runs.{hit_at, hits_from}
use Rattle.split_exec.specs.Settings.{Setting, setting}
use Rattle.split_exec.proofs.RunLemmas.{child_passed, child_taken}
use Rattle.split_exec.proofs.runs.first_bound.Goals as goal

pub returns-in-Some-clause-some : goal.returns-in-Some-clause-some
returns-in-Some-clause-some g c =
    let s : Setting = setting g.P.Placement.triples g.P.Placement.ranks g.V.Access.tree g.V.Cells.grid c.args.job.now c.args.places.now c.args.nest.now c.args.stores.now in
    let p = c.args.planned.now in
    let line = c.args.line in
    let run = c.args.run.now in
    let kept : word c.in-Some.value ≡ c.in-Some.value = word_kept 4194303 c.in-Some.value (omega arith) c.in-Some.ensures.near in
    record {
      order = c.places.invariant.order;
      within = omega (arith, c.places-test.true);
      near = subst (IsWithin 4194303) (sym kept) c.in-Some.ensures.near;
      same = c.places.invariant.same;
      here = subst (λ y. hits_from s p c.args.rank line run c.places.place ≡ hit_at line run c.child_at-index.result.1 y ∷ hits_from s p c.args.rank line run (c.places.place + 1)) (sym kept)
          (child_taken s p c.args.rank line run c.requires.run c.places.place c.child_at-index.result.0 c.child_at-index.result.1 c.places.invariant.order c.child_at-index.ensures.child c.in-Some.value
          (c.in-Some.ensures.some _ line.reference line.level line.var c.child_at-index.result.1 c.requires.run.driving.driven));
    }

pub places-preserved : goal.places-preserved
places-preserved g c =
    let s : Setting = setting g.P.Placement.triples g.P.Placement.ranks g.V.Access.tree g.V.Cells.grid c.args.job.now c.args.places.now c.args.nest.now c.args.stores.now in
    let p = c.args.planned.now in
    let line = c.args.line in
    let run = c.args.run.now in
    record {
      same = c.places.invariant.same
          ∙ child_passed s p c.args.rank line run c.requires.run c.places.place c.child_at-index.result.0 c.child_at-index.result.1 c.places.invariant.order c.child_at-index.ensures.child
          (c.in_default.ensures.none _ line.reference line.level line.var c.child_at-index.result.1 c.requires.run.driving.driven);
      order = omega (arith, c.places.invariant.order);
      within = omega (arith, c.places-test.true);
      cost = omega (arith, c.places.invariant.cost);
    }
