use Rattle.std.proofs.Common.{◌+◌, ◌∷◌, [], length, length-append, Ok, Err, ap, ◌∙◌, subst, sym}
use Rattle.std.proofs.Math.Nat.{le_trans}
use Rattle.bern_ports.specs.Frames.{shelf_state}
use Rattle.bern_ports.proofs.FrameLemmas.{keeps_then}
use Rattle.job_files.specs.declared.uses.Use.{Use}
use Rattle.job_files.specs.declared.serving.Loaded.{Loaded}
use Rattle.job_files.specs.Answers.{BlamesOne, KeepsCounts}
use Rattle.job_files.specs.FileOrder.{LoadsUses}
use Rattle.job_files.specs.Serving.{Beside, IsFit, IsFitFor, IsServedSoFar, Serves, is_known}
use Rattle.job_files.proofs.ServingLemmas.{all_counted, all_for_uses, all_have_room, beside_more, next_use, served_more, use_stops, uses_done}
use Rattle.job_files.proofs.ShelfLemmas.{as_fault, cause_then, if_some_weaker, told_both}
use Rattle.job_files.proofs.serving.load_uses.Goals as goal

pub returns-in-Err-clause-told : goal.returns-in-Err-clause-told
returns-in-Err-clause-told g c =
    let u : Use = c.wanted-item.result in
    let at = next_use c.as_slice-wanted-items.result.now c.args.uses.now c.uses.wanted-index (length c.uses.matrices) u c.as_slice-wanted-items.ensures c.uses.invariant.count c.uses-test.true c.wanted-item.is in
    told_both (g.F.Shelf.files c.args.shelf.now) (g.F.Shelf.files c.uses.shelf)
    (λ fs. IsServedSoFar fs c.args.weight c.args.uses.now c.uses.matrices c.uses.total)
    (λ fs. Serves fs c.args.uses.now c.uses.total c.file.result.now (is_known c.args.uses.now c.uses.matrices c.file.result.now) (Err c.in-Err.fault))
    (λ fs. LoadsUses fs c.args.weight c.args.uses.now (Err c.in-Err.fault))
    c.uses.invariant.keeps.files
    (λ fs so_far stops. use_stops fs c.args.weight c.args.uses.now c.uses.matrices c.uses.total u c.in-Err.fault so_far at
    (subst (λ n. Serves fs c.args.uses.now c.uses.total n (is_known c.args.uses.now c.uses.matrices n) (Err c.in-Err.fault)) c.file.ensures stops))
    c.uses.invariant.told c.in-Err.ensures.told

pub uses-preserved : goal.uses-preserved
uses-preserved g c =
    let u : Use = c.wanted-item.result in
    let l : Loaded = c.in-Ok.loaded in
    let first = shelf_state g.F.Shelf c.args.shelf.now in
    let now = shelf_state g.F.Shelf c.uses.shelf in
    let next = shelf_state g.F.Shelf c.next_matrix.new.shelf in
    let at = next_use c.as_slice-wanted-items.result.now c.args.uses.now c.uses.wanted-index (length c.uses.matrices) u c.as_slice-wanted-items.ensures c.uses.invariant.count c.uses-test.true c.wanted-item.is in
    record {
      keeps = keeps_then first now next c.uses.invariant.keeps c.in-Ok.ensures.keeps;
      calm = told_both (g.F.Shelf.files c.args.shelf.now) (g.F.Shelf.files c.uses.shelf)
          (λ fs. KeepsCounts first now) (BlamesOne {T = Loaded} now next (Ok l)) (λ fs. KeepsCounts first next)
          c.uses.invariant.keeps.files (λ fs before blame n. blame n ∙ before n) c.uses.invariant.calm c.in-Ok.ensures.cause.blame;
      count = ap length c.in-Ok-push.ensures.ok ∙ length-append c.uses.matrices (l.matrix ∷ []) ∙ ap (λ n. n + 1) c.uses.invariant.count;
      light = c.in-Ok.ensures.light;
      grows = le_trans c.uses.invariant.grows c.in-Ok.ensures.grows;
      fit = subst (λ ms. Beside (IsFitFor c.args.weight c.args.uses.now) c.args.uses.now ms) (sym c.in-Ok-push.ensures.ok)
          (beside_more (IsFitFor c.args.weight c.args.uses.now) c.args.uses.now c.uses.matrices u l.matrix c.uses.invariant.fit at
          (subst (λ n. IsFit c.args.weight c.args.uses.now n l.matrix) c.file.ensures
          (c.in-Ok.ensures.fit c.args.weight c.uses.invariant.grows c.uses.invariant.fit)));
      told = told_both (g.F.Shelf.files c.args.shelf.now) (g.F.Shelf.files c.uses.shelf)
          (λ fs. IsServedSoFar fs c.args.weight c.args.uses.now c.uses.matrices c.uses.total)
          (λ fs. Serves fs c.args.uses.now c.uses.total c.file.result.now (is_known c.args.uses.now c.uses.matrices c.file.result.now) (Ok l))
          (λ fs. IsServedSoFar fs c.args.weight c.args.uses.now c.push.new.self l.weight)
          c.uses.invariant.keeps.files
          (λ fs so_far is. subst (λ ms. IsServedSoFar fs c.args.weight c.args.uses.now ms l.weight) (sym c.in-Ok-push.ensures.ok)
          (served_more fs c.args.weight c.args.uses.now c.uses.matrices c.uses.total u l so_far at
          (subst (λ n. Serves fs c.args.uses.now c.uses.total n (is_known c.args.uses.now c.uses.matrices n) (Ok l)) c.file.ensures is)))
          c.uses.invariant.told c.in-Ok.ensures.told;
    }

pub returns-in-Err-clause-cause : goal.returns-in-Err-clause-cause
returns-in-Err-clause-cause g c =
    let now = shelf_state g.F.Shelf c.uses.shelf in
    let next = shelf_state g.F.Shelf c.next_matrix.new.shelf in
    cause_then (shelf_state g.F.Shelf c.args.shelf.now) now next (Err c.in-Err.fault) c.uses.invariant.keeps c.uses.invariant.calm (as_fault now next c.in-Err.fault c.in-Err.ensures.cause)

pub returns-clause-matrix : goal.returns-clause-matrix
returns-clause-matrix g c =
    all_for_uses c.args.weight c.args.uses.now c.uses.matrices c.uses.invariant.fit
    (all_counted c.as_slice-wanted-items.result.now c.args.uses.now c.uses.wanted-index (length c.uses.matrices) c.as_slice-wanted-items.ensures c.uses.invariant.count c.uses.auto.wanted-index-end c.uses-test.false)

pub returns-clause-room : goal.returns-clause-room
returns-clause-room g c = all_have_room c.args.weight c.args.uses.now c.uses.matrices c.uses.invariant.fit

pub returns-clause-told : goal.returns-clause-told
returns-clause-told g c =
    let count = all_counted c.as_slice-wanted-items.result.now c.args.uses.now c.uses.wanted-index (length c.uses.matrices) c.as_slice-wanted-items.ensures c.uses.invariant.count c.uses.auto.wanted-index-end c.uses-test.false in
    if_some_weaker (g.F.Shelf.files c.args.shelf.now)
    (λ fs. IsServedSoFar fs c.args.weight c.args.uses.now c.uses.matrices c.uses.total)
    (λ fs. LoadsUses fs c.args.weight c.args.uses.now (Ok c.uses.matrices))
    (λ fs so_far. uses_done fs c.args.weight c.args.uses.now c.uses.matrices c.uses.total so_far count)
    c.uses.invariant.told
