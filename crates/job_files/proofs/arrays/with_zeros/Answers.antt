use Rattle.std.proofs.Common.{◌≡◌, ◌<◌, ◌+◌, ◌++◌, ◌∷◌, [], List, drop, length, Some, sym, ap, ◌∙◌, arith}
use Rattle.std.specs.Vec.Iter.{into_iter_items, into_iter_len}
use Rattle.std.proofs.lemmas.Bool.{true≢false}
use Rattle.bern_base.specs.declared.matrix.Matrix.{Matrix}
use Rattle.job_files.specs.Uses.{left_by, spread, taken}
use Rattle.job_files.proofs.ArrayLemmas.{next_spread, some_left}
use Rattle.job_files.proofs.arrays.with_zeros.Goals as goal
use Rattle.job_files.proofs.arrays.with_zeros.Goals.{in-None, in-Some+in-Some-next}

pub unreachable-requires : goal.unreachable-requires
unreachable-requires c =
    let items : List Matrix = into_iter_items c.loop-array.own in
    let some : 0 < length items = some_left c.args.arrays.now c.loop-array.array-index c.array-item.result c.in-Some.field-0 items c.loop-array-test.true c.array-item.is c.in-Some.is c.loop-array.invariant.count in
    true≢false (sym (c.in-None-next.ensures.variant.1 (omega (arith, some, c.loop-array.invariant.len))))

pub loop-array-preserved : goal.loop-array-preserved
loop-array-preserved c =
    let arrays = c.args.arrays.now in
    let items : List Matrix = into_iter_items c.loop-array.own in
    let array = c.array-item.result in
    let now : List Matrix = into_iter_items c.match-array.own in
    let before = c.loop-array.invariant in
    let step = next_spread arrays c.loop-array.array-index array c.loop-array.matrices (spread arrays c.args.own) items now c.match-array.matrix c.loop-array-test.true c.array-item.is before.matrices before.count in
    let pushed : c.push.new.self ++ spread (drop (c.loop-array.array-index + 1) arrays) now ≡ (c.loop-array.matrices ++ c.match-array.matrix ∷ []) ++ spread (drop (c.loop-array.array-index + 1) arrays) now =
    ap (λ ms. ms ++ spread (drop (c.loop-array.array-index + 1) arrays) now) c.in_ok-push.ensures.ok in
    elim c.match-array.branch [
      | in-None w ↦
          (let done = step (ap (λ f. taken array f items) w.in-None.is ∙ sym (w.matrix-is ∙ w.empty-matrix.ensures)) (ap (λ f. left_by f items) w.in-None.is ∙ sym (ap into_iter_items w.own-is)) in
          record { matrices = pushed ∙ done.0; count = done.1; len = ap into_iter_len w.own-is ∙ before.len ∙ ap (λ l. length (into_iter_items l)) (sym w.own-is) })
      | in-Some+in-Some-next w ↦
          (let front : items ≡ w.in-Some-next.matrix ∷ into_iter_items w.next.new.self = w.in-Some-next.ensures.items in
          let done = step
          (ap (λ f. taken array f items) w.in-Some.is ∙ ap (taken array (Some w.in-Some.field-0)) front ∙ sym w.matrix-is)
          (ap (λ f. left_by f items) w.in-Some.is ∙ ap (left_by (Some w.in-Some.field-0)) front ∙ sym (ap into_iter_items w.own-is)) in
          let count : into_iter_len w.next.new.self ≡ length (into_iter_items w.next.new.self) = omega (arith, w.in-Some-next.ensures.len, before.len, ap (λ (ms : List Matrix). length ms) front) in
          record { matrices = pushed ∙ done.0; count = done.1; len = ap into_iter_len w.own-is ∙ count ∙ ap (λ l. length (into_iter_items l)) (sym w.own-is) })
    ]
