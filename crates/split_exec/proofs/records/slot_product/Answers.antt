use Rattle.std.proofs.Common.{◌≡◌, ◌∙◌, ◌+◌, ◌*◌, ◌%◌, ◌^◌, map, sym, ap, subst, arith}
use Rattle.std.specs.List.{range_with_len}
use Rattle.std.proofs.lemmas.Option.{get_or_from_slice_get}
use Rattle.bern_base.specs.declared.job.Ref.{Ref}
use Rattle.job_model.specs.Values.{product_of}
use Rattle.plan_courses.specs.JobCourses.{no_ref}
use Rattle.record_model.specs.Records.{slot_at}
use Rattle.split_exec.specs.Recorded.{HasValue, Source, dense_of, slot_value, source}
use Rattle.split_exec.proofs.ViewLemmas.{product_range, ring_more}
use Rattle.split_exec.proofs.records.slot_product.Goals as goal

pub taken-value-requires : goal.taken-value-requires
taken-value-requires g c =
    let f : Source = source g.V.Access.tree g.V.Cells.grid c.args.stores.now c.args.inbox.now.sets in
    let at = c.references.at in
    let same = get_or_from_slice_get c.args.planned.now.term.dense at c.at-reference.result.now no_ref c.at-reference.ensures in
    subst (λ (ref : Ref). HasValue f ref.array (slot_at c.args.recorded.now at)) same (c.requires.slots at (omega (arith, c.references-test.true, c.len-at-end.ensures)))

pub references-preserved : goal.references-preserved
references-preserved g c =
    let f : Source = source g.V.Access.tree g.V.Cells.grid c.args.stores.now c.args.inbox.now.sets in
    let t = c.args.planned.now.term in
    let r = c.args.recorded.now in
    let at = c.references.at in
    let same = get_or_from_slice_get t.dense at c.at-reference.result.now no_ref c.at-reference.ensures in
    let value : c.taken-value.result ≡ dense_of f t r at = c.taken-value.ensures ∙ ap (λ (ref : Ref). slot_value f ref.array (slot_at r at)) (sym same) in
    ap (λ n. n % 2 ^ 64) (c.mul-product.ensures ∙ ap (λ n. c.references.product * n % 2 ^ 64) value)
    ∙ ring_more c.references.product t.factor (product_of (map (dense_of f t r) (range_with_len 0 at))) (dense_of f t r at) (product_of (map (dense_of f t r) (range_with_len 0 (at + 1)))) c.references.invariant
    (product_range (dense_of f t r) at)
