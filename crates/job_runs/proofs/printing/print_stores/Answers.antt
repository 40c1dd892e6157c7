use Rattle.std.proofs.Common.{◌≡◌, ◌*◌, ◌<◌, ℕ, List, flat_map, length, map, take, get_or, sym, ap, ◌∙◌, subst, arith}
use Rattle.std.specs.List.{range_with_len}
use Rattle.std.proofs.lemmas.List.{get_or_default, take_all}
use Rattle.std.proofs.lemmas.List.FromFn.{length-map-range_with_len}
use Rattle.format_model.specs.Grids.{value_of_element}
use Rattle.formats.specs.AnyStores.{any_grid}
use Rattle.job_runs.specs.Texts.{text_of}
use Rattle.job_runs.proofs.PrintLemmas.{cells_are, few_cells, has_cells, print_at, print_below, print_more}
use Rattle.job_runs.proofs.printing.print_stores.Goals as goal

pub at-array-requires : goal.at-array-requires
at-array-requires c =
    let items = c.as_slice-number-items.result.now in
    let i = c.loop-number.number-index in
    print_below c.args.job.now (get_or items i 0)
    (print_at c.args.job.now items i (get_or items i 0) c.as_slice-number-items.ensures c.requires.prints c.loop-number-test.true (get_or_default items i 0 (get_or items i 0) c.loop-number-test.true))

pub overflow_mul-array : goal.overflow_mul-array
overflow_mul-array c =
    let items = c.as_slice-number-items.result.now in
    let i = c.loop-number.number-index in
    let is = print_at c.args.job.now items i (get_or items i 0) c.as_slice-number-items.ensures c.requires.prints c.loop-number-test.true (get_or_default items i 0 (get_or items i 0) c.loop-number-test.true) in
    let few = few_cells c.args.job.now c.requires.entries c.requires.state c.args.stores.now (get_or items i 0) c.at-array.result.now c.requires.held is c.at-array.ensures in omega (arith, few)

pub at-requires : goal.at-requires
at-requires c =
    let items = c.as_slice-number-items.result.now in
    let i = c.loop-number.number-index in
    let is = print_at c.args.job.now items i (get_or items i 0) c.as_slice-number-items.ensures c.requires.prints c.loop-number-test.true (get_or_default items i 0 (get_or items i 0) c.loop-number-test.true) in
    let low = print_below c.args.job.now (get_or items i 0) is in
    let count = c.requires.held.count in omega (arith, low, count)

pub store_values-requires : goal.store_values-requires
store_values-requires c =
    let items = c.as_slice-number-items.result.now in
    let i = c.loop-number.number-index in
    let is = print_at c.args.job.now items i (get_or items i 0) c.as_slice-number-items.ensures c.requires.prints c.loop-number-test.true (get_or_default items i 0 (get_or items i 0) c.loop-number-test.true) in
    has_cells c.args.job.now c.requires.entries c.requires.state c.args.stores.now (get_or items i 0) c.at-array.result.now c.at.result.now c.requires.held is c.at-array.ensures c.at.ensures

pub write_array-requires : goal.write_array-requires
write_array-requires c =
    let count = c.at-array.result.now.rows * c.at-array.result.now.cols in
    ap length c.in_ok-values.ensures ∙ length-map-range_with_len (value_of_element (any_grid c.at.result.now)) 0 count

pub loop-number-preserved : goal.loop-number-preserved
loop-number-preserved c = λ entries state held.
    let job = c.args.job.now in
    let items = c.as_slice-number-items.result.now in
    let i = c.loop-number.number-index in
    let number = get_or items i 0 in
    let here = get_or_default items i 0 number c.loop-number-test.true in
    let is = print_at job items i number c.as_slice-number-items.ensures c.requires.prints c.loop-number-test.true here in
    print_more job state items i number c.at-array.result.now c.in_ok-values.values c.loop-number.text c.write_array.new.out c.loop-number-test.true here c.at-array.ensures
    (c.in_ok-values.ensures ∙ cells_are job entries state c.args.stores.now number c.at-array.result.now c.at.result.now held is c.at-array.ensures c.at.ensures)
    (c.loop-number.invariant entries state held) c.in_ok-write_array.ensures.ok

pub returns : goal.returns
returns c = λ entries state held.
    let job = c.args.job.now in
    let items = c.as_slice-number-items.result.now in
    c.loop-number.invariant entries state held
    ∙ ap (λ ns. flat_map (text_of job.arrays state) ns) (take_all c.loop-number.number-index items c.loop-number-test.false)
    ∙ ap (λ ns. flat_map (text_of job.arrays state) ns) c.as_slice-number-items.ensures
