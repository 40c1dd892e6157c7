use Rattle.std.proofs.Common.{◌≡◌, ◌∙◌, ◌*◌, length, take, sym, ap, subst, arith}
use Rattle.std.specs.Prelude.{slice_set}
use Rattle.std.specs.List.{All}
use Rattle.std.specs.List.Sorted.{IsStrictlyIncreasing}
use Rattle.std.proofs.Common.{map}
use Rattle.std.proofs.lemmas.List.FromFn.{length-map-range_with_len}
use Rattle.bern_base.specs.Matrix.{element, matrix_values, number, IsInside}
use Rattle.bern_base.proofs.ValuesLemmas.{number_below, one_entry, no_entries}
use Rattle.bern_base.proofs.matrix.put_entries.Goals as goal

pub loop-entry-init : goal.loop-entry-init
loop-entry-init c = c.requires.zeros ∙ no_entries c.args.matrix.now.rows c.args.matrix.now.cols

pub set-requires : goal.set-requires
set-requires c =
    let m = c.args.matrix.now in
    let xs = c.as_slice-entry-items.result.now in
    let i = c.loop-entry.entry-index in
    let inside : All (IsInside m.rows m.cols) xs = subst (All (IsInside m.rows m.cols)) (sym c.as_slice-entry-items.ensures) c.requires.matrix.inside in
    let below = number_below m.rows m.cols xs i c.entry-item.result inside c.loop-entry-test.true c.entry-item.is in
    let long : length c.loop-entry.values ≡ m.rows * m.cols = ap length c.loop-entry.invariant ∙ length-map-range_with_len (element m.cols (take i xs)) 0 (m.rows * m.cols) in
    omega (arith, c.number-number.ensures)

pub loop-entry-preserved : goal.loop-entry-preserved
loop-entry-preserved c =
    let m = c.args.matrix.now in
    let xs = c.as_slice-entry-items.result.now in
    let i = c.loop-entry.entry-index in
    let e = c.entry-item.result in
    let inside : All (IsInside m.rows m.cols) xs = subst (All (IsInside m.rows m.cols)) (sym c.as_slice-entry-items.ensures) c.requires.matrix.inside in
    let rise : IsStrictlyIncreasing (map (number m.cols) xs) = subst (λ l. IsStrictlyIncreasing (map (number m.cols) l)) (sym c.as_slice-entry-items.ensures) c.requires.matrix.rising in
    c.set.ensures
    ∙ ap (λ l. slice_set l c.number-number.result c.new.result) c.loop-entry.invariant
    ∙ ap (λ n. slice_set (matrix_values m.rows m.cols (take i xs)) n c.new.result) c.number-number.ensures
    ∙ ap (slice_set (matrix_values m.rows m.cols (take i xs)) (number m.cols e)) (c.new.ensures ∙ c.bits.ensures.bits)
    ∙ one_entry m.rows m.cols xs i e rise c.loop-entry-test.true c.entry-item.is (number_below m.rows m.cols xs i e inside c.loop-entry-test.true c.entry-item.is) c.bits.ensures.fits
