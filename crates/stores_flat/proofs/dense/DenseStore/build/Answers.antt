use Rattle.std.proofs.Common.{◌≡◌, ◌∙◌, ◌*◌, ℕ, List, Some, length, map, take, sym, ap, subst, arith}
use Rattle.std.specs.Prelude.{replicate, slice_set}
use Rattle.std.specs.List.{All}
use Rattle.std.specs.List.Sorted.{IsStrictlyIncreasing}
use Rattle.std.proofs.lemmas.List.{take_all}
use Rattle.std.proofs.lemmas.List.FromFn.{length-map-range_with_len}
use Rattle.bern_base.proofs.ValuesLemmas.{number_below, one_entry, no_entries}
use Rattle.bern_base.specs.Matrix.{element, matrix_values, number, IsInside}
use Rattle.format_model.specs.Grids.{Grid}
use Rattle.stores_flat.specs.Dense.{dense_grid, grid_of, grid_with}
use Rattle.stores_flat.proofs.Describing.{described}
use Rattle.stores_flat.proofs.dense.DenseStore.build.Goals as goal

pub loop-entry-init : goal.loop-entry-init
loop-entry-init c =
    let s = c.in_ok-store.store in
    let m = c.args.part.now in
    let zeros : dense_grid s.layout s.lines s.width s.values ≡ grid_with c.args.single c.args.axis m.rows m.cols (replicate (m.rows * m.cols) 0) = cc (c.in_ok-store.ensures) in
    zeros ∙ ap (grid_with c.args.single c.args.axis m.rows m.cols) (no_entries m.rows m.cols)

pub set-requires : goal.set-requires
set-requires c =
    let m = c.args.part.now in
    let xs = c.as_slice-entry-items.result.now in
    let i = c.loop-entry.entry-index in
    let inside : All (IsInside m.rows m.cols) xs = subst (All (IsInside m.rows m.cols)) (sym c.as_slice-entry-items.ensures) c.requires.part.inside in
    let below = number_below m.rows m.cols xs i c.entry-item.result inside c.loop-entry-test.true c.entry-item.is in
    let long = ap (λ (g : Grid). length g.values) c.loop-entry.invariant in
    omega (arith, below, long, length-map-range_with_len (element m.cols (take i xs)) 0 (m.rows * m.cols), c.number-element.ensures)

pub loop-entry-preserved : goal.loop-entry-preserved
loop-entry-preserved c =
    let m = c.args.part.now in
    let xs = c.as_slice-entry-items.result.now in
    let i = c.loop-entry.entry-index in
    let e = c.entry-item.result in
    let n = c.number-element.result in
    let v = c.new.result in
    let old = c.loop-entry.store in
    let new = c.set.new.self in
    let before : List ℕ = matrix_values m.rows m.cols (take i xs) in
    let written : Grid → Grid = λ g. record g { values = slice_set g.values n v } in
    let put : dense_grid new.layout new.lines new.width new.values ≡ written (dense_grid old.layout old.lines old.width old.values) = cc (c.set.ensures.grid) in
    let inside : All (IsInside m.rows m.cols) xs = subst (All (IsInside m.rows m.cols)) (sym c.as_slice-entry-items.ensures) c.requires.part.inside in
    let rise : IsStrictlyIncreasing (map (number m.cols) xs) = subst (λ l. IsStrictlyIncreasing (map (number m.cols) l)) (sym c.as_slice-entry-items.ensures) c.requires.part.rising in
    put ∙ ap written c.loop-entry.invariant ∙ ap (grid_with c.args.single c.args.axis m.rows m.cols) (ap (λ k. slice_set before k v) c.number-element.ensures
    ∙ ap (slice_set before (number m.cols e)) (c.new.ensures ∙ c.bits.ensures.bits)
    ∙ one_entry m.rows m.cols xs i e rise c.loop-entry-test.true c.entry-item.is (number_below m.rows m.cols xs i e inside c.loop-entry-test.true c.entry-item.is) c.bits.ensures.fits)

-- after the last entry the elements are those of the part
whole : (c : goal.After-loop-entry) →
    dense_grid c.loop-entry.store.layout c.loop-entry.store.lines c.loop-entry.store.width c.loop-entry.store.values ≡ grid_of c.args.single c.args.axis c.args.part.now
whole c =
    let m = c.args.part.now in
    let xs = c.as_slice-entry-items.result.now in
    let all : take c.loop-entry.entry-index xs ≡ m.entries = take_all c.loop-entry.entry-index xs c.loop-entry-test.false ∙ c.as_slice-entry-items.ensures in
    c.loop-entry.invariant ∙ ap (λ es. grid_with c.args.single c.args.axis m.rows m.cols (matrix_values m.rows m.cols es)) all

pub returns-clause-describes : goal.returns-clause-describes
returns-clause-describes c =
    let s = c.loop-entry.store in described s.layout s.lines s.width s.values c.args.single c.args.axis c.args.part.now s.single (whole c)

pub returns-clause-grid : goal.returns-clause-grid
returns-clause-grid c = ap Some (whole c)
