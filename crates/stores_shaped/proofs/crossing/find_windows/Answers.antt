use Rattle.std.proofs.Common.{◌≡◌, ℕ, ◌+◌, ◌-◌, ◌<◌, ◌++◌, ◌∷◌, [], List, length, get_or, ℤ, sym, ap, ◌∙◌, subst, arith}
use Rattle.std.proofs.lemmas.Int.{ints}
use Rattle.stores_shaped.specs.Crossings.{AreWindows}
use Rattle.stores_shaped.specs.Diagonals.{IsWindow}
use Rattle.stores_shaped.proofs.CrossingLemmas.{last_start, window_of, windows_more, windows_most, windows_total}
use Rattle.stores_shaped.proofs.crossing.find_windows.Goals as goal

pub overflow_sub-total : goal.overflow_sub-total
overflow_sub-total c = (window_of c.args.cols c.as_slice-listed.result.now (get_or c.as_slice-rows.result.now c.crossing.row 0) c.below-first.result c.below-end.result _ _ c.below-first.ensures c.below-end.ensures (omega (arith, ints)) (omega (arith, ints))).0

pub overflow_add-total : goal.overflow_add-total
overflow_add-total c =
    let cols = c.args.cols in
    let offsets = c.args.offsets.now in
    let globals = c.args.globals.now in
    let row = c.crossing.row in
    let first = c.below-first.result in
    let count : ℕ = c.below-end.result - first in
    let found = window_of cols c.as_slice-listed.result.now (get_or c.as_slice-rows.result.now row 0) first c.below-end.result _ _ c.below-first.ensures c.below-end.ensures (omega (arith, ints)) (omega (arith, ints)) in
    let w = subst (λ (xs : List ℕ). IsWindow cols offsets (get_or xs row 0) first count) c.as_slice-rows.ensures
    (subst (λ (os : List ℤ). IsWindow cols os (get_or c.as_slice-rows.result.now row 0) first count) c.as_slice-listed.ensures found.1) in
    let low : row < length globals = subst (λ (xs : List ℕ). row < length xs) c.as_slice-rows.ensures c.crossing-test.true in
    let total = windows_total cols offsets globals row c.crossing.firsts.items c.crossing.starts.items first count c.crossing.invariant.are low w in
    omega (arith, total, windows_most cols offsets globals (row + 1), c.crossing.invariant.total, c.requires.few)

pub crossing-preserved : goal.crossing-preserved
crossing-preserved c =
    let cols = c.args.cols in
    let offsets = c.args.offsets.now in
    let globals = c.args.globals.now in
    let row = c.crossing.row in
    let first = c.below-first.result in
    let count : ℕ = c.below-end.result - first in
    let found = window_of cols c.as_slice-listed.result.now (get_or c.as_slice-rows.result.now row 0) first c.below-end.result _ _ c.below-first.ensures c.below-end.ensures (omega (arith, ints)) (omega (arith, ints)) in
    let w = subst (λ (xs : List ℕ). IsWindow cols offsets (get_or xs row 0) first count) c.as_slice-rows.ensures
    (subst (λ (os : List ℤ). IsWindow cols os (get_or c.as_slice-rows.result.now row 0) first count) c.as_slice-listed.ensures found.1) in
    let low : row < length globals = subst (λ (xs : List ℕ). row < length xs) c.as_slice-rows.ensures c.crossing-test.true in
    let firsts = c.crossing.firsts.items in
    let starts = c.crossing.starts.items in
    let total : ℕ = c.crossing.total + count in
    let begin : c.crossing.total ≡ get_or starts row 0 = c.crossing.invariant.total in
    let same : count ≡ total - get_or starts row 0 = omega (arith, begin) in
    let a = c.crossing.invariant.are in record {
      are = subst (λ (xs : List ℕ). AreWindows cols offsets globals (row + 1) xs c.push-in-crossing-2.new.self.items) (sym c.in_ok-push-2.ensures.items)
          (subst (λ (xs : List ℕ). AreWindows cols offsets globals (row + 1) (firsts ++ first ∷ []) xs) (sym c.in_ok-push-3.ensures.items)
          (windows_more cols offsets globals row firsts starts first total a low (omega (arith, begin)) (subst (IsWindow cols offsets (get_or globals row 0) first) same w)));
      total = sym (ap (λ (xs : List ℕ). get_or xs (row + 1) 0) c.in_ok-push-3.ensures.items ∙ last_start starts row total a.starts_long);
    }
