use Rattle.std.proofs.Common.{◌≡◌, ◌+◌, ◌-◌, ◌<◌, ◌++◌, ℕ, List, ℤ, length, map, get_or, take, drop, sym, ap, ◌∙◌, subst, arith}
use Rattle.bern_base.specs.declared.axes.Axis.TheVariants as axis
use Rattle.format_model.specs.Axes.{value_on}
use Rattle.stores_packed.proofs.TreeLemmas.{read_at}
use Rattle.stores_shaped.specs.Crossings.{Crosses, row_values}
use Rattle.stores_shaped.specs.Diagonals.{column_on}
use Rattle.stores_shaped.proofs.CrossingLemmas.{window_crosses}
use Rattle.stores_shaped.proofs.DiagonalLemmas.{cut_is, rows_more}
use Rattle.stores_shaped.proofs.diagonal.fill.Goals as goal

pub push_crossing-requires-clause-crosses : goal.push_crossing-requires-clause-crosses
push_crossing-requires-clause-crosses c =
    let m = c.args.part.now in
    let offsets = c.args.offsets.now in
    let globals = c.args.globals.now in
    let firsts = c.args.found.now.firsts.items in
    let starts = c.args.found.now.starts.items in
    let row = c.rows.row in
    let a = c.requires.found in
    let low : row < length globals = omega (arith, c.requires.rows) in
    let first : c.index-in-rows.result.now ≡ get_or firsts row 0 = read_at firsts row (length globals) c.index-in-rows.result.now low (omega (arith, a.firsts_long)) c.index-in-rows.ensures in
    let next : c.index-in-rows-2.result.now ≡ get_or starts (row + 1) 0 = read_at starts (row + 1) (length starts) c.index-in-rows-2.result.now (omega (arith, a.starts_long, low)) (omega arith) c.index-in-rows-2.ensures in
    let start : c.index-in-rows-3.result.now ≡ get_or starts row 0 = read_at starts row (length starts) c.index-in-rows-3.result.now (omega (arith, a.starts_long, low)) (omega arith) c.index-in-rows-3.ensures in
    let cut = cut_is offsets c.as_slice-listed.result.now firsts starts row c.index-in-rows.result.now c.index-in-rows-2.result.now c.index-in-rows-3.result.now c.as_slice-listed.ensures first next start in
    subst (λ (gs : List ℕ). Crosses m.cols (get_or gs row 0) (take (c.index-in-rows.result.now + (c.index-in-rows-2.result.now - c.index-in-rows-3.result.now) - c.index-in-rows.result.now) (drop c.index-in-rows.result.now c.as_slice-listed.result.now))) (sym c.as_slice-rows.ensures)
    (subst (λ (os : List ℤ). Crosses m.cols (get_or globals row 0) os) (sym cut)
    (window_crosses m.cols offsets (get_or globals row 0) (get_or firsts row 0) (get_or starts (row + 1) 0 - get_or starts row 0) c.requires.rise (a.windows row low)))

pub rows-preserved : goal.rows-preserved
rows-preserved c =
    let m = c.args.part.now in
    let offsets = c.args.offsets.now in
    let globals = c.args.globals.now in
    let firsts = c.args.found.now.firsts.items in
    let starts = c.args.found.now.starts.items in
    let row = c.rows.row in
    let a = c.requires.found in
    let low : row < length globals = omega (arith, c.requires.rows) in
    let first : c.index-in-rows.result.now ≡ get_or firsts row 0 = read_at firsts row (length globals) c.index-in-rows.result.now low (omega (arith, a.firsts_long)) c.index-in-rows.ensures in
    let next : c.index-in-rows-2.result.now ≡ get_or starts (row + 1) 0 = read_at starts (row + 1) (length starts) c.index-in-rows-2.result.now (omega (arith, a.starts_long, low)) (omega arith) c.index-in-rows-2.ensures in
    let start : c.index-in-rows-3.result.now ≡ get_or starts row 0 = read_at starts row (length starts) c.index-in-rows-3.result.now (omega (arith, a.starts_long, low)) (omega arith) c.index-in-rows-3.ensures in
    let cut = cut_is offsets c.as_slice-listed.result.now firsts starts row c.index-in-rows.result.now c.index-in-rows-2.result.now c.index-in-rows-3.result.now c.as_slice-listed.ensures first next start in
    let f : ℕ → List ℕ = row_values m offsets globals firsts starts in record {
      values = c.in_ok-push_crossing.ensures.values
          ∙ ap (λ (gs : List ℕ). c.rows.values.items ++ map (λ offset. value_on axis.Row m row (column_on (get_or gs row 0) offset)) (take (c.index-in-rows.result.now + (c.index-in-rows-2.result.now - c.index-in-rows-3.result.now) - c.index-in-rows.result.now) (drop c.index-in-rows.result.now c.as_slice-listed.result.now))) c.as_slice-rows.ensures
          ∙ ap (λ (os : List ℤ). c.rows.values.items ++ map (λ offset. value_on axis.Row m row (column_on (get_or globals row 0) offset)) os) cut
          ∙ ap (λ (vs : List ℕ). vs ++ f row) c.rows.invariant.values
          ∙ sym (rows_more f row);
      seen = c.in_ok-push_crossing.ensures.seen;
    }
