use Rattle.std.proofs.Common.{◌≡◌, ℕ, ◌+◌, ◌*◌, ◌<◌, ◌++◌, ◌∷◌, [], ℤ, pos, ◌+ℤ◌, ap, ◌∙◌, arith}
use Rattle.std.specs.Prelude.{◌<ℤ◌}
use Rattle.std.proofs.lemmas.Int.{ints}
use Rattle.bern_base.specs.Matrix.{element}
use Rattle.bern_base.specs.declared.axes.Axis.TheVariants as axis
use Rattle.format_model.specs.Axes.{value_on}
use Rattle.stores_shaped.specs.Diagonals.{column_on, offset_at}
use Rattle.stores_shaped.specs.DiagonalLaws.{index_below, index_rises}
use Rattle.stores_shaped.proofs.CrossingLemmas.{mapped_more, seen_later}
use Rattle.stores_shaped.proofs.crossing.push_crossing.Goals as goal
use mir.Syntax.{w64}
use mir.Val.{of_z, to_z}

pub value_from-requires-clause-seen : goal.value_from-requires-clause-seen
value_from-requires-clause-seen c =
    let m = c.args.part.now in
    let offsets = c.args.offsets.now in
    let g = c.args.global in
    let i = c.crossing.offset-index in
    let least = c.requires.crosses.low i (pos 0) c.crossing-test.true in
    let most = c.requires.crosses.high i (pos 0) c.crossing-test.true in
    let same : to_z w64 (of_z w64 (offset_at offsets i)) ≡ offset_at offsets i = omega (arith, ints, least, most) in
    let here : c.column_of.result ≡ column_on g (offset_at offsets i) = c.column_of.ensures ∙ ap (column_on g) same in
    c.crossing.invariant.seen (c.args.row * m.cols + c.column_of.result) (omega arith)
    (λ j low.
    let less : offset_at offsets j <ℤ offset_at offsets i = c.requires.crosses.rise j i (pos 0) low (omega arith) in
    let up : column_on g (offset_at offsets j) < column_on g (offset_at offsets i) = index_rises (pos g +ℤ offset_at offsets j) (pos g +ℤ offset_at offsets i) (c.requires.crosses.low j (pos 0) (omega arith)) (omega (arith, ints, less)) in
    omega (arith, here, up))

pub crossing-preserved : goal.crossing-preserved
crossing-preserved c =
    let m = c.args.part.now in
    let offsets = c.args.offsets.now in
    let g = c.args.global in
    let row = c.args.row in
    let i = c.crossing.offset-index in
    let v : ℤ → ℕ = λ offset. value_on axis.Row m row (column_on g offset) in
    let least = c.requires.crosses.low i (pos 0) c.crossing-test.true in
    let most = c.requires.crosses.high i (pos 0) c.crossing-test.true in
    let same : to_z w64 (of_z w64 (offset_at offsets i)) ≡ offset_at offsets i = omega (arith, ints, least, most) in
    let here : c.column_of.result ≡ column_on g (offset_at offsets i) = c.column_of.ensures ∙ ap (column_on g) same in
    let value : c.value_from.result ≡ v (offset_at offsets i) = c.value_from.ensures.value ∙ ap (λ col. element m.cols m.entries (row * m.cols + col)) here in record {
      values = c.in_ok-push.ensures.items
          ∙ ap (λ x. c.crossing.values.items ++ x ∷ []) value
          ∙ mapped_more v offsets c.args.values.now.items c.crossing.values.items i (pos 0) c.crossing-test.true c.crossing.invariant.values;
      seen = λ n low each. seen_later m (row * m.cols + c.column_of.result) n c.value_from.new.at c.value_from.ensures.seen (omega (arith, here, each i (omega arith)));
    }

pub returns-clause-seen : goal.returns-clause-seen
returns-clause-seen c =
    let m = c.args.part.now in
    let next : (c.args.row + 1) * m.cols ≡ c.args.row * m.cols + m.cols = omega arith in
    c.crossing.invariant.seen ((c.args.row + 1) * m.cols) (omega (arith, next))
    (λ j low.
    let inside : column_on c.args.global (offset_at c.args.offsets.now j) < m.cols = index_below (pos c.args.global +ℤ offset_at c.args.offsets.now j) m.cols (c.requires.crosses.low j (pos 0) (omega arith)) (c.requires.crosses.high j (pos 0) (omega arith)) in
    omega (arith, next, inside))
