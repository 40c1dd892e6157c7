use Rattle.std.proofs.Common.{◌≡◌, ℕ, ◌+◌, ◌*◌, ◌<◌, length, get_or, rules}
use Rattle.std.proofs.lemmas.List.{get_or_read}
use Rattle.mm_profile.specs.ArrayText.{element_line}
use Rattle.mm_text.proofs.AppendLemmas.{flat_map_range_more}
use Rattle.mm_text.proofs.array.append_column.Goals as goal

inside : (rows cols row col : ℕ) → row < rows → col < cols → row * cols + col < rows * cols
inside rows cols row col below within = search rules

pub loop-row-preserved : goal.loop-row-preserved
loop-row-preserved c =
    let cols : ℕ = c.args.cols in
    let at : ℕ = c.loop-row.row * cols + c.args.col in
    let there : at < length c.args.values.now = rw c.requires.sizes (inside c.args.rows cols c.loop-row.row c.args.col c.loop-row-test.true c.requires.within) in
    let read : c.index-values-row.result ≡ get_or c.args.values.now at 0 = get_or_read c.args.values.now at c.index-values-row.result there c.index-values-row.is 0 in
    rw (c.in_ok-append_value.ensures.ok, c.loop-row.invariant, read)
    (flat_map_range_more (element_line cols c.args.values.now c.args.col) c.args.out.now c.loop-row.row)
