use Rattle.std.proofs.Common.{◌∙◌, ap, sym, arith}
use Rattle.std.specs.Prelude.{slice_index}
use Rattle.stores_flat.specs.DenseLaws.{element_is}
use Rattle.stores_flat.proofs.DenseLemmas.{elements_count, length-elements_of, read_at}
use Rattle.stores_flat.proofs.dense.DenseStoreCells.cell.Goals as goal

pub place-place-requires-clause-within : goal.place-place-requires-clause-within
place-place-requires-clause-within c =
    let s = c.args.self.now in omega (arith, length-elements_of s.layout s.lines s.width s.values)

pub returns : goal.returns
returns c =
    let s = c.args.self.now in
    read_at s.values c.place-place.result c.at.result.now c.at.ensures
    ∙ ap (slice_index s.values) c.place-place.ensures.place
    ∙ sym (element_is s.layout s.lines s.width s.values c.args.element (omega (arith, elements_count s.layout s.lines s.width, length-elements_of s.layout s.lines s.width s.values)))
