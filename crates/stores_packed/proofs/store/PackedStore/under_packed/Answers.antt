use Rattle.std.proofs.Common.{arith}
use Rattle.stores_packed.specs.Lines.{lines_on}
use Rattle.stores_packed.proofs.StoreLemmas.{kept_describes, kept_is_packed, squeezed_of}
use Rattle.stores_packed.proofs.store.PackedStore.under_packed.Goals as goal

pub squeeze-requires : goal.squeeze-requires
squeeze-requires c =
    let p = c.in_ok-filled.ensures in record {
      some = omega (arith, p.long);
      few = omega (arith, p.few);
    }

pub invariant_of-result : goal.invariant_of-result
invariant_of-result c =
    let f = c.in_ok-filled.filled in
    let k = c.in_ok-kept.kept in
    let p = c.in_ok-filled.ensures in
    let s = squeezed_of f.starts.items c.deref.result.now (lines_on c.args.outer c.args.part.now) k.outers.items k.starts.items c.deref.ensures.value p.long c.in_ok-kept.ensures.outers c.in_ok-kept.ensures.starts in record {
      packed = kept_is_packed c.args.outer c.args.part.now f.starts.items f.indices.items f.values.items k.outers.items k.starts.items c.requires.outer c.requires.part p s;
    }

pub returns : goal.returns
returns c globals order =
    let f = c.in_ok-filled.filled in
    let k = c.in_ok-kept.kept in
    let p = c.in_ok-filled.ensures in
    let s = squeezed_of f.starts.items c.deref.result.now (lines_on c.args.outer c.args.part.now) k.outers.items k.starts.items c.deref.ensures.value p.long c.in_ok-kept.ensures.outers c.in_ok-kept.ensures.starts in
    kept_describes c.args.outer c.args.part.now f.starts.items f.indices.items f.values.items k.outers.items k.starts.items p s globals order
