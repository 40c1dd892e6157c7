use Rattle.std.proofs.Common.{◌≡◌, Some, None, length, get_or, sym, subst, arith}
use Rattle.format_model.specs.Trees.{child_at}
use Rattle.stores_packed.specs.Packed.{RisesBetween, outer_index, placed, width_of}
use Rattle.stores_packed.proofs.TreeLemmas.{dense_found, dense_none, outers_rise}
use Rattle.stores_packed.proofs.store.PackedStore.find_outer.Goals as goal

pub search-requires : goal.search-requires
search-requires g c =
    let s = c.args.self.now in record {
      order = omega arith;
      within = omega (arith, c.len.ensures, c.deref.ensures.len);
      rises = λ i j low up high. subst (λ xs. RisesBetween (λ k. get_or xs k 0) 0 (length xs)) (sym c.deref.ensures.value)
          (outers_rise s.form s.outers.items s.packed.outer_rises c.in-PackedOne.is) i j low up (omega (arith, c.len.ensures, c.deref.ensures.len));
    }

pub returns-then-index-lines-clause-found : goal.returns-then-index-lines-clause-found
returns-then-index-lines-clause-found g c =
    subst (λ f. Some c.args.index ≡ child_at (placed (outer_index f c.args.self.now.outers.items) 0 (width_of f c.args.self.now.outers.items)) c.args.index)
    (sym c.in-DensePacked.is) (dense_found c.in-DensePacked.lines c.args.index c.if-index-lines.true)

pub returns-else-index-lines-clause-found : goal.returns-else-index-lines-clause-found
returns-else-index-lines-clause-found g c =
    subst (λ f. None ≡ child_at (placed (outer_index f c.args.self.now.outers.items) 0 (width_of f c.args.self.now.outers.items)) c.args.index)
    (sym c.in-DensePacked.is) (dense_none c.in-DensePacked.lines c.args.index c.if-index-lines.false)
