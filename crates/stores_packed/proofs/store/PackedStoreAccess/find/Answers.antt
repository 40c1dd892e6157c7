use Rattle.std.proofs.Common.{◌≡◌, ◌≤◌, ◌-◌, length, get_or, sym, ap, ◌∙◌, subst, arith}
use Rattle.format_model.specs.Levels.{bits}
use Rattle.format_model.specs.Trees.{child_at}
use Rattle.stores_packed.specs.Packed.{RisesBetween, placed}
use Rattle.stores_packed.proofs.TreeLemmas.{node_line_at, node_weight, root_children, root_weight_is}
use Rattle.stores_packed.proofs.store.PackedStoreAccess.find.Goals as goal

pub search-requires : goal.search-requires
search-requires g c =
    let s = c.args.self.now in
    let line = node_line_at s.form s.outers.items s.starts.items s.indices.items s.values.items c.args.level c.args.parent c.line.result.from c.line.result.to s.packed c.if-level-gt0.true c.requires c.line.ensures.from c.line.ensures.to in
    let is = sym c.deref.ensures.value in record {
      order = line.order;
      within = subst (λ xs. c.line.result.to ≤ length xs) is line.within;
      rises = subst (λ xs. RisesBetween (λ k. get_or xs k 0) c.line.result.from c.line.result.to) is line.rises;
    }

pub returns-then-level-gt0 : goal.returns-then-level-gt0
returns-then-level-gt0 g c =
    let s = c.args.self.now in
    let line = node_line_at s.form s.outers.items s.starts.items s.indices.items s.values.items c.args.level c.args.parent c.line.result.from c.line.result.to s.packed c.if-level-gt0.true c.requires c.line.ensures.from c.line.ensures.to in
    let weight = node_weight s.form s.outers.items s.starts.items s.indices.items s.values.items c.args.level c.args.parent c.if-level-gt0.true c.requires in
    let count = ap bits line.count in
    let found = subst (λ xs. c.search.result ≡ child_at (placed (λ k. get_or xs k 0) c.line.result.from (c.line.result.to - c.line.result.from)) c.args.index) c.deref.ensures.value c.search.ensures.found in record {
      found = subst (λ cs. c.search.result ≡ child_at cs c.args.index) (sym line.children) found;
      cost = omega (arith, weight, count, c.search.ensures.cost);
    }

pub returns-else-level-gt0 : goal.returns-else-level-gt0
returns-else-level-gt0 g c =
    let s = c.args.self.now in
    let weight = root_weight_is s.form s.outers.items s.starts.items s.indices.items s.values.items c.args.level c.args.parent c.if-level-gt0.false in record {
      found = c.find_outer.ensures.found ∙ ap (λ cs. child_at cs c.args.index) (root_children s.form s.outers.items s.starts.items s.indices.items c.args.level c.args.parent c.if-level-gt0.false);
      cost = omega (arith, weight, c.find_outer.ensures.cost);
    }
