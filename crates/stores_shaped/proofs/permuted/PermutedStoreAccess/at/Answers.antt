use Rattle.stores_shaped.proofs.PermutedLemmas.{root_at, root_within}
use Rattle.stores_shaped.proofs.permuted.PermutedStoreAccess.at.Goals as goal

pub at-requires : goal.at-requires
at-requires g c =
    let s = c.args.self.now in root_within (g.S.Access.tree s.inner) s.order c.args.level c.args.parent c.args.k c.if-level-gt0.false c.requires.within

pub returns-else-level-gt0 : goal.returns-else-level-gt0
returns-else-level-gt0 g c =
    let s = c.args.self.now in
    let t = g.S.Access.tree s.inner in
    root_at t s.order c.args.level c.args.parent c.args.k c.at.result.now c.at-index.result s.dense c.if-level-gt0.false c.requires.parent.1
    (root_within t s.order c.args.level c.args.parent c.args.k c.if-level-gt0.false c.requires.within) c.at-index.ensures c.at.ensures
