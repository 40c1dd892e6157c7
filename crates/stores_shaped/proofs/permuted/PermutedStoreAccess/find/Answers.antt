use Rattle.std.proofs.Common.{arith}
use Rattle.stores_shaped.proofs.PermutedLemmas.{place_within, root_found, root_none}
use Rattle.stores_shaped.proofs.permuted.PermutedStoreAccess.find.Goals as goal

pub at-requires-clause-within : goal.at-requires-clause-within
at-requires-clause-within g c =
    let s = c.args.self.now in
    place_within (g.S.Access.tree s.inner) s.order s.inverse c.args.level c.args.parent c.args.index c.at-place.result.now s.dense s.undo c.if-level-gt0.false c.requires.1 (omega arith) c.at-place.ensures

pub returns-then-index-len-clause-found : goal.returns-then-index-len-clause-found
returns-then-index-len-clause-found g c =
    let s = c.args.self.now in
    root_found (g.S.Access.tree s.inner) s.order s.inverse c.args.level c.args.parent c.args.index c.at-place.result.now c.at.result s.dense s.undo c.if-level-gt0.false c.requires.1 (omega arith) c.at-place.ensures c.at.ensures

pub returns-else-index-len-clause-found : goal.returns-else-index-len-clause-found
returns-else-index-len-clause-found g c =
    let s = c.args.self.now in root_none (g.S.Access.tree s.inner) s.order s.inverse c.args.level c.args.parent c.args.index s.undo c.if-level-gt0.false (omega arith)
