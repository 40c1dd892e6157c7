use Rattle.std.proofs.Common.{arith, rules}
use Rattle.stores_flat.proofs.DenseLemmas.{dense_set, length-elements_of}
use Rattle.stores_flat.proofs.dense.DenseStoreCells.set.Goals as goal

pub place-place-requires-clause-within : goal.place-place-requires-clause-within
place-place-requires-clause-within c =
    let s = c.args.self.now in omega (arith, length-elements_of s.layout s.lines s.width s.values)

pub returns-clause-grid : goal.returns-clause-grid
returns-clause-grid c = search (rules, dense_set)
