use Rattle.stores_shaped.proofs.PermutedLemmas.{permuted_describes}
use Rattle.stores_shaped.proofs.permuted.PermutedStore.wrap.Goals as goal

pub returns-clause-describes : goal.returns-clause-describes
returns-clause-describes g c file globals whole part arranged h = permuted_describes (g.S.Access.tree c.args.inner) c.args.order globals whole part arranged file h
