use Rattle.std.proofs.Common.{rules}
use Rattle.stores_flat.proofs.DenseLemmas.{place_in_columns}
use Rattle.stores_flat.proofs.layout.Layout.place.Goals as goal

pub returns-in-ColMajor-clause-within : goal.returns-in-ColMajor-clause-within
returns-in-ColMajor-clause-within c = search (rules, place_in_columns)
