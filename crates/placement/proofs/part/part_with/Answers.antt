use Rattle.std.proofs.Common.{sym, subst, refl}
use Rattle.std.specs.List.Sorted.{IsStrictlyIncreasing}
use Rattle.placement.proofs.IndexLemmas.{owned_indices-rise}
use Rattle.placement.proofs.PartLemmas.{sized-IsMatrix}
use Rattle.placement.proofs.part.part_with.Goals as goal

pub returns-clause-matrix : goal.returns-clause-matrix
returns-clause-matrix g c =
    let place = c.args.place.now in
    sized-IsMatrix (g.P.Placement.ranks place) (g.P.Placement.triples place) c.args.axis c.args.rank c.args.matrix.now c.part_matrix-matrix.result c.owned.result c.args.entries c.args.matrix.now.entries
    (g.met.P.Placement.placed place) c.requires.matrix c.requires.extent c.part_matrix-matrix.ensures c.owned.ensures c.requires.entries refl

pub returns-clause-globals : goal.returns-clause-globals
returns-clause-globals g c = subst IsStrictlyIncreasing (sym c.in_ok-globals.ensures) (owned_indices-rise (g.met.P.Placement.placed c.args.place.now) c.args.rank)
