-- Worked examples of the definitions that no function of this crate computes.
use Rattle.std.proofs.Common.{◌≡◌, [], ◌∷◌, refl}
use Rattle.bern_base.specs.declared.axes.Axis.TheVariants.{Row, Col}
use Rattle.placement.specs.Placement.{owner_of}
use Rattle.placement.specs.Cyclic.{cyclic_triples}
use Rattle.placement.specs.Elements.{owned_elements}

-- four rows of three elements, dealt singly to two ranks: rank 1 has the rows 1 and 3
by_rows : owned_elements Row (cyclic_triples 4 2 1) 4 3 1 ≡ 3 ∷ 4 ∷ 5 ∷ 9 ∷ 10 ∷ 11 ∷ []
unfolding owner_of
by_rows = refl

-- three columns in blocks of two: rank 1 has column 2
by_columns : owned_elements Col (cyclic_triples 3 2 2) 4 3 1 ≡ 2 ∷ 5 ∷ 8 ∷ 11 ∷ []
unfolding owner_of
by_columns = refl
