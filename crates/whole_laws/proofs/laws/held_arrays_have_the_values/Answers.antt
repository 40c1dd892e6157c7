use Rattle.whole_laws.proofs.HeldLemmas.{held-arrays-have_cells, held-arrays-have_the_values}
use Rattle.whole_laws.proofs.laws.held_arrays_have_the_values.Goals as goal

pub returns-clause-leaves : goal.returns-clause-leaves
returns-clause-leaves c = held-arrays-have_the_values

pub returns-clause-cells : goal.returns-clause-cells
returns-clause-cells c = held-arrays-have_cells
