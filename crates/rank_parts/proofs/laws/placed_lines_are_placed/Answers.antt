use Rattle.rank_parts.proofs.PlaceLemmas.{placed-lines-are_placed}
use Rattle.rank_parts.proofs.laws.placed_lines_are_placed.Goals as goal

pub returns : goal.returns
returns c = placed-lines-are_placed
