use Rattle.placement.proofs.PartLemmas.{parts-share-a-matrix}
use Rattle.placement.proofs.laws.parts_share_a_matrix.Goals as goal

pub returns : goal.returns
returns c = parts-share-a-matrix
