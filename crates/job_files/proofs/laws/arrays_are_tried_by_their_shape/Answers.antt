use Rattle.job_files.proofs.ShapeLemmas.{tried_by_shape}
use Rattle.job_files.proofs.laws.arrays_are_tried_by_their_shape.Goals as goal

pub returns : goal.returns
returns c = λ formats array format m is. tried_by_shape formats array format m is
