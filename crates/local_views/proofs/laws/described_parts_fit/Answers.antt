use Rattle.local_views.proofs.FitLemmas.{described-parts_fit}
use Rattle.local_views.proofs.laws.described_parts_fit.Goals as goal

pub returns : goal.returns
returns c = described-parts_fit
