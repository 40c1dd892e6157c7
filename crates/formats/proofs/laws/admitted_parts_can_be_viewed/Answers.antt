use Rattle.formats.proofs.AdmittedLemmas.{parts-can-be-viewed}
use Rattle.formats.proofs.laws.admitted_parts_can_be_viewed.Goals as goal

pub returns : goal.returns
returns c = parts-can-be-viewed
