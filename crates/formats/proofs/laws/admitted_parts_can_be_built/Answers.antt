use Rattle.formats.proofs.AdmittedLemmas.{parts-can-be-built}
use Rattle.formats.proofs.laws.admitted_parts_can_be_built.Goals as goal

pub returns : goal.returns
returns c = parts-can-be-built
