use Rattle.whole_laws.proofs.ChangeLemmas.{changed-stores-hold}
use Rattle.whole_laws.proofs.laws.changed_stores_hold.Goals as goal

pub returns : goal.returns
returns c = changed-stores-hold
