use Rattle.bern_top.proofs.EndingLemmas.{plans_due}
use Rattle.bern_top.proofs.laws.plans_are_due.Goals as goal

pub returns : goal.returns
returns c = λ files words name bytes job asks there accepted none. plans_due files words name bytes job asks there accepted none
