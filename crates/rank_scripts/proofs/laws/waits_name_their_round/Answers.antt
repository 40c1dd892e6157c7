use Rattle.rank_scripts.proofs.WaitLemmas.{has_all-round, past_waits-round}
use Rattle.rank_scripts.proofs.laws.waits_name_their_round.Goals as goal

pub returns-clause-wait : goal.returns-clause-wait
returns-clause-wait c = has_all-round

pub returns-clause-stop : goal.returns-clause-stop
returns-clause-stop c = past_waits-round
