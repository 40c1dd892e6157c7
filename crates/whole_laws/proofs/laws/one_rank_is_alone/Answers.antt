use Rattle.whole_laws.proofs.AloneLemmas.{one-rank-is_alone, one-rank-owns_all}
use Rattle.whole_laws.proofs.laws.one_rank_is_alone.Goals as goal

pub returns-clause-owns : goal.returns-clause-owns
returns-clause-owns c = one-rank-owns_all

pub returns-clause-alone : goal.returns-clause-alone
returns-clause-alone c = one-rank-is_alone
