use Rattle.loop_query.proofs.ZeroLemmas.{active_terms_sum_in_turns, files_begin_with_zeros, zeros_stay}
use Rattle.loop_query.proofs.laws.active_terms_sum_in_turns.Goals as goal

pub returns-clause-stay : goal.returns-clause-stay
returns-clause-stay c = zeros_stay

pub returns-clause-sum : goal.returns-clause-sum
returns-clause-sum c = active_terms_sum_in_turns

pub returns-clause-files : goal.returns-clause-files
returns-clause-files c = files_begin_with_zeros
