use Rattle.bern_base.specs.declared.limits.TheConstants.{EXPRESSION_LEVELS}
use Rattle.job_model.specs.Values.{read_at}
use Rattle.loop_query.proofs.SumLemmas.{terms_sum}
use Rattle.loop_query.proofs.laws.terms_sum.Goals as goal
use Rattle.term_model.specs.Terms.{is_dense_in}

pub returns : goal.returns
returns c = λ job state point e. terms_sum (read_at job.arrays state point) (is_dense_in job) EXPRESSION_LEVELS e
