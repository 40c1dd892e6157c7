use Rattle.job_rules.specs.Rules.{has_too_many_terms}
use Rattle.job_rules.proofs.TermLemmas.{size_tells}
use Rattle.job_rules.proofs.terms.has_too_many_terms.Goals as goal

pub returns-else-size-eq-TERMS : goal.returns-else-size-eq-TERMS
unfolding has_too_many_terms
returns-else-size-eq-TERMS c = size_tells c.expression_size-size.result _ c.expression_size-size.ensures c.if-size-eq-TERMS.false
