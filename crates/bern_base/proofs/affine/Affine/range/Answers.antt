use Rattle.std.proofs.Common.{◌∙◌, arith}
use Rattle.bern_base.proofs.AffineLemmas.{word_kept}
use Rattle.bern_base.proofs.affine.Affine.range.Goals as goal

pub returns-clause-between : goal.returns-clause-between
returns-clause-between c = λ values box. (
  rw (word_kept 35188667056127 c.eval.result (omega arith) c.eval.ensures.within ∙ c.eval.ensures.value) (c.least_point.ensures.least values box),
  rw (word_kept 35188667056127 c.eval-2.result (omega arith) c.eval-2.ensures.within ∙ c.eval-2.ensures.value) (c.greatest_point.ensures.greatest values box),
)
