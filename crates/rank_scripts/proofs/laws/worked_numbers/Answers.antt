use Rattle.std.proofs.Common.{refl, ◌∙◌}
use Rattle.rank_scripts.proofs.RoundLemmas.{total-turns}
use Rattle.rank_scripts.proofs.laws.worked_numbers.Goals as goal

pub returns-clause-two : goal.returns-clause-two
returns-clause-two c = λ request values count. total-turns 2 1 request values ∙ rw count refl

pub returns-clause-three : goal.returns-clause-three
returns-clause-three c = λ request values count. total-turns 3 2 request values ∙ rw count refl

pub returns-clause-most : goal.returns-clause-most
returns-clause-most c = λ request values count. total-turns 64 1 request values ∙ rw count refl

pub returns-clause-repeated : goal.returns-clause-repeated
returns-clause-repeated c = λ request values count. total-turns 2 3 request values ∙ rw count refl
