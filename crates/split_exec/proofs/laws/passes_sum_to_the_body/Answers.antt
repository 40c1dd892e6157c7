use Rattle.split_exec.proofs.PassesLemmas.{passes_sum}
use Rattle.split_exec.proofs.laws.passes_sum_to_the_body.Goals as goal

pub returns : goal.returns
returns c = passes_sum
