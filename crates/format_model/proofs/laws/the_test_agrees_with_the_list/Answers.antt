use Rattle.format_model.proofs.AgreeLemmas.{the_test-agrees_with_the_list}
use Rattle.format_model.proofs.laws.the_test_agrees_with_the_list.Goals as goal

pub returns : goal.returns
returns c = the_test-agrees_with_the_list
