use Rattle.format_model.proofs.SearchLemmas.{searches-find_the_content}
use Rattle.format_model.proofs.laws.searches_find_the_content.Goals as goal

pub returns : goal.returns
returns c = searches-find_the_content
