use Rattle.format_model.proofs.OnceLemmas.{each-stored_element-once}
use Rattle.format_model.proofs.laws.each_stored_element_once.Goals as goal

pub returns : goal.returns
returns c = each-stored_element-once
