use Rattle.format_model.proofs.RiseLemmas.{ordered_levels-rise}
use Rattle.format_model.proofs.laws.ordered_levels_rise.Goals as goal

pub returns : goal.returns
returns c = ordered_levels-rise
