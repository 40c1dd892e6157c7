use Rattle.part_turns.proofs.ShowLemmas.{held-parts-show_the_state}
use Rattle.part_turns.proofs.laws.parts_show_the_state.Goals as goal

pub returns : goal.returns
returns c = held-parts-show_the_state
