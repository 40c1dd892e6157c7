use Rattle.placement.proofs.RanksLemmas.{crowd}
use Rattle.placement.proofs.listed.is_crowded.Goals as goal

pub returns-clause-two : goal.returns-clause-two
returns-clause-two c = crowd c.args.entries.now c.args.extent c.requires.inside c.requires.whole
