use Rattle.std.proofs.Common.{arith}
use Rattle.turn_node.proofs.ProgressLemmas.{taken_few, taken_goes, taken_settles}
use Rattle.turn_node.proofs.progress.Progress.take.Goals as goal

pub overflow_add-taken : goal.overflow_add-taken
overflow_add-taken g c =
    let few = taken_few g.run c.args.self.now c.keep.new.self c.args.from c.at-taken.result.now c.args.letter c.requires.0 c.requires.1.0 c.requires.1.1 c.in-Ok.ensures.ok c.at-taken.ensures in
    omega arith

pub settled-self-requires : goal.settled-self-requires
settled-self-requires g c =
    taken_settles g.run c.args.self.now c.keep.new.self c.args.from c.at-taken.result.now c.args.letter c.set.new.self c.requires.0 c.requires.1.0 c.requires.1.1 c.in-Ok.ensures.ok c.at-taken.ensures c.set.ensures

pub returns-in-Ok-clause-ok : goal.returns-in-Ok-clause-ok
returns-in-Ok-clause-ok g c =
    taken_goes g.run c.args.self.now c.keep.new.self c.args.from c.at-taken.result.now c.args.letter c.set.new.self c.settled-self.result c.requires.0 c.requires.1.0 c.requires.1.1 c.in-Ok.ensures.ok c.at-taken.ensures c.set.ensures c.settled-self.ensures
