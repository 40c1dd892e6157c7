use Rattle.store_cases.proofs.SmallLemmas.{can_build}
use Rattle.store_cases.proofs.stored.store_of.Goals as goal

pub build-requires : goal.build-requires
build-requires c = can_build c.args.shape c.in_ok-globals.globals c.new-2.result c.args.matrix c.requires.free (c.requires.suits c.in_ok-globals.globals c.new-2.result) c.requires.small
