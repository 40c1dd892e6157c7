use Rattle.std.proofs.Common.{map}
use Rattle.std.specs.String.{string_bytes}
use Rattle.bern_ports.specs.Frames.{port, shelf_state}
use Rattle.bern_top.proofs.TopLemmas.{no_read_fault}
use Rattle.top_cases.proofs.laws.over_a_sure_shelf.Goals as goal

pub returns : goal.returns
returns g c =
    let s = g.F.Shelf in
    let k = g.S.Sink in
    no_read_fault (map string_bytes c.args.words.now) (shelf_state s c.args.shelf.now) (shelf_state s c.bernoulli.new.shelf) (port k c.args.out.now c.bernoulli.new.out) (port k c.args.err.now c.bernoulli.new.err) c.bernoulli.result
    (g.met.F.Shelf.sure_tells c.args.shelf.now c.requires.sure) c.requires.sure c.requires.there c.bernoulli.ensures.read_fault
