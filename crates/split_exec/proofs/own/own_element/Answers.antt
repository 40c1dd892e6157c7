use Rattle.std.proofs.Common.{map}
use Rattle.split_exec.proofs.RankLemmas.{high}
use Rattle.split_exec.proofs.own.own_element.Goals as goal

pub index_at-row-requires-clause-high : goal.index_at-row-requires-clause-high
index_at-row-requires-clause-high g c = (high c.args.job.now (map g.P.Placement.triples c.args.places.now) (map g.P.Placement.ranks c.args.places.now) c.args.rank c.requires.at c.args.reference.now c.args.point.now c.requires.named).0

pub index_at-col-requires-clause-high : goal.index_at-col-requires-clause-high
index_at-col-requires-clause-high g c = (high c.args.job.now (map g.P.Placement.triples c.args.places.now) (map g.P.Placement.ranks c.args.places.now) c.args.rank c.requires.at c.args.reference.now c.args.point.now c.requires.named).1
