use Rattle.std.proofs.Common.{map, subst, arith}
use Rattle.std.specs.List.{All}
use Rattle.std.proofs.lemmas.List.{take_all}
use Rattle.std.proofs.lemmas.List.Elements.{All-cons}
use Rattle.split_exec.specs.Hits.{OwnsWhole}
use Rattle.split_exec.proofs.ViewLemmas.{All-take_more}
use Rattle.split_exec.proofs.interior.owns_term.Goals as goal

pub references-preserved : goal.references-preserved
references-preserved g c =
    All-take_more (OwnsWhole c.args.job.now (map g.P.Placement.triples c.args.places.now) c.args.rank) c.args.planned.now.term.dense c.references.at c.at.result.now c.at.ensures c.references.invariant
    (c.owns_whole-in-references.ensures c.if-not-owns_whole-2.false)

pub returns : goal.returns
returns g c owns =
    let P = OwnsWhole c.args.job.now (map g.P.Placement.triples c.args.places.now) c.args.rank in
    let dense = c.args.planned.now.term.dense in
    All-cons P c.args.nest.now.target dense (c.owns_whole.ensures c.if-not-owns_whole.false)
    (subst (All P) (take_all c.references.at dense (omega (arith, c.references-test.false, c.len-at-end.ensures))) c.references.invariant)
