use Rattle.std.proofs.Common.{◌∙◌, [], length, map, ap, arith}
use Rattle.std.proofs.lemmas.List.{length-map}
use Rattle.bern_base.specs.Affine.{value_at}
use Rattle.job_model.specs.Points.{natural}
use Rattle.node_prog.proofs.HomeLemmas.{item}
use Rattle.placement.specs.Placement.{owner_of}
use Rattle.split_exec.proofs.BoxLemmas.{hangs_more}
use Rattle.split_exec.proofs.RankLemmas.{away, extent_is, place_low}
use Rattle.split_exec.proofs.boxes.is_away.Goals as goal

pub at-requires : goal.at-requires
at-requires g c =
    let low = place_low c.args.job.now (map g.P.Placement.triples c.args.places.now) (map g.P.Placement.ranks c.args.places.now) c.args.rank c.requires.at c.args.nest.now.target.array c.at-array.result.now c.at-array.ensures in
    omega (arith, low, length-map c.args.places.now g.P.Placement.triples)

pub owner-requires : goal.owner-requires
owner-requires g c =
    let extent = extent_is c.args.job.now (map g.P.Placement.triples c.args.places.now) (map g.P.Placement.ranks c.args.places.now) c.args.rank c.requires.at c.args.nest.now.target.array c.at-array.result.now c.at-array.ensures in
    let here = ap length (item g.P.Placement.triples c.args.places.now c.at-array.result.now.place c.at.result.now [] c.at.ensures) in
    omega (arith, c.in-Some.ensures.1, c.split_size.ensures, extent, here)

pub returns : goal.returns
returns g c other x box alike =
    away c.args.job.now g.P.Placement.triples c.args.places.now c.args.nest.now c.args.rank c.at-array.result.now c.at.result.now c.requires.nest c.at-array.ensures c.at.ensures x box
    (c.owner.ensures ∙ ap (owner_of (g.P.Placement.triples c.at.result.now)) (c.in-Some.ensures.0 ∙ ap natural (hangs_more c.needed.result c.args.depth c.split_form-form.result.now (omega arith) c.needed.ensures.hangs c.args.point.now x alike ∙ ap (λ f. value_at f x) c.split_form-form.ensures)))
    other
