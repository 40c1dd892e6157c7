use Rattle.std.proofs.Common.{◌≡◌, ◌∙◌, ◌<◌, Some, [], map, sym, ap}
use Rattle.std.proofs.lemmas.Bool.{eqb-true}
use Rattle.job_model.specs.Accepted.{split_size}
use Rattle.bern_base.specs.declared.job.ArrayDecl.{ArrayDecl}
use Rattle.node_prog.proofs.HomeLemmas.{each_item, item}
use Rattle.placement.specs.Placement.{owned_of}
use Rattle.pass_model.specs.Local.{triples_in}
use Rattle.split_exec.proofs.RankLemmas.{extent_is}
use Rattle.split_exec.proofs.own.owns_whole.Goals as goal

pub owned-requires : goal.owned-requires
owned-requires g c = each_item g.P.Placement.ranks (λ n. c.args.rank < n) c.args.places.now c.in-Some.array.now.place c.at-place.result.now c.requires.at.placed.among c.at-place.ensures

pub returns : goal.returns
returns g c owns array named =
    let places = map g.P.Placement.triples c.args.places.now in
    let ranks = map g.P.Placement.ranks c.args.places.now in
    let own : c.in-Some.array.now ≡ array = (let both : Some c.in-Some.array.now ≡ Some array = c.in-Some.ensures.value ∙ named in cc) in
    let here = item g.P.Placement.triples c.args.places.now c.in-Some.array.now.place c.at-place.result.now [] c.at-place.ensures in
    let count : c.owned.result ≡ c.split_size.result = eqb-true c.owned.result c.split_size.result owns in
    ap (λ (a : ArrayDecl). owned_of (triples_in places a) c.args.rank) (sym own) ∙ ap (λ ts. owned_of ts c.args.rank) here ∙ sym c.owned.ensures ∙ count ∙ c.split_size.ensures
    ∙ ap split_size own ∙ sym (extent_is c.args.job.now places ranks c.args.rank c.requires.at c.args.reference.now.array array named)
