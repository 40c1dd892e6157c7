use Rattle.std.proofs.Common.{◌<◌, ◌≤◌, length, ◌∙◌, subst, arith}
use Rattle.std.proofs.lemmas.List.{take_all}
use Rattle.placement.specs.Placement.{owned_indices, owned_of}
use Rattle.placement.proofs.IndexLemmas.{owned_indices_push, length-owned_indices}
use Rattle.placement.proofs.part.globals.Goals as goal

pub loop-local-preserved : goal.loop-local-preserved
loop-local-preserved g c =
    let ts = g.P.Placement.triples c.args.place.now in
    let below : c.loop-local.local < owned_of ts c.args.rank = subst (λ n. c.loop-local.local < n) c.owned-owned.ensures c.loop-local-test.true in
    owned_indices_push ts c.args.rank c.loop-local.local c.global.result c.loop-local.globals.items c.push.new.self.items below c.loop-local.invariant c.global.ensures c.in_ok-push.ensures.items

pub returns : goal.returns
returns g c =
    let ts = g.P.Placement.triples c.args.place.now in
    let past : length (owned_indices ts c.args.rank) ≤ c.loop-local.local = omega (arith, length-owned_indices ts c.args.rank, c.owned-owned.ensures, c.loop-local-test.false) in
    c.from_vec.ensures ∙ c.loop-local.invariant ∙ take_all c.loop-local.local (owned_indices ts c.args.rank) past
