use Rattle.std.proofs.Common.{◌+◌, length, ap, arith}
use Rattle.split_exec.specs.declared.piece.Piece.{Piece}
use Rattle.split_exec.specs.Hits.{hits_add}
use Rattle.split_exec.specs.Runs.{held_at, hits_from}
use Rattle.split_exec.specs.Settings.{Setting, setting}
use Rattle.split_exec.proofs.RunLemmas.{left_last, left_same, none_left, rest_sound, sum_low, with_next}
use Rattle.split_exec.proofs.runs.add_places.Goals as goal

pub places-preserved-in_default : goal.places-preserved-in_default
places-preserved-in_default g c =
    let s : Setting = setting g.P.Placement.triples g.P.Placement.ranks g.V.Access.tree g.V.Cells.grid c.args.job.now c.args.places.now c.args.nest.now c.args.stores.now in
    let p = c.args.planned.now in
    let rank = c.args.rank in
    let line = c.args.line in
    let run = c.args.run.now in
    let start : Piece = record { element = c.args.still.now.start; value = 0 } in
    record {
      left = left_same c.args.delta.now c.places.delta start c.places.held (hits_add s rank p.term (hits_from s p rank line run c.places.place)) (hits_add s rank p.term (hits_from s p rank line run (c.places.place + 1)))
          (hits_add s rank p.term (hits_from s p rank line run c.args.first)) c.places.invariant.left c.in_default.ensures.none;
      sound = rest_sound s p rank line run c.requires.run c.places.place c.places.invariant.order (omega (arith, c.places-test.true)) c.places.invariant.sound;
      order = omega (arith, c.places.invariant.order);
      within = omega (arith, c.places-test.true);
      cost = omega (arith, c.places.invariant.cost);
    }

pub then-held-requires-clause-next : goal.then-held-requires-clause-next
then-held-requires-clause-next g c =
    let s : Setting = setting g.P.Placement.triples g.P.Placement.ranks g.V.Access.tree g.V.Cells.grid c.args.job.now c.args.places.now c.args.nest.now c.args.stores.now in
    sum_low s c.args.rank c.args.planned.now c.requires.can (length c.args.delta.now) (length c.places.delta) c.in-Some.piece.element c.requires.sums c.places.invariant.left.count c.in-Some.ensures.some.sum

pub places-preserved : goal.places-preserved
places-preserved g c =
    let s : Setting = setting g.P.Placement.triples g.P.Placement.ranks g.V.Access.tree g.V.Cells.grid c.args.job.now c.args.places.now c.args.nest.now c.args.stores.now in
    let p = c.args.planned.now in
    let rank = c.args.rank in
    let line = c.args.line in
    let run = c.args.run.now in
    let start : Piece = record { element = c.args.still.now.start; value = 0 } in
    record {
      left = with_next c.args.delta.now c.places.delta c.then-held.new.delta start c.places.held c.then-held.result (hits_add s rank p.term (hits_from s p rank line run c.places.place))
          (hits_add s rank p.term (hits_from s p rank line run (c.places.place + 1))) (held_at c.in-Some.piece) (hits_add s rank p.term (hits_from s p rank line run c.args.first))
          c.places.invariant.left c.then-held.ensures c.in-Some.ensures.some.adds;
      sound = rest_sound s p rank line run c.requires.run c.places.place c.places.invariant.order (omega (arith, c.places-test.true)) c.places.invariant.sound;
      order = omega (arith, c.places.invariant.order);
      within = omega (arith, c.places-test.true);
      cost = omega (arith, c.places.invariant.cost);
    }

pub returns-clause-grows : goal.returns-clause-grows
returns-clause-grows g c =
    let s : Setting = setting g.P.Placement.triples g.P.Placement.ranks g.V.Access.tree g.V.Cells.grid c.args.job.now c.args.places.now c.args.nest.now c.args.stores.now in
    let p = c.args.planned.now in
    let rank = c.args.rank in
    let line = c.args.line in
    let run = c.args.run.now in
    let start : Piece = record { element = c.args.still.now.start; value = 0 } in
    let past = none_left s p rank line run c.requires.run c.places.place (omega (arith, c.places-test.false)) in
    left_last c.args.delta.now c.places.delta start c.places.held (hits_add s rank p.term (hits_from s p rank line run c.places.place)) (hits_add s rank p.term (hits_from s p rank line run c.args.first))
    c.places.invariant.left (λ k. ap (λ hs. hits_add s rank p.term hs k) past)
