use Rattle.std.proofs.Common.{◌<◌, sym, ◌∙◌, refl, below_more, arith, subst}
use Rattle.bern_ports.proofs.ShelfLemmas.{place_own, once_from_places}
use Rattle.bern_ports.proofs.mem_shelf.are_once.Goals as goal

pub returns-then-not-is_first : goal.returns-then-not-is_first
returns-then-not-is_first c =
    (λ t. cc, λ once. sym c.if-not-is_first.true ∙ c.is_first.ensures.1 (place_own c.args.files.now c.loop-at.at once (subst (λ n. c.loop-at.at < n) c.len-at-end.ensures c.loop-at-test.true)))

pub loop-at-preserved : goal.loop-at-preserved
loop-at-preserved c = below_more _ _ c.loop-at.invariant (c.is_first.ensures.0 c.if-not-is_first.false)

pub returns : goal.returns
returns c = (λ t. once_from_places c.args.files.now (λ k below. c.loop-at.invariant k (omega (arith, below, c.len-at-end.ensures, c.loop-at-test.false))), λ once. refl)
