use Rattle.std.proofs.Common.{◌≡◌, ◌<◌, ◌*◌, ◌+◌, ◌/◌, ◌%◌, ℕ, sym, subst, ap, ◌∙◌, arith}
use Rattle.placement.specs.Placement.{global_of, owned_of}
use Rattle.placement.specs.Cyclic.{cyclic_triples}
use Rattle.placement.specs.CyclicLaws.{global-cyclic, length-cyclic, is_placement}
use Rattle.placement.specs.PlacementLaws.{global-below}
use Rattle.placement.proofs.cyclic.CyclicPlacement.global.Goals as goal

-- what is summed is an index
fits : (extent ranks block p l turn : ℕ) → 0 < ranks → 0 < block → turn ≡ block * ranks → l < owned_of (cyclic_triples extent ranks block) p → l / block * turn + p * block + l % block < extent
fits extent ranks block p l turn some_rank some_block is below =
    rw (is, sym (global-cyclic extent ranks block p l some_rank some_block below))
    (subst (λ n. global_of (cyclic_triples extent ranks block) p l < n) (length-cyclic extent ranks block) (global-below (is_placement extent ranks block some_rank some_block) p l below))

pub overflow_mul-turns : goal.overflow_mul-turns
overflow_mul-turns c = let s = c.args.self.now in omega (arith, fits s.extent s.ranks s.block c.args.p c.args.l c.turn.result s.some_rank s.some_block c.turn.ensures.turn c.requires)

pub overflow_add-result : goal.overflow_add-result
overflow_add-result c = let s = c.args.self.now in omega (arith, fits s.extent s.ranks s.block c.args.p c.args.l c.turn.result s.some_rank s.some_block c.turn.ensures.turn c.requires)

pub overflow_add-result-2 : goal.overflow_add-result-2
overflow_add-result-2 c = let s = c.args.self.now in omega (arith, fits s.extent s.ranks s.block c.args.p c.args.l c.turn.result s.some_rank s.some_block c.turn.ensures.turn c.requires)

pub overflow_cast-result-4 : goal.overflow_cast-result-4
overflow_cast-result-4 c = let s = c.args.self.now in omega (arith, fits s.extent s.ranks s.block c.args.p c.args.l c.turn.result s.some_rank s.some_block c.turn.ensures.turn c.requires)

pub returns : goal.returns
returns c =
    let s = c.args.self.now in
    ap (λ w. c.args.l / s.block * w + c.args.p * s.block + c.args.l % s.block) c.turn.ensures.turn ∙ sym (global-cyclic s.extent s.ranks s.block c.args.p c.args.l s.some_rank s.some_block c.requires)
