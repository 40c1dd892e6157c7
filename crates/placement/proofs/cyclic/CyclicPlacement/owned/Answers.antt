use Rattle.std.proofs.Common.{◌≡◌, ◌≤◌, ◌*◌, ◌+◌, ◌-◌, ◌/◌, ◌%◌, ℕ, min, sym, ap, ◌∙◌, arith}
use Rattle.placement.specs.CyclicLaws.{dealt, owned-cyclic, dealt-le}
use Rattle.placement.proofs.cyclic.CyclicPlacement.owned.Goals as goal

-- what the body adds up, by its steps
counted : (extent ranks block p turn again rest last : ℕ) → turn ≡ block * ranks → again ≡ block * ranks → rest ≡ extent % again - p * block → last ≡ min rest block →
    extent / turn * block + last ≡ dealt ranks block p extent
counted extent ranks block p turn again rest last first second third fourth =
    let left : rest ≡ extent % (block * ranks) - p * block = third ∙ ap (λ w. extent % w - p * block) second in
    let ends : last ≡ min (extent % (block * ranks) - p * block) block = fourth ∙ ap (λ r. min r block) left in
    ap (λ w. extent / w * block + last) first ∙ ap (λ m. extent / (block * ranks) * block + m) ends

pub overflow_cast-result : goal.overflow_cast-result
overflow_cast-result c =
    let s = c.args.self.now in
    let most : dealt s.ranks s.block c.args.p s.extent ≤ s.extent = dealt-le s.ranks s.block c.args.p s.extent s.some_rank in
    rw (counted s.extent s.ranks s.block c.args.p c.turn.result c.turn-2.result c.saturating_sub.result c.min-last.result c.turn.ensures.turn c.turn-2.ensures.turn c.saturating_sub.ensures c.min-last.ensures) (omega (arith, most))

pub returns : goal.returns
returns c =
    let s = c.args.self.now in
    counted s.extent s.ranks s.block c.args.p c.turn.result c.turn-2.result c.saturating_sub.result c.min-last.result c.turn.ensures.turn c.turn-2.ensures.turn c.saturating_sub.ensures c.min-last.ensures
    ∙ sym (owned-cyclic s.extent s.ranks s.block c.args.p s.some_rank s.some_block c.requires)
