use Rattle.std.proofs.Common.{ℕ, ◌+◌, ◌-◌, ◌/◌, ◌≤◌, sym, ◌∙◌, arith}
use Rattle.format_model.specs.Levels.{bits}
use Rattle.stores_packed.specs.Packed.{RisesBetween}
use Rattle.stores_packed.proofs.SearchLemmas.{all_above, all_below, hit, miss, probe_cost}
use Rattle.stores_shaped.proofs.halving.search.Goals as goal

pub returns-then-here-column-clause-found : goal.returns-then-here-column-clause-found
returns-then-here-column-clause-found g c =
    let s = c.args.lines.now in
    let line = c.args.line in
    let f : ℕ → ℕ = g.S.RisingLines.index s c.args.row in
    let rises : RisesBetween f line.from (line.from + (line.to - line.from)) = λ i j low up high.
    g.met.S.RisingLines.rises s c.args.row c.requires.row i j (omega arith) up (omega arith) in
    sym (hit f line.from (line.to - line.from) (c.halving.low + (c.halving.high - c.halving.low) / 2) c.args.column rises (omega arith) (omega arith) (sym c.column-here.ensures ∙ c.if-here-column.true))

pub returns-then-here-column-clause-cost : goal.returns-then-here-column-clause-cost
returns-then-here-column-clause-cost g c =
    let half : 1 + bits 0 ≤ bits (c.halving.high - c.halving.low) = probe_cost (c.halving.high - c.halving.low) 0 (omega arith) (omega arith) in
    omega (arith, half)

pub halving-preserved-then-here-column-2 : goal.halving-preserved-then-here-column-2
halving-preserved-then-here-column-2 g c =
    let s = c.args.lines.now in
    let line = c.args.line in
    let v = c.halving.invariant in
    let f : ℕ → ℕ = g.S.RisingLines.index s c.args.row in
    let rises : RisesBetween f line.from line.to = λ i j low up high.
    g.met.S.RisingLines.rises s c.args.row c.requires.row i j (omega arith) up (omega arith) in
    let left : ℕ = c.halving.high - (c.halving.low + (c.halving.high - c.halving.low) / 2 + 1) in
    let half : 1 + bits left ≤ bits (c.halving.high - c.halving.low) = probe_cost (c.halving.high - c.halving.low) left (omega arith) (omega arith) in record {
      from = omega arith;
      to = v.to;
      below = all_below f line.from line.to (c.halving.low + (c.halving.high - c.halving.low) / 2) c.args.column rises (omega arith) (omega (arith, c.column-here.ensures, c.if-here-column-2.true));
      above = v.above;
      cost = omega (arith, half);
    }

pub halving-preserved : goal.halving-preserved
halving-preserved g c =
    let s = c.args.lines.now in
    let line = c.args.line in
    let v = c.halving.invariant in
    let f : ℕ → ℕ = g.S.RisingLines.index s c.args.row in
    let rises : RisesBetween f line.from line.to = λ i j low up high.
    g.met.S.RisingLines.rises s c.args.row c.requires.row i j (omega arith) up (omega arith) in
    let left : ℕ = c.halving.low + (c.halving.high - c.halving.low) / 2 - c.halving.low in
    let half : 1 + bits left ≤ bits (c.halving.high - c.halving.low) = probe_cost (c.halving.high - c.halving.low) left (omega arith) (omega arith) in record {
      from = v.from;
      to = omega arith;
      below = v.below;
      above = all_above f line.from line.to (c.halving.low + (c.halving.high - c.halving.low) / 2) c.args.column rises (omega arith) (omega (arith, c.column-here.ensures, c.if-here-column.false, c.if-here-column-2.false));
      cost = omega (arith, half);
    }

pub returns-clause-found : goal.returns-clause-found
returns-clause-found g c =
    let s = c.args.lines.now in
    let line = c.args.line in
    let v = c.halving.invariant in
    let f : ℕ → ℕ = g.S.RisingLines.index s c.args.row in
    sym (miss f line.from (line.to - line.from) c.halving.low c.args.column v.below (λ k past high. v.above k (omega arith) (omega arith)))
