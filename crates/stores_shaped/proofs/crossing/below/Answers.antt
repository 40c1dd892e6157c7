use Rattle.std.proofs.Common.{ℕ, ◌+◌, ◌-◌, ◌/◌, arith}
use Rattle.std.specs.Prelude.{◌≤ℤ◌}
use Rattle.std.proofs.lemmas.Int.{ints}
use Rattle.stores_shaped.specs.Diagonals.{offset_at}
use Rattle.stores_shaped.proofs.CrossingLemmas.{offsets_up}
use Rattle.stores_shaped.proofs.crossing.below.Goals as goal

pub halving-preserved-then-offsets-middle : goal.halving-preserved-then-offsets-middle
halving-preserved-then-offsets-middle c =
    let offsets = c.args.offsets.now in
    let middle : ℕ = c.halving.low + (c.halving.high - c.halving.low) / 2 in record {
      order = omega arith;
      top = c.halving.invariant.top;
      before = λ k low. let up : offset_at offsets k ≤ℤ offset_at offsets middle = offsets_up offsets k middle c.requires.rise (omega arith) (omega arith) in omega (arith, ints, up, c.if-offsets-middle.true);
      after = c.halving.invariant.after;
    }

pub halving-preserved : goal.halving-preserved
halving-preserved c =
    let offsets = c.args.offsets.now in
    let middle : ℕ = c.halving.low + (c.halving.high - c.halving.low) / 2 in record {
      order = omega arith;
      top = omega arith;
      before = c.halving.invariant.before;
      after = λ k from to. let up : offset_at offsets middle ≤ℤ offset_at offsets k = offsets_up offsets middle k c.requires.rise from to in omega (arith, ints, up, c.if-offsets-middle.false);
    }
