use Rattle.std.proofs.Common.{◌≡◌, ◌∙◌, ℕ, ◌≢◌, ◌+◌, ◌-◌, ◌/◌, ◌<◌, ⊎_elim, length, map, get_or, sym, subst, arith}
use Rattle.std.specs.List.Sorted.{IsStrictlyIncreasing}
use Rattle.std.proofs.lemmas.Bool.{cases_lt}
use Rattle.bern_base.specs.Matrix.{number}
use Rattle.bern_base.proofs.ElementLemmas.{element_none, element_one, smaller_up_to, larger_from}
use Rattle.bern_base.proofs.matrix.Matrix.value.Goals as goal

pub returns-then-here-number : goal.returns-then-here-number
returns-then-here-number c =
    let e = c.index-entries-middle.result in
    let m : ℕ = c.loop-low.low + (c.loop-low.high - c.loop-low.low) / 2 in
    let is : e ≡ get_or c.args.self.now.entries m e = subst (λ xs. e ≡ get_or xs m e) c.as_slice-entries.ensures c.index-entries-middle.is in
    let below : m < length c.args.self.now.entries = subst (λ xs. m < length xs) c.as_slice-entries.ensures (omega arith) in
    c.new.ensures ∙ c.bits.ensures.bits
    ∙ sym (element_one c.args.self.now.cols c.args.self.now.entries c.args.number m e c.requires.rising below is (sym c.number-here.ensures ∙ c.if-here-number.true) c.bits.ensures.fits)

pub loop-low-preserved-then-here-number-2 : goal.loop-low-preserved-then-here-number-2
loop-low-preserved-then-here-number-2 c =
    let rise = subst (λ xs. IsStrictlyIncreasing (map (number c.args.self.now.cols) xs)) (sym c.as_slice-entries.ensures) c.requires.rising in record {
      order = omega arith;
      top = c.loop-low.invariant.top;
      below = smaller_up_to c.args.self.now.cols c.as_slice-entries.result.now (c.loop-low.low + (c.loop-low.high - c.loop-low.low) / 2) c.args.number c.index-entries-middle.result rise (omega arith) c.index-entries-middle.is (omega arith);
      above = c.loop-low.invariant.above;
    }

pub loop-low-preserved : goal.loop-low-preserved
loop-low-preserved c =
    let rise = subst (λ xs. IsStrictlyIncreasing (map (number c.args.self.now.cols) xs)) (sym c.as_slice-entries.ensures) c.requires.rising in record {
      order = omega arith;
      top = omega arith;
      below = c.loop-low.invariant.below;
      above = larger_from c.args.self.now.cols c.as_slice-entries.result.now (c.loop-low.low + (c.loop-low.high - c.loop-low.low) / 2) c.args.number c.index-entries-middle.result rise c.index-entries-middle.is (omega arith);
    }

pub returns : goal.returns
returns c =
    c.new-2.ensures
    ∙ sym (element_none c.args.self.now.cols c.args.self.now.entries c.args.number
    (subst (λ xs. (k : ℕ) → k < length xs → get_or (map (number c.args.self.now.cols) xs) k 0 ≢ c.args.number) c.as_slice-entries.ensures
    (λ k within is.
    ⊎_elim (λ low. omega (arith, c.loop-low.invariant.below k low, is)) (λ high. omega (arith, c.loop-low.invariant.above k (omega arith) within, is)) (cases_lt k c.loop-low.low))))
