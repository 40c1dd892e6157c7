-- The offsets of the diagonal formats of an accepted job rise: the grammar has no others, and the rules keep them.
use Rattle.std.proofs.Common.{ℕ, zero, suc, ◌<◌, List, [], ◌∷◌, length, get_or, ℤ, arith}
use Rattle.std.specs.Prelude.{◌<ℤ◌}
use Rattle.std.specs.Cmp.{int_chain}
use Rattle.std.specs.List.{AllPairs}
use Rattle.bern_base.specs.declared.raw.RawShape.{RawShape}
use Rattle.bern_base.specs.declared.raw.RawShape.TheVariants as raw
use Rattle.job_text.specs.Forms.{AreLevels, Rise}
use Rattle.job_rules.specs.After.{shape_of}
use Rattle.job_accept.proofs.FormatLemmas.{formats_have}
use Rattle.job_accept.specs.Offsets.{HasRisingOffsets, OffsetsRise}

later_rise : (x : ℤ) (xs : List ℤ) → Rise (x ∷ xs) → Rise xs
later_rise x [] rise = tt
later_rise x (y ∷ ys) rise = rise.1

above : (x : ℤ) (xs : List ℤ) → Rise (x ∷ xs) → (k : ℕ) (d : ℤ) → k < length xs → x <ℤ get_or xs k d
above x [] rise k d below = absurd (omega (arith, below))
above x (y ∷ ys) rise zero d below = rise.0
above x (y ∷ ys) rise (suc k) d below = int_chain x y (get_or ys k d) rise.0 (above y ys rise.1 k d (omega (arith, below)))

-- where each is above the one before it, each is above all before it
all_rise : (xs : List ℤ) → Rise xs → AllPairs (λ a b. a <ℤ b) xs
all_rise [] rise i j d up within = absurd (omega (arith, within))
all_rise (x ∷ xs) rise i zero d up within = absurd (omega (arith, up))
all_rise (x ∷ xs) rise zero (suc j) d up within = above x xs rise j d (omega (arith, within))
all_rise (x ∷ xs) rise (suc i) (suc j) d up within = all_rise xs (later_rise x xs rise) i j d (omega (arith, up)) (omega (arith, within))

levels_rise : (levels : RawShape) (words : List (List ℕ)) → AreLevels levels words → HasRisingOffsets (shape_of levels)
levels_rise (raw.Diagonal offsets) words is = all_rise offsets is.2.rising
levels_rise raw.DenseOne words is = tt
levels_rise raw.PackedOne words is = tt
levels_rise raw.ListOne words is = tt
levels_rise (raw.DenseDense outer) words is = tt
levels_rise (raw.DensePacked outer) words is = tt
levels_rise (raw.PackedPacked outer) words is = tt
levels_rise raw.ListTwo words is = tt
levels_rise raw.Jagged words is = tt
levels_rise (raw.Permute file) words is = tt

pub offsets_rise : OffsetsRise
offsets_rise bytes job accepts = formats_have HasRisingOffsets levels_rise bytes job accepts
