-- One block for each rank is a placement.
use Rattle.std.proofs.Common.{◌≡◌, ℕ, ◌*◌, ◌<◌, ◌≤◌, length, ap, ◌∙◌, inl, inr, arith}
use Rattle.std.specs.Int.{div_ceil}
use Rattle.std.proofs.Math.Nat.{zero-mul}
use Rattle.std.proofs.lemmas.Bool.{cases_eq}
use Rattle.std.proofs.lemmas.Grind.{div_ceil_times}
use Rattle.placement.specs.Placement.{IsPlacement}
use Rattle.placement.specs.CyclicLaws.{is_placement, length-cyclic}
use Rattle.rank_product.specs.Runs.{block_place}

pub length-block_place : (size ranks : ℕ) → length (block_place size ranks) ≡ size
length-block_place size ranks = length-cyclic size ranks (div_ceil size ranks)

pub some_block : (size ranks : ℕ) → 1 ≤ size → 1 ≤ ranks → 0 < div_ceil size ranks
some_block size ranks some some_rank = elim (cases_eq (div_ceil size ranks) 0) [
  | inl none ↦
      absurd (let covers : size ≤ div_ceil size ranks * ranks = (div_ceil_times size ranks some_rank).0 in
      let nothing : div_ceil size ranks * ranks ≡ 0 = ap (λ q. q * ranks) none ∙ zero-mul ranks in
      omega (arith, covers, nothing, some))
  | inr apart ↦ omega (arith, apart)
]

pub place_is : (size ranks : ℕ) → 1 ≤ size → 1 ≤ ranks → IsPlacement ranks (block_place size ranks)
place_is size ranks some some_rank = is_placement size ranks (div_ceil size ranks) some_rank (some_block size ranks some some_rank)
