use Rattle.std.proofs.Common.{◌≡◌, ◌≤◌, ℤ, false, nat_lt, length, subst, sym, arith}
use Rattle.std.specs.Prelude.{unsigned_abs}
use Rattle.std.specs.List.{All, list_any}
use Rattle.std.proofs.lemmas.Bool.{or_parts}
use Rattle.std.proofs.lemmas.Bool.Decides.{nat_tests}
use Rattle.bern_base.specs.declared.limits.TheConstants.{MOST_OFFSET, MOST_OFFSETS}
use Rattle.job_rules.specs.Rules.{shape_past_limit}
use Rattle.job_rules.proofs.ListLemmas.{none_all}
use Rattle.job_rules.proofs.declarations.checked_shape.Goals as goal

near : (offset : ℤ) → nat_lt MOST_OFFSET (unsigned_abs offset) ≡ false → unsigned_abs offset ≤ MOST_OFFSET
near offset h = grind (arith, nat_tests)

pub checked_offsets-requires : goal.checked_offsets-requires
unfolding shape_past_limit
checked_offsets-requires c =
    let h = rw c.in-Diagonal.is at c.requires in
    let far = or_parts (nat_lt MOST_OFFSETS (length c.in-Diagonal.offsets)) (list_any (λ offset. nat_lt MOST_OFFSET (unsigned_abs offset)) c.in-Diagonal.offsets) h in
    subst (All (λ offset. unsigned_abs offset ≤ MOST_OFFSET)) (sym c.as_slice.ensures) (none_all _ (λ offset. unsigned_abs offset ≤ MOST_OFFSET) near c.in-Diagonal.offsets far.1)
