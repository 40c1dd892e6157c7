-- How many elements sets have.
use Rattle.std.proofs.Common.{◌≡◌, ℕ, zero, suc, ◌+◌, ◌<◌, ◌≤◌, Bool, true, List, [], ◌∷◌, Some, length, take, filter, get_or, slice_get, sum_by, refl, ap, ◌∙◌, inl, inr, arith}
use Rattle.std.proofs.lemmas.Bool.{cases_Bool, cond-true, eq-eqb}
use Rattle.std.proofs.lemmas.Option.{slice_get_read}
use Rattle.std.proofs.lemmas.List.Sums.{sum_by-cons}
use Rattle.bern_base.specs.declared.letter.NeedSet.{NeedSet}
use Rattle.turn_model.specs.Runs.{is_for}
use Rattle.turn_node.specs.Asks.{elements_in}

-- a set that passes adds its elements to those before it
part : (p : NeedSet → Bool) (sets : List NeedSet) (i : ℕ) (set : NeedSet) → slice_get sets i ≡ Some set → p set ≡ true →
    sum_by elements_in (filter p (take i sets)) + length set.elements ≤ sum_by elements_in (filter p sets)
part p [] i set at passes = absurd (cc)
part p (x ∷ sets) zero set at passes =
    let same : x ≡ set = cc in
    let here = cond-true (p x) (x ∷ filter p sets) (filter p sets) (ap p same ∙ passes) in
    let sum = sum_by-cons elements_in x (filter p sets) in
    let long : length x.elements ≡ length set.elements = ap elements_in same in
    rw here (omega arith)
part p (x ∷ sets) (suc i) set at passes =
    let rest = part p sets i set at passes in
    elim (cases_Bool (p x)) [
      | inl yes_here ↦
          let sum = sum_by-cons elements_in x (filter p sets) in
          let front = sum_by-cons elements_in x (filter p (take i sets)) in
          rw yes_here (omega arith)
      | inr not_here ↦ rw not_here rest
    ]

pub count_fits : (nest : ℕ) (sets : List NeedSet) (i : ℕ) (set : NeedSet) (count most : ℕ) → i < length sets → set ≡ get_or sets i set → set.nest ≡ nest →
    count ≡ sum_by elements_in (filter (is_for nest) (take i sets)) → sum_by elements_in (filter (is_for nest) sets) < most → count + length set.elements < most
count_fits nest sets i set count most below read passes counted few =
    let more = part (is_for nest) sets i set (slice_get_read sets (length sets) i set refl below read) (eq-eqb set.nest nest passes) in
    omega arith
