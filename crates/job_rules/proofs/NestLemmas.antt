-- Nests within their limits.
use Rattle.std.proofs.Common.{◌≡◌, false, ◌||◌, nat_lt, List, [], ◌∷◌, map, length, ◌≤◌, arith}
use Rattle.std.specs.Prelude.{unsigned_abs}
use Rattle.std.specs.List.{All, list_any}
use Rattle.std.proofs.lemmas.Bool.{or_parts}
use Rattle.std.proofs.lemmas.Bool.Decides.{nat_tests}
use Rattle.std.proofs.lemmas.List.Elements.{All-cons}
use Rattle.bern_base.specs.declared.limits.TheConstants.{MOST_BOUND, MOST_GUARDS, MOST_VARIABLES}
use Rattle.bern_base.specs.declared.raw.RawNest.{RawNest}
use Rattle.bern_base.specs.declared.raw.RawVar.{RawVar}
use Rattle.job_rules.specs.declared.ranges.Range.{Range}
use Rattle.job_rules.specs.declared.resolved.ResolvedNest.{ResolvedNest}
use Rattle.job_rules.specs.Looked.{Scope, span_of, nest_in, sum_of}
use Rattle.job_rules.specs.Nests.{range_of, ranges_of, is_far, is_too_wide, guard_is_wide, ref_is_wide}
use Rattle.job_rules.specs.Sums.{constant_of}
use Rattle.job_rules.specs.After.{IsNear}

-- J15, but for the terms: what a nest within its limits has
pub record HasLimits (ranges : List Range) (nest : ResolvedNest) : Type 0 where
  pub few : length nest.spans ≤ MOST_VARIABLES
  pub guards : length nest.guards ≤ MOST_GUARDS
  pub near : list_any is_far ranges ≡ false
  pub target : ref_is_wide nest.target ≡ false
  pub reads : list_any ref_is_wide nest.reads ≡ false

pub has_limits : (ranges : List Range) (nest : ResolvedNest) → is_too_wide ranges nest ≡ false → HasLimits ranges nest
unfolding is_too_wide
has_limits ranges nest narrow =
    let a = nat_lt MOST_VARIABLES (length nest.spans) in
    let b = nat_lt MOST_GUARDS (length nest.guards) in
    let c = list_any is_far ranges in
    let d = list_any guard_is_wide nest.guards in
    let e = ref_is_wide nest.target in
    let f = list_any ref_is_wide nest.reads in
    let five = or_parts (a || b || c || d || e) f narrow in
    let four = or_parts (a || b || c || d) e five.0 in
    let three = or_parts (a || b || c) d four.0 in
    let two = or_parts (a || b) c three.0 in
    let one = or_parts a b two.0 in
    record {
      few = grind (arith, nat_tests, one.0);
      guards = grind (arith, nat_tests, one.1);
      near = two.1;
      target = four.1;
      reads = five.1;
    }

module _ (scope : Scope) where
  near_one : (var : RawVar) → is_far (range_of (span_of scope var)) ≡ false → IsNear scope var
  unfolding span_of
  near_one var close =
      let lo = unsigned_abs (constant_of (sum_of scope var.lo)) in
      let hi = unsigned_abs (constant_of (sum_of scope var.hi)) in
      let both = or_parts (nat_lt MOST_BOUND lo) (nat_lt MOST_BOUND hi) close in
      (grind (arith, nat_tests, both.0), grind (arith, nat_tests, both.1))

  near_all : (vars : List RawVar) → list_any is_far (map range_of (map (span_of scope) vars)) ≡ false → All (IsNear scope) vars
  near_all [] close = λ k d within. absurd (omega (arith, within))
  near_all (var ∷ vars) close =
      let both = or_parts (is_far (range_of (span_of scope var))) (list_any is_far (map range_of (map (span_of scope) vars))) close in
      All-cons (IsNear scope) var vars (near_one var both.0) (near_all vars both.1)

  -- the bounds of a nest within its limits are near
  pub near_bounds : (nest : RawNest) → is_too_wide (ranges_of (nest_in scope nest)) (nest_in scope nest) ≡ false → All (IsNear scope) nest.vars
  unfolding ranges_of nest_in
  near_bounds nest narrow = near_all nest.vars (has_limits (ranges_of (nest_in scope nest)) (nest_in scope nest) narrow).near
