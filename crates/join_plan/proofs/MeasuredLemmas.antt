-- What is measured of the arrays of an accepted job is within the limits of the scheduler.
use Rattle.std.proofs.Common.{◌≡◌, ◌∙◌, ℕ, zero, suc, ◌+◌, ◌*◌, ◌/◌, ◌%◌, ◌<◌, ◌≤◌, ◌==◌, min, Bool, true, false, cond, List, [], ◌∷◌, ◌++◌, length, length-append, Option, Some, None, slice_get, get_or, ⊎_elim, refl, sym, ap, subst, arith}
use Rattle.std.specs.List.{All, Contains, range_with_len}
use Rattle.std.proofs.Math.Nat.{add-mul, mul-le-mul_right, one-mul}
use Rattle.std.proofs.lemmas.Bool.{cases_lt, ne_eqb}
use Rattle.std.proofs.lemmas.Nat.{mul-le}
use Rattle.std.proofs.lemmas.Grind.{div_ceil_times}
use Rattle.std.specs.Option.{unwrap_or}
use Rattle.std.proofs.lemmas.Option.{slice_get_within, unwrap_or-slice_get}
use Rattle.std.proofs.lemmas.List.Elements.{All-contains, All-cons, All-nil}
use Rattle.std.proofs.lemmas.List.FromFn.{length-range_with_len}
use Rattle.std.proofs.lemmas.List.Sums.{length-filter, count_by-le-length}
use Rattle.bern_base.specs.declared.axes.Axis.{Axis}
use Rattle.bern_base.specs.declared.axes.Axis.TheVariants as axis
use Rattle.bern_base.specs.declared.job.Checked.{Checked}
use Rattle.bern_base.specs.declared.job.FormatDecl.{FormatDecl}
use Rattle.bern_base.specs.declared.job.Nest.{Nest}
use Rattle.bern_base.specs.declared.job.Ref.{Ref}
use Rattle.bern_base.specs.declared.limits.TheConstants.{MOST_OFFSETS, MOST_SIDE, MOST_WEIGHT}
use Rattle.bern_base.specs.declared.matrix.Matrix.{Matrix}
use Rattle.bern_base.specs.declared.shape.Shape.{Shape}
use Rattle.bern_base.specs.declared.shape.Shape.TheVariants as shape
use Rattle.bern_base.specs.declared.stats.LevelStat.{LevelStat}
use Rattle.bern_base.specs.declared.stats.Stats.{Stats}
use Rattle.format_model.specs.Axes.{across}
use Rattle.format_model.specs.Content.{all_lines, filled_lines, is_filled}
use Rattle.format_model.specs.Estimates.{extent_in, rounded_up, stats_of}
use Rattle.format_model.specs.Levels.{Lookup, Direct, Binary, Linear, bits, digits, steps_of}
use Rattle.job_model.specs.Accepted.{HasOffsets, IsAccepted, IsNestOf}
use Rattle.loop_query.proofs.SizeLemmas.{terms_are_few}
use Rattle.term_model.specs.declared.term.Term.{Term}
use Rattle.term_model.specs.Queries.{IsMeasured}
use Rattle.term_model.specs.Terms.{references_of, terms_of}
use Rattle.join_plan.specs.Costs.{levels_in, stats_at, stats_by, stats_of as measured_of}
use Rattle.term_model.specs.Plans.{is_both}
use Rattle.join_plan.specs.Laws.{HasOuterAxis, IsMeasuredWithin}
use Rattle.join_plan.specs.Tasks.{AreSlight, CanSchedule, IsModest}

-- ---- numbers

add_times : (a b : ℕ) → (a + 1) * b ≡ a * b + b
add_times a b = add-mul a 1 b ∙ ap (λ n. a * b + n) (one-mul b)

digits_most : (most n : ℕ) → digits most n ≤ most
digits_most zero n = omega arith
digits_most (suc most) n = at (n == 0) (digits_most most (n / 2))
  where
    at : (b : Bool) → digits most (n / 2) ≤ most → cond b 0 (suc (digits most (n / 2))) ≤ suc most
    at true few = omega arith
    at false few = omega (arith, few)

bits_most : (n : ℕ) → bits n ≤ n
unfolding bits
bits_most n = digits_most n n

steps_most : (lookup : Lookup) (n : ℕ) → n ≤ MOST_WEIGHT → steps_of lookup n ≤ MOST_WEIGHT
steps_most Direct n few = omega arith
steps_most Binary n few = omega (arith, bits_most n, few)
steps_most Linear n few = few

ceil_most : (a b : ℕ) → 0 < b → a / b + min 1 (a % b) ≤ a
ceil_most a b some = at (a / b + min 1 (a % b)) (div_ceil_times a b some).1
  where
    over : (c : ℕ) → c * b < a + b → a < c → c ≤ a
    over c less more =
        let most : (a + 1) * b ≤ c * b = mul-le-mul_right b (omega (arith, more)) in
        let ones : a * 1 ≤ a * b = mul-le a 1 a b (omega arith) (omega (arith, some)) in
        absurd (omega (arith, less, most, ones, add_times a b))

    at : (c : ℕ) → c * b < a + b → c ≤ a
    at c less = ⊎_elim (over c less) (λ few. few) (cases_lt a c)

rounded_most : (a b : ℕ) → rounded_up a b ≤ a
rounded_most a zero = omega arith
rounded_most a (suc b) = subst (λ t. cond t 0 (a / suc b + min 1 (a % suc b)) ≤ a) (sym (ne_eqb (suc b) 0 (λ is. omega (arith, is)))) (ceil_most a (suc b) (omega arith))

-- ---- levels

one_level : (a : Axis) (ordered : Bool) (lookup : Lookup) (n : ℕ) → n ≤ MOST_WEIGHT → AreSlight (record { axis = a; ordered = ordered; estimate = n; weight = steps_of lookup n } ∷ [])
one_level a ordered lookup n few = (omega arith, All-cons IsModest _ [] (record { estimate = few; weight = steps_most lookup n few }) (All-nil IsModest))

two_levels : (a b : Axis) (first second : Bool) (outer inner : Lookup) (n m : ℕ) → n ≤ MOST_WEIGHT → m ≤ MOST_WEIGHT →
    AreSlight (record { axis = a; ordered = first; estimate = n; weight = steps_of outer n } ∷ record { axis = b; ordered = second; estimate = m; weight = steps_of inner m } ∷ [])
two_levels a b first second outer inner n m few more =
    (omega arith, All-cons IsModest _ (_ ∷ []) (record { estimate = few; weight = steps_most outer n few }) (All-cons IsModest _ [] (record { estimate = more; weight = steps_most inner m more }) (All-nil IsModest)))

extent_few : (a : Axis) (m : Matrix) → is_both a ≡ false → m.rows ≤ MOST_SIDE → m.cols ≤ MOST_SIDE → extent_in a m ≤ MOST_SIDE
extent_few axis.Row m one rows cols = rows
extent_few axis.Col m one rows cols = cols
extent_few axis.Both m one rows cols = absurd cc

across_one : (a : Axis) → is_both a ≡ false → is_both (across a) ≡ false
across_one axis.Row one = refl
across_one axis.Col one = refl
across_one axis.Both one = one

filled_few : (a : Axis) (m : Matrix) → length (filled_lines a m) ≤ extent_in a m
filled_few a m = omega (arith, length-filter (is_filled a m.cols m.entries) (all_lines a m), count_by-le-length (is_filled a m.cols m.entries) (all_lines a m), length-range_with_len 0 (extent_in a m))

levels_few : (s : Shape) (m : Matrix) → HasOffsets s → HasOuterAxis s → m.rows ≤ MOST_SIDE → m.cols ≤ MOST_SIDE → length m.entries ≤ MOST_WEIGHT → AreSlight (stats_of s m)
levels_few shape.DenseOne m offsets one rows cols few = one_level axis.Row true Direct m.rows (omega (arith, rows))
levels_few shape.PackedOne m offsets one rows cols few = one_level axis.Row true Binary (length m.entries) few
levels_few shape.ListOne m offsets one rows cols few = one_level axis.Row false Linear (length m.entries) few
levels_few (shape.DenseDense outer) m offsets one rows cols few =
    two_levels outer (across outer) true true Direct Direct (extent_in outer m) (extent_in (across outer) m) (omega (arith, extent_few outer m one rows cols)) (omega (arith, extent_few (across outer) m (across_one outer one) rows cols))
levels_few (shape.DensePacked outer) m offsets one rows cols few =
    two_levels outer (across outer) true true Direct Binary (extent_in outer m) (rounded_up (length m.entries) (extent_in outer m)) (omega (arith, extent_few outer m one rows cols))
    (omega (arith, rounded_most (length m.entries) (extent_in outer m), few))
levels_few (shape.PackedPacked outer) m offsets one rows cols few =
    two_levels outer (across outer) true true Binary Binary (length (filled_lines outer m)) (rounded_up (length m.entries) (length (filled_lines outer m)))
    (omega (arith, filled_few outer m, extent_few outer m one rows cols)) (omega (arith, rounded_most (length m.entries) (length (filled_lines outer m)), few))
levels_few shape.ListTwo m offsets one rows cols few = one_level axis.Both false Linear (length m.entries) few
levels_few shape.Jagged m offsets one rows cols few =
    two_levels axis.Row axis.Col false true Direct Binary m.rows (rounded_up (length m.entries) m.rows) (omega (arith, rows)) (omega (arith, rounded_most (length m.entries) m.rows, few))
levels_few (shape.Diagonal listed) m offsets one rows cols few =
    two_levels axis.Row axis.Col true true Direct Binary m.rows (length listed) (omega (arith, rows)) (omega (arith, offsets.0))
levels_few (shape.Permute file) m offsets one rows cols few =
    two_levels axis.Row axis.Col false true Direct Binary m.rows (rounded_up (length m.entries) m.rows) (omega (arith, rows)) (omega (arith, rounded_most (length m.entries) m.rows, few))

-- ---- terms

there : {X : Type 0} (xs : List X) (k : ℕ) (x : X) → slice_get xs k ≡ Some x → Contains xs x
there xs k x is = (k, slice_get_within xs k x is, sym (unwrap_or-slice_get xs k x) ∙ ap (λ o. unwrap_or o x) is)

ref_few : (job : Checked) (stats : List Stats) (accepted : IsAccepted job) (ref : Ref) → IsMeasuredWithin job stats ref.array → AreSlight (stats_by stats (Some ref))
ref_few job stats accepted ref is =
    let measured = is.measured in
    subst (λ found. AreSlight (levels_in found)) (sym measured.stats_is)
    (levels_few measured.format.shape measured.matrix (All-contains (λ f. HasOffsets f.shape) job.formats measured.format accepted.formats (there job.formats measured.array.format measured.format measured.format_is)) is.axis is.rows is.cols is.entries)

none_few : (stats : List Stats) → AreSlight (stats_by stats None)
none_few stats = (omega arith, All-nil IsModest)

-- what holds of the levels of each reference's array holds by place
pub found_few : (stats : List Stats) (t : Term) → All (λ ref. AreSlight (stats_at stats ref.array)) t.sparse → (r : ℕ) → AreSlight (measured_of stats t r)
found_few stats t few r = at (slice_get t.sparse r) refl
  where
    at : (found : Option Ref) → slice_get t.sparse r ≡ found → AreSlight (stats_by stats found)
    at None is = none_few stats
    at (Some ref) is = All-contains (λ u. AreSlight (stats_at stats u.array)) t.sparse ref few (there t.sparse r ref is)

pub can_schedule : (job : Checked) (nest : Nest) (t : Term) (stats : List Stats) → IsAccepted job → IsNestOf job nest → Contains (terms_of job nest.body) t →
    All (λ ref. IsMeasuredWithin job stats ref.array) t.sparse → CanSchedule (record { vars = nest.vars; term = t; stats = stats })
can_schedule job nest t stats accepted is listed measured = record {
  variables = is.few;
  references = omega (arith, length-append t.dense t.sparse, All-contains (λ u. length (references_of u) ≤ 4) (terms_of job nest.body) t (terms_are_few job nest is).references listed);
  near = is.near;
  levels = found_few stats t (λ k d below. ref_few job stats accepted (get_or t.sparse k d) (measured k d below));
}
