-- The references of an accepted nest: each stays inside its array, and is of a dense array or lies where the target lies.
use Rattle.std.proofs.Common.{◌≡◌, ◌∙◌, ◌⊎◌, inl, inr, Bool, true, false, not, ◌||◌, ◌&&◌, ◌==◌, if◌then◌else◌, List, ℤ, Some, sym, ap, subst, refl, arith}
use Rattle.std.specs.Prelude.{slice_get}
use Rattle.std.specs.List.{All, enumerate_from, list_all}
use Rattle.std.proofs.lemmas.Bool.{and_parts, or_parts}
use Rattle.std.proofs.lemmas.Bool.Decides.{nat_tests}
use Rattle.bern_base.specs.Affine.{IsInBox, number_of as value_of}
use Rattle.bern_base.specs.declared.job.ArrayDecl.{ArrayDecl}
use Rattle.bern_base.specs.declared.job.Checked.{Checked}
use Rattle.bern_base.specs.declared.job.Span.{Span}
use Rattle.job_model.specs.Accepted.{is_col, AreSubscripts, IsDenseAt, IsOneToOne, LiesAt}
use Rattle.job_model.specs.Points.{spans_of}
use Rattle.job_model.specs.Runnable.{IsElementOf}
use Rattle.job_rules.specs.declared.ranges.Range.{Range}
use Rattle.job_rules.specs.declared.resolved.ResolvedNest.{ResolvedNest}
use Rattle.job_rules.specs.declared.resolved.ResolvedRef.{ResolvedRef}
use Rattle.job_rules.specs.State.{number_of}
use Rattle.job_rules.specs.Sums.{Sum, is_within, same_form}
use Rattle.job_rules.specs.Nests.{facts_at, is_aligned, is_box_empty, is_one_to_one, is_told, leaves_array, leaves_extent, lies_elsewhere, reads_target, ref_is_wide}
use Rattle.job_rules.specs.Points.{InBox}
use Rattle.job_rules.specs.After.{narrow_of, narrow_ref}
use Rattle.job_rules.proofs.FormLemmas.{is_subscript, same_narrow}
use Rattle.job_rules.proofs.InsideLemmas.{FewVariables, box_some, stays_inside}
use Rattle.job_rules.proofs.OneToOneLemmas.{one_point}
use Rattle.job_rules.proofs.ThereLemmas.{Found, Grows, dense_at, facts_are, not_false}

-- the subscripts of a reference are within their limits, and its variables are among the four
pub record IsNarrow (ref : ResolvedRef) : Type 0 where
  pub row : is_within ref.row ≡ true
  pub col : is_within ref.col ≡ true
  pub row_few : FewVariables ref.row
  pub col_few : FewVariables ref.col

pub is_narrow : (ref : ResolvedRef) → FewVariables ref.row → FewVariables ref.col → ref_is_wide ref ≡ false → IsNarrow ref
is_narrow ref row col narrow =
    let both = or_parts (not (is_within ref.row)) (not (is_within ref.col)) narrow in
    record { row = not_false (is_within ref.row) both.0; col = not_false (is_within ref.col) both.1; row_few = row; col_few = col }

pub are_subscripts : (ref : ResolvedRef) → IsNarrow ref → AreSubscripts (narrow_ref ref)
unfolding narrow_ref
are_subscripts ref narrow = (is_subscript ref.row narrow.row, is_subscript ref.col narrow.col)

-- each point of the nest's box lies in the box of its ranges
abbrev pub Links : List Span → List Range → Type 0
Links vars ranges = (point : List ℤ) → IsInBox (spans_of vars) point → InBox ranges (value_of point)

-- J10: the reference stays inside its array
pub element_is : (old new : Checked) → Grows old new → (vars : List Span) (ranges : List Range) → Links vars ranges → (ref : ResolvedRef) → IsNarrow ref → (a : ArrayDecl) → slice_get old.arrays (number_of ref.array) ≡ Some a
    → (is_box_empty ranges ≡ false → leaves_array old ranges ref ≡ false) → IsElementOf new.arrays (spans_of vars) (narrow_ref ref) a
unfolding narrow_ref
element_is old new grows vars ranges links ref narrow a there stays = record {
  named = grows.arrays (number_of ref.array) a there;
  row = λ point inside. stays_inside ref.row ranges a.rows point narrow.row_few narrow.row (links point inside) (both point inside).0;
  col = λ point inside. stays_inside ref.col ranges a.cols point narrow.col_few narrow.col (links point inside) (both point inside).1;
}
  where
    both : (point : List ℤ) → IsInBox (spans_of vars) point → (leaves_extent ranges a.rows ref.row ≡ false) × (leaves_extent ranges a.cols ref.col ≡ false)
    both point inside =
        let close = subst (λ f. (leaves_extent ranges f.rows ref.row || leaves_extent ranges f.cols ref.col) ≡ false) (facts_are old (number_of ref.array) a there) (stays (box_some ranges (value_of point) (links point inside))) in
        or_parts (leaves_extent ranges a.rows ref.row) (leaves_extent ranges a.cols ref.col) close

-- J13: two points that name one element are one
pub one_to_one_is : (vars : List Span) (ranges : List Range) → Links vars ranges → (nest : ResolvedNest) → IsNarrow nest.target → is_one_to_one ranges nest ≡ true → IsOneToOne (spans_of vars) (narrow_ref nest.target)
unfolding narrow_ref is_one_to_one
one_to_one_is vars ranges links nest narrow is p q p_inside q_inside same_row same_col =
    let some = box_some ranges (value_of p) (links p p_inside) in
    let told = sym (ap (λ b. b || list_all (λ entry. is_told ranges nest.target entry.0) (enumerate_from 0 ranges)) some) ∙ is in
    one_point ranges nest.target narrow.row narrow.col told p q p_inside.four q_inside.four (links p p_inside) (links q q_inside) same_row same_col

either_true : (a b : Bool) → (not a && not b) ≡ false → (a ≡ true) ⊎ (b ≡ true)
either_true true b h = inl refl
either_true false true h = inr refl
either_true false false h = absurd cc

not_true : (b : Bool) → b ≡ true → not b ≡ false
not_true true h = refl
not_true false h = absurd cc

chosen_within : (by_col : Bool) (ref : ResolvedRef) → IsNarrow ref → is_within (if by_col then ref.col else ref.row) ≡ true
chosen_within true ref narrow = narrow.col
chosen_within false ref narrow = narrow.row

chosen_form : (by_col : Bool) (row col : Sum) → (if by_col then narrow_of col else narrow_of row) ≡ narrow_of (if by_col then col else row)
chosen_form true row col = refl
chosen_form false row col = refl

-- J14: an aligned reference lies where the target lies
lies_at : (old new : Checked) → Grows old new → (target ref : ResolvedRef) (t a : ArrayDecl) → slice_get old.arrays (number_of target.array) ≡ Some t → slice_get old.arrays (number_of ref.array) ≡ Some a → IsNarrow target → IsNarrow ref
    → is_aligned old target ref ≡ true → LiesAt new (narrow_ref target) (narrow_ref ref)
unfolding narrow_ref
lies_at old new grows target ref t a target_there there target_narrow narrow aligned =
    let first = subst (λ f. (f.place == (facts_at old (number_of target.array)).place && same_form (if f.by_col then ref.col else ref.row) (if (facts_at old (number_of target.array)).by_col then target.col else target.row)) ≡ true)
    (facts_are old (number_of ref.array) a there) aligned in
    let second = subst (λ f. (a.place == f.place && same_form (if is_col a.axis then ref.col else ref.row) (if f.by_col then target.col else target.row)) ≡ true) (facts_are old (number_of target.array) t target_there) first in
    let both = and_parts (a.place == t.place) (same_form (if is_col a.axis then ref.col else ref.row) (if is_col t.axis then target.col else target.row)) second in
    record {
      own = a;
      other = t;
      own_is = grows.arrays (number_of ref.array) a there;
      other_is = grows.arrays (number_of target.array) t target_there;
      place = grind (arith, nat_tests, both.0);
      same = chosen_form (is_col a.axis) ref.row ref.col
          ∙ same_narrow (if is_col a.axis then ref.col else ref.row) (if is_col t.axis then target.col else target.row) (chosen_within (is_col a.axis) ref narrow) (chosen_within (is_col t.axis) target target_narrow) both.1
          ∙ sym (chosen_form (is_col t.axis) target.row target.col);
    }

pub near_is : (old new : Checked) → Grows old new → (target ref : ResolvedRef) → Found old.arrays (number_of target.array) → Found old.arrays (number_of ref.array) → All (λ a. Found old.formats a.format) old.arrays → IsNarrow target → IsNarrow ref
    → lies_elsewhere old target ref ≡ false → IsDenseAt new (narrow_ref ref).array ⊎ LiesAt new (narrow_ref target) (narrow_ref ref)
unfolding narrow_ref
near_is old new grows target ref target_has has stored target_narrow narrow near =
    elim (either_true (facts_at old (number_of ref.array)).dense (is_aligned old target ref) near) [
      | inl dense ↦ inl (dense_at old new grows (number_of ref.array) has stored (not_true (facts_at old (number_of ref.array)).dense dense))
      | inr aligned ↦ inr (lies_at old new grows target ref target_has.0 has.0 target_has.1 has.1 target_narrow narrow aligned)
    ]

-- J12: the target's array is read at the target alone, in a nest that is one-to-one
pub own_is : (vars : List Span) (ranges : List Range) → Links vars ranges → (nest : ResolvedNest) → IsNarrow nest.target → (ref : ResolvedRef) → IsNarrow ref → reads_target (is_one_to_one ranges nest) nest ref ≡ false
    → (narrow_ref ref).array ≡ (narrow_ref nest.target).array → ((narrow_ref ref).row ≡ (narrow_ref nest.target).row) × ((narrow_ref ref).col ≡ (narrow_ref nest.target).col) × IsOneToOne (spans_of vars) (narrow_ref nest.target)
unfolding narrow_ref
own_is vars ranges links nest target_narrow ref narrow otherwise same =
    let target = nest.target in
    let one = is_one_to_one ranges nest in
    let forms = same_form ref.row target.row && same_form ref.col target.col in
    let e : (number_of ref.array == number_of target.array) ≡ true = grind (arith, nat_tests) in
    let rest : (not one || not forms) ≡ false = sym (ap (λ b. b && (not one || not forms)) e) ∙ otherwise in
    let parts = or_parts (not one) (not forms) rest in
    let both = and_parts (same_form ref.row target.row) (same_form ref.col target.col) (not_false forms parts.1) in
    (same_narrow ref.row target.row narrow.row target_narrow.row both.0, same_narrow ref.col target.col narrow.col target_narrow.col both.1, one_to_one_is vars ranges links nest target_narrow (not_false one parts.0))
