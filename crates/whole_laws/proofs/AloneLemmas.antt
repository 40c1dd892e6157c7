-- One rank owns all: it is the home of all points, all of which are interior.
use Rattle.std.proofs.Common.{◌≡◌, ◌∙◌, ℕ, ◌/◌, ◌%◌, ◌<◌, ◌^◌, ◌==◌, Bool, true, false, not, ◌&&◌, List, [], ◌∷◌, Option, Some, None, ℤ, get_or, refl, sym, ap, ⊎_elim, arith, zero-add}
use Rattle.std.specs.Prelude.{filter, slice_get, slice_index_or, if◌then◌else◌}
use Rattle.std.specs.List.{list_all, sum_by}
use Rattle.std.proofs.Math.Nat.{add-zero, mod-mod, mod-one}
use Rattle.std.proofs.lemmas.Bool.{cases_lt, eq-eqb}
use Rattle.std.proofs.lemmas.List.{get_or_past}
use Rattle.std.proofs.lemmas.List.FromFn.{get_or-map-range_with_len, length-map-range_with_len}
use Rattle.bern_base.specs.Ring.{ring_add}
use Rattle.bern_base.specs.declared.axes.Axis.{Axis}
use Rattle.bern_base.specs.declared.axes.Axis.TheVariants as axis
use Rattle.bern_base.specs.declared.job.ArrayDecl.{ArrayDecl}
use Rattle.bern_base.specs.declared.job.Checked.{Checked}
use Rattle.bern_base.specs.declared.job.Nest.{Nest}
use Rattle.bern_base.proofs.SumLemmas.{sum_by_none}
use Rattle.job_model.specs.Elements.{element_of}
use Rattle.job_model.specs.Points.{points}
use Rattle.job_model.specs.State.{State}
use Rattle.pass_model.specs.Interior.{boundary_points, interior_points, is_interior, is_own}
use Rattle.pass_model.specs.Sums.{body_sum, boundary_sum, home_points, interior_sum, term_sum}
use Rattle.placement.specs.Cyclic.{cyclic_triple, cyclic_triples}
use Rattle.placement.specs.Elements.{owner_of_element}
use Rattle.placement.specs.Placement.{Triple, no_triple, owner_of}
use Rattle.term_model.specs.declared.term.Term.{Term}
use Rattle.term_model.specs.Activity.{Entries}
use Rattle.term_model.specs.Answers.{Places, answer, home_of, owner_in}
use Rattle.term_model.specs.Terms.{terms_of}
use Rattle.whole_laws.specs.Alone.{OneRankIsAlone, OneRankOwnsAll, OwnsAll}

pub one-rank-owns_all : OneRankOwnsAll
unfolding owner_of
one-rank-owns_all extent block index = ⊎_elim
    (λ (inside : index < extent). ap (λ (t : Triple). t.rank) (get_or-map-range_with_len (cyclic_triple 1 block) 0 extent index index no_triple inside (zero-add index)) ∙ mod-one (index / block))
    (λ past. ap (λ (t : Triple). t.rank) (get_or_past (cyclic_triples extent 1 block) index no_triple (omega (arith, length-map-range_with_len (cyclic_triple 1 block) 0 extent, past))))
    (cases_lt index extent)

keeps_all : {X : Type 0} (p : X → Bool) (xs : List X) → ((x : X) → p x ≡ true) → filter p xs ≡ xs
keeps_all p [] all = refl
keeps_all p (x ∷ xs) all = ap (λ b. if b then x ∷ filter p xs else filter p xs) (all x) ∙ ap (λ ys. x ∷ ys) (keeps_all p xs all)

keeps_none : {X : Type 0} (p : X → Bool) (xs : List X) → ((x : X) → p x ≡ false) → filter p xs ≡ []
keeps_none p [] none = refl
keeps_none p (x ∷ xs) none = ap (λ b. if b then x ∷ filter p xs else filter p xs) (none x) ∙ keeps_none p xs none

each_passes : {X : Type 0} (p : X → Bool) (xs : List X) → ((x : X) → p x ≡ true) → list_all p xs ≡ true
each_passes p [] all = refl
each_passes p (x ∷ xs) all = ap (λ b. b && list_all p xs) (all x) ∙ each_passes p xs all

pub owner_is : (places : Places) → OwnsAll places → (array : Option ArrayDecl) (n : ℕ) → owner_in places array n ≡ 0
owner_is places owns None n = refl
owner_is places owns (Some array) n = by_axis array.axis
  where
    by_axis : (a : Axis) → owner_of_element a (slice_index_or places array.place []) array.cols n ≡ 0
    by_axis axis.Row = owns array.place (n / array.cols)
    by_axis axis.Col = owns array.place (n % array.cols)
    by_axis axis.Both = owns array.place (n / array.cols)

module _ (job : Checked) (entries : Entries) (places : Places) (nest : Nest) (owns : OwnsAll places) where
  all_own : (t : Term) (x : List ℤ) → is_interior job places 0 t x ≡ true
  all_own t x = each_passes (is_own job places 0 x) t.dense (λ r. eq-eqb (owner_in places (slice_get job.arrays r.array) (element_of job.arrays r x)) 0 (owner_is places owns (slice_get job.arrays r.array) (element_of job.arrays r x)))

  none_left : (t : Term) → boundary_points job entries places nest t 0 ≡ []
  none_left t = keeps_none (λ x. not (is_interior job places 0 t x)) (answer job entries places nest t 0) (λ x. ap not (all_own t x))

  all_home : home_points job places nest 0 ≡ points nest
  all_home = keeps_all (λ x. home_of job places nest x == 0) (points nest)
      (λ x. eq-eqb (home_of job places nest x) 0 (owner_is places owns (slice_get job.arrays nest.target.array) (element_of job.arrays nest.target x)))

  nothing_more : (state : State) (element : ℕ) → boundary_sum job entries places state nest 0 element (terms_of job nest.body) ≡ 0
  nothing_more state element =
      ap (λ s. s % 2 ^ 64)
      (sum_by_none (λ t. term_sum job state nest element t (boundary_points job entries places nest t 0)) (terms_of job nest.body)
      (λ k d below. ap (term_sum job state nest element (get_or (terms_of job nest.body) k d)) (none_left (get_or (terms_of job nest.body) k d))))

pub one-rank-is_alone : OneRankIsAlone
one-rank-is_alone job entries places nest owns = record {
  home = all_home job entries places nest owns;
  interior = λ t. keeps_all (is_interior job places 0 t) (answer job entries places nest t 0) (all_own job entries places nest owns t);
  boundary = none_left job entries places nest owns;
  sum = λ sums state element zeros.
      let inner : ℕ = interior_sum job entries places state nest 0 element (terms_of job nest.body) in
      sym (ap (ring_add inner) (nothing_more job entries places nest owns state element) ∙ ap (λ n. n % 2 ^ 64) (add-zero inner) ∙ mod-mod (sum_by (λ t. term_sum job state nest element t (interior_points job entries places nest t 0)) (terms_of job nest.body)) (2 ^ 64))
      ∙ sums job entries places state nest 0 element zeros
      ∙ ap (body_sum job state nest element) (all_home job entries places nest owns);
}
