-- Interior and boundary points together add what the body adds.
use Rattle.std.proofs.Common.{◌≡◌, ◌∙◌, ℕ, ◌+◌, ◌%◌, ◌^◌, ◌==◌, Bool, true, false, cond, List, ◌++◌, ◌&&◌, ℤ, get_or, refl, sym, ap}
use Rattle.std.specs.Prelude.{if◌then◌else◌, not}
use Rattle.std.specs.List.{filter, sum_by}
use Rattle.std.proofs.Math.Nat.{mod-add-mod, add-mod-mod, mod-mod}
use Rattle.std.proofs.lemmas.List.Sums.{sum_by-append}
use Rattle.std.proofs.lemmas.List.Sorted.{IsPermutation-filter_both, sum_by-IsPermutation}
use Rattle.bern_base.proofs.SumLemmas.{sum_by-add, sum_by-swap, sum_by_agree, sum_by_agree-mod, sum_by_none}
use Rattle.bern_base.specs.declared.job.Checked.{Checked}
use Rattle.bern_base.specs.declared.job.Nest.{Nest}
use Rattle.job_model.specs.Points.{points}
use Rattle.job_model.specs.State.{State}
use Rattle.job_model.specs.Values.{value_in}
use Rattle.loop_query.proofs.ActivityLemmas.{active_terms_sum}
use Rattle.pass_model.specs.Interior.{is_interior}
use Rattle.pass_model.specs.Sums.{PassesSum, is_at}
use Rattle.term_model.specs.declared.term.Term.{Term}
use Rattle.term_model.specs.Activity.{Entries, SparseHoldZeros, is_active}
use Rattle.term_model.specs.Answers.{Places, answer, home_of}
use Rattle.term_model.specs.Terms.{terms_of, value_of_term}
use Rattle.split_exec.proofs.SumLemmas.{sum_filter}

-- what passes and what does not
sum_both : {X : Type 0} (f : X → ℕ) (p : X → Bool) (xs : List X) → sum_by f (filter p xs) + sum_by f (filter (λ x. not (p x)) xs) ≡ sum_by f xs
sum_both f p xs =
    sym (sum_by-append f (filter p xs) (filter (λ x. not (p x)) xs))
    ∙ sum_by-IsPermutation f xs (filter p xs ++ filter (λ x. not (p x)) xs) (IsPermutation-filter_both p (λ x. not (p x)) (λ x. refl) xs)

module _ (job : Checked) (entries : Entries) (places : Places) (state : State) (nest : Nest) (rank element : ℕ) (zeros : SparseHoldZeros job entries state) where
  abbrev adds : Term → List ℤ → ℕ
  adds t x = if is_at job nest element x then value_of_term job.arrays state x t else 0

  abbrev body : List ℤ → ℕ
  body x = if is_at job nest element x then value_in job.arrays state x nest.body else 0

  abbrev ts : List Term
  ts = terms_of job nest.body

  abbrev home : List ℤ → Bool
  home x = home_of job places nest x == rank

  abbrev visited : Term → List ℤ → ℕ
  visited t x = if home x && is_active job entries x t then adds t x else 0

  -- over the active terms of a point
  active_total : (x : List ℤ) (at : Bool) → sum_by (λ t. if is_active job entries x t then (if at then value_of_term job.arrays state x t else 0) else 0) ts % 2 ^ 64
      ≡ (if at then value_in job.arrays state x nest.body else 0) % 2 ^ 64
  active_total x true =
      let total = active_terms_sum job entries state x nest.body zeros in
      let whole = sum_by (value_of_term job.arrays state x) (filter (is_active job entries x) ts) in
      ap (λ n. n % 2 ^ 64) (sym (sum_filter (value_of_term job.arrays state x) (is_active job entries x) ts))
      ∙ sym (mod-mod whole (2 ^ 64))
      ∙ ap (λ n. n % 2 ^ 64) total
  active_total x false = ap (λ n. n % 2 ^ 64) (sum_by_none (λ t. if is_active job entries x t then 0 else 0) ts (λ k d below. none (is_active job entries x (get_or ts k d))))
    where
      none : (b : Bool) → cond {A = ℕ} b 0 0 ≡ 0
      none true = refl
      none false = refl

  point_total : (x : List ℤ) (here : Bool) → sum_by (λ t. if here && is_active job entries x t then adds t x else 0) ts % 2 ^ 64 ≡ (if here then body x else 0) % 2 ^ 64
  point_total x true = active_total x (is_at job nest element x)
  point_total x false = ap (λ n. n % 2 ^ 64) (sum_by_none (λ (t : Term). 0) ts (λ k d below. refl))

  pub passes_total : (sum_by (λ t. sum_by (adds t) (filter (is_interior job places rank t) (answer job entries places nest t rank))) ts
      + sum_by (λ t. sum_by (adds t) (filter (λ x. not (is_interior job places rank t x)) (answer job entries places nest t rank))) ts) % 2 ^ 64
      ≡ sum_by body (filter home (points nest)) % 2 ^ 64
  passes_total =
      let inner : Term → ℕ = λ t. sum_by (adds t) (filter (is_interior job places rank t) (answer job entries places nest t rank)) in
      let outer : Term → ℕ = λ t. sum_by (adds t) (filter (λ x. not (is_interior job places rank t x)) (answer job entries places nest t rank)) in
      ap (λ n. n % 2 ^ 64)
      (sym (sum_by-add inner outer ts)
      ∙ sum_by_agree (λ t. inner t + outer t) (λ t. sum_by (visited t) (points nest)) ts (λ k d below.
      let t = get_or ts k d in
      sum_both (adds t) (is_interior job places rank t) (answer job entries places nest t rank)
      ∙ sum_filter (adds t) (λ x. home x && is_active job entries x t) (points nest))
      ∙ sum_by-swap visited ts (points nest))
      ∙ sum_by_agree-mod (2 ^ 64) (λ x. sum_by (λ t. visited t x) ts) (λ x. if home x then body x else 0) (points nest)
      (λ k d below. let x = get_or (points nest) k d in point_total x (home x))
      ∙ ap (λ n. n % 2 ^ 64) (sym (sum_filter body home (points nest)))

pub passes_sum : PassesSum
passes_sum job entries places state nest rank element zeros =
    let adds : Term → List ℤ → ℕ = λ t x. if is_at job nest element x then value_of_term job.arrays state x t else 0 in
    let inner = sum_by (λ t. sum_by (adds t) (filter (is_interior job places rank t) (answer job entries places nest t rank))) (terms_of job nest.body) in
    let outer = sum_by (λ t. sum_by (adds t) (filter (λ x. not (is_interior job places rank t x)) (answer job entries places nest t rank))) (terms_of job nest.body) in
    mod-add-mod inner (2 ^ 64) (outer % 2 ^ 64) ∙ add-mod-mod inner outer (2 ^ 64) ∙ passes_total job entries places state nest rank element zeros
