-- What writes an element that a rank owns is at home at the rank.
use Rattle.std.proofs.Common.{◌≡◌, ◌∙◌, ℕ, ◌+◌, ◌%◌, ◌^◌, ◌==◌, Bool, true, false, cond, List, [], ◌∷◌, ℤ, Some, refl, sym, ap, arith}
use Rattle.std.specs.Prelude.{if◌then◌else◌, slice_get}
use Rattle.std.specs.List.{filter, sum_by}
use Rattle.std.proofs.lemmas.Bool.{eq-eqb, eqb-true}
use Rattle.std.proofs.lemmas.List.Sums.{sum_by-cons}
use Rattle.std.proofs.lemmas.Map.Views.{any-filter_same}
use Rattle.bern_base.specs.declared.job.ArrayDecl.{ArrayDecl}
use Rattle.bern_base.specs.declared.job.Checked.{Checked}
use Rattle.bern_base.specs.declared.job.Nest.{Nest}
use Rattle.job_model.specs.Elements.{element_of}
use Rattle.job_model.specs.Points.{points}
use Rattle.job_model.specs.State.{State}
use Rattle.job_model.specs.Values.{value_in}
use Rattle.pass_model.specs.Local.{IsOwn}
use Rattle.pass_model.specs.Sums.{body_sum, home_points, is_at, is_written}
use Rattle.term_model.specs.Answers.{Places, home_of, owner_in}

-- a filter that lets through all that counts leaves the sum of what counts
sum_kept : {X : Type 0} (p q : X → Bool) (f : X → ℕ) → ((x : X) → p x ≡ true → q x ≡ true) → (xs : List X) →
    sum_by (λ x. if p x then f x else 0) (filter q xs) ≡ sum_by (λ x. if p x then f x else 0) xs
sum_kept p q f keeps [] = refl
sum_kept {X} p q f keeps (x ∷ xs) = by (q x) (keeps x) (sum_kept p q f keeps xs) ∙ sym (sum_by-cons counted x xs)
  where
    counted : X → ℕ
    counted = λ y. if p y then f y else 0

    zero : (b : Bool) → (b ≡ true → false ≡ true) → (if b then f x else 0) ≡ 0
    zero true never = let no : false ≡ true = never refl in cc
    zero false never = refl

    by : (there : Bool) → (p x ≡ true → there ≡ true) → sum_by counted (filter q xs) ≡ sum_by counted xs → sum_by counted (cond there (x ∷ filter q xs) (filter q xs)) ≡ counted x + sum_by counted xs
    by true implies rest = sum_by-cons counted x (filter q xs) ∙ ap (λ n. counted x + n) rest
    by false implies rest = let none = zero (p x) implies in omega (arith, rest, none)

module _ (job : Checked) (places : Places) (nest : Nest) (rank : ℕ) (array : ArrayDecl) (array_is : slice_get job.arrays nest.target.array ≡ Some array) (n : ℕ) (own : IsOwn places array rank n) where
  -- a point that writes the element is at home where the element is
  home : (x : List ℤ) → is_at job nest n x ≡ true → (home_of job places nest x == rank) ≡ true
  home x at =
      let there : element_of job.arrays nest.target x ≡ n = eqb-true (element_of job.arrays nest.target x) n at in
      eq-eqb (home_of job places nest x) rank
      (ap (λ o. owner_in places o (element_of job.arrays nest.target x)) array_is ∙ ap (owner_in places (Some array)) there ∙ own.owner)

  pub home_writes : is_written job nest n (home_points job places nest rank) ≡ is_written job nest n (points nest)
  home_writes = any-filter_same (is_at job nest n) (λ x. home_of job places nest x == rank) true home (points nest)

  pub home_sums : (state : State) → body_sum job state nest n (home_points job places nest rank) ≡ body_sum job state nest n (points nest)
  home_sums state =
      ap (λ s. s % 2 ^ 64)
      (sum_kept (is_at job nest n) (λ x. home_of job places nest x == rank) (λ x. value_in job.arrays state x nest.body) home (points nest))
