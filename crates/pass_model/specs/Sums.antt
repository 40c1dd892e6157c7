-- What the points of a nest add to an element of its target, term by term and as a whole, modulo 2^64.
use Rattle.std.specs.Prelude.{◌≡◌, ℕ, ◌%◌, ◌^◌, ◌==◌, Bool, List, ℤ, if◌then◌else◌}
use Rattle.std.specs.List.{filter, list_any, sum_by}
use Rattle.bern_base.specs.Ring.{ring_add}
use Rattle.bern_base.specs.declared.job.Checked.{Checked}
use Rattle.bern_base.specs.declared.job.Nest.{Nest}
use Rattle.job_model.specs.Elements.{element_of}
use Rattle.job_model.specs.Points.{points}
use Rattle.job_model.specs.State.{State}
use Rattle.job_model.specs.Values.{value_in}
use Rattle.term_model.specs.declared.term.Term.{Term}
use Rattle.term_model.specs.Activity.{Entries, SparseHoldZeros}
use Rattle.term_model.specs.Answers.{Places, home_of}
use Rattle.term_model.specs.Terms.{terms_of, value_of_term}
use Rattle.pass_model.specs.Interior.{interior_points, boundary_points}

-- the target's element at a point is this one
abbrev pub is_at : Checked → Nest → ℕ → List ℤ → Bool
is_at job nest element point = element_of job.arrays nest.target point == element

-- what a term adds to an element at some points, in a state
abbrev pub term_sum : Checked → State → Nest → ℕ → Term → List (List ℤ) → ℕ
term_sum job state nest element t xs = sum_by (λ x. if is_at job nest element x then value_of_term job.arrays state x t else 0) xs

-- what the interior points of all terms add, and what those on the boundary add
abbrev pub interior_sum : Checked → Entries → Places → State → Nest → ℕ → ℕ → List Term → ℕ
interior_sum job entries places state nest rank element ts =
    sum_by (λ t. term_sum job state nest element t (interior_points job entries places nest t rank)) ts % 2 ^ 64

abbrev pub boundary_sum : Checked → Entries → Places → State → Nest → ℕ → ℕ → List Term → ℕ
boundary_sum job entries places state nest rank element ts =
    sum_by (λ t. term_sum job state nest element t (boundary_points job entries places nest t rank)) ts % 2 ^ 64

-- the points of a nest with this home
abbrev pub home_points : Checked → Places → Nest → ℕ → List (List ℤ)
home_points job places nest rank = filter (λ point. home_of job places nest point == rank) (points nest)

-- what the body of the nest adds to an element at some points, each read in one state
abbrev pub body_sum : Checked → State → Nest → ℕ → List (List ℤ) → ℕ
body_sum job state nest element xs = sum_by (λ x. if is_at job nest element x then value_in job.arrays state x nest.body else 0) xs % 2 ^ 64

-- some of these points writes the element
abbrev pub is_written : Checked → Nest → ℕ → List (List ℤ) → Bool
is_written job nest element xs = list_any (is_at job nest element) xs

-- both passes together add what the body adds over the rank's points, in a state whose sparse arrays hold 0 where they store nothing
abbrev pub PassesSum : Type 0
PassesSum = (job : Checked) (entries : Entries) (places : Places) (state : State) (nest : Nest) (rank element : ℕ) →
    SparseHoldZeros job entries state →
    ring_add (interior_sum job entries places state nest rank element (terms_of job nest.body)) (boundary_sum job entries places state nest rank element (terms_of job nest.body))
    ≡ body_sum job state nest element (home_points job places nest rank)

-- what a nest leaves in an element, from the old value and the sum: `+=` adds the sum; `=` takes it, but only where a point writes the element
abbrev pub applied : Bool → Bool → ℕ → ℕ → ℕ
applied replace written old sum = if replace then (if written then sum else old) else ring_add old sum
