-- What is true of the terms of every expression, whatever the arrays hold.
use Rattle.std.specs.Prelude.{◌≡◌, ℕ, ◌%◌, ◌^◌, ◌≤◌, List, ℤ, true, false, length, map}
use Rattle.std.specs.List.{All, sum_by}
use Rattle.bern_base.specs.declared.job.Checked.{Checked}
use Rattle.bern_base.specs.declared.job.Expr.{Expr}
use Rattle.bern_base.specs.declared.job.Nest.{Nest}
use Rattle.bern_base.specs.declared.limits.TheConstants.{EXPRESSION_LEVELS, MOST_REFERENCES, MOST_TERMS}
use Rattle.job_model.specs.Accepted.{IsNestOf, IsReadOf}
use Rattle.job_model.specs.References.{sizes_of}
use Rattle.job_model.specs.State.{State}
use Rattle.job_model.specs.Values.{value_in}
use Rattle.term_model.specs.declared.term.Term.{Term}
use Rattle.term_model.specs.Terms.{terms_of, references_of, value_of_term, is_dense_in}

-- at every point and in every state the values of the terms sum to the value of the expression
abbrev pub TermsSum : Type 0
TermsSum = (job : Checked) (state : State) (point : List ℤ) (e : Expr) →
    sum_by (value_of_term job.arrays state point) (terms_of job e) % 2 ^ 64 ≡ value_in job.arrays state point e

-- how many references each term has, in order
abbrev pub counts : List Term → List ℕ
counts ts = map (λ t. length (references_of t)) ts

-- terms have as many references as products that are multiplied out by counting alone
abbrev pub TermsHaveSizes : Type 0
TermsHaveSizes = (job : Checked) (e : Expr) → counts (terms_of job e) ≡ sizes_of EXPRESSION_LEVELS e

-- so the terms of an accepted nest are few, and have few references
pub record AreFew (ts : List Term) : Type 0 where
  pub terms : length ts ≤ MOST_TERMS
  pub references : All (λ t. length (references_of t) ≤ MOST_REFERENCES) ts

abbrev pub TermsAreFew : Type 0
TermsAreFew = (job : Checked) (nest : Nest) → IsNestOf job nest → AreFew (terms_of job nest.body)

-- the dense references of a term are of arrays that are stored whole, and the sparse ones are not
pub record IsToldApart (job : Checked) (t : Term) : Type 0 where
  pub dense : All (λ ref. is_dense_in job ref ≡ true) t.dense
  pub sparse : All (λ ref. is_dense_in job ref ≡ false) t.sparse

abbrev pub TermsAreToldApart : Type 0
TermsAreToldApart = (job : Checked) (e : Expr) → All (IsToldApart job) (terms_of job e)

-- a term of an accepted nest reads what its body may read
abbrev pub TermsReadTheBody : Type 0
TermsReadTheBody = (job : Checked) (nest : Nest) → IsNestOf job nest → All (λ t. All (IsReadOf job nest) (references_of t)) (terms_of job nest.body)
