-- Terms count only where they are active, in all states that a job comes to.
use Rattle.std.specs.Prelude.{◌≡◌, ℕ, ◌%◌, ◌^◌, List, ℤ, false}
use Rattle.std.specs.List.{All, filter, sum_by}
use Rattle.bern_base.specs.Matrix.{IsInside}
use Rattle.bern_base.specs.declared.job.ArrayDecl.{ArrayDecl}
use Rattle.bern_base.specs.declared.job.Checked.{Checked}
use Rattle.bern_base.specs.declared.job.Expr.{Expr}
use Rattle.bern_base.specs.declared.matrix.Entry.{Entry}
use Rattle.format_model.specs.Checks.{has_astray}
use Rattle.job_model.specs.Accepted.{Has, IsAccepted}
use Rattle.job_model.specs.Nests.{first_state, state_before}
use Rattle.job_model.specs.State.{State}
use Rattle.job_model.specs.Values.{value_in}
use Rattle.term_model.specs.declared.term.Term.{Term}
use Rattle.term_model.specs.Activity.{Entries, HoldsZeros, SparseHoldZeros, is_active, file_entries, first_entries}
use Rattle.term_model.specs.Terms.{terms_of, value_of_term}

-- where an array of each sparse reference holds 0 where it stores nothing, a term that is not active has the value 0
abbrev pub InactiveTermsAddNothing : Type 0
InactiveTermsAddNothing = (job : Checked) (entries : Entries) (state : State) (point : List ℤ) (t : Term) →
    All (λ ref. HoldsZeros job entries state ref.array) t.sparse → is_active job entries point t ≡ false → value_of_term job.arrays state point t ≡ 0

-- sparse arrays are never targets, so they keep their zeros: before each turn, and after the last one
abbrev pub ZerosStay : Type 0
ZerosStay = (job : Checked) (entries : Entries) (first : State) → IsAccepted job → SparseHoldZeros job entries first →
    (t : ℕ) → SparseHoldZeros job entries (state_before job first t)

-- the value of an expression is the sum over the terms that are active at the point
abbrev pub ActiveTermsSum : Type 0
ActiveTermsSum = (job : Checked) (entries : Entries) (state : State) (point : List ℤ) (e : Expr) → SparseHoldZeros job entries state →
    sum_by (value_of_term job.arrays state point) (filter (is_active job entries point) (terms_of job e)) % 2 ^ 64 ≡ value_in job.arrays state point e

-- so it is in each turn of an accepted job, from any first state whose sparse arrays hold 0 where they store nothing
abbrev pub ActiveTermsSumInTurns : Type 0
ActiveTermsSumInTurns = (job : Checked) (entries : Entries) (first : State) → IsAccepted job → SparseHoldZeros job entries first →
    (t : ℕ) (point : List ℤ) (e : Expr) →
    sum_by (value_of_term job.arrays (state_before job first t) point) (filter (is_active job entries point) (terms_of job e)) % 2 ^ 64
    ≡ value_in job.arrays (state_before job first t) point e

-- the entries of an array's file lie inside the array, and none with a value other than 0 lies off the listed diagonals of a diagonal format
pub record FitsFile (job : Checked) (files : List ℕ → List Entry) (array : ArrayDecl) : Type 0 where
  pub inside : All (IsInside array.rows array.cols) (file_entries files array.file)
  pub straight : Has job.formats array.format (λ f. has_astray f.shape (file_entries files array.file) ≡ false)

-- what the files of a job begin with is such a state
abbrev pub FilesBeginWithZeros : Type 0
FilesBeginWithZeros = (job : Checked) (files : List ℕ → List Entry) → All (FitsFile job files) job.arrays →
    SparseHoldZeros job (first_entries files job.arrays) (first_state files job.arrays)
