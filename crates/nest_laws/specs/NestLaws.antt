-- What a nest of an accepted job leaves, element by element.
use Rattle.std.specs.Prelude.{◌≡◌, ◌≢◌, ℕ, ◌*◌, ◌^◌, ◌<◌, Some, length, slice_get}
use Rattle.bern_base.specs.declared.job.ArrayDecl.{ArrayDecl}
use Rattle.bern_base.specs.declared.job.Checked.{Checked}
use Rattle.bern_base.specs.declared.job.Nest.{Nest}
use Rattle.job_model.specs.Accepted.{IsAccepted, IsNestOf}
use Rattle.job_model.specs.Nests.{after_nest, state_before}
use Rattle.job_model.specs.Points.{points}
use Rattle.job_model.specs.State.{State, read, values_in}
use Rattle.pass_model.specs.Sums.{applied, body_sum, is_written}

-- a state of a job: each of its arrays has rows * cols values, each below 2^64
pub record IsStateOf (job : Checked) (state : State) : Type 0 where
  pub count : length state ≡ length job.arrays
  pub sizes : (number : ℕ) (array : ArrayDecl) → slice_get job.arrays number ≡ Some array → length (values_in state number) ≡ array.rows * array.cols
  pub small : (number element : ℕ) → read state number element < 2 ^ 64

-- a nest has left this of a state: each element of its target is what `=` or `+=` makes of the old value and of the sum of the values of
-- the body at the points that write it, each read in the state before the nest; and all other arrays are as they were
pub record LeavesSums (job : Checked) (nest : Nest) (before after : State) : Type 0 where
  pub state : IsStateOf job after
  pub target : (element : ℕ) → element < length (values_in before nest.target.array) →
      read after nest.target.array element ≡
      applied nest.replace (is_written job nest element (points nest)) (read before nest.target.array element) (body_sum job before nest element (points nest))
  pub others : (number : ℕ) → number ≢ nest.target.array → values_in after number ≡ values_in before number

abbrev pub NestsLeaveSums : Type 0
NestsLeaveSums = (job : Checked) (nest : Nest) (state : State) → IsNestOf job nest → IsStateOf job state → LeavesSums job nest state (after_nest job.arrays state nest)

-- where there is such a state before the first turn, there is one before each turn and after the last
abbrev pub StatesStay : Type 0
StatesStay = (job : Checked) (first : State) → IsAccepted job → IsStateOf job first → (t : ℕ) → IsStateOf job (state_before job first t)
