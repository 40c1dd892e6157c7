-- What is printed from stores and after a replay.
use Rattle.std.specs.Prelude.{ℕ, Bool, true, false, List}
use Rattle.std.specs.List.{All}
use Rattle.bern_base.specs.Matrix.{values_of}
use Rattle.bern_base.specs.declared.job.Checked.{Checked}
use Rattle.bern_base.specs.declared.matrix.Matrix.{Matrix}
use Rattle.formats.specs.declared.any_store.AnyStore.{AnyStore}
use Rattle.job_model.specs.Accepted.{IsDenseAt}
use Rattle.job_model.specs.State.{State}
use Rattle.term_model.specs.Activity.{Entries}
use Rattle.whole_laws.specs.HeldArrays.{HoldsState}

-- print lines are of arrays that are kept whole, and stores hold some state
pub record CanPrint (job : Checked) (stores : List AnyStore) : Type 0 where
  pub prints : All (IsDenseAt job) job.prints
  pub entries : Entries
  pub state : State
  pub held : HoldsState job entries state stores

-- the values of an array after a replay: those of the product's target, or of the array's matrix
abbrev pub replayed_values : Bool → List ℕ → Matrix → List ℕ
replayed_values true values m = values
replayed_values false values m = values_of m
