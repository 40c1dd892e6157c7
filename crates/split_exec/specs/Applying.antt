-- What `apply` needs, and what it leaves in a target.
use Rattle.std.specs.Prelude.{◌≡◌, ℕ, ◌*◌, ◌<◌, ◌≤◌, true, List, Option, Some, None, length, map, slice_get, slice_index}
use Rattle.std.specs.List.{Contains}
use Rattle.bern_base.specs.declared.job.ArrayDecl.{ArrayDecl}
use Rattle.bern_base.specs.declared.job.Checked.{Checked}
use Rattle.bern_base.specs.declared.job.Nest.{Nest}
use Rattle.bern_base.specs.Ring.{ring_add}
use Rattle.format_model.specs.Grids.{Grid, HasElement, value_of_element}
use Rattle.job_model.specs.Accepted.{IsNestOf}
use Rattle.job_model.specs.Points.{box_of}
use Rattle.pass_model.specs.Local.{IsOwn, local_element, own_size}
use Rattle.pass_model.specs.Sums.{applied, home_points, is_written}
use Rattle.placement.specs.Placement.{Triple}
use Rattle.term_model.specs.Answers.{Places}
use Rattle.split_exec.specs.Settings.{IsAtRank}

-- the elements of a view are so many
abbrev pub HasSize : Option Grid → ℕ → Type 0
HasSize None count = ⊥
HasSize (Some g) count = length g.values ≡ count

-- the part with other values
abbrev pub with_values : Option Grid → List ℕ → Option Grid
with_values None values = None
with_values (Some g) values = Some (record g { values = values })

-- the first so many elements have grown by their sums, and all else of the part stays
pub record IsAdded (count : ℕ) (sums : List ℕ) (old new : Option Grid) : Type 0 where
  pub values : List ℕ
  pub alike : new ≡ with_values old values
  pub done : (k : ℕ) → k < count → HasElement old k → value_of_element new k ≡ ring_add (value_of_element old k) (slice_index sums k)
  pub rest : (k : ℕ) → count ≤ k → value_of_element new k ≡ value_of_element old k

-- one sum for each element of the target that the rank owns, and as many elements in the target's part
pub record CanApply (job : Checked) (places : Places) (ranks : List ℕ) (nest : Nest) (rank sums : ℕ) (target : Option Grid) : Type 0 where
  pub at : IsAtRank job places ranks rank
  pub nest_is : Contains job.nests nest
  pub count : (array : ArrayDecl) → slice_get job.arrays nest.target.array ≡ Some array → sums ≡ own_size places array rank
  pub elements : (array : ArrayDecl) → slice_get job.arrays nest.target.array ≡ Some array → HasSize target (own_size places array rank)

-- the same, by the places as the calls have them
abbrev pub CanApplyAt : {P : Type 0} → (P → List Triple) → (P → ℕ) → Checked → List P → Nest → ℕ → List ℕ → Option Grid → Type 0
CanApplyAt triples ranks job places nest rank sums target = CanApply job (map triples places) (map ranks places) nest rank (length sums) target

-- each element of the target that the rank owns has become what its old value and its sum make of it; all else of the part stays
pub record IsApplied (job : Checked) (places : Places) (nest : Nest) (rank : ℕ) (sums : List ℕ) (old new : Option Grid) : Type 0 where
  pub values : List ℕ
  pub alike : new ≡ with_values old values
  pub elements : (array : ArrayDecl) → slice_get job.arrays nest.target.array ≡ Some array → (n : ℕ) → IsOwn places array rank n →
      value_of_element new (local_element places array rank n)
      ≡ applied nest.replace (is_written job nest n (home_points job places nest rank))
      (value_of_element old (local_element places array rank n)) (slice_index sums (local_element places array rank n))

-- the box of a nest that replaces has at most as many points as the array of its target has elements
abbrev pub BoxesOfReplacingNestsAreSmall : Type 0
BoxesOfReplacingNestsAreSmall = (job : Checked) (nest : Nest) (array : ArrayDecl) → IsNestOf job nest → nest.replace ≡ true →
    slice_get job.arrays nest.target.array ≡ Some array → length (box_of nest) ≤ array.rows * array.cols
