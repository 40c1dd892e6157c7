-- Which records of the boundary points of a nest's terms are right: where each value that the second pass reads stands.
use Rattle.std.specs.Prelude.{◌≡◌, ℕ, ◌<◌, true, List, Option, Some, None, ℤ, length, slice_get, slice_index, slice_index_or}
use Rattle.std.specs.List.{AllZip}
use Rattle.std.specs.List.Sorted.{IsPermutation}
use Rattle.bern_base.specs.declared.job.ArrayDecl.{ArrayDecl}
use Rattle.bern_base.specs.declared.job.Checked.{Checked}
use Rattle.bern_base.specs.declared.job.Nest.{Nest}
use Rattle.bern_base.specs.declared.job.Ref.{Ref}
use Rattle.bern_base.specs.declared.letter.NeedSet.{NeedSet}
use Rattle.format_model.specs.Laws.{reached}
use Rattle.format_model.specs.Trees.{IsLeaf, Tree}
use Rattle.job_model.specs.Elements.{element_of}
use Rattle.node_prog.specs.Conditions.{tree_of}
use Rattle.node_prog.specs.declared.record.Recorded.{Recorded}
use Rattle.node_prog.specs.declared.record.Slot.{Slot}
use Rattle.node_prog.specs.declared.record.Slot.TheVariants as slot
use Rattle.pass_model.specs.Interior.{boundary_points, is_own}
use Rattle.pass_model.specs.Local.{local_element}
use Rattle.plan_courses.specs.JobCourses.{path_at, ref_at}
use Rattle.term_model.specs.declared.plan.PlannedTerm.{PlannedTerm}
use Rattle.term_model.specs.declared.term.Term.{Term}
use Rattle.term_model.specs.Activity.{Entries}
use Rattle.term_model.specs.Answers.{Places}

-- the number, in the rank's part, of the element that a reference names at a point; of an array that is not there it is 0
abbrev pub number_in : Places → Option ArrayDecl → ℕ → ℕ → ℕ
number_in places None rank element = 0
number_in places (Some array) rank element = local_element places array rank element

abbrev pub own_number : Checked → Places → ℕ → List ℤ → Ref → ℕ
own_number job places rank point ref = number_in places (slice_get job.arrays ref.array) rank (element_of job.arrays ref point)

-- the rank owns the element that a reference names, and this is its number in the rank's part
pub record IsOwnAt (job : Checked) (places : Places) (rank : ℕ) (point : List ℤ) (ref : Ref) (element : ℕ) : Type 0 where
  pub own : is_own job places rank point ref ≡ true
  pub number : element ≡ own_number job places rank point ref

-- a place of a receive set has the element that a reference names
pub record IsCameAt (job : Checked) (sets : List NeedSet) (point : List ℤ) (ref : Ref) (set place : ℕ) : Type 0 where
  pub found : NeedSet
  pub set_is : slice_get sets set ≡ Some found
  pub array : found.array ≡ ref.array
  pub element : slice_get found.elements place ≡ Some (element_of job.arrays ref point)

-- a slot leads to the value of a reference at a point
abbrev pub LeadsTo : Checked → Places → ℕ → List NeedSet → List ℤ → Ref → Slot → Type 0
LeadsTo job places rank sets point ref (slot.Own element) = IsOwnAt job places rank point ref element
LeadsTo job places rank sets point ref (slot.Came set place) = IsCameAt job sets point ref set place

abbrev pub no_slot : Slot
no_slot = slot.Own 0

abbrev pub slot_at : Recorded → ℕ → Slot
slot_at r k = slice_index_or r.slots k no_slot

-- a sparse reference's leaf: the indices of its element lead there
pub record IsLeafAt (job : Checked) (point : List ℤ) (ref : Ref) (t : Tree) (leaf : ℕ) : Type 0 where
  pub is_leaf : IsLeaf t leaf
  pub leads : reached t 0 0 (path_at job ref point) ≡ Some leaf

-- a record of a term at a point
pub record IsRecordOf (job : Checked) (places : Places) (rank : ℕ) (nest : Nest) (sets : List NeedSet) (t : Term) (trees : List Tree) (point : List ℤ) (r : Recorded) : Type 0 where
  pub target : r.target ≡ own_number job places rank point nest.target
  pub slots : (k : ℕ) (ref : Ref) → slice_get t.dense k ≡ Some ref → LeadsTo job places rank sets point ref (slot_at r k)
  pub leaves : (k : ℕ) → k < length t.sparse → IsLeafAt job point (ref_at t k) (tree_of t trees k) (slice_index r.leaves k)

-- records of these points, each once
pub record AreRecords (job : Checked) (places : Places) (rank : ℕ) (nest : Nest) (sets : List NeedSet) (t : Term) (trees : List Tree) (points : List (List ℤ)) (records : List Recorded) : Type 0 where
  pub listed : List (List ℤ)
  pub once : IsPermutation points listed
  pub each : AllZip (IsRecordOf job places rank nest sets t trees) listed records

-- the records of a nest at a rank: for each of its planned terms those of the boundary points, where the receive sets of the nest are
-- these
abbrev pub Records : Checked → Entries → Places → ℕ → Nest → List NeedSet → List Tree → List PlannedTerm → List (List Recorded) → Type 0
Records job entries places rank nest sets trees planned records =
    AllZip (λ p rs. AreRecords job places rank nest sets p.term trees (boundary_points job entries places nest p.term rank) rs) planned records
