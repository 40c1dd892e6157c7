-- What a record of a boundary point of a term adds to the sums, by what the views and the inbox hold.
use Rattle.std.specs.Prelude.{ℕ, ◌*◌, ◌<◌, ◌≤◌, ◌==◌, List, [], Option, Some, None, if◌then◌else◌, length, map, slice_get, slice_index, slice_index_or}
use Rattle.std.specs.List.{range_with_len, sum_by}
use Rattle.bern_base.specs.declared.job.Ref.{Ref}
use Rattle.format_model.specs.Grids.{Grid, HasElement, value_of_element}
use Rattle.format_model.specs.Trees.{IsLeaf, Tree}
use Rattle.job_model.specs.Values.{product_of}
use Rattle.node_prog.specs.Conditions.{tree_of}
use Rattle.node_prog.specs.declared.record.Recorded.{Recorded}
use Rattle.node_prog.specs.declared.record.Slot.{Slot}
use Rattle.node_prog.specs.declared.record.Slot.TheVariants as slot
use Rattle.plan_courses.specs.JobCourses.{no_ref}
use Rattle.record_model.specs.Records.{slot_at}
use Rattle.split_exec.specs.declared.inbox.InSet.{InSet}
use Rattle.term_model.specs.declared.term.Term.{Term}

-- where values are read: the trees and the elements of the arrays' views, and the receive sets that came
pub record Source : Type 0 where
  pub trees : List Tree
  pub grids : List (Option Grid)
  pub inbox : List InSet

abbrev pub source : {V : Type 0} → (V → Tree) → (V → Option Grid) → List V → List InSet → Source
source tree grid stores inbox = record { trees = map tree stores; grids = map grid stores; inbox = inbox }

-- the values that came with a receive set, and none where there is no such set
abbrev pub values_of : Option InSet → List ℕ
values_of None = []
values_of (Some came) = came.values

-- a slot of a reference to an array leads to a value, and which
abbrev pub HasValue : Source → ℕ → Slot → Type 0
HasValue f array (slot.Own element) = HasElement (slice_index_or f.grids array None) element
HasValue f array (slot.Came set place) = place < length (values_of (slice_get f.inbox set))

abbrev pub slot_value : Source → ℕ → Slot → ℕ
slot_value f array (slot.Own element) = value_of_element (slice_index_or f.grids array None) element
slot_value f array (slot.Came set place) = slice_index (values_of (slice_get f.inbox set)) place

-- the dense reference with this number
abbrev pub dense_at : Term → ℕ → Ref
dense_at t k = slice_index_or t.dense k no_ref

-- the values of a term's references by a record
abbrev pub dense_of : Source → Term → Recorded → ℕ → ℕ
dense_of f t r k = slot_value f (dense_at t k).array (slot_at r k)

abbrev pub leaf_of : Source → Term → Recorded → ℕ → ℕ
leaf_of f t r k = (tree_of t f.trees k).value (slice_index r.leaves k)

abbrev pub leaves_of : Source → Term → Recorded → List ℕ
leaves_of f t r = map (leaf_of f t r) (range_with_len 0 (length t.sparse))

-- the factor of a term times its dense references by a record
abbrev pub slots_value : Source → Term → Recorded → ℕ
slots_value f t r = t.factor * product_of (map (dense_of f t r) (range_with_len 0 (length t.dense)))

-- the value of the term, before it is reduced
abbrev pub record_value : Source → Term → Recorded → ℕ
record_value f t r = slots_value f t r * product_of (leaves_of f t r)

-- what a record adds to the sum of one element of the target, and what all of them do
abbrev pub record_adds : Source → Term → ℕ → Recorded → ℕ
record_adds f t k r = if r.target == k then record_value f t r else 0

abbrev pub records_add : Source → Term → List Recorded → ℕ → ℕ
records_add f t records k = sum_by (record_adds f t k) records

-- all that a record leads to is there
pub record CanRead (f : Source) (t : Term) (r : Recorded) : Type 0 where
  pub few_dense : length t.dense ≤ 4
  pub few_sparse : length t.sparse ≤ 4
  pub slots : (k : ℕ) → k < length t.dense → HasValue f (dense_at t k).array (slot_at r k)
  pub leaves : (k : ℕ) → k < length t.sparse → IsLeaf (tree_of t f.trees k) (slice_index r.leaves k)
