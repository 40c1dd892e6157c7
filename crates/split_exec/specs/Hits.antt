-- What a hit of a term adds to the sums, by what the views hold.
use Rattle.std.specs.Prelude.{◌≡◌, ℕ, ◌+◌, ◌*◌, ◌%◌, ◌^◌, ◌<◌, ◌==◌, ◌&&◌, true, List, Option, Some, None, ℤ, pos, ◌≤ℤ◌, ◌<ℤ◌, if◌then◌else◌, length, map, slice_get, slice_index}
use Rattle.std.specs.List.{range_with_len, sum_by}
use Rattle.bern_base.specs.Affine.{IsInBox, value_at}
use Rattle.bern_base.specs.declared.job.ArrayDecl.{ArrayDecl}
use Rattle.bern_base.specs.declared.job.Checked.{Checked}
use Rattle.bern_base.specs.declared.job.Ref.{Ref}
use Rattle.format_model.specs.Grids.{value_of_element}
use Rattle.format_model.specs.Trees.{IsLeaf}
use Rattle.job_model.specs.Accepted.{is_col}
use Rattle.job_model.specs.Points.{natural, spans_of}
use Rattle.job_model.specs.Runnable.{is_dense}
use Rattle.job_model.specs.Values.{product_of}
use Rattle.pass_model.specs.Interior.{is_interior}
use Rattle.pass_model.specs.Local.{local_at, triples_in}
use Rattle.placement.specs.Placement.{Triple, owned_of, owner_of}
use Rattle.plan_courses.specs.JobCourses.{ref_at}
use Rattle.term_model.specs.declared.term.Term.{Term}
use Rattle.term_model.specs.Answers.{Places, home_of}
use Rattle.walks.specs.declared.hit.Hit.{Hit}
use Rattle.walks.specs.Courses.{node_of}
use Rattle.split_exec.specs.Settings.{Setting, grid_in, tree_in}

-- the number, in the rank's part, of the element that a reference names at a point
abbrev pub spot_in : Places → Option ArrayDecl → ℕ → Ref → List ℤ → ℕ
spot_in places None rank ref point = 0
spot_in places (Some array) rank ref point =
    local_at (triples_in places array) array rank (natural (value_at ref.row point)) (natural (value_at ref.col point))

abbrev pub spot : Checked → Places → ℕ → List ℤ → Ref → ℕ
spot job places rank point ref = spot_in places (slice_get job.arrays ref.array) rank ref point

-- the value of a dense reference at a point, and of a sparse one at a hit
abbrev pub cell_at : Setting → ℕ → List ℤ → Ref → ℕ
cell_at s rank point ref = value_of_element (grid_in s ref.array) (spot s.job s.places rank point ref)

abbrev pub leaf_at : Setting → Term → Hit → ℕ → ℕ
leaf_at s t h r = (tree_in s (ref_at t r).array).value (node_of h r)

abbrev pub leaves_at : Setting → Term → Hit → List ℕ
leaves_at s t h = map (leaf_at s t h) (range_with_len 0 (length t.sparse))

-- the factor of a term times its dense references at a point
abbrev pub dense_value : Setting → ℕ → Term → List ℤ → ℕ
dense_value s rank t point = t.factor * product_of (map (cell_at s rank point) t.dense)

-- the value of a term at a hit, before it is reduced
abbrev pub hit_value : Setting → ℕ → Term → Hit → ℕ
hit_value s rank t h = dense_value s rank t h.point * product_of (leaves_at s t h)

-- what a hit adds to the sum of one element of the target: its value where it is an interior one with that target
abbrev pub hit_adds : Setting → ℕ → Term → ℕ → Hit → ℕ
hit_adds s rank t k h =
    if is_interior s.job s.places rank t h.point && (spot s.job s.places rank h.point s.nest.target == k) then hit_value s rank t h else 0

abbrev pub hits_add : Setting → ℕ → Term → List Hit → ℕ → ℕ
hits_add s rank t hits k = sum_by (hit_adds s rank t k) hits

-- each sum has grown by so much
pub record Grow (old new : List ℕ) (added : ℕ → ℕ) : Type 0 where
  pub count : length new ≡ length old
  pub each : (k : ℕ) → k < length old → slice_index new k % 2 ^ 64 ≡ (slice_index old k + added k) % 2 ^ 64

-- a hit that can be read: its point lies in the box and is at home at the rank, and its nodes are leaves
pub record IsSound (s : Setting) (rank : ℕ) (t : Term) (h : Hit) : Type 0 where
  pub box : IsInBox (spans_of s.nest.vars) h.point
  pub home : home_of s.job s.places s.nest h.point ≡ rank
  pub leaves : (r : ℕ) → r < length t.sparse → IsLeaf (tree_in s (ref_at t r).array) (node_of h r)

-- a reference names an element of an array that is stored whole
pub record IsNamed (job : Checked) (ref : Ref) (point : List ℤ) : Type 0 where
  pub array : ArrayDecl
  pub named : slice_get job.arrays ref.array ≡ Some array
  pub whole : is_dense job.formats array ≡ true
  pub row_low : pos 0 ≤ℤ value_at ref.row point
  pub row_high : value_at ref.row point <ℤ pos array.rows
  pub col_low : pos 0 ≤ℤ value_at ref.col point
  pub col_high : value_at ref.col point <ℤ pos array.cols

-- a rank owns all of the array that a reference names
abbrev pub OwnsWhole : Checked → Places → ℕ → Ref → Type 0
OwnsWhole job places rank ref = (array : ArrayDecl) → slice_get job.arrays ref.array ≡ Some array →
    owned_of (triples_in places array) rank ≡ length (triples_in places array)

-- what is left to add to the sums makes of them what all of it makes of the first ones
pub record Owe (now : List ℕ) (left : ℕ → ℕ) (first : List ℕ) (all : ℕ → ℕ) : Type 0 where
  pub count : length now ≡ length first
  pub each : (k : ℕ) → k < length first → (slice_index now k + left k) % 2 ^ 64 ≡ (slice_index first k + all k) % 2 ^ 64

-- the index of an element on the axis along which its array is split
abbrev pub split_index : ArrayDecl → ℕ → ℕ → ℕ
split_index array row col = if is_col array.axis then col else row

-- the rank owns this index of a split axis, and the element in this row and column has this number in its part
abbrev pub IsOwnNumber : List Triple → ArrayDecl → ℕ → ℕ → ℕ → ℕ → ℕ → Type 0
IsOwnNumber ts array rank index row col number = (owner_of ts index ≡ rank) × (number ≡ local_at ts array rank row col)
