-- What the view of a rank's part has to be to the loops of a job.
use Rattle.std.specs.Prelude.{◌≡◌, ℕ, ◌+◌, ◌*◌, ◌^◌, ◌<◌, true, List, [], Some, length, map, slice_get, slice_index_or}
use Rattle.std.specs.List.{All}
use Rattle.std.specs.List.Sorted.{IsPermutation}
use Rattle.bern_base.specs.Matrix.{element}
use Rattle.bern_base.specs.declared.job.ArrayDecl.{ArrayDecl}
use Rattle.bern_base.specs.declared.job.Checked.{Checked}
use Rattle.bern_base.specs.declared.job.FormatDecl.{FormatDecl}
use Rattle.bern_base.specs.declared.job.Nest.{Nest}
use Rattle.bern_base.specs.declared.matrix.Matrix.{Matrix}
use Rattle.format_model.specs.Elements.{path_of}
use Rattle.format_model.specs.Laws.{searched}
use Rattle.format_model.specs.Stored.{is_stored}
use Rattle.format_model.specs.Trees.{Describes, IsTree, Tree}
use Rattle.formats.specs.Admitted.{IsAdmitted}
use Rattle.local_views.specs.Views.{IsReached, cut_of, view_tree}
use Rattle.placement.specs.Part.{extent_on, part_of}
use Rattle.placement.specs.Placement.{IsPlacement, Triple}
use Rattle.plan_courses.specs.AnswerLaws.{job_course}
use Rattle.plan_courses.specs.JobCourses.{IsPlanOf, IsView, ref_at}
use Rattle.plan_courses.specs.PlanCourses.{origin}
use Rattle.term_model.specs.declared.plan.Plan.{Plan}
use Rattle.term_model.specs.declared.term.Term.{Term}
use Rattle.term_model.specs.Activity.{Entries, entries_of}
use Rattle.term_model.specs.Answers.{Places, answer, owner_in}
use Rattle.walks.specs.Courses.{walk}

-- the triples of the place line that deals an array
abbrev pub triples_of : Places → ArrayDecl → List Triple
triples_of places array = slice_index_or places array.place []

-- a tree holds the part of an array at a rank: the whole matrix of the array keeps the rules of a job, its entries are those of the
-- array, its place deals the axis along which it is split, and the tree describes the rank's part of it in the array's format
pub record HoldsPart (job : Checked) (entries : Entries) (places : Places) (ranks rank number : ℕ) (t : Tree) : Type 0 where
  pub array : ArrayDecl
  pub format : FormatDecl
  pub order : List ℕ
  pub matrix : Matrix
  pub array_is : slice_get job.arrays number ≡ Some array
  pub format_is : slice_get job.formats array.format ≡ Some format
  pub admitted : IsAdmitted array format ranks order matrix
  pub entries_are : entries_of entries number ≡ matrix.entries
  pub placed : IsPlacement ranks (triples_of places array)
  pub extent : extent_on array.axis array.rows array.cols ≡ length (triples_of places array)
  pub described : Describes t format.shape (part_of array.axis (triples_of places array) rank matrix).globals order
      (part_of array.axis (triples_of places array) rank matrix).matrix

-- the tree of a rank's part in the indices of the array
abbrev pub view_at : Places → ArrayDecl → ℕ → Tree → Tree
view_at places array rank t = view_tree (cut_of array.axis array.cols (triples_of places array) rank) t

-- the view of an array's part at a rank: the tree of the part, each line of which hangs below the root, in the indices of the array
pub record IsViewOfPart (job : Checked) (entries : Entries) (places : Places) (ranks rank number : ℕ) (view : Tree) : Type 0 where
  pub part : Tree
  pub lawful : IsTree part
  pub reached : IsReached part
  pub holds : HoldsPart job entries places ranks rank number part
  pub is : view ≡ view_at places holds.array rank part

-- a view of a part is what the loops of a job ask for
abbrev pub ViewsOfPartsAreViews : Type 0
ViewsOfPartsAreViews =
    (job : Checked) (entries : Entries) (places : Places) (ranks rank number : ℕ) (view : Tree) →
    IsViewOfPart job entries places ranks rank number view → IsView job entries places rank number view

-- and where the array stores an element that the rank owns, the leaf to which searches lead has the element's value, where values fit
-- 64 bits
abbrev pub ViewsHaveTheValues : Type 0
ViewsHaveTheValues =
    (job : Checked) (entries : Entries) (places : Places) (ranks rank number : ℕ) (view : Tree) →
    (v : IsViewOfPart job entries places ranks rank number view) → All (λ e. e.value < 2 ^ 64) (entries_of entries number) →
    (row col : ℕ) → row < v.holds.array.rows → col < v.holds.array.cols →
    owner_in places (Some v.holds.array) (row * v.holds.array.cols + col) ≡ rank →
    is_stored v.holds.format.shape (entries_of entries number) row col ≡ true →
    searched view (path_of v.holds.format.shape v.holds.array.cols row col) ≡
    Some (element v.holds.array.cols (entries_of entries number) (row * v.holds.array.cols + col))

-- one for each sparse reference of a term
abbrev pub AreViewsOfParts : Checked → Entries → Places → ℕ → ℕ → Term → (ℕ → Tree) → Type 0
AreViewsOfParts job entries places ranks rank t tree =
    (r : ℕ) → r < length t.sparse → IsViewOfPart job entries places ranks rank (ref_at t r).array (tree r)

-- over such views the walk of every plan gives the points of the nest with this home at which the term is active, in some order
abbrev pub PlansOverViewsWalkTheAnswer : Type 0
PlansOverViewsWalkTheAnswer =
    (job : Checked) (entries : Entries) (places : Places) (nest : Nest) (t : Term) (ranks rank : ℕ) (tree : ℕ → Tree) (plan : Plan) →
    IsPlanOf job nest t plan → AreViewsOfParts job entries places ranks rank t tree →
    IsPermutation (answer job entries places nest t rank) (map (λ h. h.point) (walk (job_course job places nest t rank tree plan) origin))
