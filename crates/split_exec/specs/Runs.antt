-- The hits of a run, which is a line of the last step of a plan, and what stays along it.
use Rattle.std.specs.Prelude.{◌≡◌, ℕ, ◌+◌, ◌-◌, ◌*◌, ◌%◌, ◌^◌, ◌<◌, ◌≤◌, ◌==◌, ◌&&◌, Bool, true, false, not, List, ◌∷◌, Option, Some, ℤ, if◌then◌else◌, drop, length, map, nat_lt, slice_get, slice_index, slice_index_or, slice_set}
use Rattle.std.specs.List.{All, filter_map, range_with_len}
use Rattle.bern_base.specs.Affine.{IsPoint, IsWithin}
use Rattle.bern_base.specs.declared.job.ArrayDecl.{ArrayDecl}
use Rattle.bern_base.specs.declared.job.Ref.{Ref}
use Rattle.job_model.specs.Values.{product_of}
use Rattle.node_prog.specs.declared.run_line.RunLine.{RunLine}
use Rattle.node_prog.specs.Visiting.{way_at}
use Rattle.pass_model.specs.Interior.{is_own}
use Rattle.pass_model.specs.Local.{own_size}
use Rattle.plan_courses.specs.JobCourses.{no_ref}
use Rattle.term_model.specs.declared.plan.PlannedTerm.{PlannedTerm}
use Rattle.term_model.specs.declared.term.Term.{Term}
use Rattle.term_model.specs.Plans.{has_factor}
use Rattle.visits.specs.declared.open_loop.OpenLoop.{OpenLoop}
use Rattle.visits.specs.Lines.{CanDrive, IsDriving}
use Rattle.visits.specs.Ways.{seen}
use Rattle.walks.specs.declared.hit.Hit.{Hit}
use Rattle.walks.specs.Courses.{Course, below, bind, driven, step_to}
use Rattle.split_exec.specs.declared.piece.Piece.{Piece}
use Rattle.split_exec.specs.declared.still.Still.{Still}
use Rattle.split_exec.specs.Hits.{IsSound, cell_at, hit_adds, hits_add, leaf_at, spot}
use Rattle.split_exec.specs.Settings.{Setting, scene_of}

-- ---- a run

-- the course of a planned term at a rank over the views
abbrev pub course_at : Setting → PlannedTerm → ℕ → Course
course_at s p rank = seen (way_at (scene_of s p) rank) s.trees

-- the children of the line
abbrev pub children_of : Setting → PlannedTerm → ℕ → RunLine → OpenLoop → List (ℕ × ℕ)
children_of s p rank line run = below (course_at s p rank) line.reference line.level run.hit

-- what a child of the line binds
abbrev pub bound_of : Setting → PlannedTerm → ℕ → RunLine → OpenLoop → ℕ × ℕ → Option Hit
bound_of s p rank line run child = driven (course_at s p rank) line.reference line.level line.var run.hit child

-- the hits of the children from a place of the line on
abbrev pub hits_from : Setting → PlannedTerm → ℕ → RunLine → OpenLoop → ℕ → List Hit
hits_from s p rank line run place = filter_map (bound_of s p rank line run) (drop (place - run.from) (children_of s p rank line run))

-- a run of a visit of the term, whose hits can be read
pub record IsRunOf (s : Setting) (p : PlannedTerm) (rank : ℕ) (line : RunLine) (run : OpenLoop) : Type 0 where
  pub reference : line.reference < length p.term.sparse
  pub can : CanDrive (course_at s p rank) line.reference line.level line.var run.hit
  pub driving : IsDriving (course_at s p rank) line.reference line.level line.var run
  pub near : IsPoint run.hit.point
  pub low : IsWithin 4194303 run.low
  pub high : IsWithin 4194303 run.high
  pub long : length run.hit.point ≡ 4
  pub wide : length run.hit.leaves ≡ 4
  pub sound : All (IsSound s rank p.term) (hits_from s p rank line run run.place)

-- the point of the line with this value of its variable, and the hit of this node there
abbrev pub point_at : RunLine → OpenLoop → ℤ → List ℤ
point_at line run x = slice_set run.hit.point line.var x

abbrev pub hit_at : RunLine → OpenLoop → ℕ → ℤ → Hit
hit_at line run node x = bind (step_to run.hit line.reference node) line.var x

-- ---- what stays

-- a reference names the same element for all values of a variable
abbrev pub stays : ℕ → Ref → Bool
stays v ref = not (has_factor ref.row v) && not (has_factor ref.col v)

-- all of these references stay but the one with this number
abbrev pub OthersStay : List Ref → ℕ → ℕ → Type 0
OthersStay refs moving v = (k : ℕ) (ref : Ref) → slice_get refs k ≡ Some ref → (k ≡ moving → ⊥) → stays v ref ≡ true

-- the product of so many values but the one with this number
abbrev pub but : ℕ → (ℕ → ℕ) → ℕ → ℕ
but n f k = if k == n then 1 else f k

abbrev pub product_but : ℕ → (ℕ → ℕ) → ℕ → ℕ
product_but n f count = product_of (map (but n f) (range_with_len 0 count))

-- the value with this number, where there are so many
abbrev pub at_or_one : ℕ → (ℕ → ℕ) → ℕ → ℕ
at_or_one n f count = if nat_lt n count then f n else 1

-- the value of a dense reference by its number
abbrev pub cell_by : Setting → ℕ → Term → List ℤ → ℕ → ℕ
cell_by s rank t point k = cell_at s rank point (slice_index_or t.dense k no_ref)

-- the rank owns all dense elements at a point but the one with this number
abbrev pub OwnsOthers : Setting → ℕ → Term → ℕ → List ℤ → Type 0
OwnsOthers s rank t moving point =
    (k : ℕ) (ref : Ref) → slice_get t.dense k ≡ Some ref → (k ≡ moving → ⊥) → is_own s.job s.places rank point ref ≡ true

-- it owns the one with this number
abbrev pub OwnsAt : Setting → ℕ → Term → ℕ → List ℤ → Type 0
OwnsAt s rank t moving point = (ref : Ref) → slice_get t.dense moving ≡ Some ref → is_own s.job s.places rank point ref ≡ true

-- some other rank owns one of the others
abbrev pub LacksOne : Setting → ℕ → Term → ℕ → List ℤ → Type 0
LacksOne s rank t moving point = (k : ℕ) × (ref : Ref) × (slice_get t.dense k ≡ Some ref) × (k ≡ moving → ⊥) × (is_own s.job s.places rank point ref ≡ false)

-- what was taken out of the loop over a line: at each point of it the rank owns the dense elements that stay; the value is the product
-- of the factor and of all that stays; and the target is the one at the start, where it stays
pub record IsStill (s : Setting) (rank : ℕ) (t : Term) (line : RunLine) (run : OpenLoop) (still : Still) : Type 0 where
  pub owns : (x : ℤ) → OwnsOthers s rank t still.moving (point_at line run x)
  pub value : (x : ℤ) (node : ℕ) →
      still.value % 2 ^ 64
      ≡ t.factor * product_but still.moving (cell_by s rank t (point_at line run x)) (length t.dense)
      * product_but line.reference (leaf_at s t (hit_at line run node x)) (length t.sparse) % 2 ^ 64
  pub target : still.goes ≡ false → (x : ℤ) → still.start ≡ spot s.job s.places rank (point_at line run x) s.nest.target

-- ---- pieces

-- what a piece adds to the sum of an element
abbrev pub held_at : Piece → ℕ → ℕ
held_at piece k = if piece.element == k then piece.value else 0

-- the number is that of a sum
abbrev pub IsSum : Setting → ℕ → ℕ → Type 0
IsSum s rank element = (array : ArrayDecl) → slice_get s.job.arrays s.nest.target.array ≡ Some array → element < own_size s.places array rank

-- a piece is all that a hit adds
pub record IsPieceOf (s : Setting) (rank : ℕ) (t : Term) (h : Hit) (piece : Piece) : Type 0 where
  pub sum : IsSum s rank piece.element
  pub adds : (k : ℕ) → hit_adds s rank t k h % 2 ^ 64 ≡ held_at piece k % 2 ^ 64

-- it is all that the child at a place of the line adds
pub record IsPieceAt (s : Setting) (p : PlannedTerm) (rank : ℕ) (line : RunLine) (run : OpenLoop) (place : ℕ) (piece : Piece) : Type 0 where
  pub sum : IsSum s rank piece.element
  pub adds : (k : ℕ) →
      hits_add s rank p.term (hits_from s p rank line run place) k % 2 ^ 64
      ≡ (held_at piece k + hits_add s rank p.term (hits_from s p rank line run (place + 1)) k) % 2 ^ 64

-- with the pieces that are held, the sums have grown by so much
pub record GrowWith (old : List ℕ) (before : Piece) (new : List ℕ) (after : Piece) (added : ℕ → ℕ) : Type 0 where
  pub count : length new ≡ length old
  pub sum : after.element < length old
  pub each : (k : ℕ) → k < length old →
      (slice_index new k + held_at after k) % 2 ^ 64 ≡ (slice_index old k + held_at before k + added k) % 2 ^ 64

-- with the piece that is held, and what is left to add, the sums make what all of it makes of the first ones
pub record GrowLeft (first : List ℕ) (start : Piece) (now : List ℕ) (held : Piece) (left all : ℕ → ℕ) : Type 0 where
  pub count : length now ≡ length first
  pub sum : held.element < length first
  pub each : (k : ℕ) → k < length first →
      (slice_index now k + held_at held k + left k) % 2 ^ 64 ≡ (slice_index first k + held_at start k + all k) % 2 ^ 64

-- the first hit of a line stands at this place
pub record IsFirst (s : Setting) (p : PlannedTerm) (rank : ℕ) (line : RunLine) (run : OpenLoop) (place node : ℕ) (x : ℤ) : Type 0 where
  pub order : run.place ≤ place
  pub within : place < run.end
  pub near : IsWithin 4194303 x
  pub same : hits_from s p rank line run run.place ≡ hits_from s p rank line run place
  pub here : hits_from s p rank line run place ≡ hit_at line run node x ∷ hits_from s p rank line run (place + 1)
