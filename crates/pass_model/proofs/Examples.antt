-- A worked nest on two ranks, computed from the definitions: Y[i] += A[i,j] * X[j] over three indices in blocks of 2 and 1.
use Rattle.std.proofs.Common.{◌≡◌, ℕ, true, false, List, [], ◌∷◌, None, Some, map, ℤ, pos, codes, refl}
use Rattle.bern_base.specs.Affine.{AffineForm}
use Rattle.bern_base.specs.declared.axes.Axis.TheVariants as axis
use Rattle.bern_base.specs.declared.job.ArrayDecl.{ArrayDecl}
use Rattle.bern_base.specs.declared.job.Checked.{Checked}
use Rattle.bern_base.specs.declared.job.Expr.{roll-Expr}
use Rattle.bern_base.specs.declared.job.Nest.{Nest}
use Rattle.bern_base.specs.declared.job.Ref.{Ref}
use Rattle.bern_base.specs.declared.job.Span.{Span}
use Rattle.bern_base.specs.declared.matrix.Entry.{Entry}
use Rattle.bern_base.specs.declared.shape.Shape.TheVariants as shape
use Rattle.job_model.specs.State.{State}
use Rattle.placement.specs.Placement.{Triple, owner_of}
use Rattle.term_model.specs.declared.term.Term.{Term}
use Rattle.pass_model.specs.Interior.{boundary_points, interior_points}
use Rattle.pass_model.specs.Needs.{elements_of, need_of, reads}
use Rattle.pass_model.specs.Sums.{applied, home_points, is_written, term_sum}

form : ℤ → ℤ → AffineForm
form a b = record { c0 = pos 0; coef = a ∷ b ∷ pos 0 ∷ pos 0 ∷ [] }

array : ℕ → ℕ → ArrayDecl
array cols format = record { name = codes "A"; dims = 2; rows = 3; cols = cols; format = format; axis = axis.Row; place = 0; file = None }

job : Checked
job = record {
  extents = [];
  places = [];
  formats = record { name = codes "csr"; shape = shape.DensePacked axis.Row } ∷ record { name = codes "all"; shape = shape.DenseOne } ∷ [];
  arrays = array 3 0 ∷ array 1 1 ∷ array 1 1 ∷ [];
  nests = [];
  turns = [];
  prints = [];
}

-- A has entries at (0,0), (0,2), (1,1) and (2,1)
entry : ℕ → ℕ → ℕ → Entry
entry row col value = record { row = row; col = col; value = value }

entries : List (List Entry)
entries = (entry 0 0 2 ∷ entry 0 2 3 ∷ entry 1 1 4 ∷ entry 2 1 5 ∷ []) ∷ [] ∷ [] ∷ []

state : State
state = (2 ∷ 0 ∷ 3 ∷ 0 ∷ 4 ∷ 0 ∷ 0 ∷ 5 ∷ 0 ∷ []) ∷ (10 ∷ 20 ∷ 30 ∷ []) ∷ (1 ∷ 1 ∷ 1 ∷ []) ∷ []

-- rank 0 owns the indices 0 and 1, and rank 1 owns 2
places : List (List Triple)
places = (record { index = 0; rank = 0; local = 0 } ∷ record { index = 1; rank = 0; local = 1 } ∷ record { index = 2; rank = 1; local = 0 } ∷ []) ∷ []

ref : ℕ → AffineForm → AffineForm → Ref
ref number row col = record { array = number; row = row; col = col }

a_ij : Ref
a_ij = ref 0 (form (pos 1) (pos 0)) (form (pos 0) (pos 1))

x_j : Ref
x_j = ref 1 (form (pos 0) (pos 1)) (form (pos 0) (pos 0))

y_i : Ref
y_i = ref 2 (form (pos 1) (pos 0)) (form (pos 0) (pos 0))

term : Term
term = record { factor = 1; dense = x_j ∷ []; sparse = a_ij ∷ [] }

span : Span
span = record { name = codes "i"; lo = pos 0; hi = pos 3 }

nest : Nest
nest = record { line = 1; vars = span ∷ span ∷ []; guards = []; target = y_i; replace = false; body = roll-Expr (record { sums = [] }) }

at : ℕ → ℕ → List ℤ
at i j = pos i ∷ pos j ∷ pos 0 ∷ pos 0 ∷ []

-- rank 0 reads X[2] at (0,2), which is rank 1's; rank 1 reads X[1] at (2,1), which is rank 0's
interior : map (interior_points job entries places nest term) (0 ∷ 1 ∷ []) ≡ (at 0 0 ∷ at 1 1 ∷ []) ∷ [] ∷ []
unfolding job entries array entry places nest span term a_ij x_j y_i ref form at owner_of
interior = refl

boundary : map (boundary_points job entries places nest term) (0 ∷ 1 ∷ []) ≡ (at 0 2 ∷ []) ∷ (at 2 1 ∷ []) ∷ []
unfolding job entries array entry places nest span term a_ij x_j y_i ref form at owner_of
boundary = refl

-- X[2] is read at (0,2); Y has no element that the term reads
reads_x : map (reads job 1 2 term) (at 0 0 ∷ at 0 2 ∷ []) ≡ false ∷ true ∷ []
unfolding job array term a_ij x_j ref form at
reads_x = refl

reads_no_y : reads job 2 0 term (at 0 0) ≡ false
unfolding job array term a_ij x_j ref form at
reads_no_y = refl

-- what each rank owns of X, and a set of needs of it; an empty set is none
owned : map (elements_of places (Some (array 1 1))) (0 ∷ 1 ∷ 2 ∷ []) ≡ (0 ∷ 1 ∷ []) ∷ (2 ∷ []) ∷ [] ∷ []
unfolding array places owner_of
owned = refl

some_need : need_of 4 1 7 (2 ∷ []) ≡ record { nest = 4; owner = 1; array = 7; elements = 2 ∷ [] } ∷ []
some_need = refl

no_need : need_of 4 1 7 [] ≡ []
no_need = refl

-- what the term adds to Y[0] at the interior points of rank 0 and at its boundary points: 2 * 10 and 3 * 30
interior_adds : term_sum job state nest 0 term (interior_points job entries places nest term 0) ≡ 20
unfolding job entries array entry state places nest span term a_ij x_j y_i ref form owner_of
interior_adds = refl

boundary_adds : term_sum job state nest 0 term (boundary_points job entries places nest term 0) ≡ 90
unfolding job entries array entry state places nest span term a_ij x_j y_i ref form owner_of
boundary_adds = refl

-- rank 1 has the points of row 2, whether or not A stores something there, and they write Y[2] alone
at_home : home_points job places nest 1 ≡ at 2 0 ∷ at 2 1 ∷ at 2 2 ∷ []
unfolding job array places nest span y_i ref form at owner_of
at_home = refl

written : map (λ element. is_written job nest element (home_points job places nest 1)) (1 ∷ 2 ∷ []) ≡ false ∷ true ∷ []
unfolding job array places nest span y_i ref form owner_of
written = refl

-- `+=` adds the sum; `=` takes it where a point writes the element, be it 0, and leaves the old value elsewhere
adds : applied false false 5 7 ≡ 12
adds = refl

takes : applied true true 5 0 ≡ 0
takes = refl

leaves : applied true false 5 7 ≡ 5
leaves = refl
