-- A worked nest on two ranks, computed from the definitions: Y[i] += A[i,j] * X[j] over three indices in blocks of 2 and 1. Rank 0 reads
-- X[2] of rank 1 at (0,2), and rank 1 reads X[1] of rank 0 at (2,1).
use Rattle.std.proofs.Common.{◌≡◌, ◌∙◌, ℕ, zero, suc, ◌<◌, true, false, List, [], ◌∷◌, None, Some, ℤ, pos, codes, refl, sym, ap, subst, arith}
use Rattle.std.specs.Prelude.{slice_get, slice_index}
use Rattle.bern_base.specs.Affine.{AffineForm}
use Rattle.bern_base.specs.declared.axes.Axis.TheVariants as axis
use Rattle.bern_base.specs.declared.job.ArrayDecl.{ArrayDecl}
use Rattle.bern_base.specs.declared.job.Checked.{Checked}
use Rattle.bern_base.specs.declared.job.Expr.{roll-Expr}
use Rattle.bern_base.specs.declared.job.Nest.{Nest}
use Rattle.bern_base.specs.declared.job.Ref.{Ref}
use Rattle.bern_base.specs.declared.job.Span.{Span}
use Rattle.bern_base.specs.declared.letter.NeedSet.{NeedSet}
use Rattle.bern_base.specs.declared.shape.Shape.TheVariants as shape
use Rattle.format_model.specs.Levels.{levels_of}
use Rattle.format_model.specs.Trees.{Tree}
use Rattle.node_prog.specs.declared.record.Recorded.{Recorded}
use Rattle.node_prog.specs.declared.record.Slot.TheVariants as slot
use Rattle.placement.specs.Placement.{Triple, local_of, owned_of, owner_of}
use Rattle.term_model.specs.declared.term.Term.{Term}
use Rattle.node_prog.specs.Conditions.{tree_of}
use Rattle.plan_courses.specs.JobCourses.{ref_at}
use Rattle.record_model.specs.Records.{IsCameAt, IsLeafAt, IsOwnAt, IsRecordOf, LeadsTo, own_number, slot_at}

form : ℤ → ℤ → AffineForm
form a b = record { c0 = pos 0; coef = a ∷ b ∷ pos 0 ∷ pos 0 ∷ [] }

array : ℕ → ℕ → ArrayDecl
array cols format = record { name = codes "A"; dims = 2; rows = 3; cols = cols; format = format; axis = axis.Row; place = 0; file = None }

job : Checked
job = record {
  extents = [];
  places = [];
  formats = record { name = codes "csr"; shape = shape.DensePacked axis.Row } ∷ record { name = codes "all"; shape = shape.DenseOne } ∷ [];
  arrays = array 3 0 ∷ array 1 1 ∷ array 1 1 ∷ [];
  nests = [];
  turns = [];
  prints = [];
}

-- rank 0 owns the indices 0 and 1, and rank 1 owns 2
places : List (List Triple)
places = (record { index = 0; rank = 0; local = 0 } ∷ record { index = 1; rank = 0; local = 1 } ∷ record { index = 2; rank = 1; local = 0 } ∷ []) ∷ []

ref : ℕ → AffineForm → AffineForm → Ref
ref number row col = record { array = number; row = row; col = col }

a_ij : Ref
a_ij = ref 0 (form (pos 1) (pos 0)) (form (pos 0) (pos 1))

x_j : Ref
x_j = ref 1 (form (pos 0) (pos 1)) (form (pos 0) (pos 0))

y_i : Ref
y_i = ref 2 (form (pos 1) (pos 0)) (form (pos 0) (pos 0))

term : Term
term = record { factor = 1; dense = x_j ∷ []; sparse = a_ij ∷ [] }

span : Span
span = record { name = codes "i"; lo = pos 0; hi = pos 3 }

nest : Nest
nest = record { line = 1; vars = span ∷ span ∷ []; guards = []; target = y_i; replace = false; body = roll-Expr (record { sums = [] }) }

at : ℕ → ℕ → List ℤ
at i j = pos i ∷ pos j ∷ pos 0 ∷ pos 0 ∷ []

-- the part of A at rank 1: row 2, with one entry at (2,1)
a_children : ℕ → ℕ → List (ℕ × ℕ)
a_children zero parent = (2, 0) ∷ []
a_children (suc level) parent = (1, 0) ∷ []

a_tree : Tree
a_tree = record { levels = levels_of (shape.DensePacked axis.Row); nodes = λ level. 1; start = λ level parent. 0; children = a_children; value = λ leaf. 5 }

-- what rank 1 receives from rank 0: X[1], after another set
other_set : NeedSet
other_set = record { nest = 0; owner = 0; array = 2; elements = 1 ∷ [] }

x_set : NeedSet
x_set = record { nest = 0; owner = 0; array = 1; elements = 0 ∷ 1 ∷ [] }

sets : List NeedSet
sets = other_set ∷ x_set ∷ []

-- the record of (2,1) at rank 1: Y[2] is element 0 of its part, X[1] has place 1 of set 1, and the entry is leaf 0
recorded : Recorded
recorded = record { target = 0; slots = slot.Came 1 1 ∷ slot.Own 0 ∷ slot.Own 0 ∷ slot.Own 0 ∷ []; leaves = 0 ∷ 0 ∷ 0 ∷ 0 ∷ [] }

x_came : IsCameAt job sets (at 2 1) x_j 1 1
unfolding job array x_j ref form at sets x_set other_set
x_came = record { found = x_set; set_is = refl; array = refl; element = refl }

leaf_is : IsLeafAt job (at 2 1) a_ij a_tree 0
unfolding job array a_ij ref form at a_tree a_children
leaf_is = record { is_leaf = omega arith; leads = refl }

target_is : own_number job places 1 (at 2 1) nest.target ≡ 0
unfolding job array places nest span y_i ref form at local_of owned_of
target_is = refl

-- a leaf past the last one is none, and the leaf has to be that of the point
no_leaf : IsLeafAt job (at 2 1) a_ij a_tree 1 → ⊥
unfolding a_tree
no_leaf is = let low : 1 < 1 = is.is_leaf in omega (arith, low)

none_some : (n : ℕ) → None ≡ Some n → ⊥
none_some n same = cc

not_at : IsLeafAt job (at 2 2) a_ij a_tree 0 → ⊥
unfolding job array a_ij ref form at a_tree a_children
not_at is = none_some 0 is.leads

-- X[2] at rank 1 is its own, element 0 of its part; X[1] is not
x_own : IsOwnAt job places 1 (at 2 2) x_j 0
unfolding job array places x_j ref form at owner_of local_of owned_of
x_own = record { own = refl; number = refl }

x_not_own : IsOwnAt job places 1 (at 2 1) x_j 1 → ⊥
unfolding job array places x_j ref form at owner_of local_of owned_of
x_not_own is = let odd : false ≡ true = is.own in cc

some_same : (a b : ℕ) → Some a ≡ Some b → a ≡ b
some_same a b same = cc

-- the same place of a set of another array does not serve, nor does a place of another element
same_found : (sets : List NeedSet) (n : ℕ) (a b : NeedSet) → slice_get sets n ≡ Some a → slice_get sets n ≡ Some b → a ≡ b
same_found sets n a b first second = let both : Some a ≡ Some b = sym first ∙ second in cc

not_that_array : IsCameAt job sets (at 2 1) x_j 0 0 → ⊥
unfolding job array x_j ref form at sets x_set other_set
not_that_array is =
    let same : is.found ≡ other_set = same_found sets 0 is.found other_set is.set_is refl in
    let odd : 2 ≡ 1 = sym (ap (λ (s : NeedSet). s.array) same) ∙ is.array in absurd (omega (arith, odd))

not_that_place : IsCameAt job sets (at 2 1) x_j 1 0 → ⊥
unfolding job array x_j ref form at sets x_set other_set
not_that_place is =
    let same : is.found ≡ x_set = same_found sets 1 is.found x_set is.set_is refl in
    let odd = some_same 0 1 (sym (ap (λ (s : NeedSet). slice_get s.elements 0) same) ∙ is.element) in absurd (omega (arith, odd))

-- the whole record, where the views' first tree is that of A
slots_are : (k : ℕ) (r : Ref) → slice_get (x_j ∷ []) k ≡ Some r → LeadsTo job places 1 sets (at 2 1) r (slot_at recorded k)
unfolding recorded
slots_are zero r is = let same : x_j ≡ r = cc in subst (λ r. LeadsTo job places 1 sets (at 2 1) r (slot.Came 1 1)) same x_came
slots_are (suc k) r is = absurd cc

leaves_are : (k : ℕ) → k < 1 → IsLeafAt job (at 2 1) (ref_at term k) (tree_of term (a_tree ∷ []) k) (slice_index recorded.leaves k)
unfolding recorded term a_ij ref
leaves_are zero low = leaf_is
leaves_are (suc k) low = absurd (omega (arith, low))

record_is : IsRecordOf job places 1 nest sets term (a_tree ∷ []) (at 2 1) recorded
unfolding recorded term
record_is = record { target = sym target_is; slots = slots_are; leaves = leaves_are }
