-- Worked nests, computed from the definitions.
use Rattle.std.proofs.Common.{◌≡◌, ◌∙◌, ℕ, suc, ◌-◌, ◌^◌, ◌%◌, Bool, true, false, List, [], ◌∷◌, Option, Some, None, map, ℤ, pos, negsuc, codes, refl, ap}
use Rattle.std.specs.List.{fold, sum_by}
use Rattle.bern_base.specs.Affine.{AffineForm}
use Rattle.bern_base.specs.Expressions.{by_levels}
use Rattle.bern_base.specs.declared.axes.Axis.TheVariants as axis
use Rattle.bern_base.specs.declared.job.ArrayDecl.{ArrayDecl}
use Rattle.bern_base.specs.declared.job.Checked.{Checked}
use Rattle.bern_base.specs.declared.job.Expr.{Expr, roll-Expr, out-roll-Expr}
use Rattle.bern_base.specs.declared.job.Factor.{Factor}
use Rattle.bern_base.specs.declared.job.Factor.TheVariants.{Num, Read, Group}
use Rattle.bern_base.specs.declared.job.Guard.{Guard}
use Rattle.bern_base.specs.declared.job.Nest.{Nest}
use Rattle.bern_base.specs.declared.job.Product.{Product, roll-Product}
use Rattle.bern_base.specs.declared.job.Ref.{Ref}
use Rattle.bern_base.specs.declared.job.Span.{Span}
use Rattle.bern_base.specs.declared.raw.Rel.TheVariants as rel
use Rattle.job_model.specs.State.{State}
use Rattle.job_model.specs.Elements.{element_of}
use Rattle.job_model.specs.Nests.{with_changed, at_point, after_nest, state_before, end_state, first_state}
use Rattle.job_model.specs.Points.{points, choices, spans_of, compares}
use Rattle.job_model.specs.Values.{product_value, sum_value, read_at}

array : ℕ → ℕ → Option (List ℕ) → ArrayDecl
array rows cols file = record { name = codes "A"; dims = 2; rows = rows; cols = cols; format = 0; axis = axis.Row; place = 0; file = file }

-- the form c + a * i + b * j
form : ℤ → ℤ → ℤ → AffineForm
form c a b = record { c0 = c; coef = a ∷ b ∷ pos 0 ∷ pos 0 ∷ [] }

i : AffineForm
i = form (pos 0) (pos 1) (pos 0)

j : AffineForm
j = form (pos 0) (pos 0) (pos 1)

nothing : AffineForm
nothing = form (pos 0) (pos 0) (pos 0)

vector : ℕ → AffineForm → Ref
vector array row = record { array = array; row = row; col = nothing }

matrix : ℕ → AffineForm → AffineForm → Ref
matrix array row col = record { array = array; row = row; col = col }

span : ℤ → ℤ → Span
span lo hi = record { name = codes "i"; lo = lo; hi = hi }

plus : List Factor → Product
plus factors = roll-Product (record { minus = false; factors = factors })

minus : List Factor → Product
minus factors = roll-Product (record { minus = true; factors = factors })

body : List Product → Expr
body products = roll-Expr (record { sums = products })

three : Span
three = span (pos 0) (pos 3)

-- folds whose steps agree
fold_agree : {S X : Type 0} (f g : S → X → S) → ((s : S) (x : X) → f s x ≡ g s x) → (xs : List X) (s : S) → fold f s xs ≡ fold g s xs
fold_agree f g agree [] s = refl
fold_agree f g agree (x ∷ xs) s = ap (λ t. fold f t xs) (agree s x) ∙ fold_agree f g agree xs (g s x)

-- the value of a sum of these products
value_of_body : (element : Ref → ℕ) (n : ℕ) (products : List Product) → sum_value element (suc n) (body products) ≡ sum_by (product_value element (sum_value element n)) products % 2 ^ 64
unfolding body by_levels
value_of_body element n products = ap (λ e. sum_by (product_value element (sum_value element n)) e.sums % 2 ^ 64) (out-roll-Expr (record { sums = products }))

-- a nest by its parts, beside the arrays of its job
record Case : Type 0 where
  arrays : List ArrayDecl
  vars : List Span
  guards : List Guard
  target : Ref
  replace : Bool
  products : List Product

abbrev nest_of : Case → Nest
nest_of c = record { line = 1; vars = c.vars; guards = c.guards; target = c.target; replace = c.replace; body = body c.products }

abbrev leaves : Case → State → State
leaves c state = after_nest c.arrays state (nest_of c)

-- one point, with the sum of the products written out
abbrev step : Case → State → List ℤ → State
step c state point =
    with_changed c.replace state c.target.array (element_of c.arrays c.target point) (sum_by (product_value (read_at c.arrays state point) (sum_value (read_at c.arrays state point) 16)) c.products % 2 ^ 64)

by_steps : (c : Case) (first left : State) → fold (step c) first (points (nest_of c)) ≡ left → leaves c first ≡ left
by_steps c first left steps =
    fold_agree (at_point c.arrays (nest_of c)) (step c) (λ s p. ap (with_changed c.replace s c.target.array (element_of c.arrays c.target p)) (value_of_body (read_at c.arrays s p) 16 c.products)) (points (nest_of c)) first
    ∙ steps

-- Y[i] += A[i,j]*X[j]
product : Case
product = record {
  arrays = array 3 3 None ∷ array 3 1 None ∷ array 3 1 None ∷ [];
  vars = three ∷ three ∷ [];
  guards = [];
  target = vector 2 i;
  replace = false;
  products = plus (Read (matrix 0 i j) ∷ Read (vector 1 j) ∷ []) ∷ [];
}

product_leaves : leaves product ((2 ∷ 0 ∷ 1 ∷ 0 ∷ 0 ∷ 0 ∷ 0 ∷ 5 ∷ 0 ∷ []) ∷ (1 ∷ 2 ∷ 3 ∷ []) ∷ (0 ∷ 0 ∷ 0 ∷ []) ∷ []) ≡ (2 ∷ 0 ∷ 1 ∷ 0 ∷ 0 ∷ 0 ∷ 0 ∷ 5 ∷ 0 ∷ []) ∷ (1 ∷ 2 ∷ 3 ∷ []) ∷ (5 ∷ 0 ∷ 10 ∷ []) ∷ []
unfolding product array matrix vector three span plus i j nothing form
product_leaves = by_steps product ((2 ∷ 0 ∷ 1 ∷ 0 ∷ 0 ∷ 0 ∷ 0 ∷ 5 ∷ 0 ∷ []) ∷ (1 ∷ 2 ∷ 3 ∷ []) ∷ (0 ∷ 0 ∷ 0 ∷ []) ∷ []) _ refl

-- Y[2*i] += X[2-i] for i in 0..2
strided : Case
strided = record {
  arrays = array 3 1 None ∷ array 3 1 None ∷ [];
  vars = span (pos 0) (pos 2) ∷ [];
  guards = [];
  target = vector 1 (form (pos 0) (pos 2) (pos 0));
  replace = false;
  products = plus (Read (vector 0 (form (pos 2) (negsuc 0) (pos 0))) ∷ []) ∷ [];
}

strided_leaves : leaves strided ((1 ∷ 2 ∷ 3 ∷ []) ∷ (0 ∷ 0 ∷ 0 ∷ []) ∷ []) ≡ (1 ∷ 2 ∷ 3 ∷ []) ∷ (3 ∷ 0 ∷ 2 ∷ []) ∷ []
unfolding strided array vector span plus nothing form
strided_leaves = by_steps strided ((1 ∷ 2 ∷ 3 ∷ []) ∷ (0 ∷ 0 ∷ 0 ∷ []) ∷ []) _ refl

-- M[i,j] = 1 where i < j, on two rows and three columns
above_diagonal : Case
above_diagonal = record {
  arrays = array 2 3 None ∷ [];
  vars = span (pos 0) (pos 2) ∷ three ∷ [];
  guards = record { left = form (pos 0) (pos 1) (negsuc 0); rel = rel.Lt } ∷ [];
  target = matrix 0 i j;
  replace = true;
  products = plus (Num 1 ∷ []) ∷ [];
}

above_diagonal_leaves : leaves above_diagonal ((7 ∷ 7 ∷ 7 ∷ 7 ∷ 7 ∷ 7 ∷ []) ∷ []) ≡ (7 ∷ 1 ∷ 1 ∷ 7 ∷ 7 ∷ 1 ∷ []) ∷ []
unfolding above_diagonal array matrix three span plus i j form
above_diagonal_leaves = by_steps above_diagonal ((7 ∷ 7 ∷ 7 ∷ 7 ∷ 7 ∷ 7 ∷ []) ∷ []) _ refl

-- Y[i+1] += X[i+1] - 3*Y[i+1] for i in -1..2
differences : Case
differences = record {
  arrays = array 3 1 None ∷ array 3 1 None ∷ [];
  vars = span (negsuc 0) (pos 2) ∷ [];
  guards = [];
  target = vector 1 (form (pos 1) (pos 1) (pos 0));
  replace = false;
  products = plus (Read (vector 0 (form (pos 1) (pos 1) (pos 0))) ∷ []) ∷ minus (Num 3 ∷ Read (vector 1 (form (pos 1) (pos 1) (pos 0))) ∷ []) ∷ [];
}

differences_leaves : leaves differences ((1 ∷ 2 ∷ 30 ∷ []) ∷ (5 ∷ 1 ∷ 4 ∷ []) ∷ []) ≡ (1 ∷ 2 ∷ 30 ∷ []) ∷ ((2 ^ 64 - 9) ∷ 0 ∷ 22 ∷ []) ∷ []
unfolding differences array vector span plus minus nothing form
differences_leaves = by_steps differences ((1 ∷ 2 ∷ 30 ∷ []) ∷ (5 ∷ 1 ∷ 4 ∷ []) ∷ []) _ refl

vectors : List ArrayDecl
vectors = array 3 1 None ∷ array 3 1 None ∷ array 3 1 None ∷ []

-- Y[i] = 2*X[i], and then Z[i] += Y[i]*Y[0]
doubled : Case
doubled = record {
  arrays = vectors;
  vars = three ∷ [];
  guards = [];
  target = vector 1 i;
  replace = true;
  products = plus (Num 2 ∷ Read (vector 0 i) ∷ []) ∷ [];
}

scaled : Case
scaled = record {
  arrays = vectors;
  vars = three ∷ [];
  guards = [];
  target = vector 2 i;
  replace = false;
  products = plus (Read (vector 1 i) ∷ Read (vector 1 nothing) ∷ []) ∷ [];
}

abbrev both : Checked
both = record { extents = []; places = []; formats = []; arrays = vectors; nests = nest_of doubled ∷ nest_of scaled ∷ []; turns = 0 ∷ 1 ∷ []; prints = [] }

-- the second nest reads what the first one left
in_order : end_state both ((1 ∷ 2 ∷ 3 ∷ []) ∷ (9 ∷ 9 ∷ 9 ∷ []) ∷ (0 ∷ 0 ∷ 1 ∷ []) ∷ []) ≡ (1 ∷ 2 ∷ 3 ∷ []) ∷ (2 ∷ 4 ∷ 6 ∷ []) ∷ (4 ∷ 8 ∷ 13 ∷ []) ∷ []
unfolding doubled scaled vectors array vector three span plus i nothing form
in_order =
    ap (leaves scaled) (by_steps doubled ((1 ∷ 2 ∷ 3 ∷ []) ∷ (9 ∷ 9 ∷ 9 ∷ []) ∷ (0 ∷ 0 ∷ 1 ∷ []) ∷ []) ((1 ∷ 2 ∷ 3 ∷ []) ∷ (2 ∷ 4 ∷ 6 ∷ []) ∷ (0 ∷ 0 ∷ 1 ∷ []) ∷ []) refl)
    ∙ by_steps scaled ((1 ∷ 2 ∷ 3 ∷ []) ∷ (2 ∷ 4 ∷ 6 ∷ []) ∷ (0 ∷ 0 ∷ 1 ∷ []) ∷ []) _ refl

-- before the first turn stands the first state, and after both the end
along : (first : State) → (state_before both first 0 ≡ first) × (state_before both first 2 ≡ end_state both first)
along first = (refl, refl)

-- the second nest, and then the first one and the second one again
abbrev again : Checked
again = record both { turns = 1 ∷ 0 ∷ 1 ∷ [] }

by_turns : end_state again ((1 ∷ 2 ∷ 3 ∷ []) ∷ (3 ∷ 1 ∷ 0 ∷ []) ∷ (0 ∷ 0 ∷ 1 ∷ []) ∷ []) ≡ (1 ∷ 2 ∷ 3 ∷ []) ∷ (2 ∷ 4 ∷ 6 ∷ []) ∷ (13 ∷ 11 ∷ 13 ∷ []) ∷ []
unfolding doubled scaled vectors array vector three span plus i nothing form
by_turns =
    ap (λ s. leaves scaled (leaves doubled s)) (by_steps scaled ((1 ∷ 2 ∷ 3 ∷ []) ∷ (3 ∷ 1 ∷ 0 ∷ []) ∷ (0 ∷ 0 ∷ 1 ∷ []) ∷ []) ((1 ∷ 2 ∷ 3 ∷ []) ∷ (3 ∷ 1 ∷ 0 ∷ []) ∷ (9 ∷ 3 ∷ 1 ∷ []) ∷ []) refl)
    ∙ ap (leaves scaled) (by_steps doubled ((1 ∷ 2 ∷ 3 ∷ []) ∷ (3 ∷ 1 ∷ 0 ∷ []) ∷ (9 ∷ 3 ∷ 1 ∷ []) ∷ []) ((1 ∷ 2 ∷ 3 ∷ []) ∷ (2 ∷ 4 ∷ 6 ∷ []) ∷ (9 ∷ 3 ∷ 1 ∷ []) ∷ []) refl)
    ∙ by_steps scaled ((1 ∷ 2 ∷ 3 ∷ []) ∷ (2 ∷ 4 ∷ 6 ∷ []) ∷ (9 ∷ 3 ∷ 1 ∷ []) ∷ []) _ refl

-- 2*(3 - 5) + 1
abbrev group : List Product
group = plus (Num 3 ∷ []) ∷ minus (Num 5 ∷ []) ∷ []

abbrev grouped : List Product
grouped = plus (Num 2 ∷ Group (body group) ∷ []) ∷ plus (Num 1 ∷ []) ∷ []

group_value : sum_value (λ r. 0) 17 (body grouped) ≡ 2 ^ 64 - 3
unfolding plus minus
group_value =
    value_of_body (λ r. 0) 16 grouped
    ∙ ap (λ v. sum_by (product_value (λ r. 0) (λ e. v)) grouped % 2 ^ 64) (value_of_body (λ r. 0) 15 group)

-- how -1, 0 and 1 stand to 0
relations : map (λ r. map (compares r) (negsuc 0 ∷ pos 0 ∷ pos 1 ∷ [])) (rel.Lt ∷ rel.Le ∷ rel.Gt ∷ rel.Ge ∷ rel.Eq ∷ rel.Ne ∷ [])
    ≡ (true ∷ false ∷ false ∷ []) ∷ (true ∷ true ∷ false ∷ []) ∷ (false ∷ false ∷ true ∷ []) ∷ (false ∷ true ∷ true ∷ []) ∷ (false ∷ true ∷ false ∷ []) ∷ (true ∷ false ∷ true ∷ []) ∷ []
relations = refl

-- the first variable is the slowest, and a point has four values
order : choices (spans_of (span (negsuc 0) (pos 1) ∷ span (pos 4) (pos 6) ∷ []))
    ≡ (negsuc 0 ∷ pos 4 ∷ pos 0 ∷ pos 0 ∷ []) ∷ (negsuc 0 ∷ pos 5 ∷ pos 0 ∷ pos 0 ∷ []) ∷ (pos 0 ∷ pos 4 ∷ pos 0 ∷ pos 0 ∷ []) ∷ (pos 0 ∷ pos 5 ∷ pos 0 ∷ pos 0 ∷ []) ∷ []
unfolding span
order = refl

-- a span without values leaves no point
empty : choices (spans_of (three ∷ span (pos 3) (pos 1) ∷ [])) ≡ []
unfolding three span
empty = refl

-- an array with a file begins with its entries, and another one with zeros
begins : first_state (λ name. record { row = 0; col = 1; value = 8 } ∷ []) (array 2 2 (Some (codes "a.mtx")) ∷ array 2 1 None ∷ []) ≡ (0 ∷ 8 ∷ 0 ∷ 0 ∷ []) ∷ (0 ∷ 0 ∷ []) ∷ []
unfolding array
begins = refl
