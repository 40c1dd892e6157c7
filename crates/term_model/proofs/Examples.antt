-- Worked terms, points at which they are active, and lists of plans, computed from the definitions.
use Rattle.std.proofs.Common.{◌≡◌, ◌∙◌, ℕ, suc, ◌-◌, ◌^◌, Bool, true, false, List, [], ◌∷◌, None, ◌++◌, ◌==◌, map, ℤ, pos, codes, refl, ap}
use Rattle.std.specs.Prelude.{nat_lt, if◌then◌else◌}
use Rattle.std.specs.List.{flat_map}
use Rattle.bern_base.specs.Affine.{AffineForm}
use Rattle.bern_base.specs.Expressions.{by_levels}
use Rattle.bern_base.specs.declared.axes.Axis.TheVariants as axis
use Rattle.bern_base.specs.declared.job.ArrayDecl.{ArrayDecl}
use Rattle.bern_base.specs.declared.job.Checked.{Checked}
use Rattle.bern_base.specs.declared.job.Expr.{Expr, roll-Expr, out-roll-Expr}
use Rattle.bern_base.specs.declared.job.Factor.{Factor}
use Rattle.bern_base.specs.declared.job.Factor.TheVariants.{Num, Read, Group}
use Rattle.bern_base.specs.declared.job.Product.{Product, roll-Product}
use Rattle.bern_base.specs.declared.job.Ref.{Ref}
use Rattle.bern_base.specs.declared.job.Nest.{Nest}
use Rattle.bern_base.specs.declared.job.Span.{Span}
use Rattle.job_model.specs.Points.{choices}
use Rattle.placement.specs.Placement.{Triple, owner_of}
use Rattle.bern_base.specs.declared.matrix.Entry.{Entry}
use Rattle.bern_base.specs.declared.shape.Shape.{Shape}
use Rattle.bern_base.specs.declared.shape.Shape.TheVariants as shape
use Rattle.term_model.specs.declared.plan.PlanStep.TheVariants.{Range, Drive, DriveFlat, Merge}
use Rattle.term_model.specs.Activity.{is_active}
use Rattle.term_model.specs.Answers.{answer}
use Rattle.term_model.specs.Plans.{Query, SparseRef, plans, due_searches, four}
use Rattle.term_model.specs.Queries.{level_of, plan_of, plans_of}
use Rattle.term_model.specs.Terms.{number_term, times, terms_by, product_terms, term_value, is_dense_in}
use Rattle.format_model.specs.Levels.{levels_of}

-- the form c + a * i + b * j
form : ℤ → ℤ → ℤ → AffineForm
form c a b = record { c0 = c; coef = a ∷ b ∷ pos 0 ∷ pos 0 ∷ [] }

i : AffineForm
i = form (pos 0) (pos 1) (pos 0)

j : AffineForm
j = form (pos 0) (pos 0) (pos 1)

none : AffineForm
none = form (pos 0) (pos 0) (pos 0)

sparse : Shape → AffineForm → AffineForm → SparseRef
sparse s row col = record { row = row; col = col; levels = map level_of (levels_of s) }

query : ℕ → List SparseRef → Query
query variables refs = record { variables = variables; sparse = refs }

-- A[i,j] * X[j] over compressed rows: the row and then the column, or loops
compressed_rows : plans (query 2 (sparse (shape.DensePacked axis.Row) i j ∷ [])) ≡
    (Range 0 ∷ Range 1 ∷ [])
    ∷ (Range 0 ∷ Drive 0 1 1 ∷ [])
    ∷ (Range 1 ∷ Range 0 ∷ [])
    ∷ (Range 1 ∷ Drive 0 0 0 ∷ [])
    ∷ (Drive 0 0 0 ∷ Range 1 ∷ [])
    ∷ (Drive 0 0 0 ∷ Drive 0 1 1 ∷ [])
    ∷ []
unfolding query sparse i j form due_searches
compressed_rows = refl

-- the same over a coordinate list, whose entries bind both variables at once
coordinate_list : plans (query 2 (sparse shape.ListTwo i j ∷ [])) ≡
    (Range 0 ∷ Range 1 ∷ []) ∷ (Range 0 ∷ DriveFlat 0 ∷ []) ∷ (Range 1 ∷ Range 0 ∷ []) ∷ (Range 1 ∷ DriveFlat 0 ∷ []) ∷ (DriveFlat 0 ∷ []) ∷ []
unfolding query sparse i j form due_searches
coordinate_list = refl

-- U[i] * V[i] over two packed vectors: either one drives, or both are merged; over a list there is no merge, and with V[2*i] there is none
dot_product : plans (query 1 (sparse shape.PackedOne i none ∷ sparse shape.PackedOne i none ∷ [])) ≡
    (Range 0 ∷ []) ∷ (Drive 0 0 0 ∷ []) ∷ (Drive 1 0 0 ∷ []) ∷ (Merge 0 0 1 0 0 ∷ []) ∷ []
unfolding query sparse i none form due_searches
dot_product = refl

no_merge : plans (query 1 (sparse shape.PackedOne i none ∷ sparse shape.ListOne i none ∷ [])) ≡ (Range 0 ∷ []) ∷ (Drive 0 0 0 ∷ []) ∷ (Drive 1 0 0 ∷ []) ∷ []
unfolding query sparse i none form due_searches
no_merge = refl

no_stride : plans (query 1 (sparse shape.PackedOne i none ∷ sparse shape.PackedOne (form (pos 0) (pos 2) (pos 0)) none ∷ [])) ≡ (Range 0 ∷ []) ∷ (Drive 0 0 0 ∷ []) ∷ (Drive 1 0 0 ∷ []) ∷ []
unfolding query sparse i none form due_searches
no_stride = refl

-- A[i+j,3] : the row waits for two variables, so it drives only after a loop, and the column is searched at once
sum_of_two : plans (query 2 (sparse (shape.DensePacked axis.Row) (form (pos 0) (pos 1) (pos 1)) (form (pos 3) (pos 0) (pos 0)) ∷ [])) ≡
    (Range 0 ∷ Range 1 ∷ []) ∷ (Range 0 ∷ Drive 0 0 1 ∷ []) ∷ (Range 1 ∷ Range 0 ∷ []) ∷ (Range 1 ∷ Drive 0 0 0 ∷ []) ∷ []
unfolding query sparse form due_searches
sum_of_two = refl

-- a term without sparse references, in a nest without variables and in one of one variable
no_loops : plans (query 0 []) ≡ [] ∷ []
unfolding query due_searches
no_loops = refl

one_loop : plans (query 1 []) ≡ (Range 0 ∷ []) ∷ []
unfolding query due_searches
one_loop = refl

-- the arrays 0, 1 and 2: a sparse matrix A and dense vectors X and Y
is_vector : Ref → Bool
is_vector r = nat_lt 0 r.array

a_ij : Ref
a_ij = record { array = 0; row = i; col = j }

x_j : Ref
x_j = record { array = 1; row = j; col = none }

y_i : Ref
y_i = record { array = 2; row = i; col = none }

plus : List Factor → Product
plus factors = roll-Product (record { minus = false; factors = factors })

minus : List Factor → Product
minus factors = roll-Product (record { minus = true; factors = factors })

body : List Product → Expr
body products = roll-Expr (record { sums = products })

terms_of_body : (dense : Ref → Bool) (n : ℕ) (products : List Product) → terms_by dense (suc n) (body products) ≡ flat_map (product_terms dense (terms_by dense n)) products
unfolding body by_levels
terms_of_body dense n products = ap (λ e. flat_map (product_terms dense (terms_by dense n)) e.sums) (out-roll-Expr (record { sums = products }))

-- (A[i,j] + 2) * X[j]
abbrev a_and_two : List Product
a_and_two = plus (Read a_ij ∷ []) ∷ plus (Num 2 ∷ []) ∷ []

abbrev shifted : List Product
shifted = plus (Group (body a_and_two) ∷ Read x_j ∷ []) ∷ []

shifted_terms : terms_by is_vector 17 (body shifted) ≡
    record { factor = 1; dense = x_j ∷ []; sparse = a_ij ∷ [] } ∷ record { factor = 2; dense = x_j ∷ []; sparse = [] } ∷ []
unfolding plus minus is_vector a_ij x_j
shifted_terms =
    terms_of_body is_vector 16 shifted
    ∙ ap (λ ts. flat_map (product_terms is_vector (λ e. ts)) shifted) (terms_of_body is_vector 15 a_and_two)

-- -(A[i,j] - 3*X[j]) * (Y[i] - 0): the leftmost factor slowest, a term with the factor 0 kept
abbrev left : List Product
left = plus (Read a_ij ∷ []) ∷ minus (Num 3 ∷ Read x_j ∷ []) ∷ []

abbrev right : List Product
right = plus (Read y_i ∷ []) ∷ minus (Num 0 ∷ []) ∷ []

abbrev both : List Product
both = minus (Group (body left) ∷ Group (body right) ∷ []) ∷ []

both_terms : terms_by is_vector 17 (body both) ≡
    record { factor = 2 ^ 64 - 1; dense = y_i ∷ []; sparse = a_ij ∷ [] }
    ∷ record { factor = 0; dense = []; sparse = a_ij ∷ [] }
    ∷ record { factor = 3; dense = x_j ∷ y_i ∷ []; sparse = [] }
    ∷ record { factor = 0; dense = x_j ∷ []; sparse = [] }
    ∷ []
unfolding plus minus is_vector a_ij x_j y_i
both_terms =
    terms_of_body is_vector 16 both
    ∙ ap (λ ts. flat_map (λ a. map (times a) (terms_by is_vector 16 (body right))) (flat_map (λ a. map (times a) ts) (number_term (2 ^ 64 - 1) ∷ [])) ++ []) (terms_of_body is_vector 15 left)
    ∙ ap (λ us. flat_map (λ a. map (times a) us)
    (flat_map (λ a. map (times a) (flat_map (product_terms is_vector (terms_by is_vector 15)) left)) (number_term (2 ^ 64 - 1) ∷ [])) ++ []) (terms_of_body is_vector 15 right)

-- a number alone
number_alone : terms_by is_vector 17 (body (minus (Num 7 ∷ []) ∷ [])) ≡ record { factor = 2 ^ 64 - 7; dense = []; sparse = [] } ∷ []
unfolding minus
number_alone = terms_of_body is_vector 16 (minus (Num 7 ∷ []) ∷ [])

-- a value of a term: 2 * 5 * 7
some_value : term_value (λ r. if r.array == 0 then 5 else 7) (record { factor = 2; dense = x_j ∷ []; sparse = a_ij ∷ [] }) ≡ 70
unfolding a_ij x_j
some_value = refl

-- A of 2 by 2 in compressed rows with entries at (0,1) and (1,0), a packed vector U with an entry at 1, and a dense vector Y
array : ℕ → ℕ → ArrayDecl
array cols format = record { name = codes "A"; dims = 2; rows = 2; cols = cols; format = format; axis = axis.Row; place = 0; file = None }

job : Checked
job = record {
  extents = [];
  places = [];
  formats = record { name = codes "csr"; shape = shape.DensePacked axis.Row } ∷ record { name = codes "some"; shape = shape.PackedOne } ∷ record { name = codes "all"; shape = shape.DenseOne } ∷ [];
  arrays = array 2 0 ∷ array 1 1 ∷ array 1 2 ∷ [];
  nests = [];
  turns = [];
  prints = [];
}

entries : List (List Entry)
entries = (record { row = 0; col = 1; value = 4 } ∷ record { row = 1; col = 0; value = 0 } ∷ []) ∷ (record { row = 1; col = 0; value = 9 } ∷ []) ∷ [] ∷ []

u_j : Ref
u_j = record { array = 1; row = j; col = none }

y_of_i : Ref
y_of_i = record { array = 2; row = i; col = none }

square : List (List ℤ)
square = choices ((pos 0, pos 2) ∷ (pos 0, pos 2) ∷ (pos 0, pos 1) ∷ (pos 0, pos 1) ∷ [])

-- A[i,j] is stored at (0,1), and at (1,0) with the value 0; A[i,j] * U[j] counts at (0,1) alone; a dense reference always
one_sparse : map (λ p. is_active job entries p (record { factor = 1; dense = y_of_i ∷ []; sparse = a_ij ∷ [] })) square ≡ false ∷ true ∷ true ∷ false ∷ []
unfolding job entries array square a_ij y_of_i i j form
one_sparse = refl

two_sparse : map (λ p. is_active job entries p (record { factor = 1; dense = []; sparse = a_ij ∷ u_j ∷ [] })) square ≡ false ∷ true ∷ false ∷ false ∷ []
unfolding job entries array square a_ij u_j i j none form
two_sparse = refl

told_apart : map (is_dense_in job) (a_ij ∷ u_j ∷ y_of_i ∷ []) ≡ false ∷ false ∷ true ∷ []
unfolding job array a_ij u_j y_of_i
told_apart = refl

-- Y[i] += A[i,j] where rank 0 owns row 1 and rank 1 row 0
span : ℕ → Span
span hi = record { name = codes "i"; lo = pos 0; hi = pos hi }

nest : Nest
nest = record { line = 1; vars = span 2 ∷ span 2 ∷ []; guards = []; target = y_of_i; replace = false; body = body (plus (Read a_ij ∷ []) ∷ []) }

places : List (List Triple)
places = (record { index = 0; rank = 1; local = 0 } ∷ record { index = 1; rank = 0; local = 0 } ∷ []) ∷ []

answers : map (answer job entries places nest (record { factor = 1; dense = []; sparse = a_ij ∷ [] })) (0 ∷ 1 ∷ 2 ∷ []) ≡
    ((pos 1 ∷ pos 0 ∷ pos 0 ∷ pos 0 ∷ []) ∷ []) ∷ ((pos 0 ∷ pos 1 ∷ pos 0 ∷ pos 0 ∷ []) ∷ []) ∷ [] ∷ []
unfolding job entries array nest span places a_ij y_of_i i j none form owner_of
answers = refl

-- its plans, by the formats of the job
plans_in_job : plans_of job nest (record { factor = 1; dense = []; sparse = a_ij ∷ u_j ∷ [] }) ≡ map plan_of (plans (query 2 (sparse (shape.DensePacked axis.Row) i j ∷ sparse shape.PackedOne j none ∷ [])))
unfolding job array nest span query sparse a_ij u_j i j none form
plans_in_job = refl

-- A[i,i] where i is bound: both levels are searched at once, the outer one first, and none is due after them
both_levels : due_searches (query 1 (sparse (shape.DensePacked axis.Row) i i ∷ [])) (record { bound = four; located = λ r. 0 }) ≡
    record { reference = 0; level = 0 } ∷ record { reference = 0; level = 1 } ∷ []
unfolding query sparse i form due_searches
both_levels = refl
