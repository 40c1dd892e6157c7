-- The one nest of a product leaves what its dense loops leave.
use Rattle.std.proofs.Common.{◌≡◌, ℕ, suc, ◌+◌, ◌*◌, ◌%◌, ◌^◌, Bool, true, false, List, [], ◌∷◌, Some, map, filter, length, slice_get, refl, get_or, sym, ap, ◌∙◌, arith}
use Rattle.std.specs.Prelude.{ℤ, pos, ◌+ℤ◌, slice_index_or}
use Rattle.std.specs.List.{All, fold, flat_map, range_with_len, sum_by}
use Rattle.std.proofs.Math.IntN.{+ℤ_idl}
use Rattle.std.proofs.Math.Nat.{add-zero, zero-add, mul-one, mod-mod}
use Rattle.std.proofs.lemmas.List.Concat.{flat_map_single}
use Rattle.std.proofs.lemmas.List.Folds.{flat_map-map, fold-map}
use Rattle.std.proofs.lemmas.Simd.{map-map}
use Rattle.bern_base.specs.Affine.{AffineForm, value_at}
use Rattle.bern_base.specs.Expressions.{by_levels}
use Rattle.bern_base.specs.Ring.{ring_mul}
use Rattle.bern_base.specs.declared.job.ArrayDecl.{ArrayDecl}
use Rattle.bern_base.specs.declared.job.Checked.{Checked}
use Rattle.bern_base.specs.declared.job.Expr.{Expr, out-Expr}
use Rattle.bern_base.specs.declared.job.Factor.{Factor}
use Rattle.bern_base.specs.declared.job.Factor.TheVariants.{Read}
use Rattle.bern_base.specs.declared.job.Nest.{Nest}
use Rattle.bern_base.specs.declared.job.Product.{Product, roll-Product}
use Rattle.bern_base.specs.declared.job.Ref.{Ref}
use Rattle.bern_base.specs.declared.shape.Shape.{Shape}
use Rattle.bern_base.specs.declared.job.Span.{Span}
use Rattle.job_model.specs.State.{State, read}
use Rattle.job_model.specs.Elements.{cols_of, element_of}
use Rattle.job_model.specs.Nests as nests
use Rattle.job_model.specs.Points as box
use Rattle.job_model.specs.Values.{product_value, read_at, sum_value, value_in}
use Rattle.placement.proofs.ShareLemmas.{map-flat_map, map_agree, flat_map_agree}
use Rattle.rank_node.specs.Jobs.{variable_v, variable_w, nothing}
use Rattle.rank_node.proofs.ListLemmas.{some_same}
use Rattle.rank_product.specs.declared.shape.ProductShape.{ProductShape}
use Rattle.rank_product.specs.Shapes.{IsProduct, IsNestOf, IsTerm, IsWhole, IsOver, array_is, cols_over, is_dense_level, is_sparse, target_element, stored_element, source_element}
use Rattle.rank_product.proofs.DenseLemmas.{at_point, dense}
use Rattle.rank_product.proofs.ListLemmas.{all_at, one_of, two_of}
use Rattle.rank_product.proofs.ProductLemmas.{points}
use Rattle.rank_product.proofs.ShapeLemmas.{has_array}

-- both variables go over the whole extent
box_is : (n : ℕ) (vars : List Span) → length vars ≡ 2 → All (IsWhole n) vars → map box.bounds_of vars ≡ (pos 0, pos n) ∷ (pos 0, pos n) ∷ []
box_is n vars two whole =
    let vs = two_of vars two in
    let bounds : (k : ℕ) (s : Span) → slice_get vars k ≡ Some s → box.bounds_of s ≡ (pos 0, pos n) = λ k s at.
    let is = all_at (IsWhole n) vars k s whole at in
    ap (λ (lo : ℤ). (lo, s.hi)) is.0 ∙ ap (λ (hi : ℤ). (pos 0, hi)) is.1 in
    ap (map box.bounds_of) vs.are
    ∙ ap (λ (b : ℤ × ℤ). b ∷ box.bounds_of vs.second ∷ []) (bounds 0 vs.first (ap (λ (xs : List Span). slice_get xs 0) vs.are))
    ∙ ap (λ (b : ℤ × ℤ). (pos 0, pos n) ∷ b ∷ []) (bounds 1 vs.second (ap (λ (xs : List Span). slice_get xs 1) vs.are))

-- a product by its sign and its factors
product_is : (t : Product) (minus : Bool) (factors : List Factor) → t.minus ≡ minus → t.factors ≡ factors → t ≡ roll-Product (record { minus = minus; factors = factors })
product_is t minus factors sign same = ap (λ m. roll-Product (record { minus = m; factors = t.factors })) sign ∙ ap (λ fs. roll-Product (record { minus = minus; factors = fs })) same

factors_are : (fs : List Factor) (f g : Factor) → length fs ≡ 2 → slice_get fs 0 ≡ Some f → slice_get fs 1 ≡ Some g → fs ≡ f ∷ g ∷ []
factors_are fs f g two first second =
    let vs = two_of fs two in
    let one : vs.first ≡ f = some_same (ap (λ (xs : List Factor). slice_get xs 0) (sym vs.are) ∙ first) in
    let other : vs.second ≡ g = some_same (ap (λ (xs : List Factor). slice_get xs 1) (sym vs.are) ∙ second) in
    vs.are ∙ ap (λ x. x ∷ vs.second ∷ []) one ∙ ap (λ x. f ∷ x ∷ []) other

-- the product S[v,w] * D[w]
abbrev pub term_of : ProductShape → Product
term_of p = roll-Product (record { minus = false; factors = Read (stored_element p) ∷ Read (source_element p) ∷ [] })

-- the nest by its parts
pub record IsLoop (p : ProductShape) (nest : Nest) : Type 0 where
  pub box : map box.bounds_of nest.vars ≡ (pos 0, pos p.size) ∷ (pos 0, pos p.size) ∷ []
  pub guards : nest.guards ≡ []
  pub target : nest.target ≡ target_element p
  pub grows : nest.replace ≡ false
  pub body : (out-Expr nest.body).sums ≡ term_of p ∷ []

pub loop_is : (p : ProductShape) (nest : Nest) → IsNestOf p nest → IsLoop p nest
loop_is p nest is =
    let sums = one_of (out-Expr nest.body).sums is.one in
    let term = all_at (IsTerm p) (out-Expr nest.body).sums 0 sums.first is.terms (ap (λ (xs : List Product). slice_get xs 0) sums.is) in record {
      box = box_is p.size nest.vars is.two is.whole;
      guards = is.guards;
      target = is.target;
      grows = is.grows;
      body = sums.is ∙ ap (λ (t : Product). t ∷ []) (product_is sums.first false _ term.plus (factors_are sums.first.factors _ _ term.two term.first term.second));
    }

-- without guards each point counts
no_guards : (xs : List (List ℤ)) → filter (box.meets []) xs ≡ xs
no_guards [] = refl
no_guards (x ∷ xs) = ap (λ ys. x ∷ ys) (no_guards xs)

-- the values of a span from 0
values_from_0 : (n : ℕ) → box.values_of (pos 0, pos n) ≡ map (λ k. pos k) (range_with_len 0 n)
values_from_0 n =
    let range : List ℕ = range_with_len 0 n in
    ap (λ count. map (λ k. pos 0 +ℤ pos k) (range_with_len 0 count)) (add-zero n)
    ∙ map_agree (λ k. pos 0 +ℤ pos k) (λ k. pos k) range (λ k d below. +ℤ_idl (pos (get_or range k d)))

-- the point of a row and a column; there is no third and no fourth variable
abbrev pub point_of : ℕ × ℕ → List ℤ
point_of q = pos q.0 ∷ pos q.1 ∷ pos 0 ∷ pos 0 ∷ []

-- the choices of a column, and of a row and a column
abbrev spans_from : ℕ → List (ℤ × ℤ)
spans_from n = (pos 0, pos n) ∷ (pos 0, pos 1) ∷ (pos 0, pos 1) ∷ []

columns_are : (n : ℕ) → box.choices (spans_from n) ≡ map (λ j. pos j ∷ pos 0 ∷ pos 0 ∷ []) (range_with_len 0 n)
columns_are n =
    let column : ℤ → List ℤ = λ x. x ∷ pos 0 ∷ pos 0 ∷ [] in
    ap (flat_map (λ x. column x ∷ [])) (values_from_0 n)
    ∙ flat_map_single column (map (λ k. pos k) (range_with_len 0 n))
    ∙ map-map column (λ k. pos k) (range_with_len 0 n)

choices_are : (n : ℕ) → box.choices ((pos 0, pos n) ∷ spans_from n) ≡ map point_of (points n)
choices_are n =
    let range : List ℕ = range_with_len 0 n in
    let column : ℕ → List ℤ = λ j. pos j ∷ pos 0 ∷ pos 0 ∷ [] in
    let row : ℕ → List (ℕ × ℕ) = λ i. map (λ j. (i, j)) range in
    let with_row : List (List ℤ) → ℤ → List (List ℤ) = λ columns x. map (λ rest. x ∷ rest) columns in
    ap (λ columns. flat_map (with_row columns) (box.values_of (pos 0, pos n))) (columns_are n)
    ∙ ap (flat_map (with_row (map column range))) (values_from_0 n)
    ∙ flat_map-map (with_row (map column range)) (λ k. pos k) range
    ∙ flat_map_agree (λ i. with_row (map column range) (pos i)) (λ i. map point_of (row i))
    (λ i. map-map (λ rest. pos i ∷ rest) column range ∙ sym (map-map point_of (λ j. (i, j)) range)) range
    ∙ sym (map-flat_map point_of row range)

points_are : (p : ProductShape) (nest : Nest) → IsLoop p nest → box.points nest ≡ map point_of (points p.size)
points_are p nest loop =
    ap (λ guards. filter (box.meets guards) (box.box_of nest)) loop.guards
    ∙ no_guards (box.box_of nest)
    ∙ ap (λ bounds. box.choices (map (λ v. slice_index_or bounds v (pos 0, pos 1)) (0 ∷ 1 ∷ 2 ∷ 3 ∷ []))) loop.box
    ∙ choices_are p.size

-- the forms v, w and 0 at a point
at_v : (q : ℕ × ℕ) → box.natural (value_at variable_v (point_of q)) ≡ q.0
at_v q = omega arith

at_w : (q : ℕ × ℕ) → box.natural (value_at variable_w (point_of q)) ≡ q.1
at_w q = omega arith

at_nothing : (q : ℕ × ℕ) → box.natural (value_at nothing (point_of q)) ≡ 0
at_nothing q = omega arith

-- the columns of T, S and D
record HaveCols (p : ProductShape) (arrays : List ArrayDecl) : Type 0 where
  target : cols_of (slice_get arrays p.target) ≡ 1
  stored : cols_of (slice_get arrays p.stored) ≡ p.size
  source : cols_of (slice_get arrays p.source) ≡ 1

cols_at : (test : Shape → Bool) (dims : ℕ) (job : Checked) (p : ProductShape) (k : ℕ) → All (IsOver p) job.arrays → array_is test dims job.formats (slice_get job.arrays k) ≡ true →
    cols_of (slice_get job.arrays k) ≡ cols_over p.size dims
cols_at test dims job p k arrays found =
    let has = has_array test dims job.formats (slice_get job.arrays k) found in
    let over = all_at (IsOver p) job.arrays k has.array arrays has.there in
    ap cols_of has.there ∙ over.cols ∙ ap (cols_over p.size) has.dims_are

have_cols : (job : Checked) (p : ProductShape) → IsProduct job p → HaveCols p job.arrays
have_cols job p is = record {
  target = cols_at is_dense_level 1 job p p.target is.arrays is.target;
  stored = cols_at is_sparse 2 job p p.stored is.arrays is.stored;
  source = cols_at is_dense_level 1 job p p.source is.arrays is.source;
}

-- the element of a vector and of S at a point
vector_element : (arrays : List ArrayDecl) (array row : ℕ) (form : AffineForm) (q : ℕ × ℕ) → cols_of (slice_get arrays array) ≡ 1 → box.natural (value_at form (point_of q)) ≡ row →
    element_of arrays (record { array = array; row = form; col = nothing }) (point_of q) ≡ row
vector_element arrays array row form q cols at =
    ap (λ c. box.natural (value_at form (point_of q)) * c + box.natural (value_at nothing (point_of q))) cols
    ∙ ap (λ r. r * 1 + box.natural (value_at nothing (point_of q))) at
    ∙ ap (λ c. row * 1 + c) (at_nothing q)
    ∙ add-zero (row * 1) ∙ mul-one row

matrix_element : (arrays : List ArrayDecl) (p : ProductShape) (q : ℕ × ℕ) → cols_of (slice_get arrays p.stored) ≡ p.size → element_of arrays (stored_element p) (point_of q) ≡ q.0 * p.size + q.1
matrix_element arrays p q cols =
    ap (λ c. box.natural (value_at variable_v (point_of q)) * c + box.natural (value_at variable_w (point_of q))) cols
    ∙ ap (λ r. r * p.size + box.natural (value_at variable_w (point_of q))) (at_v q)
    ∙ ap (λ c. q.0 * p.size + c) (at_w q)

-- the value of an expression that is one product
value_of_one : (element : Ref → ℕ) (levels : ℕ) (e : Expr) (product : Product) → (out-Expr e).sums ≡ product ∷ [] →
    sum_value element (suc levels) e ≡ product_value element (sum_value element levels) product % 2 ^ 64
unfolding by_levels
value_of_one element levels e product one =
    let value : Product → ℕ = product_value element (sum_value element levels) in
    ap (λ products. sum_by value products % 2 ^ 64) one ∙ ap (λ v. v % 2 ^ 64) (zero-add (value product))

value_of_term : (p : ProductShape) (element : Ref → ℕ) (levels : ℕ) → product_value element (sum_value element levels) (term_of p) % 2 ^ 64 ≡ ring_mul (element (stored_element p)) (element (source_element p))
value_of_term p element levels =
    let s : ℕ = element (stored_element p) in
    let d : ℕ = element (source_element p) in
    ap (λ v. s * v % 2 ^ 64 % 2 ^ 64) (mul-one d) ∙ mod-mod (s * d) (2 ^ 64)

body_value : (job : Checked) (p : ProductShape) (nest : Nest) (state : State) (q : ℕ × ℕ) → HaveCols p job.arrays → IsLoop p nest →
    value_in job.arrays state (point_of q) nest.body ≡ ring_mul (read state p.stored (q.0 * p.size + q.1)) (read state p.source q.1)
body_value job p nest state q cols loop =
    let element : Ref → ℕ = read_at job.arrays state (point_of q) in
    value_of_one element 16 nest.body (term_of p) loop.body
    ∙ value_of_term p element 16
    ∙ ap (λ at. ring_mul (read state p.stored at) (element (source_element p))) (matrix_element job.arrays p q cols.stored)
    ∙ ap (λ at. ring_mul (read state p.stored (q.0 * p.size + q.1)) (read state p.source at)) (vector_element job.arrays p.source q.1 variable_w q cols.source (at_w q))

-- a point of the nest is one of the loops
point_is : (job : Checked) (p : ProductShape) (nest : Nest) → HaveCols p job.arrays → IsLoop p nest → (state : State) (q : ℕ × ℕ) → nests.at_point job.arrays nest state (point_of q) ≡ at_point p state q
point_is job p nest cols loop state q =
    let value : ℕ = value_in job.arrays state (point_of q) nest.body in
    ap (λ (t : Ref). nests.with_changed nest.replace state t.array (element_of job.arrays t (point_of q)) value) loop.target
    ∙ ap (λ replace. nests.with_changed replace state p.target (element_of job.arrays (target_element p) (point_of q)) value) loop.grows
    ∙ ap (λ at. nests.with_changed false state p.target at value) (vector_element job.arrays p.target q.0 variable_v q cols.target (at_v q))
    ∙ ap (λ v. nests.with_changed false state p.target q.0 v) (body_value job p nest state q cols loop)

-- folds whose steps agree
fold_agree : {S X : Type 0} (f g : S → X → S) → ((s : S) (x : X) → f s x ≡ g s x) → (xs : List X) (s : S) → fold f s xs ≡ fold g s xs
fold_agree f g agree [] s = refl
fold_agree f g agree (x ∷ xs) s = ap (λ t. fold f t xs) (agree s x) ∙ fold_agree f g agree xs (g s x)

pub nests-dense : (job : Checked) (p : ProductShape) (first : State) → IsProduct job p → nests.end_state job first ≡ dense p first
nests-dense job p first is =
    let ns = one_of job.nests is.one in
    let nest : Nest = ns.first in
    let loop = loop_is p nest (all_at (IsNestOf p) job.nests 0 nest is.nests (ap (λ (xs : List Nest). slice_get xs 0) ns.is)) in
    let visit : State → List ℤ → State = nests.at_point job.arrays nest in
    ap (fold (nests.after_turn job) first) is.turns
    ∙ ap (λ (xs : List Nest). nests.after_found job.arrays first (slice_get xs 0)) ns.is
    ∙ ap (fold visit first) (points_are p nest loop)
    ∙ fold-map visit point_of first (points p.size)
    ∙ fold_agree (λ state q. visit state (point_of q)) (at_point p) (point_is job p nest (have_cols job p is) loop) (points p.size) first
