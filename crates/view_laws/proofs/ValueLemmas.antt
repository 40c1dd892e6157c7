-- An element of a rank's part has the value of the array's element.
use Rattle.std.proofs.Common.{◌≡◌, ℕ, ◌+◌, ◌*◌, ◌/◌, ◌%◌, ◌^◌, ◌<◌, ◌==◌, ◌&&◌, Bool, true, false, cond, List, [], ◌∷◌, map, filter, refl, sym, ap, ◌∙◌, subst, ⊎_elim, arith}
use Rattle.std.specs.List.{All, sum_by}
use Rattle.std.proofs.lemmas.Bool.{cases_eq, eq-eqb, ne_eqb}
use Rattle.std.proofs.lemmas.List.Elements.{All-filter, All-head, All-map, All-tail, All-weaker}
use Rattle.std.proofs.lemmas.List.Sums.{sum_by-cons}
use Rattle.std.proofs.lemmas.Nat.{div-mul-add, mod-mul-add}
use Rattle.bern_base.specs.Matrix.{IsInside, element, number}
use Rattle.bern_base.specs.declared.axes.Axis.{Axis}
use Rattle.bern_base.specs.declared.axes.Axis.TheVariants as axis
use Rattle.bern_base.specs.declared.matrix.Entry.{Entry}
use Rattle.format_model.specs.Stored.{stands_at}
use Rattle.placement.specs.Part.{is_owned, localized}
use Rattle.placement.specs.Placement.{Triple}

-- the number of an element tells its row and column
tells : (cols row col : ℕ) (e : Entry) → col < cols → e.col < cols → (number cols e == row * cols + col) ≡ stands_at row col e
tells cols row col e low inside = ⊎_elim
    (λ (same : number cols e ≡ row * cols + col).
    let row_is : e.row ≡ row = sym (div-mul-add e.row cols e.col inside) ∙ ap (λ n. n / cols) same ∙ div-mul-add row cols col low in
    let col_is : e.col ≡ col = sym (mod-mul-add e.row cols e.col inside) ∙ ap (λ n. n % cols) same ∙ mod-mul-add row cols col low in
    eq-eqb (number cols e) (row * cols + col) same ∙ sym (ap (λ b. b && (e.col == col)) (eq-eqb e.row row row_is) ∙ eq-eqb e.col col col_is))
    (λ (other : number cols e ≡ row * cols + col → ⊥). ne_eqb (number cols e) (row * cols + col) other ∙ sym (⊎_elim
    (λ (row_is : e.row ≡ row). ap (λ b. b && (e.col == col)) (eq-eqb e.row row row_is)
    ∙ ne_eqb e.col col (λ col_is. other (ap (λ n. n * cols + e.col) row_is ∙ ap (λ n. row * cols + n) col_is)))
    (λ (away : e.row ≡ row → ⊥). ap (λ b. b && (e.col == col)) (ne_eqb e.row row away))
    (cases_eq e.row row)))
    (cases_eq (number cols e) (row * cols + col))

-- what is added of an entry by a test
abbrev counted : (Entry → Bool) → Entry → ℕ
counted test e = cond (test e) e.value 0

sum_same : (f g : Entry → ℕ) (es : List Entry) → All (λ e. f e ≡ g e) es → sum_by f es ≡ sum_by g es
sum_same f g [] all = refl
sum_same f g (e ∷ es) all =
    sum_by-cons f e es ∙ ap (λ n. n + sum_by f es) (All-head (λ e. f e ≡ g e) e es all)
    ∙ ap (λ n. g e + n) (sum_same f g es (All-tail (λ e. f e ≡ g e) e es all)) ∙ sym (sum_by-cons g e es)

-- the value of an element, by its row and column
element_by : (rows cols : ℕ) (es : List Entry) (row col : ℕ) → All (IsInside rows cols) es → col < cols → element cols es (row * cols + col) ≡ sum_by (counted (stands_at row col)) es % 2 ^ 64
element_by rows cols es row col all low =
    ap (λ n. n % 2 ^ 64) (sum_same (λ e. cond (number cols e == row * cols + col) e.value 0) (counted (stands_at row col)) es
    (All-weaker (IsInside rows cols) (λ e. cond (number cols e == row * cols + col) e.value 0 ≡ counted (stands_at row col) e)
    (λ e inside. ap (λ b. cond b e.value 0) (tells cols row col e low inside.1)) es all))

-- what is kept and moved adds up to what all add up to
kept_sum : (kept : Entry → Bool) (moved : Entry → Entry) (there here : Entry → Bool) → ((e : Entry) → (moved e).value ≡ e.value) → (es : List Entry) → All (λ e. (kept e && there (moved e)) ≡ here e) es →
    sum_by (counted there) (map moved (filter kept es)) ≡ sum_by (counted here) es
kept_sum kept moved there here same [] all = refl
kept_sum kept moved there here same (e ∷ es) all =
    let first : (kept e && there (moved e)) ≡ here e = All-head (λ e. (kept e && there (moved e)) ≡ here e) e es all in
    let rest : sum_by (counted there) (map moved (filter kept es)) ≡ sum_by (counted here) es = kept_sum kept moved there here same es (All-tail (λ e. (kept e && there (moved e)) ≡ here e) e es all) in
    let both : (b : Bool) → (b && there (moved e)) ≡ here e → sum_by (counted there) (map moved (cond b (e ∷ filter kept es) (filter kept es))) ≡ counted here e + sum_by (counted here) es = elim [
      | true ↦ (λ is. sum_by-cons (counted there) (moved e) (map moved (filter kept es))
          ∙ ap (λ n. cond (there (moved e)) n 0 + sum_by (counted there) (map moved (filter kept es))) (same e)
          ∙ ap (λ b. cond b e.value 0 + sum_by (counted there) (map moved (filter kept es))) is ∙ ap (λ n. counted here e + n) rest)
      | false ↦ (λ is. let none : counted here e ≡ 0 = ap (λ b. cond b e.value 0) (sym is) in omega (arith, none, rest))
    ] in both (kept e) first ∙ sym (sum_by-cons (counted here) e es)

pub value_kept : (a : Axis) (ts : List Triple) (e : Entry) → (localized a ts e).value ≡ e.value
value_kept axis.Row ts e = refl
value_kept axis.Col ts e = refl
value_kept axis.Both ts e = refl

pub small_kept : (a : Axis) (ts : List Triple) (rank : ℕ) (es : List Entry) → All (λ e. e.value < 2 ^ 64) es → All (λ e. e.value < 2 ^ 64) (map (localized a ts) (filter (is_owned a ts rank) es))
small_kept a ts rank es all =
    All-map (λ e. e.value < 2 ^ 64) (localized a ts) (filter (is_owned a ts rank) es)
    (All-weaker (λ e. e.value < 2 ^ 64) (λ e. (localized a ts e).value < 2 ^ 64) (λ e small. subst (λ n. n < 2 ^ 64) (sym (value_kept a ts e)) small) (filter (is_owned a ts rank) es)
    (All-filter (is_owned a ts rank) (λ e. e.value < 2 ^ 64) es all))

-- an element has one value in the part and in the array, where each entry stands at it in both or in neither
pub element_same : (a : Axis) (ts : List Triple) (rank rows cols own_rows own : ℕ) (es : List Entry) (row col r c : ℕ) → All (IsInside rows cols) es →
    All (IsInside own_rows own) (map (localized a ts) (filter (is_owned a ts rank) es)) → col < cols → c < own →
    All (λ e. (is_owned a ts rank e && stands_at r c (localized a ts e)) ≡ stands_at row col e) es →
    element own (map (localized a ts) (filter (is_owned a ts rank) es)) (r * own + c) ≡ element cols es (row * cols + col)
element_same a ts rank rows cols own_rows own es row col r c all part low own_low told =
    element_by own_rows own (map (localized a ts) (filter (is_owned a ts rank) es)) r c part own_low
    ∙ ap (λ n. n % 2 ^ 64) (kept_sum (is_owned a ts rank) (localized a ts) (stands_at r c) (stands_at row col) (value_kept a ts) es told)
    ∙ sym (element_by rows cols es row col all low)
