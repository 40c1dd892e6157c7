-- What a look-up among the lines, the leaves and the elements of a part gives.
use Rattle.std.proofs.Common.{◌≡◌, ℕ, zero, suc, ◌+◌, ◌<◌, ◌≤◌, Bool, true, false, cond, ◌==◌, ◌&&◌, ◌||◌, List, [], ◌∷◌, map, filter, All, Option, Some, None, sym, ap, ◌∙◌, refl, ⊎_elim, arith}
use Rattle.std.specs.List.{find, list_any, range_with_len}
use Rattle.std.specs.Map.{lookup}
use Rattle.std.specs.Option.{is_some, option_map}
use Rattle.std.proofs.lemmas.Bool.{cond-true, cond-false, eq-eqb, ne_eqb, cases_eq, false_from_ne_true, or_parts}
use Rattle.std.proofs.lemmas.List.Elements.{All-head, All-tail}
use Rattle.std.proofs.lemmas.List.Sums.{sum_by-cons}
use Rattle.bern_base.specs.declared.axes.Axis.{Axis}
use Rattle.bern_base.specs.declared.axes.Axis.TheVariants as axis
use Rattle.bern_base.specs.declared.matrix.Entry.{Entry}
use Rattle.format_model.specs.Axes.{index_of}
use Rattle.format_model.specs.Content.{in_line, leaf_on}
use Rattle.format_model.specs.Elements.{value_among}
use Rattle.format_model.specs.Stored.{has_entry_at, stands_at}
use Rattle.format_model.specs.Trees.{child_at}
use Rattle.format_model.proofs.LineLemmas.{count_of}

-- ---- among pairs of an index and what it has

pub found_once : {X : Type 0} (f : ℕ → X) (x : ℕ) (xs : List ℕ) → count_of x xs ≡ 1 → lookup (λ l. l == x) (map (λ l. (l, f l)) xs) ≡ Some (f x)
found_once f x [] once = absurd (omega (arith, once))
found_once {X} f x (y ∷ xs) once =
    let rest : Option X = lookup (λ l. l == x) (map (λ l. (l, f l)) xs) in ⊎_elim
    (λ (here : y ≡ x). cond-true (y == x) (Some (f y)) rest (eq-eqb y x here) ∙ ap (λ z. Some (f z)) here)
    (λ (other : y ≡ x → ⊥).
    let none : cond (y == x) 1 0 ≡ 0 = cond-false {A = ℕ} (y == x) 1 0 (ne_eqb y x other) in
    cond-false (y == x) (Some (f y)) rest (ne_eqb y x other) ∙ found_once f x xs (omega (arith, once, none, sum_by-cons (λ z. cond (z == x) 1 0) y xs)))
    (cases_eq y x)

pub found_nowhere : {X : Type 0} (f : ℕ → X) (x : ℕ) (xs : List ℕ) → count_of x xs ≡ 0 → lookup (λ l. l == x) (map (λ l. (l, f l)) xs) ≡ None
found_nowhere f x [] none = refl
found_nowhere {X} f x (y ∷ xs) none =
    let rest : Option X = lookup (λ l. l == x) (map (λ l. (l, f l)) xs) in
    let sum = sum_by-cons (λ z. cond (z == x) 1 0) y xs in ⊎_elim
    (λ (here : y ≡ x). absurd (omega (arith, none, sum, cond-true {A = ℕ} (y == x) 1 0 (eq-eqb y x here))))
    (λ (other : y ≡ x → ⊥). cond-false (y == x) (Some (f y)) rest (ne_eqb y x other) ∙ found_nowhere f x xs (omega (arith, none, sum)))
    (cases_eq y x)

-- ---- among entries

-- where an index tells whether an entry stands at an element
pub leaf_value : (a : Axis) (cols x row col : ℕ) (es : List Entry) → All (λ e. (index_of a cols e == x) ≡ stands_at row col e) es → child_at (map (leaf_on a cols) es) x ≡ value_among es row col
leaf_value a cols x row col [] tells = refl
leaf_value a cols x row col (e ∷ es) tells =
    let rest : child_at (map (leaf_on a cols) es) x ≡ value_among es row col = leaf_value a cols x row col es (All-tail (λ y. (index_of a cols y == x) ≡ stands_at row col y) e es tells) in
    ap (λ b. cond b (Some e.value) (child_at (map (leaf_on a cols) es) x)) (All-head (λ y. (index_of a cols y == x) ≡ stands_at row col y) e es tells)
    ∙ elim (stands_at row col e) as (λ b. cond b (Some e.value) (child_at (map (leaf_on a cols) es) x) ≡ option_map (λ y. y.value) (cond b (Some e) (find (stands_at row col) es))) [
      | true ↦ refl
      | false ↦ rest
    ]

-- in the line of its row, and in that of its column
pub row_value : (cols row col : ℕ) (es : List Entry) → child_at (map (leaf_on axis.Col cols) (in_line axis.Row cols row es)) col ≡ value_among es row col
row_value cols row col [] = refl
row_value cols row col (e ∷ es) =
    let kept : List Entry = in_line axis.Row cols row es in
    let rest : child_at (map (leaf_on axis.Col cols) kept) col ≡ value_among es row col = row_value cols row col es in
    elim (e.row == row) as (λ b. child_at (map (leaf_on axis.Col cols) (cond b (e ∷ kept) kept)) col ≡ option_map (λ y. y.value) (cond (b && e.col == col) (Some e) (find (stands_at row col) es))) [
      | true ↦ elim (e.col == col) as (λ b. cond b (Some e.value) (child_at (map (leaf_on axis.Col cols) kept) col) ≡ option_map (λ y. y.value) (cond b (Some e) (find (stands_at row col) es))) [
        | true ↦ refl
        | false ↦ rest
      ]
      | false ↦ rest
    ]

pub col_value : (cols row col : ℕ) (es : List Entry) → child_at (map (leaf_on axis.Row cols) (in_line axis.Col cols col es)) row ≡ value_among es row col
col_value cols row col [] = refl
col_value cols row col (e ∷ es) =
    let kept : List Entry = in_line axis.Col cols col es in
    let rest : child_at (map (leaf_on axis.Row cols) kept) row ≡ value_among es row col = col_value cols row col es in
    elim (e.col == col) as (λ b. child_at (map (leaf_on axis.Row cols) (cond b (e ∷ kept) kept)) row ≡ option_map (λ y. y.value) (cond (e.row == row && b) (Some e) (find (stands_at row col) es))) [
      | true ↦ elim (e.row == row) as (λ b. cond b (Some e.value) (child_at (map (leaf_on axis.Row cols) kept) row) ≡ option_map (λ y. y.value) (cond (b && true) (Some e) (find (stands_at row col) es))) [
        | true ↦ refl
        | false ↦ rest
      ]
      | false ↦ elim (e.row == row) as (λ b. child_at (map (leaf_on axis.Row cols) kept) row ≡ option_map (λ y. y.value) (cond (b && false) (Some e) (find (stands_at row col) es))) [
        | true ↦ rest
        | false ↦ rest
      ]
    ]

-- a line in which no entry lies
pub line_without : (p : Entry → Bool) (es : List Entry) → list_any p es ≡ false → filter p es ≡ []
line_without p [] none = refl
line_without p (e ∷ es) none =
    let parts = or_parts (p e) (list_any p es) none in
    cond-false (p e) (e ∷ filter p es) (filter p es) parts.0 ∙ line_without p es parts.1

-- ---- among elements

-- the one number whose element passes
pub find_only : {X : Type 0} (f : ℕ → X) (p : X → Bool) (k : ℕ) → p (f k) ≡ true → ((j : ℕ) → p (f j) ≡ true → j ≡ k) → (a n : ℕ) → a ≤ k → k < a + n → find p (map f (range_with_len a n)) ≡ Some (f k)
find_only f p k passes only a zero low high = absurd (omega (arith, low, high))
find_only {X} f p k passes only a (suc n) low high =
    let rest : Option X = find p (map f (range_with_len (a + 1) n)) in ⊎_elim
    (λ (here : a ≡ k). cond-true (p (f a)) (Some (f a)) rest (ap (λ j. p (f j)) here ∙ passes) ∙ ap (λ j. Some (f j)) here)
    (λ (other : a ≡ k → ⊥).
    cond-false (p (f a)) (Some (f a)) rest (false_from_ne_true (p (f a)) (λ hit. other (only a hit))) ∙ find_only f p k passes only (a + 1) n (omega (arith, low, other)) (omega (arith, high)))
    (cases_eq a k)

-- among those that pass another test, which answers alike at all that are looked for
pub find-filter : {X : Type 0} (p q : X → Bool) (b : Bool) → ((x : X) → p x ≡ true → q x ≡ b) → (xs : List X) → find p (filter q xs) ≡ cond b (find p xs) None
find-filter p q true alike [] = refl
find-filter p q false alike [] = refl
find-filter {X} p q b alike (x ∷ xs) =
    let kept : List X = filter q xs in
    let rest : find p kept ≡ cond b (find p xs) None = find-filter p q b alike xs in
    (elim (q x) as (λ c. (p x ≡ true → c ≡ b) → find p (cond c (x ∷ kept) kept) ≡ cond b (cond (p x) (Some x) (find p xs)) None) [
      | true ↦ (elim (p x) as (λ h. (h ≡ true → true ≡ b) → cond h (Some x) (find p kept) ≡ cond b (cond h (Some x) (find p xs)) None) [
        | true ↦ (λ same. sym (cond-true b (Some x) None (sym (same refl))))
        | false ↦ (λ same. rest)
      ])
      | false ↦ (elim (p x) as (λ h. (h ≡ true → false ≡ b) → find p kept ≡ cond b (cond h (Some x) (find p xs)) None) [
        | true ↦ (λ same. rest ∙ cond-false b (find p xs) None (sym (same refl)) ∙ sym (cond-false b (Some x) None (sym (same refl))))
        | false ↦ (λ same. rest)
      ])
    ]) (alike x)

-- an element stands there where a look-up finds one
pub has_entry-value_among : (es : List Entry) (row col : ℕ) → has_entry_at es row col ≡ is_some (value_among es row col)
has_entry-value_among [] row col = refl
has_entry-value_among (e ∷ es) row col =
    elim (stands_at row col e) as (λ b. (b || has_entry_at es row col) ≡ is_some (option_map (λ y. y.value) (cond b (Some e) (find (stands_at row col) es)))) [
      | true ↦ refl
      | false ↦ has_entry-value_among es row col
    ]
