-- In ordered levels indices rise.
use Rattle.std.proofs.Common.{◌≡◌, ℕ, suc, ◌+◌, ◌*◌, ◌<◌, ◌≤◌, Bool, true, false, cond, ltb, ◌==◌, List, [], ◌∷◌, ◌++◌, get_or, map, filter, All, ℤ, pos, negsuc, ◌+ℤ◌, sym, ap, ◌∙◌, subst, refl, ⊎_elim, arith}
use Rattle.std.specs.List.{AllPairs, range_with_len}
use Rattle.std.specs.Prelude.{◌<ℤ◌, slice_index}
use Rattle.std.proofs.Math.Nat.{mul-le-mul_right}
use Rattle.std.proofs.lemmas.Bool.{cases_lt, eqb-true, false≢true}
use Rattle.std.proofs.lemmas.Int.{ints}
use Rattle.std.proofs.lemmas.List.{get_or-map}
use Rattle.std.proofs.lemmas.List.Elements.{All-append, All-cons, All-map, All-nil, filter_passes, All-filter}
use Rattle.std.proofs.lemmas.List.FromFn.{get_or-range_with_len, length-range_with_len}
use Rattle.std.proofs.lemmas.List.Kept.{AllPairs-cons, AllPairs-filter, AllPairs-from_increasing}
use Rattle.std.proofs.lemmas.List.{length-map}
use Rattle.bern_base.specs.Matrix.{IsMatrix, number}
use Rattle.bern_base.specs.declared.axes.Axis.{Axis}
use Rattle.bern_base.specs.declared.axes.Axis.TheVariants as axis
use Rattle.bern_base.specs.declared.matrix.Entry.{Entry}
use Rattle.bern_base.specs.declared.matrix.Matrix.{Matrix}
use Rattle.bern_base.specs.declared.shape.Shape.TheVariants as shape
use Rattle.format_model.specs.Axes.{across, index_of, value_on}
use Rattle.format_model.specs.Content.{all_lines, columns_of, diagonal_columns, diagonal_line, filled_lines, full_line, in_line, leaf_on, lines_of, local_rows, rows_by_count}
use Rattle.format_model.specs.Laws.{IsSide, OrderedLevelsRise}
use Rattle.format_model.proofs.ContentLemmas.{row_side}

-- ---- pairs

pub pairs-tail : {X : Type 0} (R : X → X → Type 0) (x : X) (xs : List X) → AllPairs R (x ∷ xs) → AllPairs R xs
pairs-tail R x xs pairs i j d up within = pairs (suc i) (suc j) d (omega (arith, up)) (omega (arith, within))

pub pairs-head : {X : Type 0} (R : X → X → Type 0) (x : X) (xs : List X) → AllPairs R (x ∷ xs) → All (R x) xs
pairs-head R x xs pairs k d within = pairs 0 (suc k) d (omega arith) (omega (arith, within))

pairs-nil : {X : Type 0} (R : X → X → Type 0) → AllPairs R []
pairs-nil R i j d up within = absurd (omega (arith, within))

pub pairs-map : {X Y : Type 0} (R : Y → Y → Type 0) (f : X → Y) (xs : List X) → AllPairs (λ a b. R (f a) (f b)) xs → AllPairs R (map f xs)
pairs-map R f [] pairs = pairs-nil R
pairs-map {X} R f (x ∷ xs) pairs =
    let before : X → X → Type 0 = λ a b. R (f a) (f b) in
    AllPairs-cons R (f x) (map f xs) (All-map (R (f x)) f xs (pairs-head before x xs pairs)) (pairs-map R f xs (pairs-tail before x xs pairs))

-- each index of rising ones, with what it has
rise-with : {X : Type 0} (f : ℕ → X) (xs : List ℕ) → AllPairs (λ a b. a < b) xs → AllPairs {X = ℕ × X} (λ a b. a.0 < b.0) (map (λ l. (l, f l)) xs)
rise-with f xs rise = pairs-map (λ a b. a.0 < b.0) (λ l. (l, f l)) xs rise

range_rises : (n : ℕ) → AllPairs (λ a b. a < b) (range_with_len 0 n)
range_rises n i j d up within =
    let below : j < n = subst (λ k. j < k) (length-range_with_len 0 n) within in
    rw (get_or-range_with_len 0 n i d (omega (arith, up, below)), get_or-range_with_len 0 n j d below) (omega (arith, up))

-- ---- entries of a line

pub numbers_rise : (m : Matrix) → IsMatrix m → AllPairs (λ a b. number m.cols a < number m.cols b) m.entries
numbers_rise m is i j d up within =
    let all = AllPairs-from_increasing (map (number m.cols) m.entries) is.rising i j (number m.cols d) up (subst (λ n. j < n) (sym (length-map m.entries (number m.cols))) within) in
    rw (sym (get_or-map (number m.cols) m.entries i d (number m.cols d) (omega (arith, up, within))), sym (get_or-map (number m.cols) m.entries j d (number m.cols d) within)) all

-- of two entries in one line, the later has the greater index across
later_across : (a : Axis) (cols l : ℕ) (x y : Entry) → IsSide a → index_of a cols x ≡ l → index_of a cols y ≡ l → number cols x < number cols y → index_of (across a) cols x < index_of (across a) cols y
later_across axis.Row cols l x y side xl yl up = let same : x.row * cols ≡ y.row * cols = ap (λ r. r * cols) (xl ∙ sym yl) in omega (arith, same, up)
later_across axis.Col cols l x y side xl yl up = ⊎_elim
    (λ (less : x.row < y.row). less)
    (λ (more : y.row ≤ x.row). let product : y.row * cols ≤ x.row * cols = mul-le-mul_right cols more in absurd (omega (arith, xl, yl, up, product)))
    (cases_lt x.row y.row)
later_across axis.Both cols l x y side xl yl up = absurd (side refl)

line_rises : (a : Axis) (m : Matrix) (l : ℕ) → IsSide a → IsMatrix m → AllPairs (λ x y. x.0 < y.0) (map (leaf_on (across a) m.cols) (in_line a m.cols l m.entries))
line_rises a m l side is =
    let here : Entry → Bool = λ e. index_of a m.cols e == l in
    let passes : All (λ e. here e ≡ true) (filter here m.entries) = filter_passes here m.entries in
    pairs-map (λ x y. x.0 < y.0) (leaf_on (across a) m.cols) (filter here m.entries)
    (λ i j d up within.
    later_across a m.cols l _ _ side (eqb-true (index_of a m.cols (get_or (filter here m.entries) i d)) l (passes i d (omega (arith, up, within)))) (eqb-true (index_of a m.cols (get_or (filter here m.entries) j d)) l (passes j d within))
    (AllPairs-filter (λ x y. number m.cols x < number m.cols y) here m.entries (numbers_rise m is) i j d up within))

lines_rise : (a : Axis) (m : Matrix) (lines : List ℕ) → IsSide a → IsMatrix m → All (λ line. AllPairs (λ x y. x.0 < y.0) line.1) (lines_of a m lines)
lines_rise a m lines side is =
    All-map (λ line. AllPairs (λ x y. x.0 < y.0) line.1) (λ l. (l, map (leaf_on (across a) m.cols) (in_line a m.cols l m.entries))) lines (λ k d within. line_rises a m _ side is)

-- ---- columns of diagonals

-- a column of a later diagonal lies beyond
one_beyond : (cols g k : ℕ) (offset z w : ℤ) → pos g +ℤ offset ≡ pos k → offset <ℤ z → pos g +ℤ z ≡ w → All (λ c. k < c) (columns_of cols w)
one_beyond cols g k offset z (pos c) at up is = All-filter (λ x. ltb x cols) (λ x. k < x) (c ∷ []) (All-cons (λ x. k < x) c [] (omega (arith, ints, up, at, is)) (All-nil (λ x. k < x)))
one_beyond cols g k offset z (negsuc n) at up is = All-nil (λ c. k < c)

columns_beyond : (cols g k : ℕ) (offset : ℤ) (offsets : List ℤ) → pos g +ℤ offset ≡ pos k → All (λ z. offset <ℤ z) offsets → All (λ c. k < c) (diagonal_columns cols offsets g)
columns_beyond cols g k offset [] at beyond = All-nil (λ c. k < c)
columns_beyond cols g k offset (z ∷ offsets) at beyond =
    All-append (λ c. k < c) (columns_of cols (pos g +ℤ z)) (diagonal_columns cols offsets g)
    (one_beyond cols g k offset z (pos g +ℤ z) at (beyond 0 z (omega arith)) refl)
    (columns_beyond cols g k offset offsets at (λ i d within. beyond (suc i) d (omega (arith, within))))

first_column : (cols g : ℕ) (offset w : ℤ) (offsets : List ℤ) → pos g +ℤ offset ≡ w → All (λ z. offset <ℤ z) offsets → AllPairs (λ a b. a < b) (diagonal_columns cols offsets g) →
    AllPairs (λ a b. a < b) (columns_of cols w ++ diagonal_columns cols offsets g)
first_column cols g offset (pos k) offsets at beyond rise =
    elim (ltb k cols) as (λ b. AllPairs (λ x y. x < y) (cond b (k ∷ []) [] ++ diagonal_columns cols offsets g)) [
      | true ↦ AllPairs-cons (λ x y. x < y) k (diagonal_columns cols offsets g) (columns_beyond cols g k offset offsets at beyond) rise
      | false ↦ rise
    ]
first_column cols g offset (negsuc n) offsets at beyond rise = rise

columns_rise : (cols g : ℕ) (offsets : List ℤ) → AllPairs (λ a b. a <ℤ b) offsets → AllPairs (λ a b. a < b) (diagonal_columns cols offsets g)
columns_rise cols g [] rise = pairs-nil (λ a b. a < b)
columns_rise cols g (offset ∷ offsets) rise =
    first_column cols g offset (pos g +ℤ offset) offsets refl (pairs-head (λ a b. a <ℤ b) offset offsets rise) (columns_rise cols g offsets (pairs-tail (λ a b. a <ℤ b) offset offsets rise))

-- ---- the table

pub vector_rises : (m : Matrix) → m.cols ≡ 1 → IsMatrix m → AllPairs (λ a b. a.0 < b.0) (map (leaf_on axis.Row m.cols) m.entries)
vector_rises m one is =
    pairs-map (λ x y. x.0 < y.0) (leaf_on axis.Row m.cols) m.entries
    (λ i j d up within.
    let a : Entry = get_or m.entries i d in
    let b : Entry = get_or m.entries j d in
    let first : a.row * m.cols ≡ a.row = ap (λ c. a.row * c) one ∙ omega arith in
    let second : b.row * m.cols ≡ b.row = ap (λ c. b.row * c) one ∙ omega arith in
    let low : a.col < m.cols = (is.inside i d (omega (arith, up, within))).1 in
    let also : b.col < m.cols = (is.inside j d within).1 in
    let less : a.row * m.cols + a.col < b.row * m.cols + b.col = numbers_rise m is i j d up within in
    omega (arith, one, first, second, low, also, less))

pub ordered_levels-rise : OrderedLevelsRise
ordered_levels-rise shape.DenseOne globals order m is suits = λ yes. rise-with (λ row. value_on axis.Row m row 0) (range_with_len 0 m.rows) (range_rises m.rows)
ordered_levels-rise shape.PackedOne globals order m is suits = λ yes. vector_rises m suits is
ordered_levels-rise shape.ListOne globals order m is suits = λ yes. absurd (false≢true yes)
ordered_levels-rise (shape.DenseDense outer) globals order m is suits = (
  (λ yes. rise-with (λ l. (full_line outer m l).1) (all_lines outer m) (range_rises _)),
  (λ yes. All-map (λ line. AllPairs (λ a b. a.0 < b.0) line.1) (full_line outer m) (all_lines outer m) (λ k d within. rise-with (value_on outer m _) (all_lines (across outer) m) (range_rises _))),
)
ordered_levels-rise (shape.DensePacked outer) globals order m is suits =
    ((λ yes. rise-with (λ l. map (leaf_on (across outer) m.cols) (in_line outer m.cols l m.entries)) (all_lines outer m) (range_rises _)), (λ yes. lines_rise outer m (all_lines outer m) suits is))
ordered_levels-rise (shape.PackedPacked outer) globals order m is suits = (
  (λ yes. rise-with (λ l. map (leaf_on (across outer) m.cols) (in_line outer m.cols l m.entries)) (filled_lines outer m) (AllPairs-filter (λ a b. a < b) _ (all_lines outer m) (range_rises _))),
  (λ yes. lines_rise outer m (filled_lines outer m) suits is),
)
ordered_levels-rise shape.ListTwo globals order m is suits = λ yes. absurd (false≢true yes)
ordered_levels-rise shape.Jagged globals order m is suits = ((λ yes. absurd (false≢true yes)), (λ yes. lines_rise axis.Row m (rows_by_count m) row_side is))
ordered_levels-rise (shape.Diagonal offsets) globals order m is suits = (
  (λ yes. rise-with (λ l. (diagonal_line offsets globals m l).1) (range_with_len 0 m.rows) (range_rises m.rows)),
  (λ yes. All-map (λ line. AllPairs (λ a b. a.0 < b.0) line.1) (diagonal_line offsets globals m) (range_with_len 0 m.rows)
      (λ k d within. rise-with (value_on axis.Row m _) (diagonal_columns m.cols offsets (slice_index globals _)) (columns_rise m.cols (slice_index globals _) offsets suits))),
)
ordered_levels-rise (shape.Permute file) globals order m is suits = ((λ yes. absurd (false≢true yes)), (λ yes. lines_rise axis.Row m (local_rows globals order) row_side is))
