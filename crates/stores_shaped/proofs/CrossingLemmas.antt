-- Rising offsets, and the columns in which a row crosses their diagonals.
use Rattle.std.proofs.Common.{◌≡◌, ℕ, zero, suc, ◌+◌, ◌-◌, ◌^◌, ◌<◌, ◌≤◌, ltb, List, [], ◌∷◌, ◌++◌, length, length-append, length-drop, map, get_or, take, drop, ℤ, pos, negsuc, ◌+ℤ◌, refl, sym, ap, ◌∙◌, subst, append_assoc, ⊎_elim, below_more, arith}
use Rattle.std.specs.Prelude.{◌<ℤ◌, ◌≤ℤ◌}
use Rattle.std.specs.List.{All, AllPairs, sum_by}
use Rattle.std.proofs.lemmas.Bool.{cases_eq, cases_lt, cond-true, cond-false, le-ltb, lt-ltb}
use Rattle.std.proofs.lemmas.Int.{ints}
use Rattle.std.proofs.Math.ListN.{length-take}
use Rattle.std.proofs.Math.Seq.{get_or-append_seam}
use Rattle.std.proofs.lemmas.List.{get_or-drop, get_or-take, get_or_append_left, length-map, map-append, take_more}
use Rattle.std.proofs.lemmas.List.Sums.{sum_by-append, sum_by-cons, sum_by-take-le}
use lib.IntN.{nat_abs}
use Rattle.bern_base.specs.Matrix.{number}
use Rattle.bern_base.specs.declared.matrix.Matrix.{Matrix}
use Rattle.format_model.specs.Content.{columns_of, diagonal_columns}
use Rattle.stores_shaped.specs.Crossings.{AreWindows, Crosses, IsBelow, IsSeen}
use Rattle.stores_shaped.specs.Diagonals.{IsOffset, IsWindow, column_on, diagonal_count, index_of_int, offset_at}

-- ---- rising offsets

pub offsets_up : (offsets : List ℤ) (i j : ℕ) → AllPairs (λ a b. a <ℤ b) offsets → i ≤ j → j < length offsets → offset_at offsets i ≤ℤ offset_at offsets j
offsets_up offsets i j rise up within = ⊎_elim
    (λ (same : i ≡ j). subst (λ k. offset_at offsets i ≤ℤ offset_at offsets k) same (omega (arith, ints)))
    (λ (other : i ≡ j → ⊥). let less : offset_at offsets i <ℤ offset_at offsets j = rise i j (pos 0) (omega (arith, other)) within in omega (arith, ints, less))
    (cases_eq i j)

-- each is at least its place above the first
offsets_spread : (offsets : List ℤ) → AllPairs (λ a b. a <ℤ b) offsets → (k : ℕ) → k < length offsets → (offset_at offsets 0 +ℤ pos k) ≤ℤ offset_at offsets k
offsets_spread offsets rise zero within = omega (arith, ints)
offsets_spread offsets rise (suc k) within =
    let h : (offset_at offsets 0 +ℤ pos k) ≤ℤ offset_at offsets k = offsets_spread offsets rise k (omega arith) in
    let less : offset_at offsets k <ℤ offset_at offsets (suc k) = rise k (suc k) (pos 0) (omega arith) within in omega (arith, ints, h, less)

-- so there are no more than their bounds leave room for
pub few_offsets : (offsets : List ℤ) → AllPairs (λ a b. a <ℤ b) offsets → All IsOffset offsets → length offsets < 2 ^ 32
few_offsets [] rise small = omega arith
few_offsets (offset ∷ offsets) rise small =
    let n : ℕ = length offsets in
    let spread : (offset +ℤ pos n) ≤ℤ offset_at (offset ∷ offsets) n = offsets_spread (offset ∷ offsets) rise n (omega arith) in
    let least = small 0 (pos 0) (omega arith) in
    let most = small n (pos 0) (omega arith) in omega (arith, ints, spread, least.0, most.1)

-- ---- columns

columns_left : (cols : ℕ) (z : ℤ) → z <ℤ pos 0 → columns_of cols z ≡ []
columns_left cols (pos c) left = absurd (omega (arith, ints, left))
columns_left cols (negsuc n) left = refl

columns_in : (cols : ℕ) (z : ℤ) → pos 0 ≤ℤ z → z <ℤ pos cols → columns_of cols z ≡ index_of_int z ∷ []
columns_in cols (pos c) low high = cond-true (ltb c cols) (c ∷ []) [] (lt-ltb c cols (omega (arith, ints, high)))
columns_in cols (negsuc n) low high = absurd (omega (arith, ints, low))

columns_right : (cols : ℕ) (z : ℤ) → pos cols ≤ℤ z → columns_of cols z ≡ []
columns_right cols (pos c) right = cond-false (ltb c cols) (c ∷ []) [] (le-ltb c cols (omega (arith, ints, right)))
columns_right cols (negsuc n) right = absurd (omega (arith, ints, right))

-- the columns of a row are those of its window
pub window_columns : (cols : ℕ) (offsets : List ℤ) (global first count : ℕ) → IsWindow cols offsets global first count
    → diagonal_columns cols offsets global ≡ map (column_on global) (take count (drop first offsets))
window_columns cols [] global zero zero w = refl
window_columns cols [] global zero (suc count) w = absurd (omega (arith, w.within))
window_columns cols [] global (suc first) count w = absurd (omega (arith, w.within))
window_columns cols (offset ∷ offsets) global (suc first) count w =
    ap (λ xs. xs ++ diagonal_columns cols offsets global) (columns_left cols (pos global +ℤ offset) (w.before 0 (omega arith)))
    ∙ window_columns cols offsets global first count (record {
      within = omega (arith, w.within);
      before = λ k low. w.before (suc k) (omega arith);
      low = λ k from to. w.low (suc k) (omega arith) (omega arith);
      high = λ k from to. w.high (suc k) (omega arith) (omega arith);
      after = λ k from to. w.after (suc k) (omega arith) (omega arith);
    })
window_columns cols (offset ∷ offsets) global zero (suc count) w =
    ap (λ xs. xs ++ diagonal_columns cols offsets global) (columns_in cols (pos global +ℤ offset) (w.low 0 (omega arith) (omega arith)) (w.high 0 (omega arith) (omega arith)))
    ∙ ap (λ xs. column_on global offset ∷ xs) (window_columns cols offsets global zero count (record {
      within = omega (arith, w.within);
      before = λ k low. absurd (omega arith);
      low = λ k from to. w.low (suc k) (omega arith) (omega arith);
      high = λ k from to. w.high (suc k) (omega arith) (omega arith);
      after = λ k from to. w.after (suc k) (omega arith) (omega arith);
    }))
window_columns cols (offset ∷ offsets) global zero zero w =
    ap (λ xs. xs ++ diagonal_columns cols offsets global) (columns_right cols (pos global +ℤ offset) (w.after 0 (omega arith) (omega arith)))
    ∙ window_columns cols offsets global zero zero (record {
      within = omega arith;
      before = λ k low. absurd (omega arith);
      low = λ k from to. absurd (omega arith);
      high = λ k from to. absurd (omega arith);
      after = λ k from to. w.after (suc k) (omega arith) (omega arith);
    })

pub length_crossed : (cols : ℕ) (offsets : List ℤ) (global first count : ℕ) → IsWindow cols offsets global first count → length (take count (drop first offsets)) ≡ count
length_crossed cols offsets global first count w = omega (arith, length-take count (drop first offsets), length-drop first offsets, w.within)

-- ---- entries that have been passed

pub seen_later : (m : Matrix) (n later at : ℕ) → IsSeen m n at → n ≤ later → IsSeen m later at
seen_later m n later at seen up = record {
  within = seen.within;
  before = λ k low. let less : get_or (map (number m.cols) m.entries) k 0 < n = seen.before k low in omega arith;
}

-- ---- windows

pub abs_index : (z : ℤ) → pos 0 ≤ℤ z → nat_abs z ≡ index_of_int z
abs_index (pos n) low = refl
abs_index (negsuc n) low = absurd (omega (arith, ints, low))

-- the diagonals from those that cross the row at or after its first column, up to those that cross it after its last
pub window_of : (cols : ℕ) (offsets : List ℤ) (global first end : ℕ) (left right : ℤ) → IsBelow offsets left first → IsBelow offsets right end
    → (pos global +ℤ left) ≡ pos 0 → (pos global +ℤ right) ≡ pos cols → (first ≤ end) × IsWindow cols offsets global first (end - first)
window_of cols offsets global first end left right low high at_left at_right =
    let ordered : first ≤ end = ⊎_elim
    (λ (less : end < first).
    let a : offset_at offsets end <ℤ left = low.before end less in
    let b : right ≤ℤ offset_at offsets end = high.after end (omega arith) (omega (arith, low.within)) in absurd (omega (arith, ints, a, b, at_left, at_right)))
    (λ (more : first ≤ end). more)
    (cases_lt end first) in (
      ordered,
      record {
        within = omega (arith, high.within);
        before = λ k below. let a = low.before k below in omega (arith, ints, a, at_left);
        low = λ k from to. let a = low.after k from (omega (arith, high.within)) in omega (arith, ints, a, at_left);
        high = λ k from to. let a = high.before k (omega arith) in omega (arith, ints, a, at_right);
        after = λ k from to. let a = high.after k (omega arith) to in omega (arith, ints, a, at_right);
      },
    )

window_length : (cols : ℕ) (offsets : List ℤ) (global first count : ℕ) → IsWindow cols offsets global first count → length (diagonal_columns cols offsets global) ≡ count
window_length cols offsets global first count w =
    ap length (window_columns cols offsets global first count w) ∙ length-map (take count (drop first offsets)) (column_on global) ∙ length_crossed cols offsets global first count w

-- the elements of one row more
pub windows_total : (cols : ℕ) (offsets : List ℤ) (globals : List ℕ) (row : ℕ) (firsts starts : List ℕ) (first count : ℕ) → AreWindows cols offsets globals row firsts starts → row < length globals
    → IsWindow cols offsets (get_or globals row 0) first count → get_or starts row 0 + count ≡ diagonal_count cols offsets (take (row + 1) globals)
windows_total cols offsets globals row firsts starts first count a low w =
    let size : ℕ → ℕ = λ global. length (diagonal_columns cols offsets global) in
    let more : diagonal_count cols offsets (take (row + 1) globals) ≡ sum_by size (take row globals) + sum_by size (get_or globals row 0 ∷ []) =
    ap (sum_by size) (take_more globals row 0 low) ∙ sum_by-append size (take row globals) (get_or globals row 0 ∷ []) in
    omega (arith, more, sum_by-cons size (get_or globals row 0) [], window_length cols offsets (get_or globals row 0) first count w, a.total)

pub windows_most : (cols : ℕ) (offsets : List ℤ) (globals : List ℕ) (n : ℕ) → diagonal_count cols offsets (take n globals) ≤ diagonal_count cols offsets globals
windows_most cols offsets globals n = sum_by-take-le (λ global. length (diagonal_columns cols offsets global)) globals n

pub windows_more : (cols : ℕ) (offsets : List ℤ) (globals : List ℕ) (row : ℕ) (firsts starts : List ℕ) (first total : ℕ) → AreWindows cols offsets globals row firsts starts → row < length globals
    → get_or starts row 0 ≤ total → IsWindow cols offsets (get_or globals row 0) first (total - get_or starts row 0)
    → AreWindows cols offsets globals (row + 1) (firsts ++ first ∷ []) (starts ++ total ∷ [])
windows_more cols offsets globals row firsts starts first total a low up w =
    let begins : List ℕ = starts ++ total ∷ [] in
    let old : (k : ℕ) → k < row + 1 → get_or begins k 0 ≡ get_or starts k 0 = λ k below. get_or_append_left starts (total ∷ []) 0 k (omega (arith, a.starts_long)) in
    let last : get_or begins (row + 1) 0 ≡ total = ap (λ n. get_or begins n 0) (sym a.starts_long) ∙ get_or-append_seam starts total [] 0 in
    let kept : (k : ℕ) → k < row → get_or (firsts ++ first ∷ []) k 0 ≡ get_or firsts k 0 = λ k below. get_or_append_left firsts (first ∷ []) 0 k (omega (arith, a.firsts_long)) in
    let new : get_or (firsts ++ first ∷ []) row 0 ≡ first = ap (λ n. get_or (firsts ++ first ∷ []) n 0) (sym a.firsts_long) ∙ get_or-append_seam firsts first [] 0 in
    let here : get_or begins row 0 ≡ get_or starts row 0 = old row (omega arith) in record {
      firsts_long = omega (arith, length-append firsts (first ∷ []), a.firsts_long);
      starts_long = omega (arith, length-append starts (total ∷ []), a.starts_long);
      begin = old 0 (omega arith) ∙ a.begin;
      order = below_more (λ k. get_or begins k 0 ≤ get_or begins (k + 1) 0) row (λ k below. omega (arith, old k (omega arith), old (k + 1) (omega arith), a.order k below)) (omega (arith, here, last, up));
      windows = below_more (λ k. IsWindow cols offsets (get_or globals k 0) (get_or (firsts ++ first ∷ []) k 0) (get_or begins (k + 1) 0 - get_or begins k 0)) row
          (λ k below. subst (λ f. IsWindow cols offsets (get_or globals k 0) f (get_or begins (k + 1) 0 - get_or begins k 0)) (sym (kept k below))
          (subst (λ n. IsWindow cols offsets (get_or globals k 0) (get_or firsts k 0) n) (omega (arith, old k (omega arith), old (k + 1) (omega arith))) (a.windows k below)))
          (subst (λ f. IsWindow cols offsets (get_or globals row 0) f (get_or begins (row + 1) 0 - get_or begins row 0)) (sym new)
          (subst (λ n. IsWindow cols offsets (get_or globals row 0) first n) (omega (arith, here, last)) w));
      total = omega (arith, last, up, windows_total cols offsets globals row firsts starts first (total - get_or starts row 0) a low w);
    }

-- ---- the elements of a row

-- inside a list no place shows the value that stands for those outside
pub same_default : {X : Type 0} (xs : List X) (k : ℕ) (d e : X) → k < length xs → get_or xs k d ≡ get_or xs k e
same_default [] k d e within = absurd (omega arith)
same_default (x ∷ xs) zero d e within = refl
same_default (x ∷ xs) (suc k) d e within = same_default xs k d e (omega arith)

pub crossed_at : (offsets : List ℤ) (first count k : ℕ) (d : ℤ) → k < count → first + count ≤ length offsets → get_or (take count (drop first offsets)) k d ≡ offset_at offsets (first + k)
crossed_at offsets first count k d low within =
    get_or-take count (drop first offsets) k d low ∙ get_or-drop first offsets k d ∙ same_default offsets (first + k) d (pos 0) (omega arith)

pub window_crosses : (cols : ℕ) (offsets : List ℤ) (global first count : ℕ) → AllPairs (λ a b. a <ℤ b) offsets → IsWindow cols offsets global first count → Crosses cols global (take count (drop first offsets))
window_crosses cols offsets global first count rise w =
    let long = length_crossed cols offsets global first count w in record {
      rise = λ i j d up within.
          let less : offset_at offsets (first + i) <ℤ offset_at offsets (first + j) = rise (first + i) (first + j) (pos 0) (omega arith) (omega (arith, w.within, long)) in
          subst (λ z. z <ℤ get_or (take count (drop first offsets)) j d) (sym (crossed_at offsets first count i d (omega (arith, long)) w.within))
          (subst (λ z. offset_at offsets (first + i) <ℤ z) (sym (crossed_at offsets first count j d (omega (arith, long)) w.within)) less);
      low = λ k d within. subst (λ z. pos 0 ≤ℤ (pos global +ℤ z)) (sym (crossed_at offsets first count k d (omega (arith, long)) w.within)) (w.low (first + k) (omega arith) (omega (arith, long)));
      high = λ k d within. subst (λ z. (pos global +ℤ z) <ℤ pos cols) (sym (crossed_at offsets first count k d (omega (arith, long)) w.within)) (w.high (first + k) (omega arith) (omega (arith, long)));
    }

-- one result more of a list
pub mapped_more : {X Y : Type 0} (f : X → Y) (xs : List X) (old new : List Y) (i : ℕ) (d : X) → i < length xs → new ≡ old ++ map f (take i xs) → new ++ f (get_or xs i d) ∷ [] ≡ old ++ map f (take (i + 1) xs)
mapped_more f xs old new i d low so =
    ap (λ ys. ys ++ f (get_or xs i d) ∷ []) so ∙ append_assoc old (map f (take i xs)) (f (get_or xs i d) ∷ [])
    ∙ ap (λ ys. old ++ ys) (sym (map-append f (take i xs) (get_or xs i d ∷ [])) ∙ ap (map f) (sym (take_more xs i d low)))

pub last_start : (starts : List ℕ) (row total : ℕ) → length starts ≡ row + 1 → get_or (starts ++ total ∷ []) (row + 1) 0 ≡ total
last_start starts row total long = ap (λ n. get_or (starts ++ total ∷ []) n 0) (sym long) ∙ get_or-append_seam starts total [] 0
