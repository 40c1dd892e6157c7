-- Entries dealt out to diagonals: one diagonal more, and how many there are in all.
use Rattle.std.proofs.Common.{◌≡◌, ℕ, zero, suc, ◌+◌, ◌<◌, ◌≤◌, List, [], ◌∷◌, ◌++◌, length, length-append, map, get_or, take, refl, sym, ap, ◌∙◌, subst, ⊎_elim, arith}
use Rattle.std.specs.Prelude.{min}
use Rattle.std.specs.List.{All, sum_by}
use Rattle.std.proofs.lemmas.Bool.{cases_eq, cases_lt}
use Rattle.std.proofs.lemmas.List.{get_or-map, get_or-take, get_or_append_left, get_or_push, length-map, length-take}
use Rattle.std.proofs.lemmas.List.Concat.{length-flat_map}
use Rattle.std.proofs.lemmas.List.Elements.{All-head, All-tail}
use Rattle.std.proofs.lemmas.List.Sorted.{length_permutation}
use Rattle.std.proofs.lemmas.List.Sums.{sum_by-cons}
use Rattle.bern_base.specs.Matrix.{IsMatrix}
use Rattle.bern_base.specs.declared.axes.Axis.TheVariants as axis
use Rattle.bern_base.specs.declared.matrix.Matrix.{Matrix}
use Rattle.format_model.specs.Axes.{index_of}
use Rattle.format_model.specs.Content.{count_in_row, in_line, rows_by_count}
use Rattle.format_model.proofs.LineLemmas.{dealt, dealt-permutation}
use Rattle.format_model.proofs.OrderLemmas.{in_rows_by_count}
use Rattle.stores_shaped.specs.Counts.{AreByCount, AreDealt, HasWidth, counted, entry_of, row_at}
use Rattle.stores_shaped.specs.Jagged.{jagged_leaf}
use Rattle.stores_shaped.specs.declared.counts.RowCount.{RowCount}

-- ---- how many there are

-- one diagonal more has an entry for each of the first rows, which have so many
pub width_fits : (rows : List RowCount) (d width : ℕ) → width ≤ length rows → ((place : ℕ) → place < width → d < (row_at rows place).count)
    → sum_by (λ r. min d r.count) rows + width ≤ sum_by (λ r. min (d + 1) r.count) rows
width_fits [] d width within some = omega arith
width_fits (r ∷ rows) d zero within some =
    let h : sum_by (λ r. min d r.count) rows + 0 ≤ sum_by (λ r. min (d + 1) r.count) rows = width_fits rows d 0 (omega arith) (λ place low. absurd (omega arith)) in
    omega (arith, h, sum_by-cons (λ r. min d r.count) r rows, sum_by-cons (λ r. min (d + 1) r.count) r rows)
width_fits (r ∷ rows) d (suc width) within some =
    let here : d < r.count = some 0 (omega arith) in
    let h : sum_by (λ r. min d r.count) rows + width ≤ sum_by (λ r. min (d + 1) r.count) rows = width_fits rows d width (omega arith) (λ place low. some (suc place) (omega arith)) in
    omega (arith, h, here, sum_by-cons (λ r. min d r.count) r rows, sum_by-cons (λ r. min (d + 1) r.count) r rows)

pub dealt_most : (rows : List RowCount) (d : ℕ) → sum_by (λ r. min d r.count) rows ≤ sum_by (λ r. r.count) rows
dealt_most [] d = omega arith
dealt_most (r ∷ rows) d =
    let h : sum_by (λ r. min d r.count) rows ≤ sum_by (λ r. r.count) rows = dealt_most rows d in
    omega (arith, h, sum_by-cons (λ r. min d r.count) r rows, sum_by-cons (λ r. r.count) r rows)

counts_sum : (m : Matrix) (rows : List RowCount) → All (λ r. r ≡ counted m r.row) rows → sum_by (λ r. r.count) rows ≡ sum_by (count_in_row m) (map (λ r. r.row) rows)
counts_sum m [] are = refl
counts_sum m (r ∷ rows) are =
    let here : r.count ≡ count_in_row m r.row = ap (λ r. r.count) (All-head (λ r. r ≡ counted m r.row) r rows are) in
    omega (arith, here, counts_sum m rows (All-tail (λ r. r ≡ counted m r.row) r rows are), sum_by-cons (λ r. r.count) r rows, sum_by-cons (count_in_row m) r.row (map (λ r. r.row) rows))

-- the counts of all rows are those of all entries
pub counts_all : (m : Matrix) (rows : List RowCount) → IsMatrix m → AreByCount m rows → sum_by (λ r. r.count) rows ≡ length m.entries
counts_all m rows is by =
    counts_sum m rows by.counts
    ∙ ap (sum_by (count_in_row m)) by.order
    ∙ sym (length-flat_map (λ row. in_line axis.Row m.cols row m.entries) (rows_by_count m))
    ∙ length_permutation m.entries (dealt (index_of axis.Row m.cols) m.entries (rows_by_count m)) (dealt-permutation (index_of axis.Row m.cols) m.entries (rows_by_count m) (in_rows_by_count m is))

-- ---- one diagonal more

pub dealt_none : (rows : List RowCount) (given from : List ℕ) → AreDealt rows given from 0 [] []
dealt_none rows given from = record {
  long = refl;
  few = omega arith;
  within = λ place d low none there. absurd (omega arith);
  same = λ place d low none there. absurd (omega arith);
}

append_right : {X : Type 0} (xs ys : List X) (k : ℕ) (d : X) → get_or (xs ++ ys) (length xs + k) d ≡ get_or ys k d
append_right [] ys k d = ap (λ n. get_or ys n d) (omega arith)
append_right (x ∷ xs) ys k d =
    let next : length (x ∷ xs) + k ≡ suc (length xs + k) = omega arith in
    ap (λ n. get_or (x ∷ (xs ++ ys)) n d) next ∙ append_right xs ys k d

pub dealt_more : (rows : List RowCount) (given from : List ℕ) (d : ℕ) (starts dealt : List ℕ) (width begin : ℕ) → AreDealt rows given from d starts dealt → HasWidth rows d width
    → begin ≡ length dealt → AreDealt rows given from (d + 1) (starts ++ begin ∷ []) (dealt ++ map (λ r. get_or given (entry_of from d r) 0) (take width rows))
dealt_more rows given from d starts dealt width begin a w at =
    let entry : RowCount → ℕ = λ r. get_or given (entry_of from d r) 0 in
    let more : List ℕ = map entry (take width rows) in
    let none : RowCount = record { row = 0; count = 0 } in
    let long : length more ≡ width = length-map (take width rows) entry ∙ omega (arith, length-take width rows, w.within) in
    let both : length (dealt ++ more) ≡ length dealt + width = omega (arith, length-append dealt more, long) in
    let old : (e : ℕ) → e < d → get_or (starts ++ begin ∷ []) e 0 ≡ get_or starts e 0 = λ e low. get_or_append_left starts (begin ∷ []) 0 e (omega (arith, a.long)) in
    let last : get_or (starts ++ begin ∷ []) d 0 ≡ length dealt = get_or_push starts begin 0 d a.long ∙ at in
    let inside : (place : ℕ) → place < length rows → d < (row_at rows place).count → place < width = λ place low there. ⊎_elim
    (λ (yes' : place < width). yes')
    (λ (no' : width ≤ place). absurd (omega (arith, there, w.none place no' low)))
    (cases_lt place width) in record {
      long = omega (arith, length-append starts (begin ∷ []), a.long);
      few = omega (arith, both, a.few, width_fits rows d width w.within w.some);
      within = λ place e low below there. ⊎_elim
          (λ (same : e ≡ d).
          let here : d < (row_at rows place).count = subst (λ k. k < (row_at rows place).count) same there in
          let leaf : get_or (starts ++ begin ∷ []) e 0 ≡ length dealt = ap (λ k. get_or (starts ++ begin ∷ []) k 0) same ∙ last in
          omega (arith, both, leaf, inside place low here))
          (λ (other : e ≡ d → ⊥).
          let before : e < d = omega (arith, below, other) in
          omega (arith, both, old e before, a.within place e low before there))
          (cases_eq e d);
      same = λ place e low below there. ⊎_elim
          (λ (same : e ≡ d).
          let here : d < (row_at rows place).count = subst (λ k. k < (row_at rows place).count) same there in
          let leaf : get_or (starts ++ begin ∷ []) e 0 + place ≡ length dealt + place = ap (λ k. get_or (starts ++ begin ∷ []) k 0 + place) same ∙ ap (λ k. k + place) last in
          let there : place < width = inside place low here in
          ap (λ k. get_or (dealt ++ more) k 0) leaf
          ∙ append_right dealt more place 0
          ∙ get_or-map entry (take width rows) place none 0 (omega (arith, length-take width rows, low))
          ∙ ap entry (get_or-take width rows place none there)
          ∙ ap (λ k. get_or given (entry_of from k (row_at rows place)) 0) (sym same))
          (λ (other : e ≡ d → ⊥).
          let before : e < d = omega (arith, below, other) in
          ap (λ k. get_or (dealt ++ more) (k + place) 0) (old e before)
          ∙ get_or_append_left dealt more 0 (jagged_leaf starts place e) (a.within place e low before there)
          ∙ a.same place e low before there)
          (cases_eq e d);
    }
