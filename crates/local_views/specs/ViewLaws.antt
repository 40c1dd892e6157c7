-- A part in global indices is a tree, and is listed by its elements where it is stored whole.
use Rattle.std.proofs.Props.{props}
use Rattle.std.proofs.Common.{◌≡◌, ℕ, zero, suc, ◌+◌, ◌*◌, ◌/◌, ◌%◌, ◌<◌, ◌≤◌, Bool, true, false, ◌==◌, List, [], ◌∷◌, length, map, get_or, None, Some, cond, ◌⊎◌, inl, inr, refl, sym, ap, ◌∙◌, ⊎_elim, arith}
use Rattle.std.specs.Prelude.{◌&&◌, Option}
use Rattle.std.specs.List.{All, AllPairs, count_by, range_with_len}
use Rattle.std.proofs.Math.Nat.{div-add-mod', mod-lt, mul-le-mul_right}
use Rattle.std.proofs.lemmas.Bool.{cases_eq, cases_lt, cond-false, cond-true, eq-eqb, ne_eqb}
use Rattle.std.proofs.lemmas.List.{get_or-map, length-map}
use Rattle.std.proofs.lemmas.List.Elements.{All-head, All-map, All-tail}
use Rattle.std.proofs.lemmas.List.Sums.{sum_by-cons}
use Rattle.std.proofs.lemmas.Simd.{map-map}
use Rattle.bern_base.specs.declared.axes.Axis.{Axis}
use Rattle.bern_base.specs.declared.axes.Axis.TheVariants as axis
use Rattle.format_model.specs.Axes.{same_axis}
use Rattle.format_model.specs.Content.{One, Two}
use Rattle.format_model.specs.Grids.{Grid, Lists, grid_col, grid_lines, grid_row, grid_value}
use Rattle.format_model.specs.Levels.{Level, level_at}
use Rattle.format_model.specs.Trees.{IsTree, Tree, axis_at, content_by, depth_of, leaves_below}
use Rattle.format_model.specs.declared.limits.TheConstants.{MOST_INDEX}
use Rattle.local_views.specs.Views.{Cut, Fits, IsCut, IsInCut, IsOwnBy, col_by, global_col, global_index, global_row, goes_by, moved_children, moved_content, moved_grid, row_by, view_grid, view_tree}

-- ---- facts of a part are propositions

own_prop : (split level : Axis) (owned i : ℕ) → IsProp (IsOwnBy split level owned i)
own_prop axis.Row axis.Row owned i = hlevel props
own_prop axis.Row axis.Col owned i = hlevel props
own_prop axis.Row axis.Both owned i = hlevel props
own_prop axis.Col axis.Row owned i = hlevel props
own_prop axis.Col axis.Col owned i = hlevel props
own_prop axis.Col axis.Both owned i = hlevel props
own_prop axis.Both axis.Row owned i = hlevel props
own_prop axis.Both axis.Col owned i = hlevel props
own_prop axis.Both axis.Both owned i = hlevel props

pub in_cut_prop : (cut : Cut) (level : Axis) (i : ℕ) → IsProp (IsInCut cut level i)
in_cut_prop cut axis.Row i = own_prop cut.axis axis.Row cut.owned i
in_cut_prop cut axis.Col i = own_prop cut.axis axis.Col cut.owned i
in_cut_prop cut axis.Both i = hlevel (props, own_prop)

pub fits_prop : (cut : Cut) (t : Tree) → IsProp (Fits cut t)
fits_prop cut t = hlevel (props, in_cut_prop)

-- ---- indices

-- of two numbers the greater one has the greater quotient, or the same one and the greater rest
quotient_or_rest : (n i j : ℕ) → 0 < n → i < j → (i / n < j / n) ⊎ ((i / n ≡ j / n) × (i % n < j % n))
quotient_or_rest n i j some up =
    let first : i / n * n + i % n ≡ i = div-add-mod' i n in
    let second : j / n * n + j % n ≡ j = div-add-mod' j n in
    let low : i % n < n = mod-lt i some in
    let high : j % n < n = mod-lt j some in ⊎_elim
    (λ (less : i / n < j / n). inl less)
    (λ (least : j / n ≤ i / n). ⊎_elim
    (λ (same : i / n ≡ j / n).
    let alike : i / n * n ≡ j / n * n = ap (λ q. q * n) same in
    inr (same, omega (arith, first, second, alike, up)))
    (λ (other : i / n ≡ j / n → ⊥).
    let above : (j / n + 1) * n ≤ i / n * n = mul-le-mul_right n (omega (arith, least, other)) in
    let next : (j / n + 1) * n ≡ j / n * n + n = omega arith in
    absurd (omega (arith, first, second, above, next, high, up)))
    (cases_eq (i / n) (j / n)))
    (cases_lt (i / n) (j / n))

-- rows before columns: the smaller row has the smaller element numbers
row_first : (cols x y a b : ℕ) → x < y → a < cols → x * cols + a < y * cols + b
row_first cols x y a b up low =
    let above : (x + 1) * cols ≤ y * cols = mul-le-mul_right cols (omega arith) in
    let next : (x + 1) * cols ≡ x * cols + cols = omega arith in omega (arith, above, next, low)

row_rises : (a : Axis) (owned : ℕ) (g : ℕ → ℕ) → ((k l : ℕ) → k < l → l < owned → g k < g l) → (i j : ℕ) → IsOwnBy a axis.Row owned j → i < j → row_by a g i < row_by a g j
row_rises axis.Row owned g rises i j own up = rises i j up own
row_rises axis.Col owned g rises i j own up = up
row_rises axis.Both owned g rises i j own up = up

col_rises : (a : Axis) (owned : ℕ) (g : ℕ → ℕ) → ((k l : ℕ) → k < l → l < owned → g k < g l) → (i j : ℕ) → IsOwnBy a axis.Col owned j → i < j → col_by a g i < col_by a g j
col_rises axis.Row owned g rises i j own up = up
col_rises axis.Col owned g rises i j own up = rises i j up own
col_rises axis.Both owned g rises i j own up = up

-- of two indices of a part the greater one is the greater one of the array
pub index_rises : (cut : Cut) → IsCut cut → (level : Axis) (i j : ℕ) → IsInCut cut level i → IsInCut cut level j → i < j → global_index cut level i < global_index cut level j
index_rises cut is axis.Row i j first second up = row_rises cut.axis cut.owned cut.global is.rises i j second up
index_rises cut is axis.Col i j first second up = col_rises cut.axis cut.owned cut.global is.rises i j second up
index_rises cut is axis.Both i j first second up =
    let own : ℕ = cut.own in ⊎_elim
    (λ (less : i / own < j / own).
    row_first cut.cols (global_row cut (i / own)) (global_row cut (j / own)) (global_col cut (i % own)) (global_col cut (j % own))
    (row_rises cut.axis cut.owned cut.global is.rises (i / own) (j / own) second.1 less) (is.narrow (i % own) (mod-lt i first.0)))
    (λ (same : (i / own ≡ j / own) × (i % own < j % own)).
    let alike : global_row cut (i / own) * cut.cols ≡ global_row cut (j / own) * cut.cols = ap (λ q. global_row cut q * cut.cols) same.0 in
    let more : global_col cut (i % own) < global_col cut (j % own) = col_rises cut.axis cut.owned cut.global is.rises (i % own) (j % own) second.2 same.1 in omega (arith, alike, more))
    (quotient_or_rest own i j first.0 up)

-- so no two have one
pub index_once : (cut : Cut) → IsCut cut → (level : Axis) (i j : ℕ) → IsInCut cut level i → IsInCut cut level j → global_index cut level i ≡ global_index cut level j → i ≡ j
index_once cut is level i j first second same = ⊎_elim
    (λ (less : i < j). let up = index_rises cut is level i j first second less in absurd (omega (arith, up, same)))
    (λ (least : j ≤ i). ⊎_elim
    (λ (more : j < i). let up = index_rises cut is level j i second first more in absurd (omega (arith, up, same)))
    (λ (most : i ≤ j). omega arith)
    (cases_lt j i))
    (cases_lt i j)

-- ---- children

module _ (f : ℕ → ℕ) (P : ℕ → Type 0) (once : (i j : ℕ) → P i → P j → f i ≡ f j → i ≡ j) where
  -- children with one index after the move had one before it
  counted : (index k : ℕ) (cs : List (ℕ × ℕ)) → P k → f k ≡ index → All (λ c. P c.0) cs → count_by (λ c. c.0 == index) (moved_children f cs) ≤ count_by (λ c. c.0 == k) cs
  counted index k [] here is all = omega arith
  counted index k (c ∷ cs) here is all =
      let rest : count_by (λ c. c.0 == index) (moved_children f cs) ≤ count_by (λ c. c.0 == k) cs = counted index k cs here is (All-tail (λ c. P c.0) c cs all) in
      let moved = sum_by-cons (λ (d : ℕ × ℕ). cond (d.0 == index) 1 0) (f c.0, c.1) (moved_children f cs) in
      let kept = sum_by-cons (λ (d : ℕ × ℕ). cond (d.0 == k) 1 0) c cs in ⊎_elim
      (λ (same : f c.0 ≡ index).
      let both : c.0 ≡ k = once c.0 k (All-head (λ c. P c.0) c cs all) here (same ∙ sym is) in
      omega (arith, rest, moved, kept, cond-true {A = ℕ} (f c.0 == index) 1 0 (eq-eqb (f c.0) index same), cond-true {A = ℕ} (c.0 == k) 1 0 (eq-eqb c.0 k both)))
      (λ (other : f c.0 ≡ index → ⊥). omega (arith, rest, moved, kept, cond-false {A = ℕ} (f c.0 == index) 1 0 (ne_eqb (f c.0) index other)))
      (cases_eq (f c.0) index)

  pub moved_once : (cs : List (ℕ × ℕ)) → All (λ c. P c.0) cs → ((index : ℕ) → count_by (λ c. c.0 == index) cs ≤ 1) → (index : ℕ) → count_by (λ c. c.0 == index) (moved_children f cs) ≤ 1
  moved_once [] all each index = omega arith
  moved_once (c ∷ cs) all each index =
      let kept = λ (k : ℕ). sum_by-cons (λ (d : ℕ × ℕ). cond (d.0 == k) 1 0) c cs in
      let moved = sum_by-cons (λ (d : ℕ × ℕ). cond (d.0 == index) 1 0) (f c.0, c.1) (moved_children f cs) in ⊎_elim
      (λ (same : f c.0 ≡ index).
      let most : count_by (λ c. c.0 == index) (moved_children f cs) ≤ count_by (λ d. d.0 == c.0) cs = counted index c.0 cs (All-head (λ c. P c.0) c cs all) same (All-tail (λ c. P c.0) c cs all) in
      omega (arith, most, moved, kept c.0, each c.0, cond-true {A = ℕ} (f c.0 == index) 1 0 (eq-eqb (f c.0) index same), cond-true {A = ℕ} (c.0 == c.0) 1 0 (eq-eqb c.0 c.0 refl)))
      (λ (other : f c.0 ≡ index → ⊥).
      let rest : count_by (λ c. c.0 == index) (moved_children f cs) ≤ 1 = moved_once cs (All-tail (λ c. P c.0) c cs all) (λ k. omega (arith, each k, kept k)) index in
      omega (arith, rest, moved, cond-false {A = ℕ} (f c.0 == index) 1 0 (ne_eqb (f c.0) index other)))
      (cases_eq (f c.0) index)

moved_rises : (f : ℕ → ℕ) (P : ℕ → Type 0) → ((i j : ℕ) → P i → P j → i < j → f i < f j) → (cs : List (ℕ × ℕ)) → All (λ c. P c.0) cs → AllPairs (λ a b. a.0 < b.0) cs
    → AllPairs (λ a b. a.0 < b.0) (moved_children f cs)
moved_rises f P up cs all rises i j d less within =
    let long : length (moved_children f cs) ≡ length cs = length-map cs (λ c. (f c.0, c.1)) in
    let last : j < length cs = omega (arith, long, within) in
    let first : i < length cs = omega (arith, less, last) in
    rw (get_or-map (λ (c : ℕ × ℕ). (f c.0, c.1)) cs i d d first, get_or-map (λ (c : ℕ × ℕ). (f c.0, c.1)) cs j d d last)
    (up (get_or cs i d).0 (get_or cs j d).0 (all i d first) (all j d last) (rises i j d less last))

-- ---- the tree

pub view_is_tree : (cut : Cut) (t : Tree) → IsTree t → IsCut cut → Fits cut t → IsTree (view_tree cut t)
view_is_tree cut t is rising fits =
    let f : ℕ → ℕ → ℕ = λ level. global_index cut (axis_at t level) in record {
      some = is.some;
      few = is.few;
      root = is.root;
      within = λ level parent p. All-map (λ c. c.1 < t.nodes (suc level)) (λ c. (f level c.0, c.1)) (t.children level parent) (is.within level parent p);
      once = λ level parent p. moved_once (f level) (IsInCut cut (axis_at t level)) (index_once cut rising (axis_at t level)) (t.children level parent) (fits.inside level parent p) (is.once level parent p);
      rises = λ level parent p ordered.
          moved_rises (f level) (IsInCut cut (axis_at t level)) (index_rises cut rising (axis_at t level)) (t.children level parent) (fits.inside level parent p) (is.rises level parent p ordered);
      small = λ level parent p. All-map (λ c. c.0 ≤ MOST_INDEX) (λ c. (f level c.0, c.1)) (t.children level parent) (fits.small level parent p);
    }

-- ---- what it lists

moved_leaves : (f : ℕ → ℕ) (value : ℕ → ℕ) (cs : List (ℕ × ℕ)) → map (λ c. (c.0, value c.1)) (moved_children f cs) ≡ moved_children f (map (λ c. (c.0, value c.1)) cs)
moved_leaves f value cs = map-map (λ c. (c.0, value c.1)) (λ c. (f c.0, c.1)) cs ∙ sym (map-map (λ c. (f c.0, c.1)) (λ c. (c.0, value c.1)) cs)

map_every : {X Y : Type 0} (f g : X → Y) → ((x : X) → f x ≡ g x) → (xs : List X) → map f xs ≡ map g xs
map_every f g same xs = λ i. map (λ x. same x i) xs

moved_lines : (cut : Cut) (t : Tree) → content_by 2 (view_tree cut t) ≡ moved_content (global_index cut (axis_at t 0)) (global_index cut (axis_at t 1)) (content_by 2 t)
moved_lines cut t =
    let f : ℕ → ℕ → ℕ = λ level. global_index cut (axis_at t level) in
    ap Two (map-map (λ c. (c.0, leaves_below (view_tree cut t) 1 c.1)) (λ c. (f 0 c.0, c.1)) (t.children 0 0)
    ∙ map_every (λ c. (f 0 c.0, leaves_below (view_tree cut t) 1 c.1)) (λ c. (f 0 c.0, moved_children (f 1) (leaves_below t 1 c.1))) (λ c. ap (λ ls. (f 0 c.0, ls)) (moved_leaves (f 1) t.value (t.children 1 c.1))) (t.children 0 0)
    ∙ sym (map-map (λ l. (f 0 l.0, moved_children (f 1) l.1)) (λ c. (c.0, leaves_below t 1 c.1)) (t.children 0 0)))

pub moved_lists : (cut : Cut) (t : Tree) (depth : ℕ) → content_by depth (view_tree cut t) ≡ moved_content (global_index cut (axis_at t 0)) (global_index cut (axis_at t 1)) (content_by depth t)
moved_lists cut t (suc zero) = ap One (moved_leaves (global_index cut (axis_at t 0)) t.value (t.children 0 0))
moved_lists cut t zero = moved_lines cut t
moved_lists cut t (suc (suc depth)) = moved_lines cut t

-- ---- parts that are stored whole

on_range : {X : Type 0} (f g : ℕ → X) (a n : ℕ) → ((k : ℕ) → a ≤ k → k < a + n → f k ≡ g k) → map f (range_with_len a n) ≡ map g (range_with_len a n)
on_range f g a zero each = refl
on_range f g a (suc n) each = ap (λ x. x ∷ map f (range_with_len (a + 1) n)) (each a (omega arith) (omega arith)) ∙ ap (λ xs. g a ∷ xs) (on_range f g (a + 1) n (λ k low high. each k (omega arith) (omega arith)))

-- lines at the indices of a list, moved
moved_at : {X : Type 0} (f : ℕ → ℕ) (xs : List ℕ) (v w : ℕ → X) → ((k : ℕ) → k < length xs → v k ≡ w k)
    → map {B = ℕ × X} (λ k. (f (get_or xs k 0), v k)) (range_with_len 0 (length xs)) ≡ map {B = ℕ × X} (λ k. (get_or (map f xs) k 0, w k)) (range_with_len 0 (length (map f xs)))
moved_at f xs v w same =
    on_range (λ k. (f (get_or xs k 0), v k)) (λ k. (get_or (map f xs) k 0, w k)) 0 (length xs)
    (λ k low high. ap (λ i. (i, v k)) (sym (get_or-map f xs k 0 0 (omega arith))) ∙ ap (λ x. (get_or (map f xs) k 0, x)) (same k (omega arith)))
    ∙ ap (λ n. map (λ k. (get_or (map f xs) k 0, w k)) (range_with_len 0 n)) (sym (length-map xs f))

module _ (row col : ℕ → ℕ) (g : Grid) where
  value_same : (r c : ℕ) → grid_value g r c ≡ grid_value (moved_grid row col g) r c
  value_same r c = ap (λ n. get_or g.values (r * n + c) 0) (sym (length-map g.cols col))

  row_moved : (r : ℕ) → moved_children col (grid_row g r).1 ≡ (grid_row (moved_grid row col g) r).1
  row_moved r =
      map-map (λ c. (col c.0, c.1)) (λ c. (get_or g.cols c 0, grid_value g r c)) (range_with_len 0 (length g.cols))
      ∙ moved_at col g.cols (grid_value g r) (grid_value (moved_grid row col g) r) (λ c low. value_same r c)

  col_moved : (c : ℕ) → moved_children row (grid_col g c).1 ≡ (grid_col (moved_grid row col g) c).1
  col_moved c =
      map-map (λ r. (row r.0, r.1)) (λ r. (get_or g.rows r 0, grid_value g r c)) (range_with_len 0 (length g.rows))
      ∙ moved_at row g.rows (λ r. grid_value g r c) (λ r. grid_value (moved_grid row col g) r c) (λ r low. value_same r c)

  rows_moved : map {B = ℕ × List (ℕ × ℕ)} (λ l. (row l.0, moved_children col l.1)) (map (grid_row g) (range_with_len 0 (length g.rows))) ≡ map (grid_row (moved_grid row col g)) (range_with_len 0 (length (map row g.rows)))
  rows_moved =
      map-map (λ l. (row l.0, moved_children col l.1)) (grid_row g) (range_with_len 0 (length g.rows))
      ∙ moved_at row g.rows (λ r. moved_children col (grid_row g r).1) (λ r. (grid_row (moved_grid row col g) r).1) (λ r low. row_moved r)

  cols_moved : map {B = ℕ × List (ℕ × ℕ)} (λ l. (col l.0, moved_children row l.1)) (map (grid_col g) (range_with_len 0 (length g.cols))) ≡ map (grid_col (moved_grid row col g)) (range_with_len 0 (length (map col g.cols)))
  cols_moved =
      map-map (λ l. (col l.0, moved_children row l.1)) (grid_col g) (range_with_len 0 (length g.cols))
      ∙ moved_at col g.cols (λ c. moved_children row (grid_col g c).1) (λ c. (grid_col (moved_grid row col g) c).1) (λ c low. col_moved c)

  one_moved : moved_children row (map (λ r. (get_or g.rows r 0, grid_value g r 0)) (range_with_len 0 (length g.rows))) ≡ map (λ r. (get_or (map row g.rows) r 0, grid_value (moved_grid row col g) r 0)) (range_with_len 0 (length (map row g.rows)))
  one_moved =
      map-map (λ r. (row r.0, r.1)) (λ r. (get_or g.rows r 0, grid_value g r 0)) (range_with_len 0 (length g.rows))
      ∙ moved_at row g.rows (λ r. grid_value g r 0) (λ r. grid_value (moved_grid row col g) r 0) (λ r low. value_same r 0)

is_axis : (a b : Axis) → same_axis a b ≡ true → a ≡ b
is_axis axis.Row axis.Row same = refl
is_axis axis.Col axis.Col same = refl
is_axis axis.Both axis.Both same = refl
is_axis axis.Row axis.Col same = absurd cc
is_axis axis.Row axis.Both same = absurd cc
is_axis axis.Col axis.Row same = absurd cc
is_axis axis.Col axis.Both same = absurd cc
is_axis axis.Both axis.Row same = absurd cc
is_axis axis.Both axis.Col same = absurd cc

both : (a b : Bool) → (a && b) ≡ true → (a ≡ true) × (b ≡ true)
both true b all = (refl, all)
both false b all = absurd cc

-- what the elements of a part list, moved
content_moved : (cut : Cut) (levels : List Level) (g : Grid) (single : Bool) (outer : Axis) → g.single ≡ single → g.outer ≡ outer → goes_by single outer levels ≡ true
    → moved_content (global_index cut (level_at levels 0).axis) (global_index cut (level_at levels 1).axis) (cond single (One (map (λ r. (get_or g.rows r 0, grid_value g r 0)) (range_with_len 0 (length g.rows)))) (Two (grid_lines outer g)))
    ≡ cond single (One (map (λ r. (get_or (map (global_row cut) g.rows) r 0, grid_value (moved_grid (global_row cut) (global_col cut) g) r 0)) (range_with_len 0 (length (map (global_row cut) g.rows))))) (Two (grid_lines outer (moved_grid (global_row cut) (global_col cut) g)))
content_moved cut levels g true outer one side by =
    ap (λ a. moved_content (global_index cut a) (global_index cut (level_at levels 1).axis) (One (map (λ r. (get_or g.rows r 0, grid_value g r 0)) (range_with_len 0 (length g.rows))))) (is_axis (level_at levels 0).axis axis.Row by)
    ∙ ap One (one_moved (global_row cut) (global_col cut) g)
content_moved cut levels g false axis.Row one side by =
    let axes = both (same_axis (level_at levels 0).axis axis.Row) (same_axis (level_at levels 1).axis axis.Col) by in
    ap (λ a. moved_content (global_index cut a) (global_index cut (level_at levels 1).axis) (Two (grid_lines axis.Row g))) (is_axis (level_at levels 0).axis axis.Row axes.0)
    ∙ ap (λ a. moved_content (global_index cut axis.Row) (global_index cut a) (Two (grid_lines axis.Row g))) (is_axis (level_at levels 1).axis axis.Col axes.1)
    ∙ ap Two (rows_moved (global_row cut) (global_col cut) g)
content_moved cut levels g false axis.Col one side by =
    let axes = both (same_axis (level_at levels 0).axis axis.Col) (same_axis (level_at levels 1).axis axis.Row) by in
    ap (λ a. moved_content (global_index cut a) (global_index cut (level_at levels 1).axis) (Two (grid_lines axis.Col g))) (is_axis (level_at levels 0).axis axis.Col axes.0)
    ∙ ap (λ a. moved_content (global_index cut axis.Col) (global_index cut a) (Two (grid_lines axis.Col g))) (is_axis (level_at levels 1).axis axis.Row axes.1)
    ∙ ap Two (cols_moved (global_row cut) (global_col cut) g)
content_moved cut levels g false axis.Both one side by = absurd cc

lists_where : (cut : Cut) (t : Tree) (g : Grid) (b : Bool) → goes_by g.single g.outer t.levels ≡ b → Lists t (Some g)
    → Lists (view_tree cut t) (cond b (Some (moved_grid (global_row cut) (global_col cut) g)) None)
lists_where cut t g false by lists = tt
lists_where cut t g true by lists =
    moved_lists cut t (depth_of t)
    ∙ ap (moved_content (global_index cut (axis_at t 0)) (global_index cut (axis_at t 1))) lists
    ∙ content_moved cut t.levels g g.single g.outer refl refl by

pub view_lists : (cut : Cut) (t : Tree) (g : Option Grid) → Lists t g → Lists (view_tree cut t) (view_grid cut t.levels g)
view_lists cut t None lists = tt
view_lists cut t (Some g) lists = lists_where cut t g (goes_by g.single g.outer t.levels) refl lists
