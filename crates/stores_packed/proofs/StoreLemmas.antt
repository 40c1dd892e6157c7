-- The arrays of a part describe it.
use Rattle.std.proofs.Common.{◌≡◌, ℕ, suc, ◌+◌, ◌-◌, ◌*◌, ◌^◌, ◌<◌, ◌≤◌, Bool, true, false, cond, List, [], ◌∷◌, ◌++◌, length, length-append, map, get_or, take, refl, sym, ap, ◌∙◌, subst, ⊎_elim, add-one, arith}
use Rattle.std.specs.Prelude.{◌==◌, ◌||◌, nat_lt}
use Rattle.std.specs.List.{All, AllPairs, filter, list_any, range_with_len}
use Rattle.std.proofs.lemmas.Bool.{cases_lt, eqb-true, le-ltb, lt-ltb}
use Rattle.std.proofs.lemmas.List.{get_or-map, get_or_append_left, length-map, take_all}
use Rattle.std.proofs.lemmas.List.Elements.{All-filter, filter_passes}
use Rattle.std.proofs.lemmas.List.FromFn.{fill_by_all, get_or-range_with_len, length-range_with_len}
use Rattle.std.proofs.lemmas.List.Kept.{AllPairs-filter, AllPairs-from_increasing}
use Rattle.std.proofs.lemmas.Simd.{map-map}
use Rattle.std.proofs.Math.Nat.{mul-le-mul_right}
use Rattle.bern_base.specs.Matrix.{IsInside, IsMatrix, number}
use Rattle.bern_base.specs.declared.axes.Axis.{Axis}
use Rattle.bern_base.specs.declared.axes.Axis.TheVariants as axis
use Rattle.bern_base.specs.declared.matrix.Entry.{Entry}
use Rattle.bern_base.specs.declared.matrix.Matrix.{Matrix}
use Rattle.bern_base.specs.declared.shape.Shape.TheVariants as shape
use Rattle.format_model.specs.Axes.{across, index_of}
use Rattle.format_model.specs.Laws.{IsSide}
use Rattle.format_model.specs.Content.{One, Two, in_line, is_filled, leaf_on}
use Rattle.format_model.specs.Trees.{Describes}
use Rattle.stores_packed.specs.declared.form.Form.TheVariants as form
use Rattle.stores_packed.specs.Lines.{IsFilled, before, is_wide, line_leaves, line_len, lines_on, stretch}
use Rattle.stores_packed.specs.Packed.{IsPacked, RisesBetween, packed_tree, placed}
use Rattle.stores_packed.proofs.LineLemmas.{before_most, before_up}
use Rattle.stores_packed.proofs.RangeLemmas.{Follow, kept_same, range_same, wide_follow, wide_most}

-- of two entries in one line, the one with the smaller number has the smaller index there
along_line : (a : Axis) (rows cols line : ℕ) (x y : Entry) → IsSide a → IsInside rows cols x → IsInside rows cols y → index_of a cols x ≡ line → index_of a cols y ≡ line
    → number cols x < number cols y → index_of (across a) cols x < index_of (across a) cols y
along_line axis.Row rows cols line x y side inx iny isx isy less =
    let same : x.row * cols ≡ y.row * cols = ap (λ r. r * cols) (isx ∙ sym isy) in omega arith
along_line axis.Col rows cols line x y side inx iny isx isy less = ⊎_elim
    (λ (up : x.row < y.row). up)
    (λ (down : y.row ≤ x.row). let more : y.row * cols ≤ x.row * cols = mul-le-mul_right cols down in absurd (omega arith))
    (cases_lt x.row y.row)
along_line axis.Both rows cols line x y side inx iny isx isy less = absurd (side refl)

-- the numbers of the entries of a matrix rise from each to all later ones
numbers_rise : (m : Matrix) → IsMatrix m → AllPairs (λ x y. number m.cols x < number m.cols y) m.entries
numbers_rise m is i j d up within =
    let long : length (map (number m.cols) m.entries) ≡ length m.entries = length-map m.entries (number m.cols) in
    let rises = AllPairs-from_increasing (map (number m.cols) m.entries) is.rising i j (number m.cols d) up (omega arith) in
    subst (λ n. n < number m.cols (get_or m.entries j d)) (get_or-map (number m.cols) m.entries i d (number m.cols d) (omega arith))
    (subst (λ n. get_or (map (number m.cols) m.entries) i (number m.cols d) < n) (get_or-map (number m.cols) m.entries j d (number m.cols d) within) rises)

-- the indices of a line rise
pub line_rises : (a : Axis) (m : Matrix) (line : ℕ) → IsSide a → IsMatrix m → AllPairs (λ x y. index_of (across a) m.cols x < index_of (across a) m.cols y) (in_line a m.cols line m.entries)
line_rises a m line lines is i j d up within =
    let es : List Entry = in_line a m.cols line m.entries in
    let p : Entry → Bool = λ e. index_of a m.cols e == line in
    let inside : All (IsInside m.rows m.cols) es = All-filter p (IsInside m.rows m.cols) m.entries is.inside in
    let passes : All (λ e. p e ≡ true) es = filter_passes p m.entries in
    along_line a m.rows m.cols line (get_or es i d) (get_or es j d) lines (inside i d (omega arith)) (inside j d within)
    (eqb-true (index_of a m.cols (get_or es i d)) line (passes i d (omega arith))) (eqb-true (index_of a m.cols (get_or es j d)) line (passes j d within))
    (AllPairs-filter (λ x y. number m.cols x < number m.cols y) p m.entries (numbers_rise m is) i j d up within)

-- what stands at a place of a line
stretch_at : (indices values : List ℕ) (from count k : ℕ) (d : ℕ × ℕ) → k < count → get_or (stretch indices values from count) k d ≡ (get_or indices (from + k) 0, get_or values (from + k) 0)
stretch_at indices values from count k d low =
    get_or-map (λ k. (get_or indices k 0, get_or values k 0)) (range_with_len from count) k 0 d (subst (λ n. k < n) (sym (length-range_with_len from count)) low)
    ∙ ap (λ k. (get_or indices k 0, get_or values k 0)) (get_or-range_with_len from count k 0 low)

-- the indices of a filled line rise from place to place
pub filled_rises : (a : Axis) (m : Matrix) (starts indices values : List ℕ) (line : ℕ) → IsSide a → IsMatrix m → IsFilled a m starts indices values → line < length starts
    → RisesBetween (λ k. get_or indices k 0) (before a m.cols m.entries line) (before a m.cols m.entries (suc line))
filled_rises a m starts indices values line lines is p below i j from up to =
    let es : List Entry = in_line a m.cols line m.entries in
    let b : ℕ = before a m.cols m.entries line in
    let d : Entry = record { row = 0; col = 0; value = 0 } in
    let n : ℕ = length es in
    let ends : before a m.cols m.entries (suc line) ≡ b + n = refl in
    let at = λ (k : ℕ) (ge : b ≤ k) (lt : k < b + n).
    let low : k - b < n = omega arith in
    let whole : b + (k - b) ≡ k = omega arith in
    ap (λ k. get_or indices k 0) (sym whole)
    ∙ ap (λ (c : ℕ × ℕ). c.0) (sym (stretch_at indices values b n (k - b) (leaf_on (across a) m.cols d) low) ∙ ap (λ cs. get_or cs (k - b) (leaf_on (across a) m.cols d)) (p.lines line below) ∙ get_or-map (leaf_on (across a) m.cols) es (k - b) d (leaf_on (across a) m.cols d) low) in
    let rises = line_rises a m line lines is (i - b) (j - b) d (omega arith) (omega arith) in
    subst (λ x. x < get_or indices j 0) (sym (at i from (omega arith))) (subst (λ y. index_of (across a) m.cols (get_or es (i - b) d) < y) (sym (at j (omega arith) (omega arith))) rises)

-- where a filled line begins and ends
pub filled_starts : (a : Axis) (m : Matrix) (starts indices values : List ℕ) (line : ℕ) → IsFilled a m starts indices values → line < lines_on a m
    → (get_or starts line 0 ≡ before a m.cols m.entries line) × (get_or starts (line + 1) 0 ≡ before a m.cols m.entries (suc line))
filled_starts a m starts indices values line p low =
    (p.begins line (omega (arith, p.long)), p.begins (line + 1) (omega (arith, p.long)) ∙ ap (before a m.cols m.entries) (add-one line))

-- the arrays with all lines are those of a packed store below a dense level
pub dense_is_packed : (a : Axis) (m : Matrix) (lines : ℕ) (starts indices values : List ℕ) → IsSide a → IsMatrix m → lines ≡ lines_on a m → lines < 2 ^ 32 → IsFilled a m starts indices values
    → IsPacked (form.DensePacked a lines) [] starts indices values
dense_is_packed a m lines starts indices values has is same few p = record {
  few = few;
  outer_small = λ k low. omega arith;
  outer_rises = λ i j from up to. up;
  starts_long = omega (arith, p.long, same);
  order = λ line low.
      let at = filled_starts a m starts indices values line p (omega arith) in
      omega (arith, at.0, at.1, before_up a m.cols m.entries line (suc line) (omega arith));
  within = λ line low.
      let at = filled_starts a m starts indices values line p (omega arith) in
      omega (arith, at.1, p.indices_long, before_most a m.cols m.entries (suc line));
  small = p.small;
  rises = λ line low i j from up to.
      let at = filled_starts a m starts indices values line p (omega arith) in
      filled_rises a m starts indices values line has is p (omega (arith, p.long, same, low)) i j (omega (arith, at.0, from)) up (omega (arith, at.1, to));
  values_long = omega (arith, p.indices_long, p.values_long);
}

-- the leaves below a parent are a stretch of indices and values
leaves_stretch : (indices values : List ℕ) (from count : ℕ) → map (λ c. (c.0, get_or values c.1 0)) (placed (λ k. get_or indices k 0) from count) ≡ stretch indices values from count
leaves_stretch indices values from count = map-map (λ c. (c.0, get_or values c.1 0)) (λ k. (get_or indices k 0, k)) (range_with_len from count)

-- a filled line has its leaves
pub filled_line : (a : Axis) (m : Matrix) (starts indices values : List ℕ) (line : ℕ) → IsFilled a m starts indices values → line < lines_on a m
    → map (λ c. (c.0, get_or values c.1 0)) (placed (λ k. get_or indices k 0) (get_or starts line 0) (get_or starts (line + 1) 0 - get_or starts line 0)) ≡ line_leaves a m.cols m.entries line
filled_line a m starts indices values line p low =
    let at = filled_starts a m starts indices values line p low in
    let ends : before a m.cols m.entries (suc line) ≡ before a m.cols m.entries line + line_len a m.cols m.entries line = refl in
    let count : get_or starts (line + 1) 0 - get_or starts line 0 ≡ line_len a m.cols m.entries line = omega (arith, at.0, at.1, ends) in
    leaves_stretch indices values (get_or starts line 0) (get_or starts (line + 1) 0 - get_or starts line 0)
    ∙ ap (stretch indices values (get_or starts line 0)) count
    ∙ ap (λ b. stretch indices values b (line_len a m.cols m.entries line)) at.0
    ∙ p.lines line (omega (arith, p.long))

pub dense_describes : (a : Axis) (m : Matrix) (lines : ℕ) (starts indices values : List ℕ) → lines ≡ lines_on a m → IsFilled a m starts indices values
    → (globals order : List ℕ) → Describes (packed_tree (form.DensePacked a lines) [] starts indices values) (shape.DensePacked a) globals order m
dense_describes a m lines starts indices values same p globals order = record {
  levels = refl;
  content = ap Two
      (map-map (λ c. (c.0, map (λ c. (c.0, get_or values c.1 0)) (placed (λ k. get_or indices k 0) (get_or starts c.1 0) (get_or starts (c.1 + 1) 0 - get_or starts c.1 0)))) (λ k. (k, k)) (range_with_len 0 lines)
      ∙ range_same (λ k. (k, map (λ c. (c.0, get_or values c.1 0)) (placed (λ j. get_or indices j 0) (get_or starts k 0) (get_or starts (k + 1) 0 - get_or starts k 0)))) (λ l. (l, line_leaves a m.cols m.entries l)) 0 lines
      (λ k low high. ap (λ ls. (k, ls)) (filled_line a m starts indices values k p (omega arith)))
      ∙ ap (λ n. map (λ l. (l, line_leaves a m.cols m.entries l)) (range_with_len 0 n)) same);
}

-- a list by its places
by_place : {X : Type 0} (f : ℕ → X) (d : X) (xs : List ℕ) → map f xs ≡ map (λ k. f (get_or xs k 0)) (range_with_len 0 (length xs))
by_place f d xs = fill_by_all (λ k. f (get_or xs k 0)) (map f xs) (length xs) d (length-map xs f) (λ k low. get_or-map f xs k 0 d low)

-- a vector's rows rise
vector_rises : (m : Matrix) → IsMatrix m → m.cols ≡ 1 → AllPairs (λ (x y : Entry). x.row < y.row) m.entries
vector_rises m is one i j d up within =
    let less : number m.cols (get_or m.entries i d) < number m.cols (get_or m.entries j d) = numbers_rise m is i j d up within in
    let x = is.inside i d (omega arith) in
    let y = is.inside j d within in
    let wide = λ (r : ℕ). let e : r * m.cols ≡ r = ap (λ n. r * n) one ∙ omega arith in e in
    omega (arith, less, x.1, y.1, wide (get_or m.entries i d).row, wide (get_or m.entries j d).row)

-- the arrays of a vector
pub record IsVector (m : Matrix) (outers values : List ℕ) : Type 0 where
  pub rows : outers ≡ map (λ (e : Entry). e.row) m.entries
  pub held : values ≡ map (λ (e : Entry). e.value) m.entries
  pub small : (k : ℕ) → get_or outers k 0 < 2 ^ 32

pub vector_of : (m : Matrix) (entries : List Entry) (n : ℕ) (outers values : List ℕ) → entries ≡ m.entries → length entries ≤ n
    → outers ≡ map (λ (e : Entry). e.row) (take n entries) → values ≡ map (λ (e : Entry). e.value) (take n entries) → ((k : ℕ) → get_or outers k 0 < 2 ^ 32) → IsVector m outers values
vector_of m entries n outers values same all rows held small =
    let whole : take n entries ≡ m.entries = take_all n entries all ∙ same in record {
      rows = rows ∙ ap (map (λ (e : Entry). e.row)) whole;
      held = held ∙ ap (map (λ (e : Entry). e.value)) whole;
      small = small;
    }

length_rows : (m : Matrix) (outers values : List ℕ) → IsVector m outers values → length outers ≡ length m.entries
length_rows m outers values v = ap length v.rows ∙ length-map m.entries (λ e. e.row)

length_held : (m : Matrix) (outers values : List ℕ) → IsVector m outers values → length values ≡ length m.entries
length_held m outers values v = ap length v.held ∙ length-map m.entries (λ e. e.value)

row_at : (m : Matrix) (outers values : List ℕ) → IsVector m outers values → (k : ℕ) (d : Entry) → k < length m.entries → get_or outers k 0 ≡ (get_or m.entries k d).row
row_at m outers values v k d low = ap (λ xs. get_or xs k 0) v.rows ∙ get_or-map (λ (e : Entry). e.row) m.entries k d 0 low

value_at : (m : Matrix) (outers values : List ℕ) → IsVector m outers values → (k : ℕ) (d : Entry) → k < length m.entries → get_or values k 0 ≡ (get_or m.entries k d).value
value_at m outers values v k d low = ap (λ xs. get_or xs k 0) v.held ∙ get_or-map (λ (e : Entry). e.value) m.entries k d 0 low

pub vector_is_packed : (m : Matrix) (outers values : List ℕ) → IsMatrix m → m.cols ≡ 1 → length m.entries < 2 ^ 32 → IsVector m outers values → IsPacked form.PackedOne outers [] [] values
vector_is_packed m outers values is one few v =
    let long = length_rows m outers values v in
    let d : Entry = record { row = 0; col = 0; value = 0 } in record {
      few = omega arith;
      outer_small = λ k low. v.small k;
      outer_rises = λ i j from up to.
          let x = row_at m outers values v i d (omega arith) in
          let y = row_at m outers values v j d (omega arith) in
          omega (arith, x, y, vector_rises m is one i j d up (omega arith));
      starts_long = omega arith;
      order = λ line low. omega arith;
      within = λ line low. omega arith;
      small = λ k. omega arith;
      rises = λ line low i j from up to. absurd (omega arith);
      values_long = omega (arith, long, length_held m outers values v);
    }

pub vector_describes : (m : Matrix) (outers values : List ℕ) → IsVector m outers values
    → (globals order : List ℕ) → Describes (packed_tree form.PackedOne outers [] [] values) shape.PackedOne globals order m
vector_describes m outers values v globals order =
    let long = length_rows m outers values v in
    let d : Entry = record { row = 0; col = 0; value = 0 } in record {
      levels = refl;
      content = ap One (leaves_stretch outers values 0 (length outers) ∙ sym
          (fill_by_all (λ k. (get_or outers k 0, get_or values k 0)) (map (leaf_on axis.Row m.cols) m.entries) (length outers) (0, 0) (length-map m.entries (leaf_on axis.Row m.cols) ∙ sym long) (λ k low.
          let within : k < length m.entries = omega arith in
          get_or-map (leaf_on axis.Row m.cols) m.entries k d (0, 0) within
          ∙ ap (λ r. (r, (get_or m.entries k d).value)) (sym (row_at m outers values v k d within))
          ∙ ap (λ x. (get_or outers k 0, x)) (sym (value_at m outers values v k d within)))));
    }

-- the lines that have a place, and where they begin and the last one ends
pub record IsSqueezed (starts : List ℕ) (lines : ℕ) (outers begins : List ℕ) : Type 0 where
  pub kept : outers ≡ filter (is_wide starts) (range_with_len 0 lines)
  pub placed_at : begins ≡ map (λ k. get_or starts k 0) outers ++ get_or starts lines 0 ∷ []

pub squeezed_of : (starts : List ℕ) (from : List ℕ) (lines : ℕ) (outers begins : List ℕ) → from ≡ starts → length starts ≡ lines + 1 → outers ≡ filter (is_wide from) (range_with_len 0 (length from - 1))
    → begins ≡ map (λ k. get_or from k 0) outers ++ get_or from (length from - 1) 0 ∷ [] → IsSqueezed starts lines outers begins
squeezed_of starts from lines outers begins same long kept at =
    let count : length from - 1 ≡ lines = omega (arith, ap length same) in record {
      kept = kept ∙ ap (λ n. filter (is_wide from) (range_with_len 0 n)) count ∙ ap (λ xs. filter (is_wide xs) (range_with_len 0 lines)) same;
      placed_at = at ∙ ap (λ n. map (λ k. get_or from k 0) outers ++ get_or from n 0 ∷ []) count ∙ ap (λ xs. map (λ k. get_or xs k 0) outers ++ get_or xs lines 0 ∷ []) same;
    }

-- a kept line lies where it lay among all lines
pub record IsKeptAt (starts : List ℕ) (lines line begin end : ℕ) : Type 0 where
  pub line_within : line < lines
  pub begins : begin ≡ get_or starts line 0
  pub ends : end ≡ get_or starts (line + 1) 0

kept_within : (starts : List ℕ) (lines : ℕ) (outers begins : List ℕ) → IsSqueezed starts lines outers begins → (k : ℕ) → k < length outers → get_or outers k 0 < lines
kept_within starts lines outers begins s k low =
    let all : All (λ l. l < lines) (filter (is_wide starts) (range_with_len 0 lines)) =
    All-filter (is_wide starts) (λ l. l < lines) (range_with_len 0 lines) (λ i d within. subst (λ l. l < lines) (sym (get_or-range_with_len 0 lines i d (omega (arith, length-range_with_len 0 lines)))) (omega (arith, length-range_with_len 0 lines))) in
    let q : All (λ l. l < lines) outers = subst (All (λ l. l < lines)) (sym s.kept) all in q k 0 low

pub kept_at : (a : Axis) (m : Matrix) (starts indices values outers begins : List ℕ) → IsFilled a m starts indices values → IsSqueezed starts (lines_on a m) outers begins
    → (k : ℕ) → k < length outers → IsKeptAt starts (lines_on a m) (get_or outers k 0) (get_or begins k 0) (get_or begins (k + 1) 0)
kept_at a m starts indices values outers begins p s k low =
    let lines : ℕ = lines_on a m in
    let f : ℕ → ℕ = λ k. get_or starts k 0 in
    let up = λ (l : ℕ) (from : 0 ≤ l) (to : l < 0 + lines).
    let at = filled_starts a m starts indices values l p (omega arith) in
    let h : get_or starts l 0 ≤ get_or starts (l + 1) 0 = omega (arith, at.0, at.1, before_up a m.cols m.entries l (suc l) (omega arith)) in h in
    let follow : Follow starts 0 outers (map f outers ++ get_or starts (0 + lines) 0 ∷ []) =
    subst (λ ls. Follow starts 0 ls (map f ls ++ get_or starts (0 + lines) 0 ∷ [])) (sym s.kept) (wide_follow starts 0 lines up) in
    let last : 0 + lines ≡ lines = omega arith in
    let same : map f outers ++ get_or starts (0 + lines) 0 ∷ [] ≡ begins = ap (λ n. map f outers ++ get_or starts n 0 ∷ []) last ∙ sym s.placed_at in record {
      line_within = kept_within starts lines outers begins s k low;
      begins = ap (λ xs. get_or xs k 0) s.placed_at ∙ get_or_append_left (map f outers) (get_or starts lines 0 ∷ []) 0 k (omega (arith, length-map outers f)) ∙ get_or-map f outers k 0 0 low;
      ends = ap (λ n. get_or begins n 0) (add-one k) ∙ ap (λ xs. get_or xs (suc k) 0) (sym same) ∙ follow.ends k low;
    }

range_rises : (a n : ℕ) → AllPairs (λ x y. x < y) (range_with_len a n)
range_rises a n i j d up within =
    let low : j < n = omega (arith, length-range_with_len a n) in
    omega (arith, get_or-range_with_len a n i d (omega arith), get_or-range_with_len a n j d low)

-- the arrays with the kept lines are those of a packed store below a packed level
pub kept_is_packed : (a : Axis) (m : Matrix) (starts indices values outers begins : List ℕ) → IsSide a → IsMatrix m → IsFilled a m starts indices values → IsSqueezed starts (lines_on a m) outers begins
    → IsPacked (form.PackedPacked a) outers begins indices values
kept_is_packed a m starts indices values outers begins has is p s =
    let lines : ℕ = lines_on a m in
    let few : length outers ≤ lines = subst (λ ls. length ls ≤ lines) (sym s.kept) (wide_most starts lines) in
    let at = kept_at a m starts indices values outers begins p s in
    let rise : AllPairs (λ x y. x < y) outers = subst (AllPairs (λ x y. x < y)) (sym s.kept) (AllPairs-filter (λ x y. x < y) (is_wide starts) (range_with_len 0 lines) (range_rises 0 lines)) in
    let long : length begins ≡ length outers + 1 = ap length s.placed_at ∙ length-append (map (λ k. get_or starts k 0) outers) (get_or starts lines 0 ∷ []) ∙ ap (λ n. n + 1) (length-map outers (λ k. get_or starts k 0)) in record {
      few = omega (arith, few, p.few, p.long);
      outer_small = λ k low. omega (arith, (at k low).line_within, p.few, p.long);
      outer_rises = λ i j from up to. rise i j 0 up to;
      starts_long = omega (arith, long);
      order = λ k low.
          let h = at k low in
          let line : ℕ = get_or outers k 0 in
          let b = filled_starts a m starts indices values line p h.line_within in
          omega (arith, h.begins, h.ends, b.0, b.1, before_up a m.cols m.entries line (suc line) (omega arith));
      within = λ k low.
          let h = at k low in
          let line : ℕ = get_or outers k 0 in
          let b = filled_starts a m starts indices values line p h.line_within in
          omega (arith, h.ends, b.1, p.indices_long, before_most a m.cols m.entries (suc line));
      small = p.small;
      rises = λ k low i j from up to.
          let h = at k low in
          let line : ℕ = get_or outers k 0 in
          let b = filled_starts a m starts indices values line p h.line_within in
          filled_rises a m starts indices values line has is p (omega (arith, p.long, h.line_within)) i j (omega (arith, h.begins, b.0, from)) up (omega (arith, h.ends, b.1, to));
      values_long = omega (arith, p.indices_long, p.values_long);
    }

-- a test passes somewhere where it keeps something
any_one : (b : Bool) (e : Entry) (kept : List Entry) (r : Bool) → r ≡ nat_lt 0 (length kept) → (b || r) ≡ nat_lt 0 (length (cond b (e ∷ kept) kept))
any_one true e kept r same = sym (lt-ltb 0 (suc (length kept)) (omega arith))
any_one false e kept r same = same

any_kept : (p : Entry → Bool) (es : List Entry) → list_any p es ≡ nat_lt 0 (length (filter p es))
any_kept p [] = sym (le-ltb 0 0 (omega arith))
any_kept p (e ∷ es) = any_one (p e) e (filter p es) (list_any p es) (any_kept p es)

-- a line has a place where it has an entry
wide_is_filled : (a : Axis) (m : Matrix) (starts indices values : List ℕ) (line : ℕ) → IsFilled a m starts indices values → line < lines_on a m
    → is_wide starts line ≡ is_filled a m.cols m.entries line
wide_is_filled a m starts indices values line p low =
    let b = filled_starts a m starts indices values line p low in
    let n : ℕ = line_len a m.cols m.entries line in
    let ends : before a m.cols m.entries (suc line) ≡ before a m.cols m.entries line + n = refl in ⊎_elim
    (λ (some : 0 < n). lt-ltb (get_or starts line 0) (get_or starts (line + 1) 0) (omega (arith, b.0, b.1, ends)) ∙ sym (lt-ltb 0 n some))
    (λ (none : n ≤ 0). le-ltb (get_or starts line 0) (get_or starts (line + 1) 0) (omega (arith, b.0, b.1, ends)) ∙ sym (le-ltb 0 n none))
    (cases_lt 0 n)
    ∙ sym (any_kept (λ e. index_of a m.cols e == line) m.entries)

pub kept_describes : (a : Axis) (m : Matrix) (starts indices values outers begins : List ℕ) → IsFilled a m starts indices values → IsSqueezed starts (lines_on a m) outers begins
    → (globals order : List ℕ) → Describes (packed_tree (form.PackedPacked a) outers begins indices values) (shape.PackedPacked a) globals order m
kept_describes a m starts indices values outers begins p s globals order =
    let lines : ℕ = lines_on a m in
    let leaves : ℕ → ℕ → List (ℕ × ℕ) = λ b e. map (λ c. (c.0, get_or values c.1 0)) (placed (λ j. get_or indices j 0) b (e - b)) in
    let line : ℕ → ℕ × List (ℕ × ℕ) = λ l. (l, line_leaves a m.cols m.entries l) in record {
      levels = refl;
      content = ap Two
          (map-map (λ c. (c.0, leaves (get_or begins c.1 0) (get_or begins (c.1 + 1) 0))) (λ k. (get_or outers k 0, k)) (range_with_len 0 (length outers))
          ∙ range_same (λ k. (get_or outers k 0, leaves (get_or begins k 0) (get_or begins (k + 1) 0))) (λ k. line (get_or outers k 0)) 0 (length outers)
          (λ k from to.
          let h = kept_at a m starts indices values outers begins p s k (omega arith) in
          ap (λ b. (get_or outers k 0, leaves b (get_or begins (k + 1) 0))) h.begins
          ∙ ap (λ e. (get_or outers k 0, leaves (get_or starts (get_or outers k 0) 0) e)) h.ends
          ∙ ap (λ ls. (get_or outers k 0, ls)) (filled_line a m starts indices values (get_or outers k 0) p h.line_within))
          ∙ sym (by_place line (0, []) outers)
          ∙ ap (map line) s.kept
          ∙ kept_same (is_wide starts) (is_filled a m.cols m.entries) line line 0 lines
          (λ l from to. wide_is_filled a m starts indices values l p (omega arith)) (λ l from to. refl));
    }
