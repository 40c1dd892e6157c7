-- The parts of a matrix: each is a matrix, and together they hold its entries.
use Rattle.std.proofs.Common.{◌≡◌, ℕ, ◌+◌, ◌*◌, ◌<◌, List, map, filter, length, get_or, All, AllPairs, sym, ap, ◌∙◌, subst, ◌⊎◌, inl, inr, ⊎_elim, arith}
use Rattle.std.specs.List.{range_with_len}
use Rattle.std.specs.List.Sorted.{IsPermutation, IsStrictlyIncreasing}
use Rattle.std.proofs.lemmas.Bool.{eqb-true, cases_order}
use Rattle.std.proofs.lemmas.List.{get_or-map, length-map, map-id}
use Rattle.std.proofs.lemmas.List.Elements.{All-map, All-filter, All-weaker, filter_passes}
use Rattle.std.proofs.lemmas.List.Kept.{AllPairs-filter, AllPairs-from_increasing}
use Rattle.std.proofs.lemmas.List.Sorted.{IsPermutation-map}
use Rattle.std.proofs.lemmas.Nat.{row_fits}
use Rattle.std.proofs.lemmas.Simd.{map-map}
use Rattle.bern_base.specs.declared.axes.Axis.{Axis}
use Rattle.bern_base.specs.declared.axes.Axis.TheVariants.{Row, Col, Both}
use Rattle.bern_base.specs.declared.matrix.Entry.{Entry}
use Rattle.bern_base.specs.declared.matrix.Matrix.{Matrix}
use Rattle.bern_base.specs.Matrix.{number, IsInside, IsMatrix}
use Rattle.placement.specs.Placement.{Triple, IsPlacement, local_of, owned_indices, owned_of, global_of}
use Rattle.placement.specs.PlacementLaws.{owner-below, global-owner-local, local-below}
use Rattle.placement.specs.Part.{index_on, extent_on, part_rows, part_cols, owner_of_entry, is_owned, localized, part_of, globalized, Held, held_by, shared_out, held, PartsShareAMatrix}
use Rattle.placement.proofs.IndexLemmas.{local-rises, get_or-owned_indices, owned_indices-rise}
use Rattle.placement.proofs.ShareLemmas.{by_key, by_key-permutation, map-flat_map, flat_map_agree, map_agree}

-- an entry inside the matrix that the rank owns
pub record IsKept (axis : Axis) (ts : List Triple) (p : ℕ) (m : Matrix) (e : Entry) : Type 0 where
  pub inside : IsInside m.rows m.cols e
  pub owner : owner_of_entry axis ts e ≡ p

pub all_kept : (axis : Axis) (ts : List Triple) (p : ℕ) (m : Matrix) → IsMatrix m → All (IsKept axis ts p m) (filter (is_owned axis ts p) m.entries)
all_kept axis ts p m is = λ k d below. record {
  inside = All-filter (is_owned axis ts p) (IsInside m.rows m.cols) m.entries is.inside k d below;
  owner = eqb-true (owner_of_entry axis ts (get_or (filter (is_owned axis ts p) m.entries) k d)) p (filter_passes (is_owned axis ts p) m.entries k d below);
}

pub index_below : (axis : Axis) (ts : List Triple) (m : Matrix) (e : Entry) → extent_on axis m.rows m.cols ≡ length ts → IsInside m.rows m.cols e → index_on axis e < length ts
index_below Row ts m e extent inside = subst (λ n. e.row < n) extent inside.0
index_below Col ts m e extent inside = subst (λ n. e.col < n) extent inside.1
index_below Both ts m e extent inside = subst (λ n. e.row < n) extent inside.0

module _ (ranks : ℕ) (ts : List Triple) (is : IsPlacement ranks ts) (p : ℕ) (m : Matrix) where
  local_owned : (axis : Axis) (e : Entry) → extent_on axis m.rows m.cols ≡ length ts → IsKept axis ts p m e → local_of ts (index_on axis e) < owned_of ts p
  local_owned axis e extent kept =
      subst (λ q. local_of ts (index_on axis e) < owned_of ts q) kept.owner (local-below is (index_on axis e) (index_below axis ts m e extent kept.inside))

  inside_part : (axis : Axis) → extent_on axis m.rows m.cols ≡ length ts → (e : Entry) → IsKept axis ts p m e → IsInside (part_rows axis m (owned_of ts p)) (part_cols axis m (owned_of ts p)) (localized axis ts e)
  inside_part Row extent e kept = (local_owned Row e extent kept, kept.inside.1)
  inside_part Col extent e kept = (kept.inside.0, local_owned Col e extent kept)
  inside_part Both extent e kept = (local_owned Both e extent kept, kept.inside.1)

-- the order of two places by row and then column
pub before : (a b c d w : ℕ) → b < w → d < w → a * w + b < c * w + d → (a < c) ⊎ ((a ≡ c) × (b < d))
before a b c d w low high up = ⊎_elim
    (λ same. inr (same, (let rows : a * w ≡ c * w = ap (λ r. r * w) same in omega (arith, rows, up))))
    (λ apart. ⊎_elim (λ less. inl less) (λ more. absurd (let step = row_fits c w a w more (omega arith) in omega (arith, step, up, high))) apart)
    (cases_order a c)

placed : (a b c d w : ℕ) → b < w → (a < c) ⊎ ((a ≡ c) × (b < d)) → a * w + b < c * w + d
placed a b c d w low order = ⊎_elim
    (λ less. let step = row_fits a w c w less (omega arith) in omega (arith, step, low))
    (λ (same, less). let rows : a * w ≡ c * w = ap (λ r. r * w) same in omega (arith, rows, less))
    order

-- what a local number says of the order on the split axis
record Rises (f : ℕ → ℕ) (i j : ℕ) : Type 0 where
  up : i < j → f i < f j
  same : i ≡ j → f i ≡ f j

rows_rise : (f : ℕ → ℕ) (a c : ℕ) (b d : ℕ) → Rises f a c → (a < c) ⊎ ((a ≡ c) × (b < d)) → (f a < f c) ⊎ ((f a ≡ f c) × (b < d))
rows_rise f a c b d rises order = ⊎_elim (λ less. inl (rises.up less)) (λ (same, less). inr (rises.same same, less)) order

cols_rise : (f : ℕ → ℕ) (a c : ℕ) (b d : ℕ) → Rises f b d → (a < c) ⊎ ((a ≡ c) × (b < d)) → (a < c) ⊎ ((a ≡ c) × (f b < f d))
cols_rise f a c b d rises order = ⊎_elim (λ less. inl less) (λ (same, less). inr (same, rises.up less)) order

module _ (ranks : ℕ) (ts : List Triple) (is : IsPlacement ranks ts) (p : ℕ) (m : Matrix) where
  locals_rise : (axis : Axis) → extent_on axis m.rows m.cols ≡ length ts → (a b : Entry) → IsKept axis ts p m a → IsKept axis ts p m b → Rises (local_of ts) (index_on axis a) (index_on axis b)
  locals_rise axis extent a b first second = record {
    up = local-rises ranks ts is p (index_on axis a) (index_on axis b) (index_below axis ts m a extent first.inside) (index_below axis ts m b extent second.inside) first.owner second.owner;
    same = ap (local_of ts);
  }

  number_rises : (axis : Axis) → extent_on axis m.rows m.cols ≡ length ts → (a b : Entry) → IsKept axis ts p m a → IsKept axis ts p m b → number m.cols a < number m.cols b →
      number (part_cols axis m (owned_of ts p)) (localized axis ts a) < number (part_cols axis m (owned_of ts p)) (localized axis ts b)
  number_rises Row extent a b first second up =
      placed (local_of ts a.row) a.col (local_of ts b.row) b.col m.cols first.inside.1
      (rows_rise (local_of ts) a.row b.row a.col b.col (locals_rise Row extent a b first second) (before a.row a.col b.row b.col m.cols first.inside.1 second.inside.1 up))
  number_rises Col extent a b first second up =
      placed a.row (local_of ts a.col) b.row (local_of ts b.col) (owned_of ts p) (local_owned ranks ts is p m Col a extent first)
      (cols_rise (local_of ts) a.row b.row a.col b.col (locals_rise Col extent a b first second) (before a.row a.col b.row b.col m.cols first.inside.1 second.inside.1 up))
  number_rises Both extent a b first second up =
      placed (local_of ts a.row) a.col (local_of ts b.row) b.col m.cols first.inside.1
      (rows_rise (local_of ts) a.row b.row a.col b.col (locals_rise Both extent a b first second) (before a.row a.col b.row b.col m.cols first.inside.1 second.inside.1 up))

-- the numbers of a list rise where those of each two of its entries do
no_entry : Entry
no_entry = record { row = 0; col = 0; value = 0 }

pairs_rise : (cols : ℕ) (es : List Entry) → IsStrictlyIncreasing (map (number cols) es) → AllPairs (λ a b. number cols a < number cols b) es
pairs_rise cols es rising i j d up inside =
    rw (sym (get_or-map (number cols) es i d 0 (omega (arith, up, inside))), sym (get_or-map (number cols) es j d 0 inside))
    (AllPairs-from_increasing (map (number cols) es) rising i j 0 up (rw (length-map es (number cols)) inside))

mapped_rise : (cols : ℕ) (f : Entry → Entry) (es : List Entry) → ((k : ℕ) → k + 1 < length es → number cols (f (get_or es k no_entry)) < number cols (f (get_or es (k + 1) no_entry))) → IsStrictlyIncreasing (map (number cols) (map f es))
mapped_rise cols f es rise k inside =
    let numbers : List ℕ = map (λ e. number cols (f e)) es in
    let same : map (number cols) (map f es) ≡ numbers = map-map (number cols) f es in
    let within : k + 1 < length es = subst (λ n. k + 1 < n) (length-map es (λ e. number cols (f e))) (subst (λ xs. k + 1 < length xs) same inside) in
    subst (λ xs. get_or xs k 0 < get_or xs (k + 1) 0) (sym same)
    (rw (get_or-map (λ e. number cols (f e)) es k no_entry 0 (omega (arith, within)), get_or-map (λ e. number cols (f e)) es (k + 1) no_entry 0 within) (rise k within))

pub part-IsMatrix : (ranks : ℕ) (ts : List Triple) (axis : Axis) (p : ℕ) (m : Matrix) → IsPlacement ranks ts → IsMatrix m → extent_on axis m.rows m.cols ≡ length ts → IsMatrix (part_of axis ts p m).matrix
part-IsMatrix ranks ts axis p m placed_well is extent =
    let own : List Entry = filter (is_owned axis ts p) m.entries in
    let cols : ℕ = part_cols axis m (owned_of ts p) in
    let inside : Entry → Type 0 = IsInside (part_rows axis m (owned_of ts p)) cols in record {
      inside = All-map inside (localized axis ts) own
          (All-weaker (IsKept axis ts p m) (λ e. inside (localized axis ts e)) (inside_part ranks ts placed_well p m axis extent) own (all_kept axis ts p m is));
      rising = mapped_rise cols (localized axis ts) own
          (λ k within. number_rises ranks ts placed_well p m axis extent (get_or own k no_entry) (get_or own (k + 1) no_entry)
          (all_kept axis ts p m is k no_entry (omega (arith, within))) (all_kept axis ts p m is (k + 1) no_entry within)
          (AllPairs-filter (λ a b. number m.cols a < number m.cols b) (is_owned axis ts p) m.entries (pairs_rise m.cols m.entries is.rising) k (k + 1) no_entry (omega arith) within));
    }

-- the same of what is made of as many indices and of the same entries
pub sized-IsMatrix : (ranks : ℕ) (ts : List Triple) (axis : Axis) (p : ℕ) (m made : Matrix) (n : ℕ) (own given : List Entry) → IsPlacement ranks ts → IsMatrix m → extent_on axis m.rows m.cols ≡ length ts →
    made ≡ record { rows = part_rows axis m n; cols = part_cols axis m n; entries = own } → n ≡ owned_of ts p → own ≡ map (localized axis ts) (filter (is_owned axis ts p) given) → given ≡ m.entries → IsMatrix made
sized-IsMatrix ranks ts axis p m made n own given is good extent shape size kept whole =
    let sized : ℕ → List Entry → Matrix = λ k es. record { rows = part_rows axis m k; cols = part_cols axis m k; entries = es } in
    let entries : own ≡ (part_of axis ts p m).matrix.entries = kept ∙ ap (λ es. map (localized axis ts) (filter (is_owned axis ts p) es)) whole in
    let same : made ≡ (part_of axis ts p m).matrix = shape ∙ ap (λ k. sized k own) size ∙ ap (sized (owned_of ts p)) entries in
    subst IsMatrix (sym same) (part-IsMatrix ranks ts axis p m is good extent)

-- the way back from a local index
back_at : (axis : Axis) (ts : List Triple) (globals : List ℕ) (e : Entry) → get_or globals (local_of ts (index_on axis e)) 0 ≡ index_on axis e → globalized axis globals (localized axis ts e) ≡ e
back_at Row ts globals e back = ap (λ i. record { row = i; col = e.col; value = e.value }) back
back_at Col ts globals e back = ap (λ i. record { row = e.row; col = i; value = e.value }) back
back_at Both ts globals e back = ap (λ i. record { row = i; col = e.col; value = e.value }) back

back_of : (ranks : ℕ) (ts : List Triple) (axis : Axis) (p : ℕ) (m : Matrix) → IsPlacement ranks ts → extent_on axis m.rows m.cols ≡ length ts → (e : Entry) → IsKept axis ts p m e →
    globalized axis (owned_indices ts p) (localized axis ts e) ≡ e
back_of ranks ts axis p m is extent e kept =
    let i : ℕ = index_on axis e in
    let inside : i < length ts = index_below axis ts m e extent kept.inside in
    back_at axis ts (owned_indices ts p) e
    (get_or-owned_indices ts p (local_of ts i) ∙ ap (λ q. global_of ts q (local_of ts i)) (sym kept.owner) ∙ global-owner-local is i inside)

lead_back : (ranks : ℕ) (ts : List Triple) (axis : Axis) (m : Matrix) → IsPlacement ranks ts → IsMatrix m → extent_on axis m.rows m.cols ≡ length ts → (p : ℕ) →
    map (globalized axis (owned_indices ts p)) (map (localized axis ts) (filter (is_owned axis ts p) m.entries)) ≡ filter (is_owned axis ts p) m.entries
lead_back ranks ts axis m is good extent p =
    let own : List Entry = filter (is_owned axis ts p) m.entries in
    let there : Entry → Entry = λ e. globalized axis (owned_indices ts p) (localized axis ts e) in
    map-map (globalized axis (owned_indices ts p)) (localized axis ts) own
    ∙ map_agree there (λ e. e) own (All-weaker (IsKept axis ts p m) (λ e. there e ≡ e) (back_of ranks ts axis p m is extent) own (all_kept axis ts p m good))
    ∙ map-id own

-- each entry at its owner, once
held_at : (axis : Axis) (ts : List Triple) (m : Matrix) → IsMatrix m → (p : ℕ) →
    map (λ e. held_by (owner_of_entry axis ts e) (localized axis ts e)) (filter (is_owned axis ts p) m.entries) ≡ map (held_by p) (map (localized axis ts) (filter (is_owned axis ts p) m.entries))
held_at axis ts m good p =
    let own : List Entry = filter (is_owned axis ts p) m.entries in
    let there : Entry → Held = λ e. held_by (owner_of_entry axis ts e) (localized axis ts e) in
    map_agree there (λ e. held_by p (localized axis ts e)) own
    (All-weaker (IsKept axis ts p m) (λ e. there e ≡ held_by p (localized axis ts e)) (λ e kept. ap (λ q. held_by q (localized axis ts e)) kept.owner) own (all_kept axis ts p m good))
    ∙ sym (map-map (held_by p) (localized axis ts) own)

held_once : (ranks : ℕ) (ts : List Triple) (axis : Axis) (m : Matrix) → IsPlacement ranks ts → IsMatrix m → extent_on axis m.rows m.cols ≡ length ts → IsPermutation (shared_out axis ts m) (held axis ts ranks m)
held_once ranks ts axis m is good extent =
    let there : Entry → Held = λ e. held_by (owner_of_entry axis ts e) (localized axis ts e) in
    let owners : All (λ e. owner_of_entry axis ts e < ranks) m.entries = All-weaker (IsInside m.rows m.cols) (λ e. owner_of_entry axis ts e < ranks)
    (λ e inside. owner-below is (index_on axis e) (index_below axis ts m e extent inside)) m.entries good.inside in
    let pieces : ℕ → List Entry = λ p. filter (is_owned axis ts p) m.entries in
    subst (λ hs. IsPermutation (map there m.entries) hs)
    (map-flat_map there pieces (range_with_len 0 ranks) ∙ flat_map_agree (λ p. map there (pieces p)) (λ p. map (held_by p) (map (localized axis ts) (pieces p))) (held_at axis ts m good) (range_with_len 0 ranks))
    (IsPermutation-map there m.entries (by_key (owner_of_entry axis ts) ranks m.entries) (by_key-permutation (owner_of_entry axis ts) ranks m.entries owners))

pub parts-share-a-matrix : PartsShareAMatrix
parts-share-a-matrix ranks ts axis m is good extent = record {
  once = held_once ranks ts axis m is good extent;
  back = lead_back ranks ts axis m is good extent;
}

-- all of them at once
pub parts-are-matrices : (ranks : ℕ) (ts : List Triple) (axis : Axis) (m : Matrix) (n : ℕ) → IsPlacement ranks ts → IsMatrix m → extent_on axis m.rows m.cols ≡ length ts →
    All (λ part. IsMatrix part.matrix) (map (λ p. part_of axis ts p m) (range_with_len 0 n))
parts-are-matrices ranks ts axis m n is good extent =
    All-map (λ part. IsMatrix part.matrix) (λ p. part_of axis ts p m) (range_with_len 0 n) (λ k d within. part-IsMatrix ranks ts axis (get_or (range_with_len 0 n) k d) m is good extent)

pub parts-rise : (ranks : ℕ) (ts : List Triple) (axis : Axis) (m : Matrix) (n : ℕ) → IsPlacement ranks ts → All (λ part. IsStrictlyIncreasing part.globals) (map (λ p. part_of axis ts p m) (range_with_len 0 n))
parts-rise ranks ts axis m n is =
    All-map (λ part. IsStrictlyIncreasing part.globals) (λ p. part_of axis ts p m) (range_with_len 0 n) (λ k d within. owned_indices-rise is (get_or (range_with_len 0 n) k d))
