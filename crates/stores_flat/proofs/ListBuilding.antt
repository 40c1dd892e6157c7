-- What the list of a part has.
use Rattle.std.proofs.Common.{◌≡◌, ◌≢◌, ◌∙◌, ℕ, ◌+◌, ◌*◌, ◌<◌, ◌≤◌, Bool, true, false, List, length, map, get_or, refl, sym, ap, subst, arith}
use Rattle.std.specs.Prelude.{slice_index}
use Rattle.std.specs.List.{All, AllPairs, range_with_len}
use Rattle.std.proofs.lemmas.List.{length-map, get_or-map}
use Rattle.std.proofs.lemmas.List.FromFn.{fill_by_all}
use Rattle.std.proofs.lemmas.List.Kept.{AllPairs-from_increasing}
use Rattle.std.proofs.lemmas.Nat.{mul-add-lt}
use Rattle.std.proofs.lemmas.Simd.{map-map}
use Rattle.bern_base.specs.Matrix.{number, IsInside, IsMatrix}
use Rattle.bern_base.specs.declared.matrix.Entry.{Entry}
use Rattle.bern_base.specs.declared.matrix.Matrix.{Matrix}
use Rattle.format_model.specs.Axes.{index_of}
use Rattle.format_model.specs.Content.{One}
use Rattle.format_model.specs.Made.{made}
use Rattle.format_model.specs.Trees.{Describes}
use Rattle.stores_flat.specs.Lists.{flat_axis, flat_shape, list_tree}

-- an element that stands for what a list has past its end
none : Entry
none = record { row = 0; col = 0; value = 0 }

abbrev at_pair : ℕ → ℕ → ℕ × ℕ
at_pair index value = (index, value)

-- the places with their indices and values are the entries
listed : (f : Entry → ℕ) (entries : List Entry) →
    map {B = ℕ × ℕ} (λ (c : ℕ × ℕ). (c.0, slice_index (map (λ e. e.value) entries) c.1)) (made (slice_index (map f entries)) (λ place. place) 0 (length (map f entries))) ≡ map {B = ℕ × ℕ} (λ (e : Entry). (f e, e.value)) entries
listed f entries =
    let at : ℕ → ℕ × ℕ = λ k. (slice_index (map f entries) k, slice_index (map (λ (e : Entry). e.value) entries) k) in
    let leaf : Entry → ℕ × ℕ = λ e. (f e, e.value) in
    let last : ℕ × ℕ → ℕ × ℕ = λ c. (c.0, slice_index (map (λ (e : Entry). e.value) entries) c.1) in
    let first : ℕ → ℕ × ℕ = λ k. (slice_index (map f entries) k, k) in
    let n : ℕ = length (map f entries) in
    map-map last first (range_with_len 0 n)
    ∙ sym (fill_by_all at (map leaf entries) n (0, 0) (length-map entries leaf ∙ sym (length-map entries f)) (λ k below.
    let under : k < length entries = subst (λ m. k < m) (length-map entries f) below in
    let index : slice_index (map f entries) k ≡ f (get_or entries k none) = get_or-map f entries k none 0 under in
    let value : slice_index (map (λ (e : Entry). e.value) entries) k ≡ (get_or entries k none).value = get_or-map (λ (e : Entry). e.value) entries k none 0 under in
    get_or-map leaf entries k none (0, 0) under ∙ sym (ap (λ i. at_pair i (slice_index (map (λ (e : Entry). e.value) entries) k)) index ∙ ap (at_pair (f (get_or entries k none))) value)))

pub list_describes : (flat : Bool) (m : Matrix) (globals order : List ℕ) →
    Describes (list_tree (flat_axis flat) (map (index_of (flat_axis flat) m.cols) m.entries) (map (λ e. e.value) m.entries)) (flat_shape flat) globals order m
list_describes true m globals order = record { levels = refl; content = ap One (listed (number m.cols) m.entries) }
list_describes false m globals order = record { levels = refl; content = ap One (listed (λ e. e.row) m.entries) }

-- no element number stands twice
numbers_apart : (m : Matrix) → IsMatrix m → AllPairs (λ i j. i ≢ j) (map (number m.cols) m.entries)
numbers_apart m is i j d up below same = omega (arith, AllPairs-from_increasing (map (number m.cols) m.entries) is.rising i j d up below, same)

-- in one column the rows rise as the element numbers do
rows_apart : (m : Matrix) → IsMatrix m → m.cols ≡ 1 → AllPairs (λ i j. i ≢ j) (map (λ e. e.row) m.entries)
rows_apart m is one i j d up below same =
    let under : j < length m.entries = subst (λ n. j < n) (length-map m.entries (λ (e : Entry). e.row)) below in
    let a : Entry = get_or m.entries i none in
    let b : Entry = get_or m.entries j none in
    let rows_same : a.row ≡ b.row =
    sym (get_or-map (λ (e : Entry). e.row) m.entries i none d (omega arith)) ∙ same ∙ get_or-map (λ (e : Entry). e.row) m.entries j none d under in
    let less = AllPairs-from_increasing (map (number m.cols) m.entries) is.rising i j 0 up (subst (λ n. j < n) (sym (length-map m.entries (number m.cols))) under) in
    let first : get_or (map (number m.cols) m.entries) i 0 ≡ a.row * 1 + a.col = get_or-map (number m.cols) m.entries i none 0 (omega arith) ∙ ap (λ c. a.row * c + a.col) one in
    let second : get_or (map (number m.cols) m.entries) j 0 ≡ b.row * 1 + b.col = get_or-map (number m.cols) m.entries j none 0 under ∙ ap (λ c. b.row * c + b.col) one in
    let last : b.col < 1 = subst (λ c. b.col < c) one ((is.inside j none under).1) in
    omega (arith, less, first, second, last, rows_same)

pub indices_apart : (flat : Bool) (m : Matrix) → IsMatrix m → (flat ≡ false → m.cols ≡ 1) → AllPairs (λ i j. i ≢ j) (map (index_of (flat_axis flat) m.cols) m.entries)
indices_apart true m is single = numbers_apart m is
indices_apart false m is single = rows_apart m is (single refl)

-- each index is below the number of elements
pub indices_small : (flat : Bool) (m : Matrix) (most : ℕ) → IsMatrix m → (flat ≡ false → m.cols ≡ 1) → m.rows * m.cols ≤ most → All (λ i. i ≤ most) (map (index_of (flat_axis flat) m.cols) m.entries)
indices_small true m most is single few k d below =
    let under : k < length m.entries = subst (λ n. k < n) (length-map m.entries (number m.cols)) below in
    let e : Entry = get_or m.entries k none in
    let inside : IsInside m.rows m.cols e = is.inside k none under in
    omega (arith, get_or-map (number m.cols) m.entries k none d under, mul-add-lt e.row m.cols e.col m.rows inside.0 inside.1)
indices_small false m most is single few k d below =
    let under : k < length m.entries = subst (λ n. k < n) (length-map m.entries (λ (e : Entry). e.row)) below in
    let e : Entry = get_or m.entries k none in
    let inside : IsInside m.rows m.cols e = is.inside k none under in
    let one : m.rows * m.cols ≡ m.rows * 1 = ap (λ c. m.rows * c) (single refl) in
    omega (arith, get_or-map (λ (e : Entry). e.row) m.entries k none d under, inside.0, one)
