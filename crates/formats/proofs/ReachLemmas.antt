-- In a store of any format each line hangs below the root.
use Rattle.std.proofs.Common.{◌≡◌, ℕ, ◌+◌, ◌*◌, ◌<◌, List, length, get_or, refl, ap, ◌∙◌, arith}
use Rattle.std.proofs.lemmas.List.FromFn.{get_or-map-range_with_len, length-map-range_with_len}
use Rattle.format_model.specs.Made.{made}
use Rattle.format_model.specs.Trees.{Tree}
use Rattle.formats.specs.AnyStores.{any_tree}
use Rattle.formats.specs.declared.any_store.AnyStore.{AnyStore}
use Rattle.formats.specs.declared.any_store.AnyStore.TheVariants as any
use Rattle.local_views.specs.Views.{IsReached}
use Rattle.stores_packed.specs.Packed.{outer_index, packed_tree, width_of}
use Rattle.stores_shaped.specs.Permuted.{child_of, permuted_tree}
use Rattle.stores_shaped.specs.PermutedLaws.{length_rows}

-- what is made of all places, each with its own number, has each number
made_reached : (f g : ℕ → ℕ) (n node : ℕ) → node < n → g node ≡ node → (k : ℕ) × (k < length (made f g 0 n)) × ((get_or (made f g 0 n) k (0, 0)).1 ≡ node)
made_reached f g n node low own =
    let count : length (made f g 0 n) ≡ n = length-map-range_with_len (λ k. (f k, g k)) 0 n in (
      node,
      omega (arith, low, count),
      ap (λ (c : ℕ × ℕ). c.1) (get_or-map-range_with_len (λ k. (f k, g k)) 0 n node node (0, 0) low (omega arith)) ∙ own,
    )

-- in another order of the rows too
permuted_reached : (t : Tree) (order : List ℕ) → ((node : ℕ) → node < t.nodes 1 → (k : ℕ) × (k < length order) × ((get_or (t.children 0 0) k (0, 0)).1 ≡ node)) → IsReached (permuted_tree t order)
permuted_reached t order reached node deep low =
    let at = reached node low in
    let count : length (made (λ k. get_or order k 0) (child_of t 0) 0 (length order)) ≡ length order = length-map-range_with_len (λ k. (get_or order k 0, child_of t 0 k)) 0 (length order) in (
      at.0,
      omega (arith, at.1, count),
      ap (λ (c : ℕ × ℕ). c.1) (get_or-map-range_with_len (λ k. (get_or order k 0, child_of t 0 k)) 0 (length order) at.0 at.0 (0, 0) at.1 (omega arith)) ∙ at.2,
    )

pub any_reached : (s : AnyStore) → IsReached (any_tree s)
any_reached (any.Dense s) node deep low = made_reached (λ index. index) (λ index. 0 * s.lines + index) s.lines node (omega arith) (omega arith)
any_reached (any.List s) node deep low = absurd (omega arith)
any_reached (any.Packed s) node deep low = made_reached (outer_index s.form s.outers.items) (λ k. k) (width_of s.form s.outers.items) node low refl
any_reached (any.Jagged s) node deep low = made_reached (λ k. get_or s.order k 0) (λ k. k) (length s.order) node low refl
any_reached (any.Diagonal s) node deep low = made_reached (λ k. k) (λ k. k) (length s.globals) node low refl
any_reached (any.Permuted s) node deep low =
    let t : Tree = packed_tree s.inner.form s.inner.outers.items s.inner.starts.items s.inner.indices.items s.inner.values.items in
    let width : ℕ = width_of s.inner.form s.inner.outers.items in
    let rows : length (t.children 0 0) ≡ length s.order = length_rows t (length s.order) 0 s.dense (omega arith) in
    let count : length (t.children 0 0) ≡ width = length-map-range_with_len (λ k. (outer_index s.inner.form s.inner.outers.items k, k)) 0 width in
    permuted_reached t s.order (λ node low. let at = made_reached (outer_index s.inner.form s.inner.outers.items) (λ k. k) width node low refl in (at.0, omega (arith, at.1, rows), at.2)) node deep low
