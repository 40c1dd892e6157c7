-- A rank's part stores an element that the rank owns exactly where the array does.
use Rattle.std.proofs.Common.{◌≡◌, ◌≢◌, ℕ, ◌+◌, ◌*◌, ◌<◌, ◌==◌, ◌&&◌, ◌||◌, Bool, true, false, cond, List, [], ◌∷◌, length, map, filter, Some, None, ℤ, refl, sym, ap, ◌∙◌, subst, ⊎_elim, arith}
use Rattle.std.specs.Prelude.{slice_index}
use Rattle.std.specs.List.{All, list_any}
use Rattle.std.specs.Option.{is_some}
use Rattle.std.proofs.lemmas.Bool.{cases_eq, eq-eqb, ne_eqb}
use Rattle.std.proofs.lemmas.List.Elements.{All-head, All-tail, All-weaker}
use Rattle.bern_base.specs.Matrix.{IsInside, IsMatrix, element}
use Rattle.bern_base.specs.Shapes.{is_by_row}
use Rattle.bern_base.specs.declared.axes.Axis.{Axis}
use Rattle.bern_base.specs.declared.axes.Axis.TheVariants as axis
use Rattle.bern_base.specs.declared.matrix.Entry.{Entry}
use Rattle.bern_base.specs.declared.matrix.Matrix.{Matrix}
use Rattle.bern_base.specs.declared.shape.Shape.{Shape}
use Rattle.bern_base.specs.declared.shape.Shape.TheVariants as shape
use Rattle.format_model.specs.Elements.{value_among}
use Rattle.format_model.specs.Stored.{has_entry_at, is_on_diagonal, is_stored, stands_at, stored_elements}
use Rattle.format_model.proofs.LookupLemmas.{has_entry-value_among}
use Rattle.format_model.proofs.ValueLemmas.{all_value, stored_diagonal_value}
use Rattle.local_views.specs.Views.{row_by}
use Rattle.placement.specs.Part.{extent_on, is_owned, localized, part_of}
use Rattle.placement.specs.Placement.{IsPlacement, Triple, global_of, local_of, owned_indices, owner_of}
use Rattle.placement.specs.PlacementLaws.{global-owner-local}
use Rattle.placement.proofs.IndexLemmas.{get_or-owned_indices}
use Rattle.view_laws.proofs.LocalLemmas.{IsAt, IsOwned, local_col, local_row, split_index}

-- ---- entries

-- some of what is kept and moved passes one test where some of all passes the other
kept_any : (kept : Entry → Bool) (moved : Entry → Entry) (there here : Entry → Bool) (es : List Entry) → All (λ e. (kept e && there (moved e)) ≡ here e) es →
    list_any there (map moved (filter kept es)) ≡ list_any here es
kept_any kept moved there here [] all = refl
kept_any kept moved there here (e ∷ es) all =
    let first : (kept e && there (moved e)) ≡ here e = All-head (λ e. (kept e && there (moved e)) ≡ here e) e es all in
    let rest : list_any there (map moved (filter kept es)) ≡ list_any here es = kept_any kept moved there here es (All-tail (λ e. (kept e && there (moved e)) ≡ here e) e es all) in
    let both : (b : Bool) → (b && there (moved e)) ≡ here e → list_any there (map moved (cond b (e ∷ filter kept es) (filter kept es))) ≡ (here e || list_any here es) = elim [
      | true ↦ (λ is. ap (λ b. b || list_any there (map moved (filter kept es))) is ∙ ap (λ b. here e || b) rest)
      | false ↦ (λ is. rest ∙ ap (λ b. b || list_any here es) is)
    ] in both (kept e) first

-- an index is another one exactly where it is at the same rank with the same number
told : (ranks : ℕ) (ts : List Triple) (rank i j : ℕ) → IsPlacement ranks ts → i < length ts → IsOwned ts rank j → ((owner_of ts i == rank) && (local_of ts i == local_of ts j)) ≡ (i == j)
told ranks ts rank i j placed low own = ⊎_elim
    (λ (same : i ≡ j).
    ap (λ b. b && (local_of ts i == local_of ts j)) (eq-eqb (owner_of ts i) rank (ap (owner_of ts) same ∙ own.owner))
    ∙ eq-eqb (local_of ts i) (local_of ts j) (ap (local_of ts) same) ∙ sym (eq-eqb i j same))
    (λ (other : i ≡ j → ⊥). ⊎_elim
    (λ (at : owner_of ts i ≡ rank).
    ap (λ b. b && (local_of ts i == local_of ts j)) (eq-eqb (owner_of ts i) rank at)
    ∙ ne_eqb (local_of ts i) (local_of ts j) (λ alike. other (sym (global-owner-local placed i low) ∙ ap (λ p. global_of ts p (local_of ts i)) at ∙ ap (global_of ts rank) alike ∙ own.back))
    ∙ sym (ne_eqb i j other))
    (λ (away : owner_of ts i ≡ rank → ⊥). ap (λ b. b && (local_of ts i == local_of ts j)) (ne_eqb (owner_of ts i) rank away) ∙ sym (ne_eqb i j other))
    (cases_eq (owner_of ts i) rank))
    (cases_eq i j)

and-assoc : (a b c : Bool) → (a && (b && c)) ≡ ((a && b) && c)
and-assoc true b c = refl
and-assoc false b c = refl

and-swap : (a b c : Bool) → (a && (b && c)) ≡ (b && (a && c))
and-swap true true c = refl
and-swap true false c = refl
and-swap false true c = refl
and-swap false false c = refl

-- the rank has an entry at the element of the part exactly where it stands at that of the array
pub entry_told : (a : Axis) (ranks : ℕ) (ts : List Triple) (rank rows cols row col : ℕ) → a ≢ axis.Both → IsPlacement ranks ts → extent_on a rows cols ≡ length ts → IsOwned ts rank (split_index a row col) →
    (e : Entry) → IsInside rows cols e → (is_owned a ts rank e && stands_at (local_row a ts row) (local_col a ts col) (localized a ts e)) ≡ stands_at row col e
entry_told axis.Row ranks ts rank rows cols row col side placed extent own e inside =
    and-assoc (owner_of ts e.row == rank) (local_of ts e.row == local_of ts row) (e.col == col)
    ∙ ap (λ b. b && (e.col == col)) (told ranks ts rank e.row row placed (omega (arith, inside.0, extent)) own)
entry_told axis.Col ranks ts rank rows cols row col side placed extent own e inside =
    and-swap (owner_of ts e.col == rank) (e.row == row) (local_of ts e.col == local_of ts col)
    ∙ ap (λ b. (e.row == row) && b) (told ranks ts rank e.col col placed (omega (arith, inside.1, extent)) own)
entry_told axis.Both ranks ts rank rows cols row col side placed extent own e inside = absurd (side refl)

-- ---- a format

some_by : (b : Bool) (v : ℕ) → is_some (cond b (Some v) None) ≡ b
some_by true v = refl
some_by false v = refl

module _ (a : Axis) (ranks : ℕ) (ts : List Triple) (rank rows cols row col : ℕ) (m : Matrix) (side : a ≢ axis.Both) (is : IsMatrix m) (placed : IsPlacement ranks ts) (extent : extent_on a m.rows m.cols ≡ length ts)
    (own : IsOwned ts rank (split_index a row col)) (at : IsAt a ts rank rows cols row col) (part : Matrix) (part_is : part ≡ (part_of a ts rank m).matrix)
    (high : local_row a ts row < part.rows) (low : local_col a ts col < part.cols) where
  entries_same : is_some (value_among part.entries (local_row a ts row) (local_col a ts col)) ≡ has_entry_at m.entries row col
  entries_same =
      sym (has_entry-value_among part.entries (local_row a ts row) (local_col a ts col))
      ∙ ap (λ (p : Matrix). has_entry_at p.entries (local_row a ts row) (local_col a ts col)) part_is
      ∙ kept_any (is_owned a ts rank) (localized a ts) (stands_at (local_row a ts row) (local_col a ts col)) (stands_at row col) m.entries
      (All-weaker (IsInside m.rows m.cols) (λ e. (is_owned a ts rank e && stands_at (local_row a ts row) (local_col a ts col) (localized a ts e)) ≡ stands_at row col e)
      (entry_told a ranks ts rank m.rows m.cols row col side placed extent own) m.entries is.inside)

  whole_same : is_some (value_among (stored_elements shape.DenseOne [] part) (local_row a ts row) (local_col a ts col)) ≡ true
  whole_same = ap is_some (all_value part (local_row a ts row) (local_col a ts col) high low)

  diagonal_same : (offsets : List ℤ) → a ≡ axis.Row → is_some (value_among (stored_elements (shape.Diagonal offsets) (owned_indices ts rank) part) (local_row a ts row) (local_col a ts col)) ≡ is_on_diagonal offsets row col
  diagonal_same offsets by =
      let r : ℕ = local_row a ts row in
      let c : ℕ = local_col a ts col in
      let row_is : slice_index (owned_indices ts rank) r ≡ row = get_or-owned_indices ts rank r ∙ by_row by at.row_is in
      let col_is : c ≡ col = by_col by in
      ap is_some (stored_diagonal_value offsets (owned_indices ts rank) part r c high low)
      ∙ some_by (is_on_diagonal offsets (slice_index (owned_indices ts rank) r) c) (element part.cols part.entries (r * part.cols + c))
      ∙ ap (λ n. is_on_diagonal offsets n c) row_is ∙ ap (is_on_diagonal offsets row) col_is
    where
      by_row : a ≡ axis.Row → row_by a (global_of ts rank) (local_row a ts row) ≡ row → global_of ts rank (local_row a ts row) ≡ row
      by_row by known = subst (λ b. row_by b (global_of ts rank) (local_row a ts row) ≡ row) by known

      by_col : a ≡ axis.Row → local_col a ts col ≡ col
      by_col by = ap (λ b. local_col b ts col) by

  -- what searches tell of the part is what the array stores
  pub stored_same : (s : Shape) → (is_by_row s ≡ true → a ≡ axis.Row) → is_some (value_among (stored_elements s (owned_indices ts rank) part) (local_row a ts row) (local_col a ts col)) ≡ is_stored s m.entries row col
  stored_same shape.DenseOne by = whole_same
  stored_same (shape.DenseDense outer) by = whole_same
  stored_same (shape.Diagonal offsets) by = diagonal_same offsets (by refl)
  stored_same shape.PackedOne by = entries_same
  stored_same shape.ListOne by = entries_same
  stored_same (shape.DensePacked outer) by = entries_same
  stored_same (shape.PackedPacked outer) by = entries_same
  stored_same shape.ListTwo by = entries_same
  stored_same shape.Jagged by = entries_same
  stored_same (shape.Permute file) by = entries_same
