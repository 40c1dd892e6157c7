-- A printed array is read back: its lines, its head, its entries, their sums.
use Rattle.std.proofs.Common.{◌≡◌, ℕ, ◌+◌, ◌-◌, ◌*◌, ◌^◌, ◌<◌, ◌≤◌, false, List, [], ◌∷◌, ◌++◌, length, map, refl, sym, ap, ◌∙◌, arith, Ok, append_assoc}
use mathlib.Core.Path.{fun_ext}
use Rattle.std.specs.Prelude.{codes, decimal, slice_index}
use Rattle.std.specs.Fmt.{signed_decimal}
use Rattle.std.specs.List.{list_any, flat_map, range_with_len}
use Rattle.std.proofs.lemmas.Bool.{le-leb, le-ltb}
use Rattle.std.proofs.lemmas.List.Folds.{flat_map-map}
use Rattle.bern_base.specs.Ring.{signed_of}
use Rattle.bern_base.specs.declared.limits.TheConstants.{MOST_FILE_BYTES, MOST_SIDE, MOST_ENTRIES}
use Rattle.bern_base.specs.declared.matrix.Entry.{Entry}
use Rattle.mm_profile.specs.ArrayText.{value_line, column_text, array_text}
use Rattle.mm_profile.specs.declared.kinds.Format.TheVariants.{Array}
use Rattle.mm_profile.specs.declared.kinds.Field.TheVariants.{Integer}
use Rattle.mm_profile.specs.declared.kinds.Symmetry.TheVariants.{General}
use Rattle.mm_profile.specs.declared.kinds.Kind.{Kind}
use Rattle.mm_profile.specs.declared.sizes.Head.{Head}
use Rattle.mm_profile.specs.Lines.{is_line_feed, lines, without_return}
use Rattle.mm_profile.specs.Sizes.{head_of}
use Rattle.mm_profile.specs.Places.{Place, At, places}
use Rattle.mm_profile.specs.Entries.{entry_at, entry_of}
use Rattle.mm_profile.specs.Profile.{and_then, kept, entries, body, file}
use Rattle.mm_text.specs.PrintedArrays.{ReadsPrintedArrays}
use Rattle.mm_text.proofs.EntriesLemmas.{entries_ok}
use Rattle.mm_text.proofs.PieceLemmas.{lines_found}
use Rattle.mm_text.proofs.PrintedNumbers.{Spells, spells-decimal, spells-is_natural, Printed, printed-signed}
use Rattle.mm_text.proofs.PrintedLines.{kept_number, skipped_comment, kept_sizes, sizes_feed}
use Rattle.mm_text.proofs.Grids.{map-flat_map, flat_map-flat_map, map-map, sums-columns}

abbrev array_kind : Kind
array_kind = record { format = Array; field = Integer; symmetry = General }

abbrev array_head_of : ℕ → ℕ → Head
array_head_of rows cols = record { kind = array_kind; rows = rows; cols = cols; stated = rows * cols }

-- the words of a size line spell the sizes
head_read : (rows cols : ℕ) (v w : List ℕ) → Spells rows v → Spells cols w → rows ≤ MOST_SIDE → cols ≤ MOST_SIDE → rows * cols ≤ MOST_ENTRIES → head_of array_kind (v ∷ w ∷ []) ≡ Ok (array_head_of rows cols)
head_read rows cols v w spells_rows spells_cols few_rows few_cols few =
    rw (spells-is_natural rows v spells_rows, spells-is_natural cols w spells_cols)
    (rw (spells_rows.is, spells_cols.is) (rw (le-leb _ _ few_rows, le-leb _ _ few_cols, le-leb _ _ few) refl))

-- the line of a value at a place
entry_read : (head : Head) (row col v : ℕ) (w : List ℕ) → head.kind.symmetry ≡ General → Printed v w → entry_of head (At row col) (w ∷ []) ≡ Ok (entry_at row col v ∷ [])
entry_read head row col v w general printed = rw (printed.spelled, printed.inside) (rw (printed.value, general) refl)

-- the lines of values, one for each place
entries_read : (rows cols n past : ℕ) (value : ℕ × ℕ → ℕ) → ((at : ℕ × ℕ) → value at < 2 ^ 64) → (ats : List (ℕ × ℕ))
    → entries (array_head_of rows cols) (map (λ at. At at.0 at.1) ats) (kept n (lines (flat_map (λ at. value_line (value at)) ats))) past ≡ Ok (map (λ at. entry_at at.0 at.1 (value at)) ats)
entries_read rows cols n past value fit [] = refl
entries_read rows cols n past value fit (at ∷ ats) =
    let head : Head = array_head_of rows cols in
    let w : List ℕ = signed_decimal (signed_of (value at)) in
    let rest : List ℕ = flat_map (λ p. value_line (value p)) ats in
    let due : List Place = map (λ p. At p.0 p.1) ats in
    let entry : List Entry = entry_at at.0 at.1 (value at) ∷ [] in
    let printed : Printed (value at) (signed_decimal (signed_of (value at))) = printed-signed (value at) (fit at) in
    ap (λ text. entries head (At at.0 at.1 ∷ due) (kept n (lines text)) past) (append_assoc w (10 ∷ []) rest)
    ∙ ap (λ kept_lines. entries head (At at.0 at.1 ∷ due) kept_lines past) (kept_number n w rest printed.spelled)
    ∙ entries_ok head (At at.0 at.1) due (w ∷ []) n (kept (n + 1) (lines rest)) past entry (entry_read head at.0 at.1 (value at) w refl printed)
    ∙ ap (λ read. and_then read (λ more. Ok (entry ++ more))) (entries_read rows cols (n + 1) past value fit ats)

-- all places of an array, column by column
abbrev grid : ℕ → ℕ → List (ℕ × ℕ)
grid rows cols = flat_map (λ k. map (λ r. (r, k)) (range_with_len 0 rows)) (range_with_len 0 cols)

grid-map : {A : Type 0} (f : ℕ → ℕ → A) (rows cols : ℕ) → map (λ at. f at.0 at.1) (grid rows cols) ≡ flat_map (λ k. map (λ r. f r k) (range_with_len 0 rows)) (range_with_len 0 cols)
grid-map {A = A} f rows cols =
    let pair : ℕ → ℕ → ℕ × ℕ = λ k r. (r, k) in
    let at_place : ℕ × ℕ → A = λ at. f at.0 at.1 in
    map-flat_map at_place (λ k. map (pair k) (range_with_len 0 rows)) (range_with_len 0 cols)
    ∙ ap (λ g. flat_map g (range_with_len 0 cols)) (fun_ext (λ k. map-map at_place (pair k) (range_with_len 0 rows)))

grid-flat_map : (f : ℕ → ℕ → List ℕ) (rows cols : ℕ) → flat_map (λ at. f at.0 at.1) (grid rows cols) ≡ flat_map (λ k. flat_map (λ r. f r k) (range_with_len 0 rows)) (range_with_len 0 cols)
grid-flat_map f rows cols =
    let pair : ℕ → ℕ → ℕ × ℕ = λ k r. (r, k) in
    let at_place : ℕ × ℕ → List ℕ = λ at. f at.0 at.1 in
    flat_map-flat_map at_place (λ k. map (pair k) (range_with_len 0 rows)) (range_with_len 0 cols)
    ∙ ap (λ g. flat_map g (range_with_len 0 cols)) (fun_ext (λ k. flat_map-map at_place (pair k) (range_with_len 0 rows)))

-- the entry lines of a printed array
array_read : (rows cols n past : ℕ) (values : List ℕ) → ((i : ℕ) → slice_index values i < 2 ^ 64)
    → entries (array_head_of rows cols) (places (array_head_of rows cols)) (kept n (lines (flat_map (column_text rows cols values) (range_with_len 0 cols)))) past
    ≡ Ok (flat_map (λ k. map (λ r. entry_at r k (slice_index values (r * cols + k))) (range_with_len 0 rows)) (range_with_len 0 cols))
array_read rows cols n past values fit =
    let value : ℕ × ℕ → ℕ = λ at. slice_index values (at.0 * cols + at.1) in
    let all_rows : rows - 0 ≡ rows = omega arith in
    let due : places (array_head_of rows cols) ≡ map (λ at. At at.0 at.1) (grid rows cols) = rw all_rows (sym (grid-map At rows cols)) in
    let text : flat_map (column_text rows cols values) (range_with_len 0 cols) ≡ flat_map (λ at. value_line (value at)) (grid rows cols) =
    sym (grid-flat_map (λ r k. value_line (slice_index values (r * cols + k))) rows cols) in
    ap (λ ps. entries (array_head_of rows cols) ps (kept n (lines (flat_map (column_text rows cols values) (range_with_len 0 cols)))) past) due
    ∙ ap (λ t. entries (array_head_of rows cols) (map (λ at. At at.0 at.1) (grid rows cols)) (kept n (lines t)) past) text
    ∙ entries_read rows cols n past value (λ at. fit (at.0 * cols + at.1)) (grid rows cols)
    ∙ ap (λ es. Ok es) (grid-map (λ r k. entry_at r k (slice_index values (r * cols + k))) rows cols)

-- the text, line by line
regroup : (a name b r s c e v : List ℕ) → (((a ++ name) ++ b) ++ (((r ++ s) ++ c) ++ e)) ++ v ≡ a ++ (name ++ (b ++ (r ++ (s ++ (c ++ (e ++ v))))))
regroup a name b r s c e v = simp append_assoc

abbrev banner : List ℕ
banner = codes "%%MatrixMarket matrix array integer general"

regrouped : (name values : List ℕ) (rows cols : ℕ) → array_text name rows cols values
    ≡ banner ++ 10 ∷ ((37 ∷ 32 ∷ name) ++ 10 ∷ ((decimal rows ++ 32 ∷ decimal cols) ++ 10 ∷ flat_map (column_text rows cols values) (range_with_len 0 cols)))
regrouped name values rows cols =
    let text : List ℕ = flat_map (column_text rows cols values) (range_with_len 0 cols) in
    let first : List ℕ = codes "%%MatrixMarket matrix array integer general\n% " in
    regroup first name (10 ∷ []) (decimal rows) (32 ∷ []) (decimal cols) (10 ∷ []) text
    ∙ ap (λ t. first ++ (name ++ 10 ∷ t)) (sym (append_assoc (decimal rows) (32 ∷ decimal cols) (10 ∷ text)))

-- the lines of such a text
three_lines : (name r c text : List ℕ) → list_any is_line_feed name ≡ false → list_any is_line_feed (r ++ 32 ∷ c) ≡ false
    → lines (banner ++ 10 ∷ ((37 ∷ 32 ∷ name) ++ 10 ∷ ((r ++ 32 ∷ c) ++ 10 ∷ text))) ≡ banner ∷ without_return (37 ∷ 32 ∷ name) ∷ without_return (r ++ 32 ∷ c) ∷ lines text
three_lines name r c text open_name open_sizes =
    lines_found banner ((37 ∷ 32 ∷ name) ++ 10 ∷ ((r ++ 32 ∷ c) ++ 10 ∷ text)) refl
    ∙ ap (λ rest. banner ∷ rest) (lines_found (37 ∷ 32 ∷ name) ((r ++ 32 ∷ c) ++ 10 ∷ text) open_name
    ∙ ap (λ rest. without_return (37 ∷ 32 ∷ name) ∷ rest) (lines_found (r ++ 32 ∷ c) text open_sizes))

banner_read : (rest : List (List ℕ)) → file (banner ∷ rest) ≡ body array_kind (kept 2 rest) (2 + length rest)
banner_read rest = refl

pub reads-printed-arrays : ReadsPrintedArrays
reads-printed-arrays name values rows cols open_name few_rows few_cols few fit short =
    let text : List ℕ = flat_map (column_text rows cols values) (range_with_len 0 cols) in
    let r = spells-decimal rows (omega (arith, few_rows)) in
    let c = spells-decimal cols (omega (arith, few_cols)) in
    let spelled_r = spells-is_natural rows (decimal rows) r in
    let spelled_c = spells-is_natural cols (decimal cols) c in
    let size_line : List ℕ = decimal rows ++ 32 ∷ decimal cols in
    let ls : List (List ℕ) = without_return (37 ∷ 32 ∷ name) ∷ without_return size_line ∷ lines text in
    let past : ℕ = 2 + length ls in
    let sizes = skipped_comment 2 name (without_return size_line ∷ lines text) ∙ kept_sizes 3 (decimal rows) (decimal cols) (lines text) spelled_r spelled_c in
    let head = head_read rows cols (decimal rows) (decimal cols) r c few_rows few_cols few in
    rw (le-ltb MOST_FILE_BYTES (length (array_text name rows cols values)) short)
    (ap (λ t. file (lines t)) (regrouped name values rows cols)
    ∙ ap file (three_lines name (decimal rows) (decimal cols) text open_name (sizes_feed (decimal rows) (decimal cols) spelled_r spelled_c))
    ∙ banner_read ls
    ∙ ap (λ numbered. body array_kind numbered past) sizes
    ∙ rw head (rw (array_read rows cols 4 past values fit) (rw (sums-columns rows cols values fit) refl)))
