-- What the readers of lines other than nests answer, as functions of the words.
use Rattle.std.specs.Prelude.{◌+◌, ◌&&◌, ◌++◌, ℕ, ℤ, pos, Bool, true, false, Option, Some, None, option_map, option_and_then, List, [], ◌∷◌, codes, length, take, drop, nat_lt, ◌==◌, if◌then◌else◌}
use Rattle.std.specs.List.{position_or_len}
use Rattle.std.specs.Str.{bytes_eq}
use Rattle.std.specs.Int.Signed.{lt_z}
use Rattle.std.proofs.Common.{neg_ℤ}
use Rattle.bern_base.specs.declared.axes.Axis.{Axis}
use Rattle.bern_base.specs.declared.axes.Axis.TheVariants as axis
use Rattle.bern_base.specs.declared.raw.Form.{Form}
use Rattle.bern_base.specs.declared.raw.Form.TheVariants as form
use Rattle.bern_base.specs.declared.raw.RawKind.{RawKind}
use Rattle.bern_base.specs.declared.raw.RawKind.TheVariants as kind
use Rattle.bern_base.specs.declared.raw.RawShape.{RawShape}
use Rattle.bern_base.specs.declared.raw.RawShape.TheVariants as shape
use Rattle.job_text.specs.Names.{is_name, is_file_name}
use Rattle.job_text.specs.Reading.{number_of}

abbrev pub name_of : List ℕ → Option (List ℕ)
name_of word = if is_name word then Some word else None

abbrev pub file_of : List ℕ → Option (List ℕ)
file_of word = if is_file_name word then Some word else None

unfoldable pub extent_of : List (List ℕ) → Option Form
extent_of (name ∷ number ∷ []) = option_and_then (λ n. option_map (form.Extent n) (number_of number)) (name_of name)
extent_of words = None

unfoldable pub kind_of : List (List ℕ) → Option RawKind
kind_of (word ∷ []) = if bytes_eq word (codes "block") then Some kind.Block else None
kind_of (word ∷ which ∷ []) =
    if bytes_eq word (codes "cyclic") then option_map kind.Cyclic (number_of which)
    else if bytes_eq word (codes "listed") then option_map kind.Listed (file_of which) else None
kind_of words = None

unfoldable pub place_of : List (List ℕ) → Option Form
place_of (name ∷ extent ∷ rest) =
    option_and_then (λ n. option_and_then (λ e. option_map (form.Place n e) (kind_of rest)) (name_of extent)) (name_of name)
place_of words = None

unfoldable pub print_of : List (List ℕ) → Option Form
print_of (name ∷ []) = option_map form.Print (name_of name)
print_of words = None

abbrev pub axis_of : List ℕ → Option Axis
axis_of word = if bytes_eq word (codes "row") then Some axis.Row else if bytes_eq word (codes "col") then Some axis.Col else None

abbrev pub is_inner : Axis → List ℕ → Bool
is_inner axis.Row word = bytes_eq word (codes "col")
is_inner axis.Col word = bytes_eq word (codes "row")
is_inner axis.Both word = false

abbrev pub under_dense : Axis → List ℕ → Option RawShape
under_dense outer second =
    if bytes_eq second (codes "dense") then Some (shape.DenseDense outer)
    else if bytes_eq second (codes "packed") then Some (shape.DensePacked outer) else None

abbrev pub under_packed : Axis → List ℕ → Option RawShape
under_packed outer second = if bytes_eq second (codes "packed") then Some (shape.PackedPacked outer) else None

abbrev pub two_of : Axis → List ℕ → List ℕ → Option RawShape
two_of outer first second =
    if bytes_eq first (codes "dense") then under_dense outer second
    else if bytes_eq first (codes "packed") then under_packed outer second else None

abbrev pub one_of : List ℕ → Option RawShape
one_of level =
    if bytes_eq level (codes "dense") then Some shape.DenseOne else if bytes_eq level (codes "packed") then Some shape.PackedOne
    else if bytes_eq level (codes "list") then Some shape.ListOne else None

abbrev pub list_of : List ℕ → List ℕ → List ℕ → Option RawShape
list_of first second level =
    if bytes_eq first (codes "row") && bytes_eq second (codes "col") && bytes_eq level (codes "list") then Some shape.ListTwo else None

abbrev pub inner_of : List ℕ → List ℕ → List ℕ → List ℕ → Axis → Option RawShape
inner_of first above inner second outer = if bytes_eq above (codes ">") && is_inner outer inner then two_of outer first second else None

unfoldable pub axes_of : List (List ℕ) → Option RawShape
axes_of (first ∷ level ∷ []) = if bytes_eq first (codes "row") then one_of level else None
axes_of (first ∷ second ∷ level ∷ []) = list_of first second level
axes_of (outer ∷ first ∷ above ∷ inner ∷ second ∷ []) = option_and_then (inner_of first above inner second) (axis_of outer)
axes_of words = None

abbrev pub are_permuted : List ℕ → List ℕ → List ℕ → List ℕ → List ℕ → Bool
are_permuted outer first above inner second =
    bytes_eq outer (codes "row") && bytes_eq first (codes "dense") && bytes_eq above (codes ">")
    && bytes_eq inner (codes "col") && bytes_eq second (codes "packed")

unfoldable pub permute_of : List (List ℕ) → Option RawShape
permute_of (file ∷ outer ∷ first ∷ above ∷ inner ∷ second ∷ []) =
    if are_permuted outer first above inner second then option_map shape.Permute (file_of file) else None
permute_of words = None

abbrev pub jagged_of : List (List ℕ) → Option RawShape
jagged_of [] = Some shape.Jagged
jagged_of (word ∷ words) = None

abbrev pub below_zero : ℕ → ℤ
below_zero n = neg_ℤ (pos n)

abbrev pub offset_of : List ℕ → Option ℤ
offset_of [] = None
offset_of (byte ∷ digits) = if byte == 45 then option_map below_zero (number_of digits) else option_map pos (number_of (byte ∷ digits))

abbrev pub is_above : Option ℤ → ℤ → Bool
is_above None next = true
is_above (Some last) next = lt_z last next

abbrev pub risen : Option ℤ → ℤ → Option ℤ
risen last next = if is_above last next then Some next else None

abbrev pub next_offset : Option ℤ → List ℕ → Option ℤ
next_offset last word = option_and_then (risen last) (offset_of word)

abbrev pub onto : List ℤ → List ℤ → List ℤ
onto front more = front ++ more

unfoldable pub offsets_from : Option ℤ → List (List ℕ) → Option (List ℤ)
offsets_from last [] = Some []
offsets_from last (word ∷ words) =
    option_and_then (λ next. option_map (onto (next ∷ [])) (offsets_from (Some next) words)) (next_offset last word)

abbrev pub offsets_of : List (List ℕ) → Option (List ℤ)
offsets_of [] = None
offsets_of (word ∷ words) = offsets_from None (word ∷ words)

unfoldable pub levels_of : List (List ℕ) → Option RawShape
levels_of [] = None
levels_of (key ∷ rest) =
    if bytes_eq key (codes "jagged") then jagged_of rest
    else if bytes_eq key (codes "diagonal") then option_map shape.Diagonal (offsets_of rest)
    else if bytes_eq key (codes "permute") then permute_of rest else axes_of (key ∷ rest)

unfoldable pub format_of : List (List ℕ) → Option Form
format_of (name ∷ levels) = option_and_then (λ n. option_map (form.Format n) (levels_of levels)) (name_of name)
format_of words = None

abbrev pub is_comma : ℕ → Bool
is_comma byte = byte == 44

abbrev pub comma_place : List ℕ → ℕ
comma_place word = position_or_len is_comma word

abbrev pub only_extent : List ℕ → List (List ℕ)
only_extent name = name ∷ []

abbrev pub two_extents : List ℕ → List ℕ → List (List ℕ)
two_extents rows cols = rows ∷ cols ∷ []

abbrev pub both_of : List ℕ → List ℕ → Option (List (List ℕ))
both_of before after = option_and_then (λ rows. option_map (two_extents rows) (name_of after)) (name_of before)

unfoldable pub extents_of : List ℕ → Option (List (List ℕ))
extents_of word =
    if nat_lt (comma_place word) (length word) then both_of (take (comma_place word) word) (drop (comma_place word + 1) word)
    else option_map only_extent (name_of word)

unfoldable pub source_of : List (List ℕ) → Option (Option (List ℕ))
source_of (word ∷ []) = if bytes_eq word (codes "zero") then Some None else None
source_of (word ∷ file ∷ []) = if bytes_eq word (codes "from") then option_map Some (file_of file) else None
source_of words = None

-- the parts of an array line, one after the other
abbrev pub placed_of : List ℕ → List (List ℕ) → List ℕ → List ℕ → List (List ℕ) → Axis → Option Form
placed_of name extents format place rest split =
    option_and_then (λ p. option_map (form.Array name extents format split p) (source_of rest)) (name_of place)

abbrev pub split_of : List ℕ → List (List ℕ) → List ℕ → List ℕ → List (List ℕ) → List ℕ → Option Form
split_of name extents side place rest format = option_and_then (placed_of name extents format place rest) (axis_of side)

abbrev pub formed_of : List ℕ → List ℕ → List ℕ → List ℕ → List (List ℕ) → List (List ℕ) → Option Form
formed_of name format side place rest extents = option_and_then (split_of name extents side place rest) (name_of format)

abbrev pub sized_of : List ℕ → List ℕ → List ℕ → List ℕ → List (List ℕ) → List ℕ → Option Form
sized_of sizes format side place rest name = option_and_then (formed_of name format side place rest) (extents_of sizes)

unfoldable pub array_of : List (List ℕ) → Option Form
array_of (name ∷ sizes ∷ format ∷ side ∷ by ∷ place ∷ rest) =
    if bytes_eq by (codes "by") then option_and_then (sized_of sizes format side place rest) (name_of name) else None
array_of words = None

-- a line other than a nest, by its first word
unfoldable pub form_of : List (List ℕ) → Option Form
form_of [] = None
form_of (key ∷ rest) =
    if bytes_eq key (codes "extent") then extent_of rest else if bytes_eq key (codes "place") then place_of rest
    else if bytes_eq key (codes "format") then format_of rest else if bytes_eq key (codes "array") then array_of rest
    else if bytes_eq key (codes "print") then print_of rest else None
