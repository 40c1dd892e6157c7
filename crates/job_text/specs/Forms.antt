-- The forms of a job's lines.
use Rattle.std.specs.Prelude.{◌≡◌, ◌≢◌, ◌⊎◌, ℕ, ℤ, pos, ◌<ℤ◌, true, Option, Some, None, List, [], ◌∷◌, ◌++◌, codes}
use Rattle.std.specs.List.{AllZip}
use Rattle.std.proofs.Common.{neg_ℤ}
use Rattle.bern_base.specs.declared.axes.Axis.{Axis}
use Rattle.bern_base.specs.declared.axes.Axis.TheVariants as axis
use Rattle.bern_base.specs.declared.raw.Form.{Form}
use Rattle.bern_base.specs.declared.raw.Form.TheVariants as form
use Rattle.bern_base.specs.declared.raw.RawKind.{RawKind}
use Rattle.bern_base.specs.declared.raw.RawKind.TheVariants as kind
use Rattle.bern_base.specs.declared.raw.RawShape.{RawShape}
use Rattle.bern_base.specs.declared.raw.RawShape.TheVariants as shape
use Rattle.job_text.specs.declared.tokens.Token.{Token}
use Rattle.job_text.specs.Lines.{words}
use Rattle.job_text.specs.Names.{is_name, is_file_name, IsNumber}
use Rattle.job_text.specs.Tokens.{Lexes}
use Rattle.job_text.specs.Grammar.{IsNest}

abbrev pub IsName : List ℕ → Type 0
IsName word = is_name word ≡ true

abbrev pub IsFileName : List ℕ → Type 0
IsFileName word = is_file_name word ≡ true

-- how the indices of a place are dealt
abbrev pub IsKind : RawKind → List (List ℕ) → Type 0
IsKind kind.Block words = words ≡ codes "block" ∷ []
IsKind (kind.Cyclic block) words = (number : List ℕ) × (words ≡ codes "cyclic" ∷ number ∷ []) × IsNumber block number
IsKind (kind.Listed file) words = (words ≡ codes "listed" ∷ file ∷ []) × IsFileName file

abbrev pub IsAxis : Axis → List ℕ → Type 0
IsAxis axis.Row word = word ≡ codes "row"
IsAxis axis.Col word = word ≡ codes "col"
IsAxis axis.Both word = ⊥

-- the inner axis, where this is the outer one
abbrev pub IsInnerAxis : Axis → List ℕ → Type 0
IsInnerAxis axis.Row word = word ≡ codes "col"
IsInnerAxis axis.Col word = word ≡ codes "row"
IsInnerAxis axis.Both word = ⊥

-- two levels, the outer one first
abbrev pub AreTwo : Axis → List ℕ → List ℕ → List (List ℕ) → Type 0
AreTwo outer first second words = (a b : List ℕ) × (words ≡ a ∷ first ∷ codes ">" ∷ b ∷ second ∷ []) × IsAxis outer a × IsInnerAxis outer b

-- a number, or one after a minus
abbrev pub IsOffset : ℤ → List ℕ → Type 0
IsOffset offset word =
    ((n : ℕ) × IsNumber n word × (offset ≡ pos n))
    ⊎ ((n : ℕ) × (digits : List ℕ) × (word ≡ 45 ∷ digits) × IsNumber n digits × (offset ≡ neg_ℤ (pos n)))

-- each above the one before it
abbrev pub Rise : List ℤ → Type 0
Rise [] = Unit {0}
Rise (only ∷ []) = Unit {0}
Rise (first ∷ second ∷ offsets) = (first <ℤ second) × Rise (second ∷ offsets)

-- one offset or more, rising
pub record AreOffsets (offsets : List ℤ) (words : List (List ℕ)) : Type 0 where
  pub spelled : AllZip IsOffset offsets words
  pub rising : Rise offsets
  pub some : offsets ≢ []

abbrev pub AreLevels : RawShape → List (List ℕ) → Type 0
AreLevels shape.DenseOne words = words ≡ codes "row" ∷ codes "dense" ∷ []
AreLevels shape.PackedOne words = words ≡ codes "row" ∷ codes "packed" ∷ []
AreLevels shape.ListOne words = words ≡ codes "row" ∷ codes "list" ∷ []
AreLevels (shape.DenseDense outer) words = AreTwo outer (codes "dense") (codes "dense") words
AreLevels (shape.DensePacked outer) words = AreTwo outer (codes "dense") (codes "packed") words
AreLevels (shape.PackedPacked outer) words = AreTwo outer (codes "packed") (codes "packed") words
AreLevels shape.ListTwo words = words ≡ codes "row" ∷ codes "col" ∷ codes "list" ∷ []
AreLevels shape.Jagged words = words ≡ codes "jagged" ∷ []
AreLevels (shape.Diagonal offsets) words = (rest : List (List ℕ)) × (words ≡ codes "diagonal" ∷ rest) × AreOffsets offsets rest
AreLevels (shape.Permute file) words =
    (words ≡ codes "permute" ∷ file ∷ codes "row" ∷ codes "dense" ∷ codes ">" ∷ codes "col" ∷ codes "packed" ∷ []) × IsFileName file

-- one name, or two with a comma between them, in one word
abbrev pub AreExtents : List (List ℕ) → List ℕ → Type 0
AreExtents [] word = ⊥
AreExtents (only ∷ []) word = (word ≡ only) × IsName only
AreExtents (rows ∷ cols ∷ []) word = (word ≡ rows ++ 44 ∷ cols) × IsName rows × IsName cols
AreExtents (rows ∷ cols ∷ more ∷ names) word = ⊥

-- where an array's values come from
abbrev pub IsSource : Option (List ℕ) → List (List ℕ) → Type 0
IsSource None words = words ≡ codes "zero" ∷ []
IsSource (Some file) words = (words ≡ codes "from" ∷ file ∷ []) × IsFileName file

-- the lines other than nests, by their words
abbrev pub IsWordForm : Form → List (List ℕ) → Type 0
IsWordForm (form.Extent name size) words =
    (number : List ℕ) × (words ≡ codes "extent" ∷ name ∷ number ∷ []) × IsName name × IsNumber size number
IsWordForm (form.Place name extent dealt) words =
    (rest : List (List ℕ)) × (words ≡ codes "place" ∷ name ∷ extent ∷ rest) × IsName name × IsName extent × IsKind dealt rest
IsWordForm (form.Format name levels) words =
    (rest : List (List ℕ)) × (words ≡ codes "format" ∷ name ∷ rest) × IsName name × AreLevels levels rest
IsWordForm (form.Array name extents format split place file) words =
    (sizes side : List ℕ) × (rest : List (List ℕ)) × (words ≡ codes "array" ∷ name ∷ sizes ∷ format ∷ side ∷ codes "by" ∷ place ∷ rest)
    × IsName name × AreExtents extents sizes × IsName format × IsAxis split side × IsName place × IsSource file rest
IsWordForm (form.Nest nest) words = ⊥
IsWordForm (form.Print name) words = (words ≡ codes "print" ∷ name ∷ []) × IsName name

-- what a line says, up to its comment, has this form
abbrev pub IsForm : Form → List ℕ → Type 0
IsForm (form.Nest nest) text = (tokens : List Token) × Lexes text tokens × IsNest nest tokens
IsForm other text = IsWordForm other (words text)
