-- Line 1: the banner of NIST's Matrix Market exchange formats, with the kinds of this profile.
use Rattle.std.specs.Prelude.{ℕ, Bool, ◌&&◌, ◌==◌, if◌then◌else◌, List, length, map, codes, bytes_eq, Option, Some, None, Result, Ok, Err}
use Rattle.std.specs.Char.{to_ascii_lowercase}
use Rattle.bern_base.specs.declared.refusal.Rule.{Rule}
use Rattle.bern_base.specs.declared.refusal.Rule.TheVariants.{M1, M2}
use Rattle.mm_profile.specs.declared.kinds.Format.{Format}
use Rattle.mm_profile.specs.declared.kinds.Format.TheVariants.{Coordinate, Array}
use Rattle.mm_profile.specs.declared.kinds.Field.{Field}
use Rattle.mm_profile.specs.declared.kinds.Field.TheVariants.{Integer, Pattern}
use Rattle.mm_profile.specs.declared.kinds.Symmetry.{Symmetry}
use Rattle.mm_profile.specs.declared.kinds.Symmetry.TheVariants.{General, Symmetric, Skew}
use Rattle.mm_profile.specs.declared.kinds.Kind.{Kind}
use Rattle.mm_profile.specs.Lines.{word_at}

-- the same without regard to ASCII case
abbrev pub same_letters : List ℕ → List ℕ → Bool
same_letters word text = bytes_eq (map to_ascii_lowercase word) (map to_ascii_lowercase text)

abbrev pub format_of : List ℕ → Option Format
format_of word =
    if same_letters word (codes "coordinate") then Some Coordinate
    else if same_letters word (codes "array") then Some Array
    else None

abbrev pub field_of : List ℕ → Option Field
field_of word =
    if same_letters word (codes "integer") then Some Integer
    else if same_letters word (codes "pattern") then Some Pattern
    else None

abbrev pub symmetry_of : List ℕ → Option Symmetry
symmetry_of word =
    if same_letters word (codes "general") then Some General
    else if same_letters word (codes "symmetric") then Some Symmetric
    else if same_letters word (codes "skew-symmetric") then Some Skew
    else None

-- the kinds there are: an array file has values, and so has a skew-symmetric one
abbrev pub kind_of : Option Format → Option Field → Option Symmetry → Option Kind
kind_of (Some Array) (Some Pattern) (Some _) = None
kind_of (Some Coordinate) (Some Pattern) (Some Skew) = None
kind_of (Some f) (Some g) (Some s) = Some (record { format = f; field = g; symmetry = s })
kind_of (Some _) (Some _) None = None
kind_of (Some _) None _ = None
kind_of None _ _ = None

-- the kind that the words after the mark name
abbrev pub kind_named : List ℕ → List ℕ → List ℕ → List ℕ → Option Kind
kind_named object format field symmetry =
    if same_letters object (codes "matrix") then kind_of (format_of format) (field_of field) (symmetry_of symmetry) else None

-- rule M2: the other words of line 1 name a kind
abbrev pub kind_or_m2 : Option Kind → Result Kind Rule
kind_or_m2 (Some kind) = Ok kind
kind_or_m2 None = Err M2

-- rule M1: line 1 has five words, and the first is the mark
abbrev pub is_banner : List (List ℕ) → Bool
is_banner words = length words == 5 && same_letters (word_at words 0) (codes "%%MatrixMarket")

-- what line 1 says, by its words
abbrev pub banner_of : List (List ℕ) → Result Kind Rule
banner_of words =
    if is_banner words
    then kind_or_m2 (kind_named (word_at words 1) (word_at words 2) (word_at words 3) (word_at words 4))
    else Err M1
