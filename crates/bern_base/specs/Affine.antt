-- Whole-number forms over four loop variables, the points at which they are read, and their values.
use Rattle.std.specs.Prelude.{◌≡◌, ℕ, ◌+◌, ◌<◌, List, length, slice_index_or, ℤ, pos, negsuc, ◌+ℤ◌, ◌*ℤ◌, ◌≤ℤ◌, ◌<ℤ◌}
use Rattle.std.specs.List.{All}

-- c0 + coef[0] * x0 + .. + coef[3] * x3
pub record AffineForm : Type 0 where
  pub c0 : ℤ
  pub coef : List ℤ

-- at least -(n + 1), and at most n + 1
abbrev pub IsWithin : ℕ → ℤ → Type 0
IsWithin n v = (negsuc n ≤ℤ v) × (v ≤ℤ pos (n + 1))

-- the four coefficients are at most 2^21 in size, and the constant at most 2^32
pub record IsAffine (form : AffineForm) : Type 0 where
  pub constant : IsWithin 4294967295 form.c0
  pub coefficients : All (IsWithin 2097151) form.coef

-- the value of each loop variable is at most 4,194,304 in size
abbrev pub IsPoint : List ℤ → Type 0
IsPoint values = All (IsWithin 4194303) values

-- the number of a variable in a list of factors or of values
abbrev pub number_of : List ℤ → ℕ → ℤ
number_of numbers v = slice_index_or numbers v (pos 0)

-- what a variable adds to a form
abbrev pub term : AffineForm → List ℤ → ℕ → ℤ
term form values v = number_of form.coef v *ℤ number_of values v

-- the value of a form at these values of the variables
abbrev pub value_at : AffineForm → List ℤ → ℤ
value_at form values = form.c0 +ℤ term form values 0 +ℤ term form values 1 +ℤ term form values 2 +ℤ term form values 3

-- a span holds the values from its first to the one below its second
abbrev pub IsInSpan : ℤ × ℤ → ℤ → Type 0
IsInSpan span value = (span.0 ≤ℤ value) × (value <ℤ span.1)

-- it holds a value, and both its ends are values of a loop variable
abbrev pub IsSpan : ℤ × ℤ → Type 0
IsSpan span = (span.0 <ℤ span.1) × IsWithin 4194303 span.0 × IsWithin 4194303 span.1

-- the factor times this value is least, or greatest, among the values of a span
abbrev pub IsLeastIn : ℤ × ℤ → ℤ → ℤ → Type 0
IsLeastIn span factor value = (x : ℤ) → IsInSpan span x → (factor *ℤ value) ≤ℤ (factor *ℤ x)

abbrev pub IsGreatestIn : ℤ × ℤ → ℤ → ℤ → Type 0
IsGreatestIn span factor value = (x : ℤ) → IsInSpan span x → (factor *ℤ x) ≤ℤ (factor *ℤ value)

abbrev pub span_of : List (ℤ × ℤ) → ℕ → ℤ × ℤ
span_of spans v = slice_index_or spans v (pos 0, pos 0)

-- a box holds the points whose values lie each in its span
pub record IsInBox (spans : List (ℤ × ℤ)) (values : List ℤ) : Type 0 where
  pub four : length values ≡ 4
  pub each : (v : ℕ) → v < 4 → IsInSpan (span_of spans v) (number_of values v)

-- the form has this value at some point of the box
pub record IsReached (form : AffineForm) (spans : List (ℤ × ℤ)) (value : ℤ) : Type 0 where
  pub values : List ℤ
  pub inside : IsInBox spans values
  pub is : value_at form values ≡ value

-- no point of the box has a value outside these two
abbrev pub IsBetween : AffineForm → List (ℤ × ℤ) → ℤ × ℤ → Type 0
IsBetween form spans ends = (values : List ℤ) → IsInBox spans values → (ends.0 ≤ℤ value_at form values) × (value_at form values ≤ℤ ends.1)
