-- The points of a box by the values that are chosen already and those that are still to choose, and what they write.
use Rattle.std.specs.Prelude.{◌≡◌, ℕ, List, [], ◌∷◌, ◌++◌, ◌<◌, ◌==◌, ◌&&◌, Bool, false, Option, ℤ, pos, ◌+ℤ◌, map, if◌then◌else◌, slice_index}
use Rattle.std.specs.List.{filter, flat_map, list_any, range_with_len}
use Rattle.bern_base.specs.Affine.{AffineForm, IsInBox, IsInSpan, IsWithin, number_of, span_of, value_at}
use Rattle.bern_base.specs.declared.job.Checked.{Checked}
use Rattle.bern_base.specs.declared.job.Nest.{Nest}
use Rattle.format_model.specs.Grids.{Grid, HasElement, value_of_element}
use Rattle.job_model.specs.Points.{choices, meets, spans_of}
use Rattle.term_model.specs.Answers.{Places, home_of}
use Rattle.split_exec.specs.Applying.{with_values}
use Rattle.split_exec.specs.Hits.{spot}

-- the points that begin with these values
abbrev pub points_from : List ℤ → List (ℤ × ℤ) → List (List ℤ)
points_from front spans = map (λ rest. front ++ rest) (choices spans)

-- the points whose next value is one of the first k of a span that begins at lo
abbrev pub points_below : List ℤ → List (ℤ × ℤ) → ℤ → ℕ → List (List ℤ)
points_below front spans lo k = flat_map (λ j. points_from (front ++ (lo +ℤ pos j) ∷ []) spans) (range_with_len 0 k)

-- the first so many values lie in their spans
abbrev pub AreChosen : List (ℤ × ℤ) → ℕ → List ℤ → Type 0
AreChosen spans depth values = (v : ℕ) → v < depth → IsInSpan (span_of spans v) (number_of values v)

-- both bounds are values of a loop variable
abbrev pub IsNearSpan : ℤ × ℤ → Type 0
IsNearSpan span = IsWithin 4194303 span.0 × IsWithin 4194303 span.1

-- two points have the same first values
abbrev pub AreAlike : ℕ → List ℤ → List ℤ → Type 0
AreAlike depth p q = (v : ℕ) → v < depth → number_of p v ≡ number_of q v

-- a form's value hangs on the first so many variables alone
abbrev pub HangsOn : ℕ → AffineForm → Type 0
HangsOn depth form = (p q : List ℤ) → AreAlike depth p q → value_at form p ≡ value_at form q

-- a point of the box counts where it is one of the nest's and at home at the rank
abbrev pub counts : Checked → Places → Nest → ℕ → List ℤ → Bool
counts job places nest rank x = home_of job places nest x == rank && meets nest.guards x

-- none of the points of the box with these first values is at home at the rank
abbrev pub NoneAtHome : Checked → Places → Nest → ℕ → ℕ → List ℤ → Type 0
NoneAtHome job places nest rank depth values =
    (x : List ℤ) → IsInBox (spans_of nest.vars) x → AreAlike depth values x → (home_of job places nest x == rank) ≡ false

-- none of the points of the box with these first values counts
abbrev pub NoneCounts : Checked → Places → Nest → ℕ → ℕ → List ℤ → Type 0
NoneCounts job places nest rank depth values =
    (x : List ℤ) → IsInBox (spans_of nest.vars) x → AreAlike depth values x → counts job places nest rank x ≡ false

-- of these points, those that count write the element with this number in the part
abbrev pub written_by : Checked → Places → Nest → ℕ → List (List ℤ) → ℕ → Bool
written_by job places nest rank xs k = list_any (λ x. spot job places rank x nest.target == k) (filter (counts job places nest rank) xs)

-- each element that they write has its sum, the others are as they were, and so is all else of the part
pub record Replaces
    (job : Checked) (places : Places) (nest : Nest) (rank : ℕ) (sums : List ℕ) (old new : Option Grid) (xs : List (List ℤ)) : Type 0 where
  pub values : List ℕ
  pub alike : new ≡ with_values old values
  pub each : (k : ℕ) → HasElement old k →
      value_of_element new k ≡ (if written_by job places nest rank xs k then slice_index sums k else value_of_element old k)
