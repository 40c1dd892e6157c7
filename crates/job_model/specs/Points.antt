-- The points of a nest: the choices of a value for each of its loop variables that meet its guards.
use Rattle.std.specs.Prelude.{ℕ, List, [], ◌∷◌, Bool, not, ℤ, pos, negsuc, ◌+ℤ◌, ◌-ℤ◌, int_lt, int_le, map, slice_index_or}
use Rattle.std.specs.List.{filter, flat_map, list_all, range_with_len}
use Rattle.std.specs.Ordering.{int_eq}
use Rattle.bern_base.specs.Affine.{value_at}
use Rattle.bern_base.specs.declared.job.Guard.{Guard}
use Rattle.bern_base.specs.declared.job.Nest.{Nest}
use Rattle.bern_base.specs.declared.job.Span.{Span}
use Rattle.bern_base.specs.declared.raw.Rel.{Rel}
use Rattle.bern_base.specs.declared.raw.Rel.TheVariants as rel

-- a whole number as a natural one; one below 0 is 0
abbrev pub natural : ℤ → ℕ
natural (pos n) = n
natural (negsuc n) = 0

-- the values of a span: from its first to the one below its second
abbrev pub values_of : ℤ × ℤ → List ℤ
values_of span = map (λ k. span.0 +ℤ pos k) (range_with_len 0 (natural (span.1 -ℤ span.0)))

-- all choices of a value from each span, the first one changing slowest
abbrev pub choices : List (ℤ × ℤ) → List (List ℤ)
choices [] = [] ∷ []
choices (span ∷ spans) = flat_map (λ x. map (λ rest. x ∷ rest) (choices spans)) (values_of span)

abbrev pub bounds_of : Span → ℤ × ℤ
bounds_of span = (span.lo, span.hi)

-- the span of one of the four variables; one that the nest does not have is 0 alone
abbrev pub bounds_at : List Span → ℕ → ℤ × ℤ
bounds_at vars v = slice_index_or (map bounds_of vars) v (pos 0, pos 1)

abbrev pub spans_of : List Span → List (ℤ × ℤ)
spans_of vars = map (bounds_at vars) (0 ∷ 1 ∷ 2 ∷ 3 ∷ [])

-- how a number stands to 0
abbrev pub compares : Rel → ℤ → Bool
compares rel.Lt left = int_lt left (pos 0)
compares rel.Le left = int_le left (pos 0)
compares rel.Gt left = int_lt (pos 0) left
compares rel.Ge left = int_le (pos 0) left
compares rel.Eq left = int_eq left (pos 0)
compares rel.Ne left = not (int_eq left (pos 0))

abbrev pub holds : List ℤ → Guard → Bool
holds point guard = compares guard.rel (value_at guard.left point)

abbrev pub meets : List Guard → List ℤ → Bool
meets guards point = list_all (holds point) guards

-- the box of a nest: all points before the guards are asked, each with four values
abbrev pub box_of : Nest → List (List ℤ)
box_of nest = choices (spans_of nest.vars)

-- the points of a nest, the first variable slowest
abbrev pub points : Nest → List (List ℤ)
points nest = filter (meets nest.guards) (box_of nest)
