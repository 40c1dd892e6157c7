-- The interior and the boundary points of a term at a rank.
use Rattle.std.specs.Prelude.{ℕ, ◌==◌, List, Bool, not, ℤ, slice_get}
use Rattle.std.specs.List.{filter, list_all}
use Rattle.bern_base.specs.declared.job.Checked.{Checked}
use Rattle.bern_base.specs.declared.job.Nest.{Nest}
use Rattle.bern_base.specs.declared.job.Ref.{Ref}
use Rattle.job_model.specs.Elements.{element_of}
use Rattle.term_model.specs.declared.term.Term.{Term}
use Rattle.term_model.specs.Activity.{Entries}
use Rattle.term_model.specs.Answers.{Places, answer, owner_in}

-- the rank owns the element that a reference names at a point
abbrev pub is_own : Checked → Places → ℕ → List ℤ → Ref → Bool
is_own job places rank point ref = owner_in places (slice_get job.arrays ref.array) (element_of job.arrays ref point) == rank

-- a point is interior where every dense element that the term reads there is the rank's own, and else on the boundary
abbrev pub is_interior : Checked → Places → ℕ → Term → List ℤ → Bool
is_interior job places rank t point = list_all (is_own job places rank point) t.dense

-- those of the points that the rank visits for the term
abbrev pub interior_points : Checked → Entries → Places → Nest → Term → ℕ → List (List ℤ)
interior_points job entries places nest t rank = filter (is_interior job places rank t) (answer job entries places nest t rank)

abbrev pub boundary_points : Checked → Entries → Places → Nest → Term → ℕ → List (List ℤ)
boundary_points job entries places nest t rank = filter (λ point. not (is_interior job places rank t point)) (answer job entries places nest t rank)
