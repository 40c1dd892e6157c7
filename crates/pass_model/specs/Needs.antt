-- Used and receive sets: which elements a rank reads, and which of them others own.
use Rattle.std.specs.Prelude.{ℕ, ◌==◌, ◌&&◌, Bool, List, [], ◌∷◌, Option, Some, None, ℤ, if◌then◌else◌, length, slice_get, slice_index_or}
use Rattle.std.specs.List.{filter, flat_map, list_any, range_with_len}
use Rattle.bern_base.specs.declared.job.ArrayDecl.{ArrayDecl}
use Rattle.bern_base.specs.declared.job.Checked.{Checked}
use Rattle.bern_base.specs.declared.job.Nest.{Nest}
use Rattle.bern_base.specs.declared.job.Ref.{Ref}
use Rattle.bern_base.specs.declared.letter.NeedSet.{NeedSet}
use Rattle.job_model.specs.Elements.{element_of}
use Rattle.placement.specs.Elements.{owned_elements}
use Rattle.term_model.specs.declared.term.Term.{Term}
use Rattle.term_model.specs.Activity.{Entries}
use Rattle.term_model.specs.Answers.{Places, answer}
use Rattle.term_model.specs.Terms.{terms_of}

-- a reference names this element of this array at a point
abbrev pub names : Checked → ℕ → ℕ → List ℤ → Ref → Bool
names job array element point ref = ref.array == array && element_of job.arrays ref point == element

-- a term reads it there; only arrays that are stored whole are read across ranks
abbrev pub reads : Checked → ℕ → ℕ → Term → List ℤ → Bool
reads job array element t point = list_any (names job array element point) t.dense

-- some term of the nest reads it at some point that the rank visits for that term
abbrev pub is_used : Checked → Entries → Places → Nest → ℕ → ℕ → ℕ → Bool
is_used job entries places nest rank array element =
    list_any (λ t. list_any (reads job array element t) (answer job entries places nest t rank)) (terms_of job nest.body)

-- the elements of an array that a rank owns, rising
abbrev pub elements_of : Places → Option ArrayDecl → ℕ → List ℕ
elements_of places None rank = []
elements_of places (Some array) rank = owned_elements array.axis (slice_index_or places array.place []) array.rows array.cols rank

-- the receive set of a rank from an owner, of one array in one nest: what the rank uses of what the owner owns; none of its own
abbrev pub receive : Checked → Entries → Places → Nest → ℕ → ℕ → ℕ → List ℕ
receive job entries places nest rank owner array =
    if owner == rank then [] else filter (is_used job entries places nest rank array) (elements_of places (slice_get job.arrays array) owner)

-- a set of needs, and none where there are no elements
abbrev pub need_of : ℕ → ℕ → ℕ → List ℕ → List NeedSet
need_of nest owner array [] = []
need_of nest owner array (e ∷ es) = record { nest = nest; owner = owner; array = array; elements = e ∷ es } ∷ []

-- the needs of a rank in a nest, by owner and then array
abbrev pub needs_in : Checked → Entries → Places → ℕ → ℕ → ℕ → Option Nest → List NeedSet
needs_in job entries places ranks rank number None = []
needs_in job entries places ranks rank number (Some nest) =
    flat_map (λ owner. flat_map (λ array. need_of number owner array (receive job entries places nest rank owner array)) (range_with_len 0 (length job.arrays)))
    (range_with_len 0 ranks)

-- all needs of a rank: by nest, owner and array
abbrev pub needs_of : Checked → Entries → Places → ℕ → ℕ → List NeedSet
needs_of job entries places ranks rank =
    flat_map (λ number. needs_in job entries places ranks rank number (slice_get job.nests number)) (range_with_len 0 (length job.nests))
