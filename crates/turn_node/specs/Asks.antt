-- What a node counts in the sets that it was asked for.
use Rattle.std.specs.Prelude.{ℕ, [], length}
use Rattle.bern_base.specs.declared.letter.NeedSet.{NeedSet}
use Rattle.bern_base.specs.declared.letter.Needs.{Needs}

abbrev pub no_needs : Needs
no_needs = record { sets = [] }

-- how many elements a set has
abbrev pub elements_in : NeedSet → ℕ
elements_in set = length set.elements
