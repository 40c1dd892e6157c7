-- The printed text of receive sets: a line for each set, by nest, rank, owner and array.
use Rattle.std.specs.Prelude.{ℕ, ◌+◌, ◌==◌, List, [], ◌++◌, Option, Some, None, codes, decimal, if◌then◌else◌, length, slice_get}
use Rattle.std.specs.List.{flat_map, range_with_len}
use Rattle.bern_base.specs.declared.job.ArrayDecl.{ArrayDecl}
use Rattle.bern_base.specs.declared.job.Checked.{Checked}
use Rattle.bern_base.specs.declared.letter.NeedSet.{NeedSet}
use Rattle.bern_base.specs.declared.letter.Needs.{Needs}

-- what is not declared has no name
abbrev pub array_name : Option ArrayDecl → List ℕ
array_name None = []
array_name (Some array) = array.name

abbrev pub element_word : ℕ → List ℕ
element_word element = codes " " ++ decimal element

-- the line of a set that a rank receives; nests count from 1, ranks and elements from 0
abbrev pub set_line : Checked → ℕ → NeedSet → List ℕ
set_line job rank set =
    codes "nest " ++ decimal (set.nest + 1) ++ codes " rank " ++ decimal rank ++ codes " from " ++ decimal set.owner
    ++ codes " " ++ array_name (slice_get job.arrays set.array) ++ flat_map element_word set.elements ++ codes "\n"

-- the sets of a rank that are of this nest, in their order
abbrev pub rank_text : Checked → ℕ → ℕ → Needs → List ℕ
rank_text job nest rank needs = flat_map (λ set. if set.nest == nest then set_line job rank set else []) needs.sets

abbrev pub numbered_text : Checked → ℕ → ℕ → Option Needs → List ℕ
numbered_text job nest rank None = []
numbered_text job nest rank (Some needs) = rank_text job nest rank needs

-- the sets of all ranks in a nest
abbrev pub nest_text : Checked → List Needs → ℕ → List ℕ
nest_text job needs nest = flat_map (λ rank. numbered_text job nest rank (slice_get needs rank)) (range_with_len 0 (length needs))

abbrev pub sets_text : Checked → List Needs → List ℕ
sets_text job needs = flat_map (nest_text job needs) (range_with_len 0 (length job.nests))
