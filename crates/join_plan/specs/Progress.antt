-- How far a plan has come, as arrays.
use Rattle.std.specs.Prelude.{◌≡◌, ℕ, ◌<◌, Bool, false, List, replicate, slice_index, slice_index_or}
use Rattle.std.specs.List.{flat_map, fold, range_with_len}
use Rattle.term_model.specs.Plans.{Known, Query, deeper, depth_of, is_in, searches}
use Rattle.join_plan.specs.declared.progress.Progress.{Progress}

-- whether a variable is marked
abbrev pub mark : List Bool → ℕ → Bool
mark marks v = slice_index_or marks v false

-- the marks of the four variables are those of a list
abbrev pub Marks : List ℕ → List Bool → Type 0
Marks bound marks = (v : ℕ) → v < 4 → mark marks v ≡ is_in v bound

-- so many levels of each reference
abbrev pub Locates : (ℕ → ℕ) → List ℕ → Type 0
Locates located levels = (r : ℕ) → r < 4 → slice_index levels r ≡ located r

pub record Knows (k : Known) (p : Progress) : Type 0 where
  pub bound : Marks k.bound p.bound
  pub located : Locates k.located p.located

-- these references search their next levels in turn
abbrev pub searched_by : Query → Known → List ℕ → Known
searched_by q k rs = record k { located = fold (λ located s. deeper s.reference located) k.located (searches q k rs) }

-- the tries of the references before this one
abbrev pub tries_before : Query → ℕ → List ℕ
tries_before q r = flat_map (λ s. replicate (depth_of q s) s) (range_with_len 0 r)
