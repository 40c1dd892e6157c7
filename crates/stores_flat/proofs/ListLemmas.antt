-- The children of a list, and what they list.
use Rattle.std.proofs.Common.{◌≡◌, ◌∙◌, ℕ, zero, suc, ◌<◌, List, [], ◌∷◌, length, Some, None, sym, ap, subst, arith, zero-add}
use Rattle.std.specs.Prelude.{slice_index}
use Rattle.std.specs.List.{slice_get}
use Rattle.bern_base.specs.declared.axes.Axis.{Axis}
use Rattle.format_model.specs.Levels.{level_at, list_level, steps_of}
use Rattle.format_model.specs.Made.{made, made_at, made_found, made_none, length-made}
use Rattle.format_model.specs.Trees.{child_at}

-- the children of a list with these indices
abbrev pub places : List ℕ → List (ℕ × ℕ)
places indices = made (slice_index indices) (λ place. place) 0 (length indices)

pub length-places : (indices : List ℕ) → length (places indices) ≡ length indices
length-places indices = length-made (slice_index indices) (λ place. place) 0 (length indices)

pub place_at : (indices : List ℕ) (k x : ℕ) → k < length (places indices) → x ≡ slice_index indices k → slice_get (places indices) k ≡ Some (x, k)
place_at indices k x below is =
    made_at (slice_index indices) (λ place. place) 0 (length indices) k (subst (λ n. k < n) (length-places indices) below)
    ∙ ap (λ j. Some (slice_index indices j, j)) (zero-add k) ∙ ap (λ i. Some (i, k)) (sym is)

-- an index is found at the first place that has it
pub place_found : (indices : List ℕ) (k index : ℕ) → k < length indices → slice_index indices k ≡ index → ((j : ℕ) → j < k → slice_index indices j ≡ index → ⊥) → child_at (places indices) index ≡ Some k
place_found indices k index below is first =
    subst (λ i. child_at (places indices) i ≡ Some k) is
    (made_found (slice_index indices) (λ place. place) 0 (length indices) k (omega arith) (omega arith) (λ j low up same. first j up (same ∙ is)))

pub place_none : (indices : List ℕ) (index : ℕ) → ((j : ℕ) → j < length indices → slice_index indices j ≡ index → ⊥) → child_at (places indices) index ≡ None
place_none indices index other = made_none (slice_index indices) (λ place. place) 0 (length indices) index (λ k low high. other k (omega arith))

-- a search in a list takes at most a step for each child
pub list_weight : (a : Axis) (level : ℕ) (indices : List ℕ) → steps_of (level_at (list_level a ∷ []) level).lookup (length (places indices)) ≡ length indices
list_weight a zero indices = length-places indices
list_weight a (suc level) indices = length-places indices
