-- The elements that a rank asks for, by its own entries.
use Rattle.std.specs.Prelude.{◌≡◌, ℕ, ◌<◌, ◌⊎◌, Bool, List, length, filter, map, slice_index, slice_index_or}
use Rattle.std.specs.List.{range_with_len}
use Rattle.bern_base.specs.declared.matrix.Entry.{Entry}
use Rattle.placement.specs.Placement.{Triple, local_of}
use Rattle.rank_model.specs.Products.{is_received, reads}

-- those that rank q owns, rising; none where q is the rank itself
abbrev pub asked_of : List Triple → List Entry → ℕ → ℕ → ℕ → List ℕ
asked_of place entries extent rank q = filter (is_received place entries rank q) (range_with_len 0 extent)

-- the same for each rank
abbrev pub all_asked : List Triple → List Entry → ℕ → ℕ → ℕ → List (List ℕ)
all_asked place entries extent rank ranks = map (asked_of place entries extent rank) (range_with_len 0 ranks)

-- the values of elements that a rank owns, by its own values
abbrev pub own_values : List Triple → List ℕ → List ℕ → List ℕ
own_values place own elements = map (λ w. slice_index own (local_of place w)) elements

-- a mark for each element says whether an entry reads it
pub record IsMarked (entries : List Entry) (extent : ℕ) (marks : List Bool) : Type 0 where
  pub long : length marks ≡ extent
  pub each : (w : ℕ) (d : Bool) → w < extent → slice_index_or marks w d ≡ reads entries w

-- the first n of the values stand at their elements, where they are those of a function; what stood elsewhere as it has
-- there still does
pub record ArePut (elements values : List ℕ) (n : ℕ) (old new : List ℕ) : Type 0 where
  pub long : length new ≡ length old
  pub at : (value : ℕ → ℕ) → ((k : ℕ) → k < n → slice_index values k ≡ value (slice_index elements k)) →
      (w : ℕ) → (slice_index old w ≡ value w) ⊎ ((k : ℕ) × (k < n) × (slice_index elements k ≡ w)) → slice_index new w ≡ value w
