-- The elements of a rank's part of an array: its sizes, and the number of an element in it, which is row * columns + column of the part.
use Rattle.std.specs.Prelude.{◌≡◌, ℕ, ◌+◌, ◌*◌, ◌/◌, ◌%◌, ◌<◌, List, [], Some, if◌then◌else◌, slice_index_or}
use Rattle.bern_base.specs.declared.job.ArrayDecl.{ArrayDecl}
use Rattle.job_model.specs.Accepted.{is_col}
use Rattle.placement.specs.Placement.{Triple, local_of, owned_of}
use Rattle.term_model.specs.Answers.{Places, owner_in}

-- the triples of the place line that deals an array
abbrev pub triples_in : Places → ArrayDecl → List Triple
triples_in places array = slice_index_or places array.place []

-- how many rows and columns the rank's part has
abbrev pub own_rows : List Triple → ArrayDecl → ℕ → ℕ
own_rows ts array rank = if is_col array.axis then array.rows else owned_of ts rank

abbrev pub own_cols : List Triple → ArrayDecl → ℕ → ℕ
own_cols ts array rank = if is_col array.axis then owned_of ts rank else array.cols

-- how many elements it has
abbrev pub own_size : Places → ArrayDecl → ℕ → ℕ
own_size places array rank = own_rows (triples_in places array) array rank * own_cols (triples_in places array) array rank

-- the row and the column in its owner's part, for those of the array
abbrev pub local_row : List Triple → ArrayDecl → ℕ → ℕ
local_row ts array row = if is_col array.axis then row else local_of ts row

abbrev pub local_col : List Triple → ArrayDecl → ℕ → ℕ
local_col ts array col = if is_col array.axis then local_of ts col else col

abbrev pub local_at : List Triple → ArrayDecl → ℕ → ℕ → ℕ → ℕ
local_at ts array rank row col = local_row ts array row * own_cols ts array rank + local_col ts array col

-- the number of an element in the part of the rank that owns it, for its number in the array
abbrev pub local_element : Places → ArrayDecl → ℕ → ℕ → ℕ
local_element places array rank n = local_at (triples_in places array) array rank (n / array.cols) (n % array.cols)

-- an element of the array that the rank owns, by its number in the array
pub record IsOwn (places : Places) (array : ArrayDecl) (rank n : ℕ) : Type 0 where
  pub inside : n < array.rows * array.cols
  pub owner : owner_in places (Some array) n ≡ rank
