-- States: each array has a list of rows * cols values, by element number, which is row * cols + col.
use Rattle.std.specs.Prelude.{ℕ, List, [], replicate, slice_index, slice_index_or, slice_set}

-- arrays by their place among the declared ones
abbrev pub State : Type 0
State = List (List ℕ)

abbrev pub values_in : State → ℕ → List ℕ
values_in state array = slice_index_or state array []

abbrev pub read : State → ℕ → ℕ → ℕ
read state array element = slice_index (values_in state array) element

abbrev pub write : State → ℕ → ℕ → ℕ → State
write state array element value = slice_set state array (slice_set (values_in state array) element value)

-- the values of an array with `zero`
abbrev pub zeros : ℕ → List ℕ
zeros count = replicate count 0
