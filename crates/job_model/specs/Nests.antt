-- What the nests of a job leave: each turn is a fold over the points of its nest.
use Rattle.std.specs.Prelude.{ℕ, ◌*◌, List, Bool, Option, Some, None, ℤ, map, slice_get, take, if◌then◌else◌}
use Rattle.std.specs.List.{fold}
use Rattle.bern_base.specs.Matrix.{matrix_values}
use Rattle.bern_base.specs.Ring.{ring_add}
use Rattle.bern_base.specs.declared.job.ArrayDecl.{ArrayDecl}
use Rattle.bern_base.specs.declared.job.Checked.{Checked}
use Rattle.bern_base.specs.declared.job.Nest.{Nest}
use Rattle.bern_base.specs.declared.matrix.Entry.{Entry}
use Rattle.job_model.specs.State.{State, read, write, zeros}
use Rattle.job_model.specs.Elements.{element_of}
use Rattle.job_model.specs.Points.{points}
use Rattle.job_model.specs.Values.{value_in}

-- `=` puts the value in place of the old one, and `+=` adds it
abbrev pub changed : Bool → ℕ → ℕ → ℕ
changed replace old value = if replace then value else ring_add old value

abbrev pub with_changed : Bool → State → ℕ → ℕ → ℕ → State
with_changed replace state array element value = write state array element (changed replace (read state array element) value)

-- one point of a nest, read in the state reached so far
abbrev pub at_point : List ArrayDecl → Nest → State → List ℤ → State
at_point arrays nest state point = with_changed nest.replace state nest.target.array (element_of arrays nest.target point) (value_in arrays state point nest.body)

-- the state after a nest
abbrev pub after_nest : List ArrayDecl → State → Nest → State
after_nest arrays state nest = fold (at_point arrays nest) state (points nest)

-- the state after a turn of a nest; a turn of a nest that is not there changes nothing
abbrev pub after_found : List ArrayDecl → State → Option Nest → State
after_found arrays state None = state
after_found arrays state (Some nest) = after_nest arrays state nest

abbrev pub after_turn : Checked → State → ℕ → State
after_turn job state k = after_found job.arrays state (slice_get job.nests k)

-- the state before turn t, and after the last turn
abbrev pub state_before : Checked → State → ℕ → State
state_before job first t = fold (after_turn job) first (take t job.turns)

abbrev pub end_state : Checked → State → State
end_state job first = fold (after_turn job) first job.turns

-- what an array begins with: zeros, or the values in its file; `files` gives the entries that a file states
abbrev pub first_values : (List ℕ → List Entry) → ArrayDecl → Option (List ℕ) → List ℕ
first_values files array None = zeros (array.rows * array.cols)
first_values files array (Some name) = matrix_values array.rows array.cols (files name)

abbrev pub first_state : (List ℕ → List Entry) → List ArrayDecl → State
first_state files arrays = map (λ array. first_values files array array.file) arrays
