-- What is printed of the arrays of a job and of the events of a replay, and the texts that are due.
use Rattle.std.specs.Prelude.{ℕ, List, [], ◌++◌, Option, Some, None, slice_get, codes, decimal}
use Rattle.std.specs.List.{flat_map}
use Rattle.bern_base.specs.declared.job.ArrayDecl.{ArrayDecl}
use Rattle.bern_base.specs.declared.job.Checked.{Checked}
use Rattle.bern_base.specs.declared.matrix.Entry.{Entry}
use Rattle.bern_base.specs.declared.matrix.Matrix.{Matrix}
use Rattle.mm_profile.specs.ArrayText.{array_text}
use Rattle.job_model.specs.Nests.{end_state, first_state}
use Rattle.job_model.specs.State.{State, values_in}
use Rattle.job_files.specs.Uses.{matrices_from}
use Rattle.rank_model.specs.Products.{scripts}
use Rattle.rank_node.specs.Jobs.{is_whole}
use Rattle.rank_product.specs.Runs.{first_state as matrices_state, run_of}
use Rattle.rank_product.specs.declared.shape.ProductShape.{ProductShape}
use Rattle.rank_scripts.specs.Scripts.{total}

-- an array with its name and sizes; what is not declared has no text
abbrev pub declared_text : State → ℕ → Option ArrayDecl → List ℕ
declared_text state number None = []
declared_text state number (Some array) = array_text array.name array.rows array.cols (values_in state number)

-- the array of a number, with its values in a state
abbrev pub text_of : List ArrayDecl → State → ℕ → List ℕ
text_of arrays state number = declared_text state number (slice_get arrays number)

-- the arrays of the print lines, in the order of these lines
abbrev pub arrays_text : Checked → State → List ℕ
arrays_text job state = flat_map (text_of job.arrays state) job.prints

-- the printed number of events
abbrev pub events_text : ℕ → List ℕ
events_text events = codes "events " ++ (decimal events ++ codes "\n")

-- the text of a run, by the matrices of the arrays: the arrays of the print lines after the last turn
abbrev pub text_of_run : Checked → List Matrix → List ℕ
text_of_run job matrices = arrays_text job (end_state job (matrices_state matrices))

-- how many events a product takes on so many ranks
abbrev pub events_of : ℕ → Checked → ProductShape → List Matrix → ℕ
events_of ranks job product matrices = total (scripts (run_of (is_whole job) product ranks matrices))

-- the text of a replay: the same, and how many events the ranks took
abbrev pub text_of_replay : ℕ → Checked → ProductShape → List Matrix → List ℕ
text_of_replay ranks job product matrices = text_of_run job matrices ++ events_text (events_of ranks job product matrices)

-- the texts that are due, by the entries that the files of a job state; `entries` gives those of a file
abbrev pub run_text : (List ℕ → List Entry) → Checked → List ℕ
run_text entries job = arrays_text job (end_state job (first_state entries job.arrays))

abbrev pub replay_text : (List ℕ → List Entry) → ℕ → Checked → ProductShape → List ℕ
replay_text entries ranks job product = run_text entries job ++ events_text (events_of ranks job product (matrices_from entries job.arrays))
