-- The texts that are due, by the matrices of the files.
use Rattle.std.proofs.Common.{◌≡◌, ℕ, List, [], ◌∷◌, ◌++◌, Option, Some, None, map, refl, sym, ap, ◌∙◌, arith}
use Rattle.std.specs.List.{All, AllZip}
use Rattle.std.proofs.lemmas.List.Elements.{All-cons}
use Rattle.bern_base.proofs.ValuesLemmas.{no_entries}
use Rattle.bern_base.specs.Matrix.{IsMatrix, values_of}
use Rattle.bern_base.specs.declared.job.ArrayDecl.{ArrayDecl}
use Rattle.bern_base.specs.declared.job.Checked.{Checked}
use Rattle.bern_base.specs.declared.job.FormatDecl.{FormatDecl}
use Rattle.bern_base.specs.declared.matrix.Entry.{Entry}
use Rattle.bern_base.specs.declared.matrix.Matrix.{Matrix}
use Rattle.job_files.specs.FileOrder.{IsArrayIn}
use Rattle.job_files.specs.Uses.{entries_from, matrices_from, with_entries}
use Rattle.job_model.specs.Nests.{end_state, first_values}
use Rattle.job_model.specs.Nests as nest
use Rattle.job_model.specs.State.{State}
use Rattle.rank_product.specs.Runs.{AreOfJob, declared_sizes, first_state, sizes_of}
use Rattle.rank_product.specs.declared.shape.ProductShape.{ProductShape}
use Rattle.job_runs.specs.Texts.{arrays_text, events_of, events_text, replay_text, run_text, text_of_replay, text_of_run}

abbrev Pairs : Type 0
Pairs = List (ℕ × ℕ)

-- a matrix of each array's sizes
sizes_are : (formats : List FormatDecl) (arrays : List ArrayDecl) (ms : List Matrix) → AllZip (IsArrayIn formats) arrays ms → map sizes_of ms ≡ map declared_sizes arrays
sizes_are formats [] [] zip = refl
sizes_are formats [] (m ∷ ms) zip = absurd zip
sizes_are formats (array ∷ arrays) [] zip = absurd zip
sizes_are formats (array ∷ arrays) (m ∷ ms) zip =
    ap (λ r. (r, m.cols) ∷ map sizes_of ms) zip.0.is.rows ∙ ap (λ c. (array.rows, c) ∷ map sizes_of ms) zip.0.is.cols ∙ ap (λ (others : Pairs). declared_sizes array ∷ others) (sizes_are formats arrays ms zip.1)

matrices_are : (formats : List FormatDecl) (arrays : List ArrayDecl) (ms : List Matrix) → AllZip (IsArrayIn formats) arrays ms → All IsMatrix ms
matrices_are formats [] [] zip = λ k d within. absurd (omega (arith, within))
matrices_are formats [] (m ∷ ms) zip = absurd zip
matrices_are formats (array ∷ arrays) [] zip = absurd zip
matrices_are formats (array ∷ arrays) (m ∷ ms) zip = All-cons IsMatrix m ms zip.0.is.matrix (matrices_are formats arrays ms zip.1)

pub are_of_job : (job : Checked) (ms : List Matrix) → AllZip (IsArrayIn job.formats) job.arrays ms → AreOfJob job ms
are_of_job job ms zip = record { sizes = sizes_are job.formats job.arrays ms zip; matrices_are = matrices_are job.formats job.arrays ms zip }

-- what an array begins with, by its matrix
first_by : (entries : List ℕ → List Entry) (array : ArrayDecl) (file : Option (List ℕ)) → values_of (with_entries array (entries_from entries file)) ≡ first_values entries array file
first_by entries array None = sym (no_entries array.rows array.cols)
first_by entries array (Some name) = refl

-- the state that arrays begin with
first_of : (entries : List ℕ → List Entry) (arrays : List ArrayDecl) → first_state (matrices_from entries arrays) ≡ nest.first_state entries arrays
first_of entries [] = refl
first_of entries (array ∷ arrays) =
    ap (λ v. v ∷ first_state (matrices_from entries arrays)) (first_by entries array array.file) ∙ ap (λ (s : State). first_values entries array array.file ∷ s) (first_of entries arrays)

first_from : (entries : List ℕ → List Entry) (arrays : List ArrayDecl) (ms : List Matrix) → ms ≡ matrices_from entries arrays → first_state ms ≡ nest.first_state entries arrays
first_from entries arrays ms are = ap first_state are ∙ first_of entries arrays

-- the text by the matrices is the one that is due by the entries
pub run_due : (entries : List ℕ → List Entry) (job : Checked) (ms : List Matrix) (text : List ℕ) → ms ≡ matrices_from entries job.arrays → text ≡ text_of_run job ms → text ≡ run_text entries job
run_due entries job ms text are is = is ∙ ap (λ s. arrays_text job (end_state job s)) (first_from entries job.arrays ms are)

pub replay_due : (entries : List ℕ → List Entry) (ranks : ℕ) (job : Checked) (product : ProductShape) (ms : List Matrix) (text : List ℕ) → ms ≡ matrices_from entries job.arrays → text ≡ text_of_replay ranks job product ms →
    text ≡ replay_text entries ranks job product
replay_due entries ranks job product ms text are is =
    is
    ∙ ap (λ s. arrays_text job (end_state job s) ++ events_text (events_of ranks job product ms)) (first_from entries job.arrays ms are)
    ∙ ap (λ m. run_text entries job ++ events_text (events_of ranks job product m)) are
