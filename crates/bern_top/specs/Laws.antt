-- What is due where nothing is refused.
use Rattle.std.specs.Prelude.{◌≡◌, ℕ, List, Some, None}
use Rattle.bern_base.specs.declared.job.Checked.{Checked}
use Rattle.bern_ports.specs.Files.{Files, bytes_of}
use Rattle.job_accept.specs.Front.{AcceptsBytes}
use Rattle.job_files.specs.FileOrder.{stop_of_files}
use Rattle.job_files.specs.Uses.{unplaced}
use Rattle.bern_top.specs.Requests.{Asks}
use Rattle.bern_top.specs.Top.{IsDue}
use Rattle.bern_top.specs.declared.requests.Command.TheVariants.{Plan}

-- where words ask for the plans of an accepted job, and nothing stops the loading of its files, a text is due
abbrev pub PlansAreDue : Type 0
PlansAreDue =
    (files : Files) (words : List (List ℕ)) (name bytes : List ℕ) (job : Checked) → Asks words name Plan →
    bytes_of files name ≡ Some bytes → AcceptsBytes bytes job → stop_of_files files name 1 (unplaced job) ≡ None → (text : List ℕ) × IsDue files words text
