-- The arrays of the print lines so far are printed.
use Rattle.std.proofs.Common.{◌≡◌, flat_map, take}
use Rattle.job_model.specs.State.{State}
use Rattle.term_model.specs.Activity.{Entries}
use Rattle.whole_laws.specs.HeldArrays.{HoldsState}
use Rattle.job_runs.specs.Texts.{text_of}
use Rattle.job_runs.proofs.printing.print_stores.Given as goal

abbrev pub invariant-loop-number : goal.invariant-loop-number
invariant-loop-number l = (entries : Entries) (state : State) → HoldsState l.job entries state l.stores → l.text ≡ flat_map (text_of l.job.arrays state) (take l.number-index l.number-items)
