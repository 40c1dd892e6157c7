-- The arrays of the print lines so far are printed.
use Rattle.std.proofs.Common.{◌≡◌, flat_map, set, take}
use Rattle.rank_product.specs.Runs.{first_state}
use Rattle.job_runs.specs.Texts.{text_of}
use Rattle.job_runs.proofs.printing.print_replayed.Given as goal

abbrev pub invariant-loop-number : goal.invariant-loop-number
invariant-loop-number l = l.text ≡ flat_map (text_of l.job.arrays (set (first_state l.matrices) l.product.target l.values)) (take l.number-index l.number-items)
