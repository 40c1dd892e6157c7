-- The diagonals so far, each of which has at most as many elements as a u64 holds.
use Rattle.std.proofs.Common.{◌≡◌, ◌*◌, ◌^◌, ◌≤◌, take}
use Rattle.std.specs.List.{sum_by}
use Rattle.format_model.specs.Weights.{diagonal_len}
use Rattle.job_files.proofs.format_weights.diagonals_weight.Given as goal

abbrev pub invariant-diagonals : goal.invariant-diagonals
invariant-diagonals l = record {
  weight : l.weight ≡ sum_by (diagonal_len l.rows l.cols) (take l.offset-index l.offsets);
  within : l.weight ≤ l.offset-index * 2 ^ 64;
}
