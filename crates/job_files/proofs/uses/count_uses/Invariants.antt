-- The uses of the file so far, which are no more than all so far.
use Rattle.std.proofs.Common.{◌≡◌, ◌≤◌, take}
use Rattle.std.specs.List.{count_by}
use Rattle.job_files.specs.Uses.{is_of}
use Rattle.job_files.proofs.uses.count_uses.Given as goal

abbrev pub invariant-uses : goal.invariant-uses
invariant-uses l = record {
  count : l.count ≡ count_by (is_of l.file) (take l.wanted-index l.uses);
  within : l.count ≤ l.wanted-index;
}
