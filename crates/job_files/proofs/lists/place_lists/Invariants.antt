-- The places so far have their lists.
use Rattle.std.proofs.Common.{take}
use Rattle.std.specs.List.{AllZip}
use Rattle.job_files.specs.PlaceLists.{IsLineFrom}
use Rattle.job_files.proofs.lists.place_lists.Given as goal

abbrev pub invariant-loop-place : goal.invariant-loop-place
invariant-loop-place l = AllZip (IsLineFrom l.uses l.loaded l.job.extents l.ranks) (take l.place-index l.places) l.lists
