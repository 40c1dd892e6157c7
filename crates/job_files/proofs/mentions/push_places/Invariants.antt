-- Of the places so far those that are declared there have their uses.
use Rattle.std.proofs.Common.{◌≡◌, ◌++◌, ◌==◌, filter, take}
use Rattle.std.specs.List.{flat_map}
use Rattle.job_files.specs.Uses.{place_use}
use Rattle.job_files.proofs.mentions.push_places.Given as goal

abbrev pub invariant-loop-place : goal.invariant-loop-place
invariant-loop-place l = l.uses ≡ l.initial.uses ++ flat_map (place_use l.ranks l.job.extents) (filter (λ place. place.arrays_before == l.number) (take l.place-index l.places))
