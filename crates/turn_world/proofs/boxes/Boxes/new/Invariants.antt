-- So many rows without letters so far.
use Rattle.std.proofs.Common.{◌≡◌, replicate, []}
use Rattle.turn_world.proofs.boxes.Boxes.new.Given as goal

abbrev pub invariant-loop : goal.invariant-loop
invariant-loop l = l.rows.items ≡ replicate l.counter (replicate l.ranks [])
