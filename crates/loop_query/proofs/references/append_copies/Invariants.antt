use Rattle.std.proofs.Common.{◌≡◌, ◌++◌, take}
use Rattle.loop_query.proofs.references.append_copies.Given as goal

abbrev pub invariant-loop-reference : goal.invariant-loop-reference
invariant-loop-reference l = l.references ≡ l.initial.references ++ take l.reference-index l.more
