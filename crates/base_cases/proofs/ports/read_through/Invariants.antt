use Rattle.std.proofs.Common.{IsTrue}
use Rattle.base_cases.proofs.ports.read_through.Given as goal

abbrev pub invariant-loop : goal.invariant-loop
invariant-loop g l = IsTrue (g.S.Shelf.begun l.shelf)
