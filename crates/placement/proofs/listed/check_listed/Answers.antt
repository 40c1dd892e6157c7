use Rattle.std.proofs.Common.{sym, subst, AllPairs, ◌≤◌}
use Rattle.placement.proofs.RanksLemmas.{rows-rise}
use Rattle.placement.proofs.listed.check_listed.Goals as goal

pub has_gap-requires-clause-rising : goal.has_gap-requires-clause-rising
has_gap-requires-clause-rising c = subst (AllPairs (λ e f. e.row ≤ f.row)) (sym c.as_slice-entries.ensures) (rows-rise c.args.matrix.now c.requires)
