-- Each value so far is the sum of the entries that stand there.
use Rattle.std.proofs.Common.{ℕ, ◌==◌, cond, replicate}
use Rattle.bern_base.specs.declared.matrix.Entry.{Entry}
use Rattle.bern_base.specs.Matrix.{number}
use Rattle.rank_node.proofs.SumLemmas.{IsSummed, IsReduced}
use Rattle.rank_node.proofs.sums.dense_values.Given as goal

abbrev pub part_at : ℕ → ℕ → Entry → ℕ
part_at cols l e = cond (number cols e == l) e.value 0

abbrev pub invariant-loop-entry : goal.invariant-loop-entry
invariant-loop-entry l = record {
  summed : IsSummed (part_at l.matrix.cols) l.entry-items (replicate l.count 0) l.entry-index l.values.items;
  reduced : IsReduced l.values.items;
}
