-- Each call of the cycle has less to do: a level less, or a step within its level.
use Rattle.std.proofs.Common.{◌≡◌, ◌+◌, ◌-◌, ◌*◌, ◌++◌, map, take}
use Rattle.std.specs.List.{flat_map}
use Rattle.job_rules.specs.Looked.{ref_of, reads_of, product_reads, factor_reads}
use Rattle.job_rules.proofs.lookup.+reads.Given as goal

abbrev pub decreases-add_reads : goal.decreases-add_reads
decreases-add_reads l = 3 * l.levels

abbrev pub decreases-add_product_reads : goal.decreases-add_product_reads
decreases-add_product_reads l = 3 * l.levels + 2

abbrev pub decreases-add_factor_reads : goal.decreases-add_factor_reads
decreases-add_factor_reads l = 3 * l.levels + 1

abbrev pub invariant-add_product_reads-loop-factor : goal.invariant-add_product_reads-loop-factor
invariant-add_product_reads-loop-factor l = l.reads ≡ l.fn.reads ++ map (ref_of l.scope) (flat_map (factor_reads (reads_of l.levels)) (take l.factor-index l.factor-items))

abbrev pub invariant-add_reads-loop-product : goal.invariant-add_reads-loop-product
invariant-add_reads-loop-product l = l.reads ≡ l.fn.reads ++ map (ref_of l.scope) (flat_map (product_reads (reads_of (l.levels - 1))) (take l.product-index l.product-items))
