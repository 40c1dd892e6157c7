-- The run of the job.
use Rattle.rank_node.specs.Jobs.{is_whole}
use Rattle.rank_product.specs.Runs.{run_of}
use Rattle.rank_product.proofs.ranks.product_on_ranks.Given as goal

abbrev pub ghost-run_through : goal.ghost-run_through
ghost-run_through a = run_of (is_whole a.job.now) a.product a.ranks a.matrices.now
