-- The products so far are S[v,w] * D[w].
use Rattle.std.proofs.Common.{ℕ, ◌<◌, get_or}
use Rattle.bern_base.specs.declared.job.Product.{Product}
use Rattle.rank_product.specs.Shapes.{IsTerm}
use Rattle.rank_product.proofs.shape.are_terms.Given as goal

abbrev pub invariant-loop-product : goal.invariant-loop-product
invariant-loop-product l = (k : ℕ) (d : Product) → k < l.product-index → IsTerm l.shape (get_or l.products k d)
