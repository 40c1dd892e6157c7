use Rattle.std.proofs.Common.{◌≡◌, Some, None, ◌∙◌, sym, subst}
use Rattle.std.proofs.lemmas.Bool.{false≢true}
use Rattle.rank_node.proofs.ListLemmas.{some_same}
use Rattle.rank_product.specs.Shapes.{IsProduct}
use Rattle.rank_product.proofs.ShapeLemmas.{shape_named}
use Rattle.rank_product.proofs.shape.product_shape.Goals as goal

pub returns-else-is_product-clause-none : goal.returns-else-is_product-clause-none
returns-else-is_product-clause-none c = λ none p is.
    let job = c.args.job.now in
    let same : Some c.in-Some.product ≡ Some p = sym c.in-Some.is ∙ c.named.ensures ∙ shape_named job p is in
    false≢true (sym c.if-is_product.false ∙ c.is_product.ensures.1 (subst (IsProduct job) (sym (some_same same)) is))

pub returns-in-None-clause-none : goal.returns-in-None-clause-none
returns-in-None-clause-none c = λ none p is.
    let same : None ≡ Some p = sym c.in-None.is ∙ c.named.ensures ∙ shape_named c.args.job.now p is in
    absurd cc
