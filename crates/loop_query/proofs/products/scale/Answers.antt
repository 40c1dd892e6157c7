use Rattle.std.proofs.Common.{◌∙◌, ap}
use Rattle.loop_query.proofs.ProductLemmas.{scaled_is}
use Rattle.loop_query.proofs.products.scale.Goals as goal

pub returns : goal.returns
returns c = ap (λ f. record c.args.term.now { factor = f }) c.mul-term.ensures ∙ scaled_is c.args.number c.args.term.now
