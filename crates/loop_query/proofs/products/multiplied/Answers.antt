use Rattle.std.proofs.Common.{◌∙◌, ap, sym}
use Rattle.term_model.specs.Terms.{choices}
use Rattle.loop_query.proofs.ProductLemmas.{choices_number}
use Rattle.loop_query.proofs.products.multiplied.Goals as goal

pub returns-in-Some : goal.returns-in-Some
returns-in-Some c = c.scaled.ensures ∙ choices_number c.in-Some.number c.args.right ∙ ap (λ left. choices left c.args.right) (sym c.in-Some.ensures)
