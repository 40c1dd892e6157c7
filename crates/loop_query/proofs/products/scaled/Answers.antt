use Rattle.std.proofs.Common.{◌∙◌, ap, sym, arith, [], ◌∷◌}
use Rattle.std.proofs.lemmas.List.{with_items_is}
use Rattle.term_model.specs.Terms.{choices, times, number_term}
use Rattle.loop_query.proofs.ProductLemmas.{changed_more, all_multiplied}
use Rattle.loop_query.proofs.products.scaled.Goals as goal

pub loop-term-preserved : goal.loop-term-preserved
loop-term-preserved c =
    changed_more (λ t. times t (number_term c.args.number)) c.deref_mut-term-items.result.now c.loop-term.term-items c.loop-term.term-index c.term-item.result _ c.loop-term-test.true c.loop-term.invariant c.term-item.is
    (c.scale.ensures ∙ ap (λ t. times t (number_term c.args.number)) (sym c.term-item.is))

pub returns : goal.returns
returns c =
    c.from_vec.ensures
    ∙ with_items_is c.into_vec-list.result c.loop-term.term-items (omega arith)
    ∙ all_multiplied (number_term c.args.number) c.deref_mut-term-items.result.now c.loop-term.term-items c.loop-term.term-index c.loop-term-test.false c.loop-term.invariant
    ∙ ap (λ ts. choices ts (number_term c.args.number ∷ [])) (c.deref_mut-term-items.ensures.value ∙ c.into_vec-list.ensures)
