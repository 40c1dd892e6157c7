use Rattle.std.proofs.Common.{◌∙◌, ap, sym, get_or, arith, [], ◌∷◌}
use Rattle.std.proofs.lemmas.List.{with_items_is}
use Rattle.term_model.specs.Terms.{choices, times, read_term}
use Rattle.loop_query.proofs.ProductLemmas.{changed_more, all_multiplied}
use Rattle.loop_query.proofs.products.with_reference.Goals as goal

pub loop-term-preserved : goal.loop-term-preserved
loop-term-preserved c =
    changed_more (λ t. times t (read_term c.is_dense-dense.result c.args.reference.now)) c.deref_mut-term-items.result.now c.loop-term.term-items c.loop-term.term-index c.term-item.result _ c.loop-term-test.true c.loop-term.invariant c.term-item.is
    (c.in_ok-add_reference.ensures
    ∙ ap (λ r. times (get_or c.loop-term.term-items c.loop-term.term-index c.term-item.result) (read_term c.is_dense-dense.result r)) c.copied.ensures
    ∙ ap (λ t. times t (read_term c.is_dense-dense.result c.args.reference.now)) (sym c.term-item.is))

pub returns : goal.returns
returns c =
    c.from_vec.ensures
    ∙ with_items_is c.into_vec-list.result c.loop-term.term-items (omega arith)
    ∙ all_multiplied (read_term c.is_dense-dense.result c.args.reference.now) c.deref_mut-term-items.result.now c.loop-term.term-items c.loop-term.term-index c.loop-term-test.false c.loop-term.invariant
    ∙ ap (λ ts. choices ts (read_term c.is_dense-dense.result c.args.reference.now ∷ [])) (c.deref_mut-term-items.ensures.value ∙ c.into_vec-list.ensures)
    ∙ ap (λ b. choices c.args.terms (read_term b c.args.reference.now ∷ [])) c.is_dense-dense.ensures
