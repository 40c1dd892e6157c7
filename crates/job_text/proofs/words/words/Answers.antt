use Rattle.std.proofs.Common.{rules, ◌≡◌, ap, ◌∙◌, subst, map, List, ℕ, [], ◌∷◌, refl}
use Rattle.std.proofs.lemmas.Result.{IfOk-at_ok}
use Rattle.std.proofs.lemmas.Iterator.{items_from_collect, YieldsList-from_map}
use Rattle.std.proofs.lemmas.Iterator.Consumers.{YieldsList-from_filter}
use Rattle.std.proofs.lemmas.Iterator.Splits.{YieldsList-from_slice_split}
use Rattle.std.specs.Slice.Iter.{split_rest, split_done, split_callee}
use Rattle.std.specs.Iterator.Adapters.{filter_source, filter_callee}
use Rattle.job_text.specs.Lines.{is_blank, is_some_text, words}
use Rattle.job_text.proofs.words.words.Goals as goal

map_same : (xs : List (List ℕ)) → map (λ x. x) xs ≡ xs
map_same [] = refl
map_same (x ∷ xs) = ap (λ ys. x ∷ ys) (map_same xs)

pub returns : goal.returns
returns c =
    let source = c.map.ensures.source in
    IfOk-at_ok (λ found. found.items ≡ words c.args.text.now) c.in_ok-words.was
    (subst (λ all. Rattle.std.specs.Prelude.IfOk c.collect.result (λ found. found.items ≡ all)) (map_same (words c.args.text.now))
    (items_from_collect _ c.collect.ensures.ran (YieldsList-from_map _ (λ x. x) (YieldsList-from_filter _ is_some_text
    (YieldsList-from_slice_split _ is_blank c.args.text.now
    (ap (λ s. split_rest (filter_source s)) source ∙ ap split_rest c.filter.ensures.source ∙ c.split.ensures.rest)
    (ap (λ s. split_done (filter_source s)) source ∙ ap split_done c.filter.ensures.source ∙ c.split.ensures.done)
    (ap (λ s. split_callee (filter_source s)) source ∙ ap split_callee c.filter.ensures.source ∙ c.split.ensures.closure) (λ x b q k. search rules))
    (ap filter_callee source ∙ c.filter.ensures.closure) (λ x b q k. search rules)) c.map.ensures.closure (λ x r q k. search rules))))
