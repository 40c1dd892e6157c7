use Rattle.std.proofs.Common.{ℕ, List, [], ◌∷◌, ◌++◌, map, sym, ap, ◌∙◌}
use Rattle.std.specs.List.{range_with_len}
use Rattle.std.proofs.Math.Nat.{zero-add}
use Rattle.std.proofs.lemmas.List.FromFn.{map-range_with_len_more}
use Rattle.rank_model.specs.Products.{end_value}
use Rattle.rank_product.proofs.ranks.gathered.Goals as goal

pub loop-i-preserved : goal.loop-i-preserved
loop-i-preserved g c =
    let i = c.loop-i.i in
    let before : List ℕ = map (end_value g.run) (range_with_len 0 i) in
    c.in_ok-push.ensures.items ∙ ap (λ xs. xs ++ c.value_at.result ∷ []) c.loop-i.invariant ∙ ap (λ v. before ++ v ∷ []) c.value_at.ensures
    ∙ sym (map-range_with_len_more (end_value g.run) 0 i i (zero-add i))
