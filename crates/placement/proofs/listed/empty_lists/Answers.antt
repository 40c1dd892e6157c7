use Rattle.std.proofs.Common.{◌∷◌, ◌++◌, [], map, sym, ap, ◌∙◌}
use Rattle.std.proofs.Math.Nat.{zero-add}
use Rattle.std.specs.List.{range_with_len}
use Rattle.std.proofs.lemmas.List.FromFn.{map-range_with_len_more}
use Rattle.placement.proofs.listed.empty_lists.Goals as goal

pub loop-rank-preserved : goal.loop-rank-preserved
loop-rank-preserved c =
    c.in_ok-push.ensures.ok ∙ ap (λ ls. ls ++ c.from_vec.result ∷ []) c.loop-rank.invariant ∙ ap (λ is. map (λ _. []) (range_with_len 0 c.loop-rank.rank) ++ is ∷ []) (c.from_vec.ensures ∙ c.in_ok-with_capacity-2.ensures.items)
    ∙ sym (map-range_with_len_more (λ _. []) 0 c.loop-rank.rank c.loop-rank.rank (zero-add c.loop-rank.rank))
