use Rattle.std.proofs.Common.{◌∷◌, ◌++◌, [], map, sym, ap, ◌∙◌}
use Rattle.std.proofs.Math.Nat.{zero-add}
use Rattle.std.specs.List.{range_with_len}
use Rattle.std.proofs.lemmas.List.FromFn.{map-range_with_len_more}
use Rattle.rank_parts.proofs.views.no_views.Goals as goal

pub ranks-preserved : goal.ranks-preserved
ranks-preserved c =
    c.in_ok-push.ensures.ok ∙ ap (λ ls. ls ++ c.new.result ∷ []) c.ranks.invariant ∙ ap (λ is. map (λ _. []) (range_with_len 0 c.ranks.counter) ++ is ∷ []) c.new.ensures
    ∙ sym (map-range_with_len_more (λ _. []) 0 c.ranks.counter c.ranks.counter (zero-add c.ranks.counter))
