use Rattle.std.proofs.Common.{length, sym, ap, ◌∙◌}
use Rattle.placement.specs.Placement.{owned_of}
use Rattle.rank_cases.proofs.nodes.a_rank_asks_each_owner_for_what_it_reads_there.Goals as goal

pub values_at-requires-clause-own : goal.values_at-requires-clause-own
unfolding owned_of
values_at-requires-clause-own g c = ap length c.as_slice-3.ensures ∙ ap (λ ts. owned_of ts 1) (sym c.new-place.ensures.triples)
