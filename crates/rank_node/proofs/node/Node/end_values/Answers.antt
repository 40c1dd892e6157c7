use Rattle.std.proofs.Common.{◌≡◌, ◌<◌, ℕ, List, length, sym, ap, ◌∙◌, subst}
use Rattle.std.specs.List.{All}
use Rattle.std.proofs.lemmas.List.{length-map}
use Rattle.bern_base.specs.declared.matrix.Entry.{Entry}
use Rattle.job_model.specs.State.{read}
use Rattle.placement.specs.Placement.{Triple, owned_indices, owned_of}
use Rattle.placement.proofs.IndexLemmas.{length-owned_indices}
use Rattle.std.proofs.lemmas.Result.{IfOk-weaker}
use Rattle.rank_model.specs.Products.{answer_part}
use Rattle.rank_node.specs.Positions.{state_of, is_summed}
use Rattle.rank_node.specs.NodeStates.{values_held}
use Rattle.rank_node.specs.Sums.{sums_of}
use Rattle.rank_node.proofs.EndLemmas.{end_part}
use Rattle.rank_node.proofs.NodeKept.{held_source}
use Rattle.rank_node.proofs.WorkLemmas.{entries_rows, entries_cols, outer_grown, own_target, inner_sums_long, inner_kept}
use Rattle.rank_node.proofs.node.Node.end_values.Goals as goal

pub add_outer-requires-clause-rows : goal.add_outer-requires-clause-rows
add_outer-requires-clause-rows g c =
    let n = c.args.self.now in
    let P : List Entry → Type 0 = λ es. All (λ e. e.row < length c.in_ok-sums.sums.items) es in
    let Q : ℕ → Type 0 = λ m. All (λ e. e.row < m) n.entries in
    let count : owned_of g.run.place n.rank ≡ length c.in_ok-sums.sums.items = sym (ap length (c.in_ok-sums.ensures.items ∙ c.as_slice.ensures) ∙ inner_sums_long g.run n c.requires.0 (ap is_summed c.requires.1)) in
    subst P (sym c.as_slice-2.ensures) (subst Q count (entries_rows g.run n c.requires.0.of_run))

pub add_outer-requires-clause-cols : goal.add_outer-requires-clause-cols
add_outer-requires-clause-cols g c =
    let n = c.args.self.now in
    let P : List Entry → Type 0 = λ es. All (λ e. e.col < length g.run.place) es in
    let Q : List Triple → Type 0 = λ place. All (λ e. e.col < length place) c.as_slice-2.result.now in
    subst Q (sym c.place.ensures.triples) (subst P (sym c.as_slice-2.ensures) (entries_cols g.run n c.requires.0.of_run))

pub applied-requires : goal.applied-requires
applied-requires g c =
    let n = c.args.self.now in
    let own = own_target g.run n c.at.result.now c.as_slice-4.result.now c.requires.0 (ap (state_of g.run) c.requires.1) c.at.ensures c.as_slice-4.ensures in
    ap length c.as_slice-5.ensures.value ∙ c.add_outer.ensures.long ∙ ap length (c.in_ok-sums.ensures.items ∙ c.as_slice.ensures) ∙ inner_sums_long g.run n c.requires.0 (ap is_summed c.requires.1) ∙
    sym (ap length own ∙ length-map (owned_indices g.run.place n.rank) (read g.run.first g.run.target) ∙ length-owned_indices g.run.place n.rank)

pub returns : goal.returns
returns g c =
    let n = c.args.self.now in
    let is = c.requires.0 in
    let own = own_target g.run n c.at.result.now c.as_slice-4.result.now is (ap (state_of g.run) c.requires.1) c.at.ensures c.as_slice-4.ensures in
    let outer = outer_grown _ g.run.place n.rank c.as_slice-3.result.now c.in_ok-known.known.items c.as_slice-2.result.now (answer_part g.run n.rank) c.in_ok-sums.sums.items n.sums c.add_outer.new.sums.items c.place.ensures.triples c.as_slice-3.ensures.value (c.as_slice-2.ensures ∙ is.of_run.entries) (c.in_ok-sums.ensures.items ∙ c.as_slice.ensures) c.add_outer.ensures in
    let end = end_part g.run n.rank (values_held n g.run.source) c.in_ok-known.known.items c.as_slice-4.result.now n.sums c.add_outer.new.sums.items is.of_run.run_is (held_source g.run n is (ap (state_of g.run) c.requires.1)) c.in_ok-known.ensures own (inner_kept g.run n is (ap is_summed c.requires.1)) outer in
    IfOk-weaker c.applied.result _ _ (λ values are. are ∙ ap (sums_of c.as_slice-4.result.now) c.as_slice-5.ensures.value ∙ end) c.applied.ensures
