use Rattle.std.proofs.Common.{◌≡◌, ◌<◌, ℕ, List, [], length, replicate, sym, ap, ◌∙◌, subst}
use Rattle.std.proofs.lemmas.Option.{get_or_from_slice_get}
use Rattle.std.specs.List.{All}
use Rattle.std.proofs.lemmas.List.{length-map}
use Rattle.bern_base.specs.declared.matrix.Entry.{Entry}
use Rattle.job_model.specs.State.{read}
use Rattle.placement.specs.Placement.{Triple, owned_indices, owned_of}
use Rattle.placement.proofs.IndexLemmas.{length-owned_indices}
use Rattle.rank_node.proofs.NodeKept.{own_source}
use Rattle.rank_node.proofs.WorkLemmas.{entries_rows, entries_cols, inner_grown, zeros_owned, zeros_long, target_count}
use Rattle.rank_node.specs.NodeStates.{values_held}
use Rattle.rank_node.proofs.node.Node.inner_sums.Goals as goal

pub add_inner-requires-clause-rows : goal.add_inner-requires-clause-rows
add_inner-requires-clause-rows g c =
    let n = c.args.self.now in
    let P : List Entry → Type 0 = λ es. All (λ e. e.row < length c.in_ok-sums.sums.items) es in
    let Q : ℕ → Type 0 = λ m. All (λ e. e.row < m) n.entries in
    let zeros = zeros_owned g.run n c.at.result.now c.in_ok-sums.sums.items c.len-count.result c.requires.0 c.requires.1 c.at.ensures c.len-count.ensures c.in_ok-sums.ensures in
    let count : owned_of g.run.place n.rank ≡ length c.in_ok-sums.sums.items = sym (zeros_long _ _ zeros) in
    subst P (sym c.as_slice.ensures) (subst Q count (entries_rows g.run n c.requires.0.of_run))

pub add_inner-requires-clause-cols : goal.add_inner-requires-clause-cols
add_inner-requires-clause-cols g c =
    let n = c.args.self.now in
    let P : List Entry → Type 0 = λ es. All (λ e. e.col < length g.run.place) es in
    let Q : List Triple → Type 0 = λ place. All (λ e. e.col < length place) c.as_slice.result.now in
    subst Q (sym c.place.ensures.triples) (subst P (sym c.as_slice.ensures) (entries_cols g.run n c.requires.0.of_run))

pub add_inner-requires-clause-own : goal.add_inner-requires-clause-own
add_inner-requires-clause-own g c =
    let own = own_source g.run c.args.self.now c.at-own.result.now c.as_slice-2.result.now c.requires.0 c.requires.1 c.at-own.ensures c.as_slice-2.ensures in
    let P : List Triple → Type 0 = λ place. length c.as_slice-2.result.now ≡ owned_of place c.args.self.now.rank in
    subst P (sym c.place.ensures.triples) (ap length own ∙ length-map (owned_indices g.run.place c.args.self.now.rank) (read g.run.first g.run.source) ∙ length-owned_indices g.run.place c.args.self.now.rank)

pub returns : goal.returns
returns g c =
    let n = c.args.self.now in
    let is = c.requires.0 in
    let zeros = zeros_owned g.run n c.at.result.now c.in_ok-sums.sums.items c.len-count.result is c.requires.1 c.at.ensures c.len-count.ensures c.in_ok-sums.ensures in
    let own : c.as_slice-2.result.now ≡ values_held n g.run.source = c.as_slice-2.ensures ∙ sym (get_or_from_slice_get n.values n.source c.at-own.result.now [] c.at-own.ensures) ∙ ap (values_held n) is.of_run.source in
    inner_grown _ g.run.place n.rank c.as_slice-2.result.now (values_held n g.run.source) c.as_slice.result.now n.entries c.in_ok-sums.sums.items _ c.add_inner.new.sums.items c.from_vec.result c.place.ensures.triples own c.as_slice.ensures
    (zeros ∙ ap (λ k. replicate k 0) (sym (target_count g.run n.rank is.of_run.run_is))) c.from_vec.ensures c.add_inner.ensures
