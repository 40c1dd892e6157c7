use Rattle.std.proofs.Common.{◌≡◌, ◌<◌, ℕ, List, [], length, map, sym, ap, ◌∙◌, subst, arith}
use Rattle.std.proofs.lemmas.Option.{get_or_from_slice_get}
use Rattle.std.specs.List.{All}
use Rattle.std.proofs.lemmas.List.{length-map}
use Rattle.job_model.specs.State.{read}
use Rattle.rank_model.specs.Products.{receive}
use Rattle.rank_node.specs.Letters.{turn_values}
use Rattle.rank_node.specs.Positions.{is_inspected}
use Rattle.rank_node.proofs.SourceLemmas.{received_below}
use Rattle.rank_node.proofs.KnownLemmas.{known_none, known_more, received_values}
use Rattle.rank_node.proofs.WorkLemmas.{extent_is, zeros_long}
use Rattle.rank_node.proofs.node.Node.known_values.Goals as goal

pub loop-from-init : goal.loop-from-init
loop-from-init g c = known_none g.run c.args.self.now.rank c.args.self.now.extent c.in_ok-known.known.items (zeros_long _ _ c.in_ok-known.ensures) (extent_is g.run c.args.self.now c.requires.0.of_run)

pub put_values-requires-clause-elements : goal.put_values-requires-clause-elements
put_values-requires-clause-elements g c =
    let n = c.args.self.now in
    let same = c.requires.0.of_run.ranks in
    let below : c.loop-from.from < g.run.ranks = omega arith in
    let asked : c.as_slice.result.now ≡ receive g.run n.rank c.loop-from.from =
    c.as_slice.ensures ∙ sym (get_or_from_slice_get n.asks c.loop-from.from c.at.result.now [] c.at.ensures) ∙ (c.requires.0.asked (ap is_inspected c.requires.1)).each c.loop-from.from [] below in
    let P : List ℕ → Type 0 = λ ws. All (λ w. w < length g.run.place) ws in
    let Q : ℕ → Type 0 = λ m. All (λ w. w < m) c.as_slice.result.now in
    subst Q (sym c.loop-from.invariant.long) (subst P (sym asked) (received_below g.run n.rank c.loop-from.from))

pub put_values-requires-clause-values : goal.put_values-requires-clause-values
put_values-requires-clause-values g c =
    let n = c.args.self.now in
    let same = c.requires.0.of_run.ranks in
    let below : c.loop-from.from < g.run.ranks = omega arith in
    let asked : c.as_slice.result.now ≡ receive g.run n.rank c.loop-from.from =
    c.as_slice.ensures ∙ sym (get_or_from_slice_get n.asks c.loop-from.from c.at.result.now [] c.at.ensures) ∙ (c.requires.0.asked (ap is_inspected c.requires.1)).each c.loop-from.from [] below in
    let values : c.values_in.result.now ≡ map (read g.run.first g.run.source) (receive g.run n.rank c.loop-from.from) =
    c.values_in.ensures ∙ ap turn_values (sym (get_or_from_slice_get n.given c.loop-from.from c.at-in-loop-from.result.now [] c.at-in-loop-from.ensures)) ∙ received_values g.run n c.loop-from.from c.requires.0 c.requires.1 below in
    ap length values ∙ length-map (receive g.run n.rank c.loop-from.from) (read g.run.first g.run.source) ∙ ap length (sym asked)

pub loop-from-preserved : goal.loop-from-preserved
loop-from-preserved g c =
    let n = c.args.self.now in
    let same = c.requires.0.of_run.ranks in
    let below : c.loop-from.from < g.run.ranks = omega arith in
    let asked : c.as_slice.result.now ≡ receive g.run n.rank c.loop-from.from =
    c.as_slice.ensures ∙ sym (get_or_from_slice_get n.asks c.loop-from.from c.at.result.now [] c.at.ensures) ∙ (c.requires.0.asked (ap is_inspected c.requires.1)).each c.loop-from.from [] below in
    let values : c.values_in.result.now ≡ map (read g.run.first g.run.source) (receive g.run n.rank c.loop-from.from) =
    c.values_in.ensures ∙ ap turn_values (sym (get_or_from_slice_get n.given c.loop-from.from c.at-in-loop-from.result.now [] c.at-in-loop-from.ensures)) ∙ received_values g.run n c.loop-from.from c.requires.0 c.requires.1 below in
    known_more g.run n.rank c.loop-from.from c.as_slice.result.now c.values_in.result.now c.loop-from.known.items c.put_values.new.known.items c.loop-from.invariant asked values c.put_values.ensures
