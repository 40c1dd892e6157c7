use Rattle.std.proofs.Common.{◌≡◌, ◌<◌, ℕ, List, length, map, Some, sym, ap, ◌∙◌, subst}
use Rattle.std.proofs.lemmas.List.{length-map}
use Rattle.std.specs.List.{All}
use Rattle.bern_base.specs.declared.letter.Letter.TheVariants as letter
use Rattle.job_model.specs.State.{read}
use Rattle.placement.specs.Placement.{Triple, owner_of, owned_indices, owned_of}
use Rattle.placement.proofs.IndexLemmas.{length-owned_indices}
use Rattle.rank_model.specs.Products.{send}
use Rattle.rank_node.specs.Sets.{own_values}
use Rattle.rank_node.specs.declared.stage.Stage.{Stage}
use Rattle.rank_node.specs.declared.stage.Stage.TheVariants.{Values}
use Rattle.rank_node.specs.Positions.{HasItsLetter}
use Rattle.rank_node.proofs.SourceLemmas.{received_below, received_owner, own_values_are, some_values_is, map_nil}
use Rattle.rank_node.proofs.NodeKept.{asked_slice, own_slice, source_inside}
use Rattle.rank_node.proofs.node.Node.own_values.Goals as goal

pub at-own-requires : goal.at-own-requires
at-own-requires g c = source_inside g.run c.args.self.now c.requires.0

pub values_at-requires-clause-elements : goal.values_at-requires-clause-elements
values_at-requires-clause-elements g c =
    let asked : c.asked_in-asked.result.now ≡ send g.run c.args.self.now.rank c.args.to = asked_slice g.run c.args.self.now c.args.to c.at.result.now c.asked_in-asked.result.now c.requires.0 c.requires.1 c.at.ensures c.asked_in-asked.ensures in
    let P : List Triple → Type 0 = λ place. All (λ w. w < length place) c.asked_in-asked.result.now in
    let Q : List ℕ → Type 0 = λ ws. All (λ w. w < length g.run.place) ws in
    subst P (sym c.place.ensures.triples) (subst Q (sym asked) (received_below g.run c.args.to c.args.self.now.rank))

pub values_at-requires-clause-owned : goal.values_at-requires-clause-owned
values_at-requires-clause-owned g c =
    let asked : c.asked_in-asked.result.now ≡ send g.run c.args.self.now.rank c.args.to = asked_slice g.run c.args.self.now c.args.to c.at.result.now c.asked_in-asked.result.now c.requires.0 c.requires.1 c.at.ensures c.asked_in-asked.ensures in
    let P : List Triple → Type 0 = λ place. All (λ w. owner_of place w ≡ c.args.self.now.rank) c.asked_in-asked.result.now in
    let Q : List ℕ → Type 0 = λ ws. All (λ w. owner_of g.run.place w ≡ c.args.self.now.rank) ws in
    subst P (sym c.place.ensures.triples) (subst Q (sym asked) (received_owner g.run c.args.to c.args.self.now.rank))

pub values_at-requires-clause-own : goal.values_at-requires-clause-own
values_at-requires-clause-own g c =
    let own = own_slice g.run c.args.self.now c.args.to c.at-own.result.now c.as_slice.result.now c.requires.0 c.requires.1 c.at-own.ensures c.as_slice.ensures in
    let P : List Triple → Type 0 = λ place. length c.as_slice.result.now ≡ owned_of place c.args.self.now.rank in
    subst P (sym c.place.ensures.triples) (ap length own ∙ length-map (owned_indices g.run.place c.args.self.now.rank) (read g.run.first g.run.source) ∙ length-owned_indices g.run.place c.args.self.now.rank)

pub returns : goal.returns
returns g c =
    let r = c.args.self.now.rank in
    let f : ℕ → ℕ = read g.run.first g.run.source in
    let ws = send g.run r c.args.to in
    let asked : c.asked_in-asked.result.now ≡ ws = asked_slice g.run c.args.self.now c.args.to c.at.result.now c.asked_in-asked.result.now c.requires.0 c.requires.1 c.at.ensures c.asked_in-asked.ensures in
    let own = own_slice g.run c.args.self.now c.args.to c.at-own.result.now c.as_slice.result.now c.requires.0 c.requires.1 c.at-own.ensures c.as_slice.ensures in
    let P : Stage → Type 0 = λ stage. HasItsLetter g.run r stage in
    let has : HasItsLetter g.run r (Values c.args.to) = subst P c.requires.1 c.requires.0.letter in
    let values : c.in_ok-values.values ≡ map f ws = c.in_ok-values.ensures ∙ ap (λ place. own_values place c.as_slice.result.now c.asked_in-asked.result.now) c.place.ensures.triples ∙ ap (own_values g.run.place c.as_slice.result.now) asked ∙
    own_values_are g.run.ranks g.run.place r f c.as_slice.result.now ws c.requires.0.of_run.run_is.placed own (received_below g.run c.args.to r) (received_owner g.run c.args.to r) in
    some_values_is 0 (map f ws) (λ none. has.2 (map_nil f ws none)) ∙ ap (λ xs. Some (letter.Values 0 xs)) (sym values)
