use Rattle.std.proofs.Common.{◌≡◌, ◌<◌, ℕ, List, length, sym, ap, ◌∙◌, subst, arith}
use Rattle.std.specs.List.{All}
use Rattle.bern_base.specs.declared.matrix.Entry.{Entry}
use Rattle.rank_node.specs.declared.stage.Stage.TheVariants.{Request}
use Rattle.rank_node.specs.Sets.{all_asked}
use Rattle.rank_node.proofs.WorkLemmas.{extent_is, entries_cols, asks_are, inspect_leaves, work_moves}
use Rattle.rank_node.proofs.node.Node.inspect.Goals as goal

pub asked_sets-requires-clause-extent : goal.asked_sets-requires-clause-extent
asked_sets-requires-clause-extent g c = ap length c.place-place.ensures.triples ∙ sym (extent_is g.run c.args.self.now c.requires.0.of_run)

pub asked_sets-requires-clause-cols : goal.asked_sets-requires-clause-cols
asked_sets-requires-clause-cols g c =
    let P : List Entry → Type 0 = λ es. All (λ e. e.col < c.args.self.now.extent) es in
    let Q : ℕ → Type 0 = λ m. All (λ e. e.col < m) c.args.self.now.entries in
    subst P (sym c.as_slice.ensures) (subst Q (sym (extent_is g.run c.args.self.now c.requires.0.of_run)) (entries_cols g.run c.args.self.now c.requires.0.of_run))

pub settled-self-requires : goal.settled-self-requires
settled-self-requires g c =
    let n = c.args.self.now in
    let is = c.requires.0 in
    let are : c.in-Ok.asks ≡ all_asked g.run.place n.entries (length g.run.place) n.rank g.run.ranks =
    c.in-Ok.ensures ∙ ap (λ place. all_asked place c.as_slice.result.now n.extent n.rank n.ranks) c.place-place.ensures.triples ∙ ap (λ es. all_asked g.run.place es n.extent n.rank n.ranks) c.as_slice.ensures ∙
    ap (λ m. all_asked g.run.place n.entries m n.rank n.ranks) (extent_is g.run n is.of_run) ∙ ap (all_asked g.run.place n.entries (length g.run.place) n.rank) is.of_run.ranks in (
      record { rank = is.of_run.rank; ranks = is.of_run.ranks; long = is.boxes ∙ sym is.of_run.ranks; fronts = is.fronts },
      (λ e. asks_are g.run n c.in-Ok.asks is.of_run are, λ e. absurd (omega arith)),
    )

pub returns-clause-ok : goal.returns-clause-ok
returns-clause-ok g c =
    let n = c.args.self.now in
    let is = c.requires.0 in
    let are : c.in-Ok.asks ≡ all_asked g.run.place n.entries (length g.run.place) n.rank g.run.ranks =
    c.in-Ok.ensures ∙ ap (λ place. all_asked place c.as_slice.result.now n.extent n.rank n.ranks) c.place-place.ensures.triples ∙ ap (λ es. all_asked g.run.place es n.extent n.rank n.ranks) c.as_slice.ensures ∙
    ap (λ m. all_asked g.run.place n.entries m n.rank n.ranks) (extent_is g.run n is.of_run) ∙ ap (all_asked g.run.place n.entries (length g.run.place) n.rank) is.of_run.ranks in
    let leaves = inspect_leaves g.run n c.in-Ok.asks c.settled-self.result is c.requires.1 (asks_are g.run n c.in-Ok.asks is.of_run are) c.settled-self.ensures in
    work_moves g.run n n.values c.in-Ok.asks n.sums (Request 0) c.settled-self.result is leaves
