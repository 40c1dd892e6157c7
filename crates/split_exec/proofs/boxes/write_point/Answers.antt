use Rattle.std.proofs.Common.{◌≡◌, ◌∙◌, ◌&&◌, ◌∷◌, [], length, map, get_or, false, sym, ap, subst, arith}
use Rattle.std.proofs.lemmas.List.{get_or_default}
use Rattle.std.proofs.lemmas.List.Elements.{All-cons, All-contains, All-nil}
use Rattle.format_model.specs.Grids.{HasElement}
use Rattle.job_model.specs.Accepted.{IsNestOf}
use Rattle.job_model.specs.Points.{meets}
use Rattle.pass_model.specs.Local.{own_size}
use Rattle.split_exec.specs.Applying.{CanApply, HasSize}
use Rattle.split_exec.specs.Boxes.{Replaces, counts}
use Rattle.split_exec.specs.Hits.{IsNamed}
use Rattle.split_exec.proofs.ApplyLemmas.{can_set, has_element, none_written, writes_none, writes_one}
use Rattle.split_exec.proofs.RankLemmas.{spot_low}
use Rattle.split_exec.proofs.SoundLemmas.{target_named}
use Rattle.split_exec.proofs.boxes.write_point.Goals as goal

pub own_element-requires-clause-named : goal.own_element-requires-clause-named
own_element-requires-clause-named g c =
    let job = c.args.job.now in
    let nest = c.args.nest.now in
    let places = map g.P.Placement.triples c.args.places.now in
    let can = c.requires.can in
    let is : IsNestOf job nest = All-contains (IsNestOf job) job.nests nest can.at.accepted.nests can.nest_is in
    target_named job nest c.args.point.now is c.requires.inside

pub returns-in_default-clause-replaces : goal.returns-in_default-clause-replaces
returns-in_default-clause-replaces g c =
    let job = c.args.job.now in
    let nest = c.args.nest.now in
    let places = map g.P.Placement.triples c.args.places.now in
    let x = c.args.point.now in
    writes_none job places nest c.args.rank c.args.delta.now (g.D.Cells.grid c.args.target.now) (x ∷ [])
    (none_written job places nest c.args.rank c.args.delta.now (x ∷ [])
    (All-cons (λ x. counts job places nest c.args.rank x ≡ false) x [] (ap (λ b. b && meets nest.guards x) c.in_default.ensures.none) (All-nil (λ x. counts job places nest c.args.rank x ≡ false))))

pub bounds-sums-element : goal.bounds-sums-element
bounds-sums-element g c =
    let job = c.args.job.now in
    let nest = c.args.nest.now in
    let places = map g.P.Placement.triples c.args.places.now in
    let can = c.requires.can in
    let is : IsNestOf job nest = All-contains (IsNestOf job) job.nests nest can.at.accepted.nests can.nest_is in
    let named : IsNamed job nest.target c.args.point.now = target_named job nest c.args.point.now is c.requires.inside in
    let size : HasSize (g.D.Cells.grid c.args.target.now) (own_size places named.array c.args.rank) = can.elements named.array named.named in
    let count : length c.args.delta.now ≡ own_size places named.array c.args.rank = can.count named.array named.named in
    let low = spot_low job g.P.Placement.triples g.P.Placement.ranks g.met.P.Placement.placed c.args.places.now c.args.rank can.at nest.target c.args.point.now named c.in-Some.ensures.own in
    let has : HasElement (g.D.Cells.grid c.args.target.now) c.in-Some.element = has_element (g.D.Cells.grid c.args.target.now) (own_size places named.array c.args.rank) c.in-Some.element size (omega (arith, low, c.in-Some.ensures.spot)) in
    omega (arith, low, c.in-Some.ensures.spot, count, ap length c.sums.ensures)

pub set-requires : goal.set-requires
set-requires g c =
    let job = c.args.job.now in
    let nest = c.args.nest.now in
    let places = map g.P.Placement.triples c.args.places.now in
    let can = c.requires.can in
    let is : IsNestOf job nest = All-contains (IsNestOf job) job.nests nest can.at.accepted.nests can.nest_is in
    let named : IsNamed job nest.target c.args.point.now = target_named job nest c.args.point.now is c.requires.inside in
    let size : HasSize (g.D.Cells.grid c.args.target.now) (own_size places named.array c.args.rank) = can.elements named.array named.named in
    let count : length c.args.delta.now ≡ own_size places named.array c.args.rank = can.count named.array named.named in
    let low = spot_low job g.P.Placement.triples g.P.Placement.ranks g.met.P.Placement.placed c.args.places.now c.args.rank can.at nest.target c.args.point.now named c.in-Some.ensures.own in
    let has : HasElement (g.D.Cells.grid c.args.target.now) c.in-Some.element = has_element (g.D.Cells.grid c.args.target.now) (own_size places named.array c.args.rank) c.in-Some.element size (omega (arith, low, c.in-Some.ensures.spot)) in
    has

pub returns-clause-can : goal.returns-clause-can
returns-clause-can g c =
    subst (CanApply c.args.job.now (map g.P.Placement.triples c.args.places.now) (map g.P.Placement.ranks c.args.places.now) c.args.nest.now c.args.rank (length c.args.delta.now)) (sym c.set.ensures.grid)
    (can_set c.args.job.now (map g.P.Placement.triples c.args.places.now) (map g.P.Placement.ranks c.args.places.now) c.args.nest.now c.args.rank (length c.args.delta.now) c.in-Some.element c.index-sums-element.result (g.D.Cells.grid c.args.target.now) c.requires.can)

pub returns-clause-replaces : goal.returns-clause-replaces
returns-clause-replaces g c =
    let job = c.args.job.now in
    let nest = c.args.nest.now in
    let places = map g.P.Placement.triples c.args.places.now in
    let can = c.requires.can in
    let is : IsNestOf job nest = All-contains (IsNestOf job) job.nests nest can.at.accepted.nests can.nest_is in
    let named : IsNamed job nest.target c.args.point.now = target_named job nest c.args.point.now is c.requires.inside in
    let size : HasSize (g.D.Cells.grid c.args.target.now) (own_size places named.array c.args.rank) = can.elements named.array named.named in
    let count : length c.args.delta.now ≡ own_size places named.array c.args.rank = can.count named.array named.named in
    let low = spot_low job g.P.Placement.triples g.P.Placement.ranks g.met.P.Placement.placed c.args.places.now c.args.rank can.at nest.target c.args.point.now named c.in-Some.ensures.own in
    let has : HasElement (g.D.Cells.grid c.args.target.now) c.in-Some.element = has_element (g.D.Cells.grid c.args.target.now) (own_size places named.array c.args.rank) c.in-Some.element size (omega (arith, low, c.in-Some.ensures.spot)) in
    subst (λ new. Replaces job places nest c.args.rank c.args.delta.now (g.D.Cells.grid c.args.target.now) new (c.args.point.now ∷ [])) (sym c.set.ensures.grid)
    (writes_one job places nest c.args.rank c.args.delta.now (g.D.Cells.grid c.args.target.now) c.args.point.now c.in-Some.element c.index-sums-element.result
    (ap (λ b. b && meets nest.guards c.args.point.now) c.in-Some.ensures.own ∙ c.requires.meets) c.in-Some.ensures.spot has
    (c.index-sums-element.is ∙ ap (λ vs. get_or vs c.in-Some.element c.index-sums-element.result) c.sums.ensures ∙ get_or_default c.args.delta.now c.in-Some.element c.index-sums-element.result 0 (omega (arith, low, c.in-Some.ensures.spot, count))))
