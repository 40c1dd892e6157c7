use Rattle.bern_base.specs.Affine.{IsPoint}
use Rattle.std.proofs.lemmas.Int.{to_z-of_z}
use Rattle.std.proofs.Common.{w64, ◌≡◌, ◌∙◌, ◌*◌, ◌%◌, ◌^◌, length, map, false, sym, ap, subst}
use Rattle.std.proofs.lemmas.List.Elements.{All-head, All-tail}
use Rattle.format_model.specs.Trees.{IsLeaf, Tree}
use Rattle.pass_model.specs.Interior.{is_own}
use Rattle.plan_courses.specs.JobCourses.{ref_at}
use Rattle.split_exec.specs.Hits.{IsNamed, OwnsWhole, leaf_at, spot}
use Rattle.split_exec.specs.Runs.{IsPieceOf, OwnsAt, at_or_one, cell_by, hit_at, point_at}
use Rattle.split_exec.specs.Settings.{Setting, setting, tree_in}
use Rattle.split_exec.proofs.BoxLemmas.{box_near}
use Rattle.split_exec.proofs.RunLemmas.{home_own, leaf_along, piece_is, target_low}
use Rattle.split_exec.proofs.SoundLemmas.{nest_is, target_named}
use Rattle.split_exec.proofs.runs.piece_of.Goals as goal

pub new-point-requires : goal.new-point-requires
new-point-requires g c =
    let s : Setting = setting g.P.Placement.triples g.P.Placement.ranks g.V.Access.tree g.V.Cells.grid c.args.job.now c.args.places.now c.args.nest.now c.args.stores.now in
    subst (λ y. IsPoint (point_at c.args.line c.args.run.now y)) (sym (to_z-of_z w64 c.args.x c.ranges.x))
    (box_near c.args.nest.now.vars (point_at c.args.line c.args.run.now c.args.x) (nest_is s c.args.rank c.args.planned.now c.requires.can).near c.requires.sound.box)

pub moving_product-requires-clause-whole : goal.moving_product-requires-clause-whole
moving_product-requires-clause-whole g c owns = All-tail (OwnsWhole c.args.job.now (map g.P.Placement.triples c.args.places.now) c.args.rank) c.args.nest.now.target c.args.planned.now.term.dense (c.requires.whole owns)

pub target_at-requires-clause-named : goal.target_at-requires-clause-named
target_at-requires-clause-named g c =
    let s : Setting = setting g.P.Placement.triples g.P.Placement.ranks g.V.Access.tree g.V.Cells.grid c.args.job.now c.args.places.now c.args.nest.now c.args.stores.now in
    subst (IsNamed c.args.job.now c.args.nest.now.target) (sym (c.new-point.ensures ∙ ap (point_at c.args.line c.args.run.now) (to_z-of_z w64 c.args.x c.ranges.x)))
    (target_named c.args.job.now c.args.nest.now (point_at c.args.line c.args.run.now c.args.x) (nest_is s c.args.rank c.args.planned.now c.requires.can) c.requires.sound.box)

pub target_at-requires-clause-whole : goal.target_at-requires-clause-whole
target_at-requires-clause-whole g c owns = All-head (OwnsWhole c.args.job.now (map g.P.Placement.triples c.args.places.now) c.args.rank) c.args.nest.now.target c.args.planned.now.term.dense (c.requires.whole owns)

pub target_at-requires-clause-still : goal.target_at-requires-clause-still
target_at-requires-clause-still g c stay =
    let s : Setting = setting g.P.Placement.triples g.P.Placement.ranks g.V.Access.tree g.V.Cells.grid c.args.job.now c.args.places.now c.args.nest.now c.args.stores.now in
    let at : c.new-point.result ≡ point_at c.args.line c.args.run.now c.args.x = c.new-point.ensures ∙ ap (point_at c.args.line c.args.run.now) (to_z-of_z w64 c.args.x c.ranges.x) in
    c.requires.still.target stay c.args.x ∙ ap (λ y. spot s.job s.places c.args.rank y s.nest.target) (sym at)

pub returns-in_default-target_at-clause-none : goal.returns-in_default-target_at-clause-none
returns-in_default-target_at-clause-none g c k =
    let s : Setting = setting g.P.Placement.triples g.P.Placement.ranks g.V.Access.tree g.V.Cells.grid c.args.job.now c.args.places.now c.args.nest.now c.args.stores.now in
    let at : c.new-point.result ≡ point_at c.args.line c.args.run.now c.args.x = c.new-point.ensures ∙ ap (point_at c.args.line c.args.run.now) (to_z-of_z w64 c.args.x c.ranges.x) in
    absurd (let odd = sym (home_own s c.args.rank (point_at c.args.line c.args.run.now c.args.x) c.requires.sound.home)
    ∙ subst (λ y. is_own s.job s.places c.args.rank y s.nest.target ≡ false) at c.in_default-target_at.ensures.none in cc)

pub value-requires : goal.value-requires
value-requires g c =
    let s : Setting = setting g.P.Placement.triples g.P.Placement.ranks g.V.Access.tree g.V.Cells.grid c.args.job.now c.args.places.now c.args.nest.now c.args.stores.now in
    subst (λ tree. IsLeaf tree c.args.node) (sym c.requires.view)
    (subst (IsLeaf (tree_in s (ref_at c.args.planned.now.term c.args.line.reference).array)) (leaf_along s c.args.planned.now c.args.rank c.args.line c.args.run.now c.requires.run c.args.node c.args.x)
    (c.requires.sound.leaves c.args.line.reference c.requires.run.reference))

pub returns-clause-some : goal.returns-clause-some
returns-clause-some g c =
    let s : Setting = setting g.P.Placement.triples g.P.Placement.ranks g.V.Access.tree g.V.Cells.grid c.args.job.now c.args.places.now c.args.nest.now c.args.stores.now in
    let rank = c.args.rank in
    let p = c.args.planned.now in
    let t = p.term in
    let line = c.args.line in
    let run = c.args.run.now in
    let node = c.args.node in
    let point = point_at line run c.args.x in
    let h = hit_at line run node c.args.x in
    let at : c.new-point.result ≡ point = c.new-point.ensures ∙ ap (point_at line run) (to_z-of_z w64 c.args.x c.ranges.x) in
    let value = c.in-Some.value in
    let element = c.in-Some-target_at.element in
    let still = c.args.still.now in
    let named : IsNamed s.job s.nest.target point = target_named s.job s.nest point (nest_is s rank p c.requires.can) c.requires.sound.box in
    let here : element ≡ spot s.job s.places rank point s.nest.target = c.in-Some-target_at.ensures.spot ∙ ap (λ y. spot s.job s.places rank y s.nest.target) at in
    let leaf : c.value.result ≡ leaf_at s t h line.reference =
    c.value.ensures ∙ ap (λ (u : Tree). u.value node) c.requires.view ∙ ap (tree_in s (ref_at t line.reference).array).value (sym (leaf_along s p rank line run c.requires.run node c.args.x)) in
    let owns : OwnsAt s rank t still.moving point = subst (OwnsAt s rank t still.moving) at c.in-Some.ensures.owns in
    let product : value % 2 ^ 64 ≡ still.value * at_or_one still.moving (cell_by s rank t point) (length t.dense) % 2 ^ 64 =
    subst (λ y. value % 2 ^ 64 ≡ still.value * at_or_one still.moving (cell_by s rank t y) (length t.dense) % 2 ^ 64) at c.in-Some.ensures.value in
    subst (λ v. IsPieceOf s rank t h (record { element = element; value = v })) (sym c.mul.ensures)
    (piece_is s rank t line run still c.requires.still node c.args.x c.requires.run.reference owns value c.value.result element product leaf here
    (target_low s.job g.P.Placement.triples g.P.Placement.ranks g.met.P.Placement.placed c.args.places.now rank c.requires.can.at s.nest.target point named (home_own s rank point c.requires.sound.home) element here))
