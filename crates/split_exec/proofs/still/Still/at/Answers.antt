use Rattle.bern_base.specs.Affine.{IsPoint}
use Rattle.std.proofs.lemmas.Int.{to_z-of_z}
use Rattle.std.proofs.Common.{w64, to_z, of_z, ℤ, ◌≡◌, ◌∙◌, ◌*◌, ◌%◌, ◌^◌, length, map, false, refl, sym, ap, subst}
use Rattle.std.specs.Prelude.{not}
use Rattle.std.proofs.lemmas.Bool.{not-false}
use Rattle.std.proofs.lemmas.List.Elements.{All-head, All-tail}
use Rattle.std.proofs.lemmas.Nat.{mul-mod_first}
use Rattle.pass_model.specs.Interior.{is_own}
use Rattle.split_exec.specs.Hits.{IsNamed, OwnsWhole, leaf_at, spot}
use Rattle.split_exec.specs.Runs.{cell_by, hit_at, point_at, product_but}
use Rattle.split_exec.specs.Settings.{Setting, setting}
use Rattle.split_exec.proofs.BoxLemmas.{box_near}
use Rattle.split_exec.proofs.RunLemmas.{home_own, still_is, target_low}
use Rattle.split_exec.proofs.SoundLemmas.{nest_is, target_named}
use Rattle.split_exec.proofs.still.Still.at.Goals as goal

pub dense_but-requires-clause-whole : goal.dense_but-requires-clause-whole
dense_but-requires-clause-whole g c owns = All-tail (OwnsWhole c.args.job.now (map g.P.Placement.triples c.args.places.now) c.args.rank) c.args.nest.now.target c.args.planned.now.term.dense (c.requires.whole owns)

pub new-point-requires : goal.new-point-requires
new-point-requires g c =
    let s : Setting = setting g.P.Placement.triples g.P.Placement.ranks g.V.Access.tree g.V.Cells.grid c.args.job.now c.args.places.now c.args.nest.now c.args.stores.now in
    subst (λ y. IsPoint (point_at c.args.line c.args.run.now y)) (sym (to_z-of_z w64 c.args.x c.ranges.x))
    (box_near c.args.nest.now.vars (point_at c.args.line c.args.run.now c.args.x) (nest_is s c.args.rank c.args.planned.now c.requires.can).near c.requires.sound.box)

pub own_element-requires-clause-named : goal.own_element-requires-clause-named
own_element-requires-clause-named g c =
    let s : Setting = setting g.P.Placement.triples g.P.Placement.ranks g.V.Access.tree g.V.Cells.grid c.args.job.now c.args.places.now c.args.nest.now c.args.stores.now in
    subst (IsNamed c.args.job.now c.args.nest.now.target) (sym (c.new-point.ensures ∙ ap (point_at c.args.line c.args.run.now) (to_z-of_z w64 c.args.x c.ranges.x)))
    (target_named c.args.job.now c.args.nest.now (point_at c.args.line c.args.run.now c.args.x) (nest_is s c.args.rank c.args.planned.now c.requires.can) c.requires.sound.box)

pub own_element-requires-clause-whole : goal.own_element-requires-clause-whole
own_element-requires-clause-whole g c owns = All-head (OwnsWhole c.args.job.now (map g.P.Placement.triples c.args.places.now) c.args.rank) c.args.nest.now.target c.args.planned.now.term.dense (c.requires.whole owns)

pub returns-in_default-own_element-clause-lacks : goal.returns-in_default-own_element-clause-lacks
returns-in_default-own_element-clause-lacks g c =
    let s : Setting = setting g.P.Placement.triples g.P.Placement.ranks g.V.Access.tree g.V.Cells.grid c.args.job.now c.args.places.now c.args.nest.now c.args.stores.now in
    let point = point_at c.args.line c.args.run.now c.args.x in
    absurd (let odd = sym (home_own s c.args.rank point c.requires.sound.home) ∙ subst (λ y. is_own s.job s.places c.args.rank y s.nest.target ≡ false) (c.new-point.ensures ∙ ap (point_at c.args.line c.args.run.now) (to_z-of_z w64 c.args.x c.ranges.x)) c.in_default-own_element.ensures.none in cc)

pub returns-clause-still : goal.returns-clause-still
returns-clause-still g c =
    let s : Setting = setting g.P.Placement.triples g.P.Placement.ranks g.V.Access.tree g.V.Cells.grid c.args.job.now c.args.places.now c.args.nest.now c.args.stores.now in
    let rank = c.args.rank in
    let p = c.args.planned.now in
    let t = p.term in
    let line = c.args.line in
    let run = c.args.run.now in
    let x : ℤ = to_z w64 (of_z w64 c.args.x) in
    let point = point_at line run x in
    let h = hit_at line run c.args.node x in
    let dense = product_but c.args.moving (cell_by s rank t point) (length t.dense) in
    let leaves = product_but line.reference (leaf_at s t h) (length t.sparse) in
    still_is s p rank line run c.requires.run c.args.moving c.requires.others x c.args.node
    (record { moving = c.args.moving; value = c.leaves_but.result; start = c.in-Some-own_element.start; goes = not c.stays.result }) refl c.in-Some.ensures.owns
    (c.leaves_but.ensures
    ∙ sym (mul-mod_first c.in-Some.product leaves (2 ^ 64))
    ∙ ap (λ n. n * leaves % 2 ^ 64) c.in-Some.ensures.value
    ∙ mul-mod_first (t.factor * dense) leaves (2 ^ 64))
    (λ goes. sym c.stays.ensures ∙ not-false c.stays.result goes)
    (c.in-Some-own_element.ensures.spot ∙ ap (λ y. spot s.job s.places rank y s.nest.target) c.new-point.ensures)

pub returns-clause-start : goal.returns-clause-start
returns-clause-start g c =
    let s : Setting = setting g.P.Placement.triples g.P.Placement.ranks g.V.Access.tree g.V.Cells.grid c.args.job.now c.args.places.now c.args.nest.now c.args.stores.now in
    let rank = c.args.rank in
    let p = c.args.planned.now in
    let point = point_at c.args.line c.args.run.now c.args.x in
    let named : IsNamed s.job s.nest.target point = target_named s.job s.nest point (nest_is s rank p c.requires.can) c.requires.sound.box in
    target_low s.job g.P.Placement.triples g.P.Placement.ranks g.met.P.Placement.placed c.args.places.now rank c.requires.can.at s.nest.target point named (home_own s rank point c.requires.sound.home)
    c.in-Some-own_element.start (c.in-Some-own_element.ensures.spot ∙ ap (λ y. spot s.job s.places rank y s.nest.target) (c.new-point.ensures ∙ ap (point_at c.args.line c.args.run.now) (to_z-of_z w64 c.args.x c.ranges.x)))
