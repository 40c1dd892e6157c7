use Rattle.std.proofs.Common.{◌≡◌, ◌∙◌, ◌<◌, ◌*◌, ◌%◌, ◌^◌, ◌&&◌, ◌==◌, length, map, true, sym, ap, subst, arith}
use Rattle.std.specs.Prelude.{if◌then◌else◌}
use Rattle.std.proofs.lemmas.List.Elements.{All-head, All-tail}
use Rattle.job_model.specs.Values.{product_of}
use Rattle.pass_model.specs.Interior.{is_own}
use Rattle.split_exec.specs.Hits.{Grow, IsNamed, OwnsWhole, cell_at, hit_adds, hit_value, leaves_at, spot}
use Rattle.split_exec.specs.Settings.{Setting, setting}
use Rattle.split_exec.proofs.BoxLemmas.{box_near}
use Rattle.split_exec.proofs.SoundLemmas.{nest_is, target_named}
use Rattle.std.proofs.lemmas.Bool.{eq-eqb, ne_eqb}
use Rattle.std.proofs.lemmas.Nat.{mul-mod_first}
use Rattle.split_exec.proofs.RankLemmas.{spot_low}
use Rattle.split_exec.proofs.SumLemmas.{grow_one}
use Rattle.split_exec.proofs.hits.add_hit.Goals as goal

pub dense_product-requires-clause-whole : goal.dense_product-requires-clause-whole
dense_product-requires-clause-whole g c owns = All-tail (OwnsWhole c.args.job.now (map g.P.Placement.triples c.args.places.now) c.args.rank) c.args.nest.now.target c.args.planned.now.term.dense (c.requires.whole owns)

pub new-point-requires : goal.new-point-requires
new-point-requires g c =
    let s : Setting = setting g.P.Placement.triples g.P.Placement.ranks g.V.Access.tree g.V.Cells.grid c.args.job.now c.args.places.now c.args.nest.now c.args.stores.now in
    box_near c.args.nest.now.vars c.args.hit.now.point (nest_is s c.args.rank c.args.planned.now c.requires.can).near c.requires.sound.box

pub own_element-requires-clause-named : goal.own_element-requires-clause-named
own_element-requires-clause-named g c =
    let s : Setting = setting g.P.Placement.triples g.P.Placement.ranks g.V.Access.tree g.V.Cells.grid c.args.job.now c.args.places.now c.args.nest.now c.args.stores.now in
    subst (IsNamed c.args.job.now c.args.nest.now.target) (sym c.new-point.ensures)
    (target_named c.args.job.now c.args.nest.now c.args.hit.now.point (nest_is s c.args.rank c.args.planned.now c.requires.can) c.requires.sound.box)

pub own_element-requires-clause-whole : goal.own_element-requires-clause-whole
own_element-requires-clause-whole g c owns = All-head (OwnsWhole c.args.job.now (map g.P.Placement.triples c.args.places.now) c.args.rank) c.args.nest.now.target c.args.planned.now.term.dense (c.requires.whole owns)

pub add-requires : goal.add-requires
add-requires g c =
    let s : Setting = setting g.P.Placement.triples g.P.Placement.ranks g.V.Access.tree g.V.Cells.grid c.args.job.now c.args.places.now c.args.nest.now c.args.stores.now in
    let rank = c.args.rank in
    let t = c.args.planned.now.term in
    let h = c.args.hit.now in
    let x = h.point in
    let named : IsNamed s.job s.nest.target x = target_named s.job s.nest x (nest_is s rank c.args.planned.now c.requires.can) c.requires.sound.box in
    let own : is_own s.job s.places rank x s.nest.target ≡ true = subst (λ y. is_own s.job s.places rank y s.nest.target ≡ true) c.new-point.ensures c.in-Some-own_element.ensures.own in
    let at : c.in-Some-own_element.element ≡ spot s.job s.places rank x s.nest.target = c.in-Some-own_element.ensures.spot ∙ ap (λ y. spot s.job s.places rank y s.nest.target) c.new-point.ensures in
    let low = spot_low s.job g.P.Placement.triples g.P.Placement.ranks g.met.P.Placement.placed c.args.places.now rank c.requires.can.at s.nest.target x named own in
    let below : c.in-Some-own_element.element < length c.args.delta.now = omega (arith, low, at, c.requires.sums named.array named.named) in
    below

pub returns : goal.returns
returns g c =
    let s : Setting = setting g.P.Placement.triples g.P.Placement.ranks g.V.Access.tree g.V.Cells.grid c.args.job.now c.args.places.now c.args.nest.now c.args.stores.now in
    let rank = c.args.rank in
    let t = c.args.planned.now.term in
    let h = c.args.hit.now in
    let x = h.point in
    let named : IsNamed s.job s.nest.target x = target_named s.job s.nest x (nest_is s rank c.args.planned.now c.requires.can) c.requires.sound.box in
    let own : is_own s.job s.places rank x s.nest.target ≡ true = subst (λ y. is_own s.job s.places rank y s.nest.target ≡ true) c.new-point.ensures c.in-Some-own_element.ensures.own in
    let at : c.in-Some-own_element.element ≡ spot s.job s.places rank x s.nest.target = c.in-Some-own_element.ensures.spot ∙ ap (λ y. spot s.job s.places rank y s.nest.target) c.new-point.ensures in
    let low = spot_low s.job g.P.Placement.triples g.P.Placement.ranks g.met.P.Placement.placed c.args.places.now rank c.requires.can.at s.nest.target x named own in
    let below : c.in-Some-own_element.element < length c.args.delta.now = omega (arith, low, at, c.requires.sums named.array named.named) in
    let element = c.in-Some-own_element.element in
    let value = c.leaf_product-value.result in
    let leaves = product_of (leaves_at s t h) in
    let whole = t.factor * product_of (map (cell_at s rank x) t.dense) in
    let same : hit_value s rank t h % 2 ^ 64 ≡ value % 2 ^ 64 =
    sym (mul-mod_first whole leaves (2 ^ 64)) ∙ ap (λ n. n * leaves % 2 ^ 64) (sym c.in-Some.ensures.value) ∙ mul-mod_first c.in-Some.product leaves (2 ^ 64) ∙ sym c.leaf_product-value.ensures in
    subst (λ new. Grow c.args.delta.now new (λ k. hit_adds s rank t k h)) (sym c.add.ensures)
    (grow_one c.args.delta.now element value (λ k. hit_adds s rank t k h) below
    (ap (λ b. (if b && (spot s.job s.places rank x s.nest.target == element) then hit_value s rank t h else 0) % 2 ^ 64) c.in-Some.ensures.interior
    ∙ ap (λ b. (if b then hit_value s rank t h else 0) % 2 ^ 64) (eq-eqb (spot s.job s.places rank x s.nest.target) element (sym at)) ∙ same)
    (λ k apart. ap (λ b. if b && (spot s.job s.places rank x s.nest.target == k) then hit_value s rank t h else 0) c.in-Some.ensures.interior
    ∙ ap (λ b. if b then hit_value s rank t h else 0) (ne_eqb (spot s.job s.places rank x s.nest.target) k (λ is. apart (sym is ∙ sym at)))))
