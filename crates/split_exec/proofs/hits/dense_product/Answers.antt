use Rattle.std.proofs.Common.{◌≡◌, ◌∙◌, ◌*◌, ◌+◌, ◌%◌, ◌^◌, None, map, take, true, false, sym, ap, subst, arith}
use Rattle.std.proofs.lemmas.List.{length-map}
use Rattle.format_model.specs.Grids.{HasElement, value_of_element}
use Rattle.job_model.specs.Values.{product_of}
use Rattle.node_prog.proofs.HomeLemmas.{item}
use Rattle.pass_model.specs.Interior.{is_own}
use Rattle.split_exec.specs.Hits.{IsNamed, OwnsWhole, cell_at, spot}
use Rattle.split_exec.specs.Settings.{Setting, setting}
use Rattle.split_exec.proofs.BoxLemmas.{box_near}
use Rattle.split_exec.proofs.MeaningLemmas.{cell_there}
use Rattle.split_exec.proofs.RankLemmas.{all_at}
use Rattle.split_exec.proofs.SoundLemmas.{dense_named, nest_is, plan_is}
use Rattle.split_exec.proofs.ViewLemmas.{all_fails, all_more, contains_at, grid_low, product_more, ring_more}
use Rattle.split_exec.proofs.hits.dense_product.Goals as goal

pub new-point-requires : goal.new-point-requires
new-point-requires g c =
    let s : Setting = setting g.P.Placement.triples g.P.Placement.ranks g.V.Access.tree g.V.Cells.grid c.args.job.now c.args.places.now c.args.nest.now c.args.stores.now in
    box_near c.args.nest.now.vars c.args.hit.now.point (nest_is s c.args.rank c.args.planned.now c.requires.can).near c.requires.sound.box

pub own_element-requires-clause-named : goal.own_element-requires-clause-named
own_element-requires-clause-named g c =
    let s : Setting = setting g.P.Placement.triples g.P.Placement.ranks g.V.Access.tree g.V.Cells.grid c.args.job.now c.args.places.now c.args.nest.now c.args.stores.now in
    let ref = c.at-reference.result.now in
    subst (IsNamed c.args.job.now ref) (sym c.new-point.ensures)
    (dense_named c.args.job.now c.args.nest.now c.args.planned.now (plan_is s c.args.rank c.args.planned.now c.requires.can) ref (contains_at c.args.planned.now.term.dense c.references.at ref c.at-reference.ensures) c.args.hit.now.point c.requires.sound.box)

pub own_element-requires-clause-whole : goal.own_element-requires-clause-whole
own_element-requires-clause-whole g c owns =
    all_at (OwnsWhole c.args.job.now (map g.P.Placement.triples c.args.places.now) c.args.rank) c.args.planned.now.term.dense c.references.at c.at-reference.result.now (c.requires.whole owns) c.at-reference.ensures

pub at-view-requires : goal.at-view-requires
at-view-requires g c =
    let s : Setting = setting g.P.Placement.triples g.P.Placement.ranks g.V.Access.tree g.V.Cells.grid c.args.job.now c.args.places.now c.args.nest.now c.args.stores.now in
    let ref = c.at-reference.result.now in
    let point = c.args.hit.now.point in
    let named = dense_named c.args.job.now c.args.nest.now c.args.planned.now (plan_is s c.args.rank c.args.planned.now c.requires.can) ref (contains_at c.args.planned.now.term.dense c.references.at ref c.at-reference.ensures) point c.requires.sound.box in
    let own : is_own s.job s.places c.args.rank point ref ≡ true = subst (λ x. is_own s.job s.places c.args.rank x ref ≡ true) c.new-point.ensures c.in-Some.ensures.own in
    let there = cell_there s c.requires.can.entries c.args.rank ref point c.requires.can.parts named own in
    omega (arith, grid_low s.grids ref.array (spot s.job s.places c.args.rank point ref) there, length-map c.args.stores.now g.V.Cells.grid)

pub cell-requires : goal.cell-requires
cell-requires g c =
    let s : Setting = setting g.P.Placement.triples g.P.Placement.ranks g.V.Access.tree g.V.Cells.grid c.args.job.now c.args.places.now c.args.nest.now c.args.stores.now in
    let ref = c.at-reference.result.now in
    let point = c.args.hit.now.point in
    let named = dense_named c.args.job.now c.args.nest.now c.args.planned.now (plan_is s c.args.rank c.args.planned.now c.requires.can) ref (contains_at c.args.planned.now.term.dense c.references.at ref c.at-reference.ensures) point c.requires.sound.box in
    let own : is_own s.job s.places c.args.rank point ref ≡ true = subst (λ x. is_own s.job s.places c.args.rank x ref ≡ true) c.new-point.ensures c.in-Some.ensures.own in
    let there = cell_there s c.requires.can.entries c.args.rank ref point c.requires.can.parts named own in
    let at : c.in-Some.element ≡ spot s.job s.places c.args.rank point ref = c.in-Some.ensures.spot ∙ ap (λ x. spot s.job s.places c.args.rank x ref) c.new-point.ensures in
    subst (HasElement (g.V.Cells.grid c.at-view.result.now)) (sym at)
    (subst (λ o. HasElement o (spot s.job s.places c.args.rank point ref)) (item g.V.Cells.grid c.args.stores.now ref.array c.at-view.result.now None c.at-view.ensures) there)

pub returns-in-None-clause-boundary : goal.returns-in-None-clause-boundary
returns-in-None-clause-boundary g c =
    let s : Setting = setting g.P.Placement.triples g.P.Placement.ranks g.V.Access.tree g.V.Cells.grid c.args.job.now c.args.places.now c.args.nest.now c.args.stores.now in
    let ref = c.at-reference.result.now in
    all_fails (is_own s.job s.places c.args.rank c.args.hit.now.point) c.args.planned.now.term.dense c.references.at ref c.at-reference.ensures
    (subst (λ x. is_own s.job s.places c.args.rank x ref ≡ false) c.new-point.ensures c.in-None.ensures.none)

pub references-preserved : goal.references-preserved
references-preserved g c =
    let s : Setting = setting g.P.Placement.triples g.P.Placement.ranks g.V.Access.tree g.V.Cells.grid c.args.job.now c.args.places.now c.args.nest.now c.args.stores.now in
    let ref = c.at-reference.result.now in
    let point = c.args.hit.now.point in
    let own : is_own s.job s.places c.args.rank point ref ≡ true = subst (λ x. is_own s.job s.places c.args.rank x ref ≡ true) c.new-point.ensures c.in-Some.ensures.own in
    let at : c.in-Some.element ≡ spot s.job s.places c.args.rank point ref = c.in-Some.ensures.spot ∙ ap (λ x. spot s.job s.places c.args.rank x ref) c.new-point.ensures in
    let cell : c.cell.result ≡ cell_at s c.args.rank point ref =
    c.cell.ensures ∙ ap (λ n. value_of_element (g.V.Cells.grid c.at-view.result.now) n) at
    ∙ ap (λ o. value_of_element o (spot s.job s.places c.args.rank point ref)) (sym (item g.V.Cells.grid c.args.stores.now ref.array c.at-view.result.now None c.at-view.ensures)) in
    let dense = c.args.planned.now.term.dense in
    let before = product_of (map (cell_at s c.args.rank point) (take c.references.at dense)) in
    record {
      own = all_more (is_own s.job s.places c.args.rank point) dense c.references.at ref c.at-reference.ensures c.references.invariant.own own;
      value =
          ap (λ n. n % 2 ^ 64) (c.mul-product.ensures ∙ ap (λ n. c.references.product * n % 2 ^ 64) cell)
          ∙ ring_more c.references.product c.args.planned.now.term.factor before (cell_at s c.args.rank point ref) (product_of (map (cell_at s c.args.rank point) (take (c.references.at + 1) dense)))
          c.references.invariant.value (product_more (cell_at s c.args.rank point) dense c.references.at ref c.at-reference.ensures);
    }
