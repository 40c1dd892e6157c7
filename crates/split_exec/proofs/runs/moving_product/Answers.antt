use Rattle.std.proofs.Common.{◌≡◌, ◌∙◌, ◌*◌, ◌%◌, ◌^◌, None, Some, length, map, sym, ap, subst, arith}
use Rattle.std.specs.Prelude.{slice_get, slice_index_or}
use Rattle.std.proofs.Math.Nat.{mod-mod, mul-one}
use Rattle.std.proofs.lemmas.List.{length-map}
use Rattle.std.proofs.lemmas.Option.{get_or_from_slice_get, slice_get_within}
use Rattle.format_model.specs.Grids.{HasElement, value_of_element}
use Rattle.node_prog.proofs.HomeLemmas.{item}
use Rattle.pass_model.specs.Interior.{is_own}
use Rattle.plan_courses.specs.JobCourses.{no_ref}
use Rattle.split_exec.specs.Hits.{IsNamed, OwnsWhole, cell_at, spot}
use Rattle.split_exec.specs.Runs.{at_or_one, cell_by}
use Rattle.split_exec.specs.Settings.{Setting, setting}
use Rattle.split_exec.proofs.LineLemmas.{one_at, one_past, past_end}
use Rattle.split_exec.proofs.MeaningLemmas.{cell_there}
use Rattle.split_exec.proofs.RankLemmas.{all_at}
use Rattle.split_exec.proofs.SoundLemmas.{dense_named, plan_is}
use Rattle.split_exec.proofs.ViewLemmas.{all_fails, contains_at, grid_low}
use Rattle.split_exec.proofs.runs.moving_product.Goals as goal

pub returns-in_default-clause-value : goal.returns-in_default-clause-value
returns-in_default-clause-value g c =
    let s : Setting = setting g.P.Placement.triples g.P.Placement.ranks g.V.Access.tree g.V.Cells.grid c.args.job.now c.args.places.now c.args.nest.now c.args.stores.now in
    let t = c.args.planned.now.term in
    let past = past_end t.dense c.args.moving (sym c.in_default.ensures.value) in
    ap (λ n. n % 2 ^ 64)
    (sym (ap (λ n. c.args.value * n) (one_past c.args.moving (cell_by s c.args.rank t c.args.point.now) (length t.dense) past) ∙ mul-one c.args.value))

pub own_element-requires-clause-named : goal.own_element-requires-clause-named
own_element-requires-clause-named g c =
    let s : Setting = setting g.P.Placement.triples g.P.Placement.ranks g.V.Access.tree g.V.Cells.grid c.args.job.now c.args.places.now c.args.nest.now c.args.stores.now in
    let ref = c.in-Some.reference.now in
    let x = c.args.point.now in
    let dense = c.args.planned.now.term.dense in
    let some : slice_get dense c.args.moving ≡ Some ref = sym c.in-Some.ensures.value in
    dense_named s.job s.nest c.args.planned.now (plan_is s c.args.rank c.args.planned.now c.requires.can) ref (contains_at dense c.args.moving ref some) x c.requires.inside

pub own_element-requires-clause-whole : goal.own_element-requires-clause-whole
own_element-requires-clause-whole g c owns =
    let ref = c.in-Some.reference.now in
    let dense = c.args.planned.now.term.dense in
    let some : slice_get dense c.args.moving ≡ Some ref = sym c.in-Some.ensures.value in
    all_at (OwnsWhole c.args.job.now (map g.P.Placement.triples c.args.places.now) c.args.rank) dense c.args.moving ref (c.requires.whole owns) some

pub at-requires : goal.at-requires
at-requires g c =
    let s : Setting = setting g.P.Placement.triples g.P.Placement.ranks g.V.Access.tree g.V.Cells.grid c.args.job.now c.args.places.now c.args.nest.now c.args.stores.now in
    let ref = c.in-Some.reference.now in
    let x = c.args.point.now in
    let dense = c.args.planned.now.term.dense in
    let some : slice_get dense c.args.moving ≡ Some ref = sym c.in-Some.ensures.value in
    let named : IsNamed s.job ref x =
    dense_named s.job s.nest c.args.planned.now (plan_is s c.args.rank c.args.planned.now c.requires.can) ref (contains_at dense c.args.moving ref some) x c.requires.inside in
    let there = cell_there s c.requires.can.entries c.args.rank ref x c.requires.can.parts named c.in-Some-own_element.ensures.own in
    omega (arith, grid_low s.grids ref.array (spot s.job s.places c.args.rank x ref) there, length-map c.args.stores.now g.V.Cells.grid)

pub cell-requires : goal.cell-requires
cell-requires g c =
    let s : Setting = setting g.P.Placement.triples g.P.Placement.ranks g.V.Access.tree g.V.Cells.grid c.args.job.now c.args.places.now c.args.nest.now c.args.stores.now in
    let ref = c.in-Some.reference.now in
    let x = c.args.point.now in
    let dense = c.args.planned.now.term.dense in
    let some : slice_get dense c.args.moving ≡ Some ref = sym c.in-Some.ensures.value in
    let named : IsNamed s.job ref x =
    dense_named s.job s.nest c.args.planned.now (plan_is s c.args.rank c.args.planned.now c.requires.can) ref (contains_at dense c.args.moving ref some) x c.requires.inside in
    let there = cell_there s c.requires.can.entries c.args.rank ref x c.requires.can.parts named c.in-Some-own_element.ensures.own in
    subst (HasElement (g.V.Cells.grid c.at.result.now)) (sym c.in-Some-own_element.ensures.spot)
    (subst (λ o. HasElement o (spot s.job s.places c.args.rank x ref)) (item g.V.Cells.grid c.args.stores.now ref.array c.at.result.now None c.at.ensures) there)

pub returns-in-Some-own_element-clause-value : goal.returns-in-Some-own_element-clause-value
returns-in-Some-own_element-clause-value g c =
    let s : Setting = setting g.P.Placement.triples g.P.Placement.ranks g.V.Access.tree g.V.Cells.grid c.args.job.now c.args.places.now c.args.nest.now c.args.stores.now in
    let ref = c.in-Some.reference.now in
    let x = c.args.point.now in
    let dense = c.args.planned.now.term.dense in
    let some : slice_get dense c.args.moving ≡ Some ref = sym c.in-Some.ensures.value in
    let t = c.args.planned.now.term in
    let by_number : slice_index_or t.dense c.args.moving no_ref ≡ ref = get_or_from_slice_get t.dense c.args.moving ref no_ref some in
    let cell : c.cell.result ≡ cell_by s c.args.rank t x c.args.moving =
    c.cell.ensures ∙ ap (λ n. value_of_element (g.V.Cells.grid c.at.result.now) n) c.in-Some-own_element.ensures.spot
    ∙ ap (λ o. value_of_element o (spot s.job s.places c.args.rank x ref)) (sym (item g.V.Cells.grid c.args.stores.now ref.array c.at.result.now None c.at.ensures))
    ∙ ap (λ r. cell_at s c.args.rank x r) (sym by_number) in
    ap (λ n. n % 2 ^ 64) (c.mul.ensures ∙ ap (λ n. c.args.value * n % 2 ^ 64) (cell ∙ sym (one_at c.args.moving (cell_by s c.args.rank t x) (length dense) (slice_get_within dense c.args.moving ref some))))
    ∙ mod-mod (c.args.value * at_or_one c.args.moving (cell_by s c.args.rank t x) (length dense)) (2 ^ 64)

pub returns-in-None-clause-lacks : goal.returns-in-None-clause-lacks
returns-in-None-clause-lacks g c =
    let s : Setting = setting g.P.Placement.triples g.P.Placement.ranks g.V.Access.tree g.V.Cells.grid c.args.job.now c.args.places.now c.args.nest.now c.args.stores.now in
    let ref = c.in-Some.reference.now in
    let x = c.args.point.now in
    let dense = c.args.planned.now.term.dense in
    let some : slice_get dense c.args.moving ≡ Some ref = sym c.in-Some.ensures.value in
    all_fails (is_own s.job s.places c.args.rank x) dense c.args.moving ref some c.in-None.ensures.none
