use Rattle.std.proofs.Common.{◌≡◌, ◌≢◌, ◌∙◌, ℕ, ◌*◌, ◌+◌, ◌%◌, ◌^◌, List, None, Some, map, true, sym, ap, subst, ⊎_elim, arith}
use Rattle.std.specs.Prelude.{slice_get, slice_index_or}
use Rattle.std.proofs.lemmas.Bool.{cases_eq}
use Rattle.std.proofs.lemmas.List.{length-map}
use Rattle.std.proofs.lemmas.Option.{get_or_from_slice_get, slice_get_within}
use Rattle.bern_base.specs.declared.job.Ref.{Ref}
use Rattle.format_model.specs.Grids.{HasElement, value_of_element}
use Rattle.node_prog.proofs.HomeLemmas.{item}
use Rattle.pass_model.specs.Interior.{is_own}
use Rattle.plan_courses.specs.JobCourses.{no_ref}
use Rattle.split_exec.specs.Hits.{IsNamed, OwnsWhole, cell_at, spot}
use Rattle.split_exec.specs.Runs.{cell_by, product_but}
use Rattle.split_exec.specs.Settings.{Setting, setting}
use Rattle.split_exec.proofs.BoxLemmas.{box_near}
use Rattle.split_exec.proofs.LineLemmas.{but_more, but_passed}
use Rattle.split_exec.proofs.MeaningLemmas.{cell_there}
use Rattle.split_exec.proofs.RankLemmas.{all_at}
use Rattle.split_exec.proofs.SoundLemmas.{dense_named, nest_is, plan_is}
use Rattle.split_exec.proofs.ViewLemmas.{contains_at, grid_low, ring_more}
use Rattle.split_exec.proofs.still.dense_but.Goals as goal

same_ref : (refs : List Ref) (k : ℕ) (a b : Ref) → slice_get refs k ≡ Some a → slice_get refs k ≡ Some b → a ≡ b
same_ref refs k a b first second = let both : Some a ≡ Some b = sym first ∙ second in cc

pub new-point-requires : goal.new-point-requires
new-point-requires g c =
    let s : Setting = setting g.P.Placement.triples g.P.Placement.ranks g.V.Access.tree g.V.Cells.grid c.args.job.now c.args.places.now c.args.nest.now c.args.stores.now in
    box_near c.args.nest.now.vars c.args.hit.now.point (nest_is s c.args.rank c.args.planned.now c.requires.can).near c.requires.sound.box

pub own_element-requires-clause-named : goal.own_element-requires-clause-named
own_element-requires-clause-named g c =
    let s : Setting = setting g.P.Placement.triples g.P.Placement.ranks g.V.Access.tree g.V.Cells.grid c.args.job.now c.args.places.now c.args.nest.now c.args.stores.now in
    let ref = c.at-reference.result.now in
    subst (IsNamed c.args.job.now ref) (sym c.new-point.ensures)
    (dense_named c.args.job.now c.args.nest.now c.args.planned.now (plan_is s c.args.rank c.args.planned.now c.requires.can) ref (contains_at c.args.planned.now.term.dense c.references.at ref c.at-reference.ensures) c.args.hit.now.point c.requires.sound.box)

pub own_element-requires-clause-whole : goal.own_element-requires-clause-whole
own_element-requires-clause-whole g c owns =
    all_at (OwnsWhole c.args.job.now (map g.P.Placement.triples c.args.places.now) c.args.rank) c.args.planned.now.term.dense c.references.at c.at-reference.result.now (c.requires.whole owns) c.at-reference.ensures

pub at-view-requires : goal.at-view-requires
at-view-requires g c =
    let s : Setting = setting g.P.Placement.triples g.P.Placement.ranks g.V.Access.tree g.V.Cells.grid c.args.job.now c.args.places.now c.args.nest.now c.args.stores.now in
    let ref = c.at-reference.result.now in
    let point = c.args.hit.now.point in
    let named = dense_named c.args.job.now c.args.nest.now c.args.planned.now (plan_is s c.args.rank c.args.planned.now c.requires.can) ref (contains_at c.args.planned.now.term.dense c.references.at ref c.at-reference.ensures) point c.requires.sound.box in
    let own : is_own s.job s.places c.args.rank point ref ≡ true = subst (λ x. is_own s.job s.places c.args.rank x ref ≡ true) c.new-point.ensures c.in-Some.ensures.own in
    let there = cell_there s c.requires.can.entries c.args.rank ref point c.requires.can.parts named own in
    omega (arith, grid_low s.grids ref.array (spot s.job s.places c.args.rank point ref) there, length-map c.args.stores.now g.V.Cells.grid)

pub cell-requires : goal.cell-requires
cell-requires g c =
    let s : Setting = setting g.P.Placement.triples g.P.Placement.ranks g.V.Access.tree g.V.Cells.grid c.args.job.now c.args.places.now c.args.nest.now c.args.stores.now in
    let ref = c.at-reference.result.now in
    let point = c.args.hit.now.point in
    let named = dense_named c.args.job.now c.args.nest.now c.args.planned.now (plan_is s c.args.rank c.args.planned.now c.requires.can) ref (contains_at c.args.planned.now.term.dense c.references.at ref c.at-reference.ensures) point c.requires.sound.box in
    let own : is_own s.job s.places c.args.rank point ref ≡ true = subst (λ x. is_own s.job s.places c.args.rank x ref ≡ true) c.new-point.ensures c.in-Some.ensures.own in
    let there = cell_there s c.requires.can.entries c.args.rank ref point c.requires.can.parts named own in
    let at : c.in-Some.element ≡ spot s.job s.places c.args.rank point ref = c.in-Some.ensures.spot ∙ ap (λ x. spot s.job s.places c.args.rank x ref) c.new-point.ensures in
    subst (HasElement (g.V.Cells.grid c.at-view.result.now)) (sym at)
    (subst (λ o. HasElement o (spot s.job s.places c.args.rank point ref)) (item g.V.Cells.grid c.args.stores.now ref.array c.at-view.result.now None c.at-view.ensures) there)

pub references-preserved-then-at-moving : goal.references-preserved-then-at-moving
references-preserved-then-at-moving g c =
    let s : Setting = setting g.P.Placement.triples g.P.Placement.ranks g.V.Access.tree g.V.Cells.grid c.args.job.now c.args.places.now c.args.nest.now c.args.stores.now in
    let x = c.args.hit.now.point in
    let t = c.args.planned.now.term in
    record {
      owns = λ k ref some under apart. c.references.invariant.owns k ref some (let other : k ≢ c.references.at = λ is. apart (is ∙ c.if-at-moving.true) in omega (arith, under, other)) apart;
      value = c.references.invariant.value
          ∙ ap (λ n. t.factor * n % 2 ^ 64) (sym (but_passed c.args.moving (cell_by s c.args.rank t x) c.references.at c.if-at-moving.true));
    }

pub references-preserved : goal.references-preserved
references-preserved g c =
    let s : Setting = setting g.P.Placement.triples g.P.Placement.ranks g.V.Access.tree g.V.Cells.grid c.args.job.now c.args.places.now c.args.nest.now c.args.stores.now in
    let ref = c.at-reference.result.now in
    let point = c.args.hit.now.point in
    let t = c.args.planned.now.term in
    let own : is_own s.job s.places c.args.rank point ref ≡ true = subst (λ x. is_own s.job s.places c.args.rank x ref ≡ true) c.new-point.ensures c.in-Some.ensures.own in
    let at : c.in-Some.element ≡ spot s.job s.places c.args.rank point ref = c.in-Some.ensures.spot ∙ ap (λ x. spot s.job s.places c.args.rank x ref) c.new-point.ensures in
    let by_number : slice_index_or t.dense c.references.at no_ref ≡ ref = get_or_from_slice_get t.dense c.references.at ref no_ref c.at-reference.ensures in
    let cell : c.cell.result ≡ cell_by s c.args.rank t point c.references.at =
    c.cell.ensures ∙ ap (λ n. value_of_element (g.V.Cells.grid c.at-view.result.now) n) at
    ∙ ap (λ o. value_of_element o (spot s.job s.places c.args.rank point ref)) (sym (item g.V.Cells.grid c.args.stores.now ref.array c.at-view.result.now None c.at-view.ensures))
    ∙ ap (λ r. cell_at s c.args.rank point r) (sym by_number) in
    let before = product_but c.args.moving (cell_by s c.args.rank t point) c.references.at in
    record {
      owns = λ k other some under apart. ⊎_elim
          (λ is. subst (λ r. is_own s.job s.places c.args.rank point r ≡ true) (same_ref t.dense c.references.at ref other c.at-reference.ensures (subst (λ n. slice_get t.dense n ≡ Some other) is some)) own)
          (λ far. c.references.invariant.owns k other some (let below : k ≢ c.references.at = far in omega (arith, under, below)) apart)
          (cases_eq k c.references.at);
      value =
          ap (λ n. n % 2 ^ 64) (c.mul-product.ensures ∙ ap (λ n. c.references.product * n % 2 ^ 64) cell)
          ∙ ring_more c.references.product t.factor before (cell_by s c.args.rank t point c.references.at) (product_but c.args.moving (cell_by s c.args.rank t point) (c.references.at + 1))
          c.references.invariant.value (but_more c.args.moving (cell_by s c.args.rank t point) c.references.at c.if-at-moving.false);
    }

pub returns-clause-owns : goal.returns-clause-owns
returns-clause-owns g c = λ k ref some apart. c.references.invariant.owns k ref some (let low = slice_get_within c.args.planned.now.term.dense k ref some in omega (arith, low, c.references-test.false, c.len-at-end.ensures)) apart
