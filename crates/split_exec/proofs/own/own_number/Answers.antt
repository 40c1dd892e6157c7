use Rattle.std.proofs.Common.{◌≡◌, ◌≢◌, ◌∙◌, ◌<◌, ◌≤◌, ◌*◌, ◌+◌, [], length, map, true, false, sym, ap, subst, arith}
use Rattle.std.proofs.lemmas.Bool.{eq-eqb, ne_eqb}
use Rattle.std.proofs.lemmas.List.{length-map}
use Rattle.bern_base.specs.declared.limits.TheConstants.{MOST_WEIGHT}
use Rattle.pass_model.specs.Interior.{is_own}
use Rattle.bern_base.specs.declared.job.ArrayDecl.{ArrayDecl}
use Rattle.bern_base.specs.Affine.{value_at}
use Rattle.job_model.specs.Points.{natural}
use Rattle.node_prog.proofs.HomeLemmas.{each_item, item}
use Rattle.pass_model.specs.Local.{local_at}
use Rattle.placement.specs.Placement.{owner_of}
use Rattle.split_exec.specs.Hits.{split_index, spot}
use Rattle.split_exec.proofs.MeaningLemmas.{col_inside, row_inside}
use Rattle.split_exec.proofs.RankLemmas.{extent_is, few, if_none, if_some, place_low, own_test, same_array, spot_test, whole_own, whole_spot}
use Rattle.split_exec.proofs.own.own_number.Goals as goal

pub whole_number-requires-clause-row : goal.whole_number-requires-clause-row
whole_number-requires-clause-row g c =
    let is = c.requires.named in
    let same = same_array c.args.job.now.arrays c.args.reference.now.array is.array c.at-array.result.now is.named c.at-array.ensures in
    subst (λ n. n < c.at-array.result.now.rows) (sym c.requires.row) (subst (λ (a : ArrayDecl). natural (value_at c.args.reference.now.row c.args._point.now) < a.rows) same (row_inside c.args.job.now c.args.reference.now c.args._point.now is))

pub whole_number-requires-clause-col : goal.whole_number-requires-clause-col
whole_number-requires-clause-col g c =
    let is = c.requires.named in
    let same = same_array c.args.job.now.arrays c.args.reference.now.array is.array c.at-array.result.now is.named c.at-array.ensures in
    subst (λ n. n < c.at-array.result.now.cols) (sym c.requires.col) (subst (λ (a : ArrayDecl). natural (value_at c.args.reference.now.col c.args._point.now) < a.cols) same (col_inside c.args.job.now c.args.reference.now c.args._point.now is))

pub whole_number-requires-clause-few : goal.whole_number-requires-clause-few
whole_number-requires-clause-few g c =
    let is = c.requires.named in
    let same = same_array c.args.job.now.arrays c.args.reference.now.array is.array c.at-array.result.now is.named c.at-array.ensures in
    subst (λ (a : ArrayDecl). a.rows * a.cols ≤ MOST_WEIGHT) same
    (few c.args.job.now (map g.P.Placement.triples c.args.places.now) (map g.P.Placement.ranks c.args.places.now) c.args.rank c.requires.at c.args.reference.now.array is.array is.named is.whole)

pub returns-then-whole-clause-own : goal.returns-then-whole-clause-own
returns-then-whole-clause-own g c = whole_own c.args.job.now g.P.Placement.triples g.P.Placement.ranks g.met.P.Placement.placed c.args.places.now c.args.rank c.requires.at c.args.reference.now c.args._point.now c.requires.named (c.requires.whole c.if-whole.true)

pub returns-then-whole-clause-spot : goal.returns-then-whole-clause-spot
returns-then-whole-clause-spot g c =
    let is = c.requires.named in
    let same = same_array c.args.job.now.arrays c.args.reference.now.array is.array c.at-array.result.now is.named c.at-array.ensures in
    c.whole_number.ensures
    ∙ ap (λ n. n * c.at-array.result.now.cols + c.args.col) c.requires.row
    ∙ ap (λ n. natural (value_at c.args.reference.now.row c.args._point.now) * c.at-array.result.now.cols + n) c.requires.col
    ∙ ap (λ (a : ArrayDecl). natural (value_at c.args.reference.now.row c.args._point.now) * a.cols + natural (value_at c.args.reference.now.col c.args._point.now)) (sym same)
    ∙ whole_spot c.args.job.now g.P.Placement.triples g.P.Placement.ranks g.met.P.Placement.placed c.args.places.now c.args.rank c.requires.at c.args.reference.now c.args._point.now is (c.requires.whole c.if-whole.true)

pub at-place-requires : goal.at-place-requires
at-place-requires g c =
    let low = place_low c.args.job.now (map g.P.Placement.triples c.args.places.now) (map g.P.Placement.ranks c.args.places.now) c.args.rank c.requires.at c.args.reference.now.array c.at-array.result.now c.at-array.ensures in
    omega (arith, low, length-map c.args.places.now g.P.Placement.triples)

pub local_number-requires-clause-rank : goal.local_number-requires-clause-rank
local_number-requires-clause-rank g c = each_item g.P.Placement.ranks (λ n. c.args.rank < n) c.args.places.now c.at-array.result.now.place c.at-place.result.now c.requires.at.placed.among c.at-place.ensures

pub local_number-requires-clause-extent : goal.local_number-requires-clause-extent
local_number-requires-clause-extent g c =
    sym (ap length (item g.P.Placement.triples c.args.places.now c.at-array.result.now.place c.at-place.result.now [] c.at-place.ensures))
    ∙ extent_is c.args.job.now (map g.P.Placement.triples c.args.places.now) (map g.P.Placement.ranks c.args.places.now) c.args.rank c.requires.at c.args.reference.now.array c.at-array.result.now c.at-array.ensures

pub local_number-requires-clause-row : goal.local_number-requires-clause-row
local_number-requires-clause-row g c =
    let is = c.requires.named in
    let same = same_array c.args.job.now.arrays c.args.reference.now.array is.array c.at-array.result.now is.named c.at-array.ensures in
    subst (λ n. n < c.at-array.result.now.rows) (sym c.requires.row) (subst (λ (a : ArrayDecl). natural (value_at c.args.reference.now.row c.args._point.now) < a.rows) same (row_inside c.args.job.now c.args.reference.now c.args._point.now is))

pub local_number-requires-clause-col : goal.local_number-requires-clause-col
local_number-requires-clause-col g c =
    let is = c.requires.named in
    let same = same_array c.args.job.now.arrays c.args.reference.now.array is.array c.at-array.result.now is.named c.at-array.ensures in
    subst (λ n. n < c.at-array.result.now.cols) (sym c.requires.col) (subst (λ (a : ArrayDecl). natural (value_at c.args.reference.now.col c.args._point.now) < a.cols) same (col_inside c.args.job.now c.args.reference.now c.args._point.now is))

pub local_number-requires-clause-few : goal.local_number-requires-clause-few
local_number-requires-clause-few g c =
    let is = c.requires.named in
    let same = same_array c.args.job.now.arrays c.args.reference.now.array is.array c.at-array.result.now is.named c.at-array.ensures in
    subst (λ (a : ArrayDecl). a.rows * a.cols ≤ MOST_WEIGHT) same
    (few c.args.job.now (map g.P.Placement.triples c.args.places.now) (map g.P.Placement.ranks c.args.places.now) c.args.rank c.requires.at c.args.reference.now.array is.array is.named is.whole)

pub returns-clause-own : goal.returns-clause-own
returns-clause-own g c =
    if_some c.local_number.result (λ l. (owner_of (g.P.Placement.triples c.at-place.result.now) (split_index c.at-array.result.now c.args.row c.args.col) ≡ c.args.rank) × (l ≡ local_at (g.P.Placement.triples c.at-place.result.now) c.at-array.result.now c.args.rank c.args.row c.args.col))
    (λ l. is_own c.args.job.now (map g.P.Placement.triples c.args.places.now) c.args.rank c.args._point.now c.args.reference.now ≡ true)
    (λ l is. own_test c.args.job.now g.P.Placement.triples c.args.places.now c.args.rank c.args.reference.now c.args._point.now c.requires.named c.at-array.result.now c.at-place.result.now c.args.row c.args.col c.at-array.ensures c.at-place.ensures c.requires.row c.requires.col
    ∙ eq-eqb (owner_of (g.P.Placement.triples c.at-place.result.now) (split_index c.at-array.result.now c.args.row c.args.col)) c.args.rank is.0)
    c.local_number.ensures.some

pub returns-clause-spot : goal.returns-clause-spot
returns-clause-spot g c =
    if_some c.local_number.result (λ l. (owner_of (g.P.Placement.triples c.at-place.result.now) (split_index c.at-array.result.now c.args.row c.args.col) ≡ c.args.rank) × (l ≡ local_at (g.P.Placement.triples c.at-place.result.now) c.at-array.result.now c.args.rank c.args.row c.args.col))
    (λ l. l ≡ spot c.args.job.now (map g.P.Placement.triples c.args.places.now) c.args.rank c.args._point.now c.args.reference.now)
    (λ l is. is.1 ∙ sym (spot_test c.args.job.now g.P.Placement.triples c.args.places.now c.args.rank c.args.reference.now c.args._point.now c.at-array.result.now c.at-place.result.now c.args.row c.args.col c.at-array.ensures c.at-place.ensures c.requires.row c.requires.col))
    c.local_number.ensures.some

pub returns-clause-none : goal.returns-clause-none
returns-clause-none g c =
    if_none c.local_number.result (owner_of (g.P.Placement.triples c.at-place.result.now) (split_index c.at-array.result.now c.args.row c.args.col) ≢ c.args.rank)
    (is_own c.args.job.now (map g.P.Placement.triples c.args.places.now) c.args.rank c.args._point.now c.args.reference.now ≡ false)
    (λ other. own_test c.args.job.now g.P.Placement.triples c.args.places.now c.args.rank c.args.reference.now c.args._point.now c.requires.named c.at-array.result.now c.at-place.result.now c.args.row c.args.col c.at-array.ensures c.at-place.ensures c.requires.row c.requires.col
    ∙ ne_eqb (owner_of (g.P.Placement.triples c.at-place.result.now) (split_index c.at-array.result.now c.args.row c.args.col)) c.args.rank other)
    c.local_number.ensures.none
