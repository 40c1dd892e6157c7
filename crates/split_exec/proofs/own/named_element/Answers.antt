use Rattle.std.proofs.Common.{◌∙◌, ◌<◌, ◌≤◌, ◌*◌, ◌+◌, sym, ap, subst}
use Rattle.bern_base.specs.declared.limits.TheConstants.{MOST_WEIGHT}
use Rattle.bern_base.specs.declared.job.ArrayDecl.{ArrayDecl}
use Rattle.bern_base.specs.Affine.{value_at}
use Rattle.job_model.specs.Points.{natural}
use Rattle.plan_courses.proofs.ReferenceLemmas.{element_is}
use Rattle.split_exec.proofs.MeaningLemmas.{col_inside, row_inside}
use Rattle.split_exec.proofs.RankLemmas.{reach, same_array, weight}
use Rattle.split_exec.proofs.own.named_element.Goals as goal

pub index_at-row-requires-clause-high : goal.index_at-row-requires-clause-high
index_at-row-requires-clause-high c = (reach c.args.job.now c.requires.accepted c.args.reference.now c.args.point.now c.requires.named).0

pub index_at-requires-clause-high : goal.index_at-requires-clause-high
index_at-requires-clause-high c = (reach c.args.job.now c.requires.accepted c.args.reference.now c.args.point.now c.requires.named).1

pub whole_number-requires-clause-row : goal.whole_number-requires-clause-row
whole_number-requires-clause-row c =
    let is = c.requires.named in
    let same = same_array c.args.job.now.arrays c.args.reference.now.array is.array c.at-array.result.now is.named c.at-array.ensures in
    subst (λ n. n < c.at-array.result.now.rows) (sym c.index_at-row.ensures) (subst (λ (a : ArrayDecl). natural (value_at c.args.reference.now.row c.args.point.now) < a.rows) same (row_inside c.args.job.now c.args.reference.now c.args.point.now is))

pub whole_number-requires-clause-col : goal.whole_number-requires-clause-col
whole_number-requires-clause-col c =
    let is = c.requires.named in
    let same = same_array c.args.job.now.arrays c.args.reference.now.array is.array c.at-array.result.now is.named c.at-array.ensures in
    subst (λ n. n < c.at-array.result.now.cols) (sym c.index_at.ensures) (subst (λ (a : ArrayDecl). natural (value_at c.args.reference.now.col c.args.point.now) < a.cols) same (col_inside c.args.job.now c.args.reference.now c.args.point.now is))

pub whole_number-requires-clause-few : goal.whole_number-requires-clause-few
whole_number-requires-clause-few c =
    let is = c.requires.named in
    let same = same_array c.args.job.now.arrays c.args.reference.now.array is.array c.at-array.result.now is.named c.at-array.ensures in
    subst (λ (a : ArrayDecl). a.rows * a.cols ≤ MOST_WEIGHT) same (weight c.args.job.now c.requires.small c.args.reference.now.array is.array is.named is.whole)

pub returns : goal.returns
returns c =
    let is = c.requires.named in
    let same = same_array c.args.job.now.arrays c.args.reference.now.array is.array c.at-array.result.now is.named c.at-array.ensures in
    c.whole_number.ensures
    ∙ ap (λ n. n * c.at-array.result.now.cols + c.index_at.result) c.index_at-row.ensures
    ∙ ap (λ n. natural (value_at c.args.reference.now.row c.args.point.now) * c.at-array.result.now.cols + n) c.index_at.ensures
    ∙ ap (λ (a : ArrayDecl). natural (value_at c.args.reference.now.row c.args.point.now) * a.cols + natural (value_at c.args.reference.now.col c.args.point.now)) (sym same)
    ∙ sym (element_is c.args.job.now.arrays c.args.reference.now is.array c.args.point.now is.named)
