use Rattle.std.proofs.Common.{◌<◌, ◌≤◌, length, ◌∙◌, sym, ap, subst, arith}
use Rattle.rank_model.specs.Products.{IsRun, Run}
use Rattle.rank_node.specs.Jobs.{IsJobOf, ArePartsOf, is_whole}
use Rattle.rank_product.specs.Runs.{parts_at}
use Rattle.rank_product.proofs.PartsLemmas.{parts-are}
use Rattle.rank_product.proofs.PlaceLemmas.{length-block_place}
use Rattle.rank_product.proofs.RunLemmas.{run_is, job_is, stored_within}
use Rattle.rank_product.proofs.ShapeLemmas.{rows_are}
use Rattle.rank_product.proofs.ranks.new_node.Goals as goal

pub parts_of-requires-clause-rows : goal.parts_of-requires-clause-rows
parts_of-requires-clause-rows g c = λ k d within.
    rows_are c.args.job.now c.args.product c.args.matrices.now c.requires.1.0 c.requires.1.1.0 k d within
    ∙ sym (ap length c.requires.1.1.1.1.0 ∙ length-block_place c.args.product.size c.args.ranks)

pub new-requires : goal.new-requires
new-requires g c =
    let job = c.args.job.now in
    let p = c.args.product in
    let ms = c.args.matrices.now in
    let same = sym c.requires.0 in
    let is = c.requires.1.0 in
    let are = c.requires.1.1.0 in
    let below = c.requires.1.1.1.1.1.1 in
    let some : 1 ≤ c.args.ranks = omega (arith, below) in
    let within : Run → Type 0 = λ run. c.args.rank < run.ranks in
    let job_of : Run → Type 0 = λ run. IsJobOf run job in
    let parts_of : Run → Type 0 = λ run. ArePartsOf run c.args.rank c.in_ok-parts.parts in (
      subst IsRun same (run_is job p c.args.ranks ms is are some c.requires.1.1.1.0),
      (
        subst job_of same (job_is job p c.args.ranks ms is some),
        (
          subst within same below,
          (
            ap (λ (run : Run). run.ranks) same,
            subst parts_of same
                (parts-are (is_whole job) p c.args.ranks c.args.rank ms is.some some are.matrices_are (rows_are job p ms is are) (stored_within job p ms is are) c.in_ok-parts.parts
                (c.in_ok-parts.ensures ∙ ap (λ ts. parts_at ts c.args.rank ms) c.requires.1.1.1.1.0)),
          ),
        ),
      ),
    )
