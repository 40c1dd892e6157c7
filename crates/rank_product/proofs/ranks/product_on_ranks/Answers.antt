use Rattle.std.proofs.Common.{◌≡◌, ℕ, length, map, set, sym, ap, ◌∙◌}
use Rattle.std.specs.List.{range_with_len}
use Rattle.std.proofs.lemmas.List.FromFn.{length-map-range_with_len}
use Rattle.std.proofs.lemmas.Result.{IfOk-weaker}
use Rattle.job_model.specs.Nests as nests
use Rattle.rank_model.specs.Products.{end_value}
use Rattle.rank_node.specs.Jobs.{is_whole}
use Rattle.rank_product.specs.Runs.{first_state, run_of}
use Rattle.rank_product.proofs.RunLemmas.{product_end}
use Rattle.rank_product.proofs.ranks.product_on_ranks.Goals as goal

pub returns-clause-state : goal.returns-clause-state
returns-clause-state c =
    let job = c.args.job.now in
    let p = c.args.product in
    let ms = c.args.matrices.now in
    let run = run_of (is_whole job) p c.args.ranks ms in
    IfOk-weaker c.run_through.result (λ end. end.0 ≡ map (end_value run) (range_with_len 0 p.size))
    (λ end. nests.end_state job (first_state ms) ≡ set (first_state ms) p.target end.0)
    (λ end same. product_end job p c.args.ranks ms c.requires.product c.requires.matrices ∙ ap (set (first_state ms) p.target) (sym same)) c.run_through.ensures.values

pub returns-clause-long : goal.returns-clause-long
returns-clause-long c =
    let n : ℕ = c.args.product.size in
    let run = run_of (is_whole c.args.job.now) c.args.product c.args.ranks c.args.matrices.now in
    IfOk-weaker c.run_through.result (λ end. end.0 ≡ map (end_value run) (range_with_len 0 n)) (λ end. length end.0 ≡ n)
    (λ end same. ap length same ∙ length-map-range_with_len (end_value run) 0 n) c.run_through.ensures.values
