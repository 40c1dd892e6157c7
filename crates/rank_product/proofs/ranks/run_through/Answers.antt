use Rattle.std.proofs.Common.{sym, subst}
use Rattle.rank_model.specs.Products.{IsRun, Run}
use Rattle.interleave.specs.Worlds.{IsStart}
use Rattle.rank_product.proofs.RunLemmas.{run_is}
use Rattle.rank_product.proofs.ranks.run_through.Goals as goal

pub replayed-requires : goal.replayed-requires
replayed-requires g c =
    let same = sym c.requires.0 in
    let start : Run → Type 0 = λ run. IsStart run c.in_ok-nodes.nodes in (
      subst IsRun same (run_is c.args.job.now c.args.product c.args.ranks c.args.matrices.now c.requires.1.0 c.requires.1.1.0 c.requires.1.1.1.0 c.requires.1.1.1.1),
      subst start same c.in_ok-nodes.ensures,
    )
