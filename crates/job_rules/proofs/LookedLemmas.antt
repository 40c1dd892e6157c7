-- Looking up the names of a nest.
use Rattle.std.proofs.Common.{◌≡◌, ◌≢◌, ℕ, ◌-◌, zero, suc, refl, ap, arith}
use Rattle.std.specs.List.{flat_map}
use Rattle.bern_base.specs.declared.raw.RawExpr.{RawExpr, out-RawExpr}
use Rattle.job_rules.specs.Looked.{reads_of, product_reads}

pub reads_of-pos : (n : ℕ) (e : RawExpr) → n ≢ 0 → reads_of n e ≡ flat_map (product_reads (reads_of (n - 1))) (out-RawExpr e).sums
unfolding reads_of
reads_of-pos zero e some = absurd (some refl)
reads_of-pos (suc n) e some = let same : n ≡ suc n - 1 = omega arith in ap (λ k. flat_map (product_reads (reads_of k)) (out-RawExpr e).sums) same
