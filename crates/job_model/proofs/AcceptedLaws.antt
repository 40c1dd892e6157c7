-- An accepted job can be run.
use Rattle.std.proofs.Common.{ℕ, zero, suc}
use Rattle.bern_base.specs.declared.job.Checked.{Checked}
use Rattle.bern_base.specs.declared.job.Expr.{Expr}
use Rattle.bern_base.specs.declared.job.Factor.{Factor}
use Rattle.bern_base.specs.declared.job.Factor.TheVariants as factor
use Rattle.bern_base.specs.declared.job.Nest.{Nest}
use Rattle.bern_base.specs.declared.job.Ref.{Ref}
use Rattle.bern_base.specs.declared.limits.TheConstants.{EXPRESSION_LEVELS}
use Rattle.job_model.specs.Accepted.{IsAccepted, IsNestOf, IsReadOf}
use Rattle.job_model.specs.Points.{spans_of}
use Rattle.job_model.specs.Runnable.{IsElement, IsExpr, IsFactor, IsRunnable, IsRunnableNest}

factor_weakens : (P Q : Ref → Type 0) (Before After : Expr → Type 0) → ((r : Ref) → P r → Q r) → ((e : Expr) → Before e → After e) → (f : Factor) → IsFactor P Before f → IsFactor Q After f
factor_weakens P Q Before After weaker inner (factor.Num n) is = is
factor_weakens P Q Before After weaker inner (factor.Read ref) is = weaker ref is
factor_weakens P Q Before After weaker inner (factor.Group e) is = inner e is

-- what holds of each reference by more holds by less
pub IsExpr-weakens : (P Q : Ref → Type 0) → ((r : Ref) → P r → Q r) → (n : ℕ) (e : Expr) → IsExpr P n e → IsExpr Q n e
unfolding IsExpr
IsExpr-weakens P Q weaker zero e is = is
IsExpr-weakens P Q weaker (suc n) e is =
    λ k product below l f under. factor_weakens P Q (IsExpr P n) (IsExpr Q n) weaker (IsExpr-weakens P Q weaker n) _ (is k product below l f under)

nest_is_runnable : (job : Checked) (nest : Nest) → IsNestOf job nest → IsRunnableNest job nest
nest_is_runnable job nest is = record {
  few = is.few;
  near = is.near;
  target = is.target;
  body = IsExpr-weakens (IsReadOf job nest) (IsElement job.arrays (spans_of nest.vars)) (λ r read. read.element) EXPRESSION_LEVELS nest.body is.body;
}

pub accepted_is_runnable : (job : Checked) → IsAccepted job → IsRunnable job
accepted_is_runnable job is = λ k nest below. nest_is_runnable job _ (is.nests k nest below)
