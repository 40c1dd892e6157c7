-- Expressions of checked jobs, level by level: what stands in parentheses has a level less.
use Rattle.std.specs.Prelude.{ℕ, zero, suc}
use Rattle.bern_base.specs.declared.job.Expr.{Expr}

-- the fold over an expression of at most so many levels: `step` makes what an expression comes to from that of each
-- expression in its parentheses, and what stands deeper comes to `deeper`
unfoldable pub by_levels : {A : Type 0} → A → ((Expr → A) → Expr → A) → ℕ → Expr → A
by_levels deeper step zero e = deeper
by_levels deeper step (suc n) e = step (by_levels deeper step n) e
