-- How deep the expressions of a job's text stand in one another.
use Rattle.std.specs.Prelude.{ℕ, zero, suc}
use Rattle.std.specs.List.{All}
use Rattle.bern_base.specs.declared.raw.RawExpr.{RawExpr, out-RawExpr}
use Rattle.bern_base.specs.declared.raw.RawFactor.{RawFactor}
use Rattle.bern_base.specs.declared.raw.RawFactor.TheVariants as factor
use Rattle.bern_base.specs.declared.raw.RawProduct.{RawProduct}

-- `Inner` is what stands in parentheses
module _ (Inner : RawExpr → Type 0) where
  abbrev pub IsShallowFactor : RawFactor → Type 0
  IsShallowFactor (factor.Num n) = Unit {0}
  IsShallowFactor (factor.Read ref) = Unit {0}
  IsShallowFactor (factor.Group e) = Inner e

  abbrev pub IsShallowProduct : RawProduct → Type 0
  IsShallowProduct product = All IsShallowFactor product.factors

-- an expression of at most so many levels: a whole one has one, and each pair of parentheses one more
unfoldable pub IsShallow : ℕ → RawExpr → Type 0
IsShallow zero e = ⊥
IsShallow (suc n) e = All (IsShallowProduct (IsShallow n)) (out-RawExpr e).sums
