-- A nest with its names looked up.
use Rattle.std.specs.Prelude.{ℕ, List, [], ◌∷◌, ◌++◌, Option, Some, None, Bool, true, false, ℤ, pos, neg_ℤ, ◌*ℤ◌, map, if◌then◌else◌, length, zero, suc, slice_index_or, ◌≤◌}
use Rattle.std.specs.List.{fold, flat_map, All}
use Rattle.std.specs.Option.{option_or}
use Rattle.bern_base.specs.RawDepth.{IsShallow}
use Rattle.bern_base.specs.declared.job.ExtentDecl.{ExtentDecl}
use Rattle.bern_base.specs.declared.limits.TheConstants.{EXPRESSION_LEVELS, MOST_ITEMS, MOST_SUM_NUMBER}
use Rattle.bern_base.specs.declared.raw.RawItem.{RawItem}
use Rattle.bern_base.specs.declared.raw.RawSum.{RawSum}
use Rattle.bern_base.specs.declared.raw.RawRef.{RawRef}
use Rattle.bern_base.specs.declared.raw.RawVar.{RawVar}
use Rattle.bern_base.specs.declared.raw.RawGuard.{RawGuard}
use Rattle.bern_base.specs.declared.raw.RawNest.{RawNest}
use Rattle.bern_base.specs.declared.raw.RawExpr.{RawExpr, out-RawExpr}
use Rattle.bern_base.specs.declared.raw.RawProduct.{RawProduct}
use Rattle.bern_base.specs.declared.raw.RawFactor.{RawFactor}
use Rattle.bern_base.specs.declared.raw.RawFactor.TheVariants as factor
use Rattle.job_rules.specs.declared.names.Named.{Named}
use Rattle.job_rules.specs.declared.names.Named.TheVariants as named
use Rattle.job_rules.specs.declared.items.Item.{Item}
use Rattle.job_rules.specs.declared.items.Meaning.{Meaning}
use Rattle.job_rules.specs.declared.items.Meaning.TheVariants as meaning
use Rattle.job_rules.specs.declared.resolved.ResolvedGuard.{ResolvedGuard}
use Rattle.job_rules.specs.declared.resolved.ResolvedNest.{ResolvedNest}
use Rattle.job_rules.specs.declared.resolved.ResolvedRef.{ResolvedRef}
use Rattle.job_rules.specs.declared.resolved.ResolvedSpan.{ResolvedSpan}
use Rattle.job_rules.specs.Known.{Known, lookup}
use Rattle.job_rules.specs.State.{State, is_known, extent_size}
use Rattle.job_rules.specs.Sums.{Sum}

-- the names of a nest's variables, each once, numbered in order
abbrev pub with_variable : Known → RawVar → Known
with_variable known var = if is_known var.name known then known else known ++ (var.name, named.Variable (length known)) ∷ []

unfoldable pub variables_of : List RawVar → Known
variables_of vars = fold with_variable [] vars

-- what the names of a line may stand for: what is declared above it, and the variables of its nest
pub record Scope : Type 0 where
  pub names : Known
  pub variables : Known
  pub extents : List ExtentDecl

abbrev pub scope_of : State → RawNest → Scope
scope_of state nest = record { names = state.names; variables = variables_of nest.vars; extents = state.job.extents }

abbrev pub named_in : Scope → List ℕ → Option Named
named_in scope name = option_or (lookup name scope.names) (lookup name scope.variables)

abbrev pub meaning_of : Option Named → Meaning
meaning_of None = meaning.Unknown
meaning_of (Some what) = meaning.Name what

-- an extent stands for its size
abbrev pub times : List ExtentDecl → ℤ → Meaning → ℤ
times extents number (meaning.Name (named.Extent e)) = number *ℤ pos (extent_size extents e)
times extents number other = number

abbrev pub signed : Bool → ℕ → ℤ
signed true number = neg_ℤ (pos number)
signed false number = pos number

abbrev pub item_with : Scope → ℤ → Meaning → Item
item_with scope number what = record { number = times scope.extents number what; meaning = what }

abbrev pub meaning_in : Scope → Option (List ℕ) → Meaning
meaning_in scope None = meaning.Number
meaning_in scope (Some name) = meaning_of (named_in scope name)

unfoldable pub item_of : Scope → RawItem → Item
item_of scope item = item_with scope (signed item.minus item.number) (meaning_in scope item.name)

unfoldable pub sum_of : Scope → RawSum → Sum
sum_of scope sum = map (item_of scope) sum.items

-- a subscript that is not there is 0
abbrev pub subscript : RawRef → ℕ → RawSum
subscript ref place = slice_index_or ref.subs place (record { items = [] })

unfoldable pub ref_of : Scope → RawRef → ResolvedRef
ref_of scope ref = record {
  array = named_in scope ref.name;
  subs = length ref.subs;
  row = sum_of scope (subscript ref 0);
  col = sum_of scope (subscript ref 1);
}

unfoldable pub span_of : Scope → RawVar → ResolvedSpan
span_of scope var = record { lo = sum_of scope var.lo; hi = sum_of scope var.hi }

unfoldable pub guard_of : Scope → RawGuard → ResolvedGuard
guard_of scope guard = record { left = sum_of scope guard.left; right = sum_of scope guard.right }

-- the references of an expression, in order; `inner` are those of what stands in parentheses
module _ (inner : RawExpr → List RawRef) where
  abbrev pub factor_reads : RawFactor → List RawRef
  factor_reads (factor.Num n) = []
  factor_reads (factor.Read ref) = ref ∷ []
  factor_reads (factor.Group e) = inner e

  abbrev pub product_reads : RawProduct → List RawRef
  product_reads product = flat_map factor_reads product.factors

unfoldable pub reads_of : ℕ → RawExpr → List RawRef
reads_of zero e = []
reads_of (suc n) e = flat_map (product_reads (reads_of n)) (out-RawExpr e).sums

unfoldable pub nest_in : Scope → RawNest → ResolvedNest
nest_in scope nest = record {
  names = length scope.variables;
  spans = map (span_of scope) nest.vars;
  guards = map (guard_of scope) nest.guards;
  target = ref_of scope nest.target;
  reads = map (ref_of scope) (reads_of EXPRESSION_LEVELS nest.body);
}

-- what a reader of job texts gives: sums of few items with small numbers
pub record IsReadable (sum : RawSum) : Type 0 where
  pub few : length sum.items ≤ MOST_ITEMS
  pub small : All (λ item. item.number ≤ MOST_SUM_NUMBER) sum.items

abbrev pub IsReadableRef : RawRef → Type 0
IsReadableRef ref = All IsReadable ref.subs

-- and expressions of few levels
pub record IsReadableNest (nest : RawNest) : Type 0 where
  pub bounds : All (λ var. IsReadable var.lo × IsReadable var.hi) nest.vars
  pub guards : All (λ guard. IsReadable guard.left × IsReadable guard.right) nest.guards
  pub target : IsReadableRef nest.target
  pub reads : All IsReadableRef (reads_of EXPRESSION_LEVELS nest.body)
  pub shallow : IsShallow EXPRESSION_LEVELS nest.body
