-- What a reader of job texts gives meets what the rules rest on: sums of few items with small numbers, and expressions of few levels.
use Rattle.std.proofs.Common.{inl, inr, ℕ, zero, suc, ◌≤◌, Option, Some, None, List, [], ◌∷◌, arith}
use Rattle.std.specs.List.{All, flat_map}
use Rattle.std.proofs.lemmas.List.Elements.{All-nil, All-cons, All-append}
use Rattle.bern_base.specs.RawDepth.{IsShallow}
use Rattle.bern_base.specs.declared.limits.TheConstants.{EXPRESSION_LEVELS, MOST_SUM_NUMBER}
use Rattle.bern_base.specs.declared.raw.Form.{Form}
use Rattle.bern_base.specs.declared.raw.Form.TheVariants as form
use Rattle.bern_base.specs.declared.raw.JobText.{JobText}
use Rattle.bern_base.specs.declared.raw.RawExpr.{RawExpr, out-RawExpr}
use Rattle.bern_base.specs.declared.raw.RawFactor.{RawFactor}
use Rattle.bern_base.specs.declared.raw.RawFactor.TheVariants as factor
use Rattle.bern_base.specs.declared.raw.RawGuard.{RawGuard}
use Rattle.bern_base.specs.declared.raw.RawItem.{RawItem}
use Rattle.bern_base.specs.declared.raw.RawNest.{RawNest}
use Rattle.bern_base.specs.declared.raw.RawProduct.{RawProduct}
use Rattle.bern_base.specs.declared.raw.RawRef.{RawRef}
use Rattle.bern_base.specs.declared.raw.RawSum.{RawSum}
use Rattle.bern_base.specs.declared.raw.RawVar.{RawVar}
use Rattle.job_text.proofs.DepthLemmas.{job_shallow, read_all, spread_all}
use Rattle.job_text.specs.Forms.{IsForm}
use Rattle.job_text.specs.Grammar.{Spread, Led, IsTimes, IsItem, item_sign, IsSum, AreSubs, IsRef, star, IsFactor, IsProduct, product_sign, IsExpr, IsSpan, var_name, IsGuard, comma, AreGuards, IsNest}
use Rattle.job_text.specs.Job.{IsJob, IsShallowForm, numbered}
use Rattle.job_text.specs.Lines.{lines}
use Rattle.job_rules.specs.Looked.{IsReadable, IsReadableRef, IsReadableNest, reads_of, product_reads, factor_reads}
use Rattle.job_rules.specs.First.{IsReadableForm, IsReadableText}

spread_flat : {A B : Type 0} (Is : A → _ → Type 0) (f : A → List B) (P : B → Type 0) → ((x : A) (ts : _) → Is x ts → All P (f x)) → (xs : List A) (ts : _) → Spread Is xs ts → All P (flat_map f xs)
spread_flat Is f P tells [] ts is = All-nil P
spread_flat Is f P tells (x ∷ xs) ts is = All-append P (f x) (flat_map f xs) (tells x is.0 is.3) (spread_flat Is f P tells xs is.1 is.4)

times_small : (n : ℕ) (name : Option (List ℕ)) (ts : _) → IsTimes n name ts → n ≤ MOST_SUM_NUMBER
times_small n None ts is = is.0
times_small n (Some name) ts is = elim is [ inl times ↦ times.0 | inr one ↦ omega (arith, one.0) ]

item_small : (item : RawItem) (ts : _) → Led item_sign IsItem item ts → item.number ≤ MOST_SUM_NUMBER
item_small item ts is = times_small item.number item.name is.0 is.2

sum_readable : (sum : RawSum) (ts : _) → IsSum sum ts → IsReadable sum
sum_readable sum ts is = record { few = is.at_most; small = spread_all (Led item_sign IsItem) (λ item. item.number ≤ MOST_SUM_NUMBER) item_small sum.items _ is.items }

subs_readable : (subs : List RawSum) (ts : _) → AreSubs subs ts → All IsReadable subs
subs_readable [] ts is = absurd is
subs_readable (only ∷ []) ts is = All-cons IsReadable only [] (sum_readable only ts is) (All-nil IsReadable)
subs_readable (row ∷ col ∷ []) ts is = All-cons IsReadable row (col ∷ []) (sum_readable row is.0 is.3) (All-cons IsReadable col [] (sum_readable col is.1 is.4) (All-nil IsReadable))
subs_readable (row ∷ col ∷ more ∷ subs) ts is = absurd is

ref_readable : (ref : RawRef) (ts : _) → IsRef ref ts → IsReadableRef ref
ref_readable ref ts is = subs_readable ref.subs is.0 is.2

module _ (n : ℕ) (inner : (e : RawExpr) (ts : _) → IsExpr n e ts → All IsReadableRef (reads_of n e)) where
  factor_readable : (x : RawFactor) (ts : _) → Led star (IsFactor (IsExpr n)) x ts → All IsReadableRef (factor_reads (reads_of n) x)
  factor_readable (factor.Num number) ts is = All-nil IsReadableRef
  factor_readable (factor.Read ref) ts is = All-cons IsReadableRef ref [] (ref_readable ref is.0 is.2) (All-nil IsReadableRef)
  factor_readable (factor.Group e) ts is = inner e is.2.0 is.2.2

  product_readable : (p : RawProduct) (ts : _) → Led product_sign (IsProduct (IsExpr n)) p ts → All IsReadableRef (product_reads (reads_of n) p)
  product_readable p ts is = spread_flat (Led star (IsFactor (IsExpr n))) (factor_reads (reads_of n)) IsReadableRef factor_readable p.factors _ is.2

expr_readable : (n : ℕ) (e : RawExpr) (ts : _) → IsExpr n e ts → All IsReadableRef (reads_of n e)
unfolding IsExpr reads_of
expr_readable zero e ts is = absurd is
expr_readable (suc n) e ts is = spread_flat (Led product_sign (IsProduct (IsExpr n))) (product_reads (reads_of n)) IsReadableRef (product_readable n (expr_readable n)) (out-RawExpr e).sums _ is

span_readable : (var : RawVar) (ts : _) → Led var_name IsSpan var ts → IsReadable var.lo × IsReadable var.hi
span_readable var ts is = (sum_readable var.lo is.2.0 is.2.3, sum_readable var.hi is.2.1 is.2.4)

guard_readable : (guard : RawGuard) (ts : _) → Led comma IsGuard guard ts → IsReadable guard.left × IsReadable guard.right
guard_readable guard ts is = (sum_readable guard.left is.2.0 is.2.3, sum_readable guard.right is.2.1 is.2.4)

guards_readable : (guards : List RawGuard) (ts : _) → AreGuards guards ts → All (λ guard. IsReadable guard.left × IsReadable guard.right) guards
guards_readable [] ts is = All-nil (λ guard. IsReadable guard.left × IsReadable guard.right)
guards_readable (guard ∷ guards) ts is = spread_all (Led comma IsGuard) (λ g. IsReadable g.left × IsReadable g.right) guard_readable (guard ∷ guards) _ is.2

nest_readable : (nest : RawNest) (ts : _) → IsNest nest ts → IsShallow EXPRESSION_LEVELS nest.body → IsReadableNest nest
nest_readable nest ts is shallow = record {
  bounds = spread_all (Led var_name IsSpan) (λ var. IsReadable var.lo × IsReadable var.hi) span_readable nest.vars is.vars is.are_vars;
  guards = guards_readable nest.guards is.guards is.are_guards;
  target = ref_readable nest.target is.target is.is_target;
  reads = expr_readable EXPRESSION_LEVELS nest.body is.body is.is_body;
  shallow = shallow;
}

form_readable : (f : Form) (text : List ℕ) → IsForm f text → IsShallowForm f → IsReadableForm f
form_readable (form.Nest nest) text is shallow = nest_readable nest is.0 is.2 shallow
form_readable (form.Extent name size) text is shallow = tt
form_readable (form.Place name extent kind) text is shallow = tt
form_readable (form.Format name shape) text is shallow = tt
form_readable (form.Array name extents format axis place file) text is shallow = tt
form_readable (form.Print name) text is shallow = tt

-- what is read from bytes is fit for the rules
pub job_readable : (bytes : List ℕ) (text : JobText) → IsJob bytes text → IsReadableText text
job_readable bytes text is k line below =
    read_all (λ f. IsShallowForm f → IsReadableForm f) form_readable (numbered 1 (lines bytes)) text.lines text.broken is k line below (job_shallow bytes text is k line below)
