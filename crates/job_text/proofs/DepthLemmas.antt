-- What is spelled has no more levels than the grammar gives it.
use Rattle.std.proofs.Common.{ℕ, zero, suc, Option, List, [], ◌∷◌}
use Rattle.std.specs.List.{All}
use Rattle.std.proofs.lemmas.List.Elements.{All-nil, All-cons}
use Rattle.bern_base.specs.RawDepth.{IsShallowFactor, IsShallowProduct, IsShallow}
use Rattle.bern_base.specs.declared.limits.TheConstants.{EXPRESSION_LEVELS}
use Rattle.bern_base.specs.declared.raw.Form.{Form}
use Rattle.bern_base.specs.declared.raw.Form.TheVariants as form
use Rattle.bern_base.specs.declared.raw.JobLine.{JobLine}
use Rattle.bern_base.specs.declared.raw.RawExpr.{RawExpr, out-RawExpr}
use Rattle.bern_base.specs.declared.raw.RawFactor.{RawFactor}
use Rattle.bern_base.specs.declared.raw.RawFactor.TheVariants as factor
use Rattle.bern_base.specs.declared.raw.RawProduct.{RawProduct}
use Rattle.job_text.specs.declared.tokens.Token.{Token}
use Rattle.job_text.specs.Forms.{IsForm}
use Rattle.job_text.specs.Grammar.{Spread, Led, star, product_sign, IsFactor, IsProduct, IsExpr}
use Rattle.job_text.specs.Job.{Numbered, IsRead, numbered, IsShallowForm, JobsAreShallow}
use Rattle.job_text.specs.Lines.{lines}

-- what each thing has, all have
pub spread_all : {A : Type 0} (Is : A → List Token → Type 0) (P : A → Type 0) → ((x : A) (ts : List Token) → Is x ts → P x) → (xs : List A) (ts : List Token) → Spread Is xs ts → All P xs
spread_all Is P tells [] ts is = All-nil P
spread_all Is P tells (x ∷ xs) ts is = All-cons P x xs (tells x is.0 is.3) (spread_all Is P tells xs is.1 is.4)

-- what each form of a text has, the form of each line has that is read
pub read_all : (P : Form → Type 0) → ((f : Form) (text : List ℕ) → IsForm f text → P f) → (texts : List Numbered) (forms : List JobLine) (broken : Option ℕ) → IsRead texts forms broken → All (λ line. P line.form) forms
read_all P each [] [] broken is = All-nil (λ (line : JobLine). P line.form)
read_all P each [] (f ∷ forms) broken is = absurd is
read_all P each (text ∷ texts) [] broken is = All-nil (λ (line : JobLine). P line.form)
read_all P each (text ∷ texts) (f ∷ forms) broken is = All-cons (λ (line : JobLine). P line.form) f forms (each f.form text.1 is.1) (read_all P each texts forms broken is.2)

module _ (n : ℕ) (inner : (e : RawExpr) (ts : List Token) → IsExpr n e ts → IsShallow n e) where
  factor_shallow : (x : RawFactor) (ts : List Token) → Led star (IsFactor (IsExpr n)) x ts → IsShallowFactor (IsShallow n) x
  factor_shallow (factor.Num number) ts is = tt
  factor_shallow (factor.Read ref) ts is = tt
  factor_shallow (factor.Group e) ts is = inner e is.2.0 is.2.2

  product_shallow : (p : RawProduct) (ts : List Token) → Led product_sign (IsProduct (IsExpr n)) p ts → IsShallowProduct (IsShallow n) p
  product_shallow p ts is = spread_all (Led star (IsFactor (IsExpr n))) (IsShallowFactor (IsShallow n)) factor_shallow p.factors _ is.2

pub expr_shallow : (n : ℕ) (e : RawExpr) (ts : List Token) → IsExpr n e ts → IsShallow n e
unfolding IsExpr IsShallow
expr_shallow zero e ts is = absurd is
expr_shallow (suc n) e ts is =
    spread_all (Led product_sign (IsProduct (IsExpr n))) (IsShallowProduct (IsShallow n)) (product_shallow n (expr_shallow n)) (out-RawExpr e).sums _ is

form_shallow : (f : Form) (text : List ℕ) → IsForm f text → IsShallowForm f
form_shallow (form.Nest nest) text is = expr_shallow EXPRESSION_LEVELS nest.body is.2.body is.2.is_body
form_shallow (form.Extent name size) text is = tt
form_shallow (form.Place name extent kind) text is = tt
form_shallow (form.Format name shape) text is = tt
form_shallow (form.Array name extents format axis place file) text is = tt
form_shallow (form.Print name) text is = tt

pub job_shallow : JobsAreShallow
job_shallow bytes job is = read_all IsShallowForm form_shallow (numbered 1 (lines bytes)) job.lines job.broken is
