-- What holds of each term: of numbers and references, and of products of terms.
use Rattle.std.proofs.Common.{◌≡◌, ℕ, zero, suc, ◌<◌, Bool, true, false, List, [], ◌∷◌, map, length, get_or, refl, arith}
use Rattle.std.proofs.lemmas.List.Elements.{All-nil, All-cons, All-head, All-tail, All-append, All-map}
use Rattle.std.specs.List.{All, fold, flat_map}
use Rattle.bern_base.specs.Expressions.{by_levels}
use Rattle.bern_base.specs.declared.job.Checked.{Checked}
use Rattle.bern_base.specs.declared.job.Expr.{Expr, out-Expr}
use Rattle.bern_base.specs.declared.job.Factor.{Factor}
use Rattle.bern_base.specs.declared.job.Factor.TheVariants as factor
use Rattle.bern_base.specs.declared.job.Product.{Product}
use Rattle.bern_base.specs.declared.job.Ref.{Ref}
use Rattle.bern_base.specs.declared.limits.TheConstants.{EXPRESSION_LEVELS}
use Rattle.job_model.specs.Accepted.{IsReadOf}
use Rattle.job_model.specs.Runnable.{IsFactor, IsProduct, IsExpr}
use Rattle.term_model.specs.declared.term.Term.{Term}
use Rattle.term_model.specs.Terms.{number_term, read_term, times, choices, sign_of, factor_terms, product_terms, terms_by, references_of, is_dense_in}
use Rattle.loop_query.specs.TermLaws.{IsToldApart, TermsAreToldApart, TermsReadTheBody}

pub All_flat_map : {X Y : Type 0} (P : Y → Type 0) (f : X → List Y) (xs : List X) → ((k : ℕ) (d : X) → k < length xs → All P (f (get_or xs k d))) → All P (flat_map f xs)
All_flat_map P f [] all = All-nil P
All_flat_map P f (x ∷ xs) all = All-append P (f x) (flat_map f xs) (all 0 x (omega arith)) (λ j. All_flat_map P f xs (λ k d below. all (suc k) d (omega (arith, below))) j)

-- `Q` holds of the terms of an expression of so many levels where it holds of what numbers and references are, and of products
module _ (dense : Ref → Bool) (P : Ref → Type 0) (Q : Term → Type 0) (number : (n : ℕ) → Q (number_term n)) (reads : (r : Ref) → P r → Q (read_term (dense r) r)) (multiplied : (a b : Term) → Q a → Q b → Q (times a b)) where
  choices_all : (left right : List Term) → All Q left → All Q right → All Q (choices left right)
  choices_all left right first second = All_flat_map Q (λ a. map (times a) right) left
      (λ k d below. All-map Q (times (get_or left k d)) right (λ j e under. multiplied (get_or left k d) (get_or right j e) (first k d below) (second j e under)))

  module _ (inner : Expr → List Term) (Inner : Expr → Type 0) (all : (e : Expr) → Inner e → All Q (inner e)) where
    factor_all : (f : Factor) → IsFactor P Inner f → All Q (factor_terms dense inner f)
    factor_all (factor.Num n) is = All-cons Q (number_term n) [] (number n) (All-nil Q)
    factor_all (factor.Read ref) is = All-cons Q (read_term (dense ref) ref) [] (reads ref is) (All-nil Q)
    factor_all (factor.Group e) is = all e is

    chosen_all : (fs : List Factor) (ts : List Term) → All (IsFactor P Inner) fs → All Q ts → All Q (fold (λ more f. choices more (factor_terms dense inner f)) ts fs)
    chosen_all [] ts is have = have
    chosen_all (f ∷ fs) ts is have =
        chosen_all fs (choices ts (factor_terms dense inner f)) (All-tail (IsFactor P Inner) f fs is)
        (choices_all ts (factor_terms dense inner f) have (factor_all f (All-head (IsFactor P Inner) f fs is)))

    products_all : (ps : List Product) → All (IsProduct P Inner) ps → All Q (flat_map (product_terms dense inner) ps)
    products_all ps is = All_flat_map Q (product_terms dense inner) ps
        (λ k d below. let sign = number_term (sign_of (get_or ps k d).minus) in
        chosen_all (get_or ps k d).factors (sign ∷ []) (is k d below) (All-cons Q sign [] (number (sign_of (get_or ps k d).minus)) (All-nil Q)))

  -- `Deep` is what an expression of so many levels has to be
  terms_all : (Deep : ℕ → Expr → Type 0) → ((n : ℕ) (e : Expr) → Deep (suc n) e → All (IsProduct P (Deep n)) (out-Expr e).sums) → (n : ℕ) (e : Expr) → Deep n e → All Q (terms_by dense n e)
  unfolding by_levels
  terms_all Deep step zero e is = All-nil Q
  terms_all Deep step (suc n) e is = products_all (terms_by dense n) (Deep n) (terms_all Deep step n) (out-Expr e).sums (step n e is)

any_factor : (f : Factor) → IsFactor (λ r. Unit {0}) (λ e. Unit {0}) f
any_factor (factor.Num n) = tt
any_factor (factor.Read ref) = tt
any_factor (factor.Group e) = tt

read_told : (job : Checked) (ref : Ref) (b : Bool) → is_dense_in job ref ≡ b → IsToldApart job (read_term b ref)
read_told job ref true is = record { dense = All-cons (λ r. is_dense_in job r ≡ true) ref [] is (All-nil (λ r. is_dense_in job r ≡ true)); sparse = All-nil (λ r. is_dense_in job r ≡ false) }
read_told job ref false is = record { dense = All-nil (λ r. is_dense_in job r ≡ true); sparse = All-cons (λ r. is_dense_in job r ≡ false) ref [] is (All-nil (λ r. is_dense_in job r ≡ false)) }

pub terms_are_told_apart : TermsAreToldApart
terms_are_told_apart job e =
    terms_all (is_dense_in job) (λ r. Unit {0}) (IsToldApart job)
    (λ n. record { dense = All-nil (λ r. is_dense_in job r ≡ true); sparse = All-nil (λ r. is_dense_in job r ≡ false) })
    (λ r is. read_told job r (is_dense_in job r) refl)
    (λ a b first second. record {
      dense = All-append (λ r. is_dense_in job r ≡ true) a.dense b.dense first.dense second.dense;
      sparse = All-append (λ r. is_dense_in job r ≡ false) a.sparse b.sparse first.sparse second.sparse;
    })
    (λ n e. Unit {0}) (λ n e is k p below j f under. any_factor _) EXPRESSION_LEVELS e tt

-- each reference of a term
record Reads (P : Ref → Type 0) (t : Term) : Type 0 where
  dense : All P t.dense
  sparse : All P t.sparse

read_reads : (P : Ref → Type 0) (ref : Ref) (b : Bool) → P ref → Reads P (read_term b ref)
read_reads P ref true is = record { dense = All-cons P ref [] is (All-nil P); sparse = All-nil P }
read_reads P ref false is = record { dense = All-nil P; sparse = All-cons P ref [] is (All-nil P) }

-- what holds of each reference of an expression holds of each reference of its terms
pub terms_read : (dense : Ref → Bool) (P : Ref → Type 0) (n : ℕ) (e : Expr) → IsExpr P n e → All (λ t. All P (references_of t)) (terms_by dense n e)
unfolding IsExpr
terms_read dense P n e is =
    let each = terms_all dense P (Reads P) (λ n. record { dense = All-nil P; sparse = All-nil P }) (λ r is. read_reads P r (dense r) is)
    (λ a b first second. record { dense = All-append P a.dense b.dense first.dense second.dense; sparse = All-append P a.sparse b.sparse first.sparse second.sparse })
    (IsExpr P) (λ n e is. is) n e is in
    λ k d below. let t = get_or (terms_by dense n e) k d in All-append P t.dense t.sparse (each k d below).dense (each k d below).sparse

pub terms_read_the_body : TermsReadTheBody
terms_read_the_body job nest is = terms_read (is_dense_in job) (IsReadOf job nest) EXPRESSION_LEVELS nest.body is.body
