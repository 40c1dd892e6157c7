-- The expressions of a nest with numbers for names: each reference is as it has to be, and the terms are those of the text.
use Rattle.std.proofs.Common.{◌≡◌, ◌∙◌, ℕ, zero, suc, List, [], ◌∷◌, ◌++◌, map, refl, sym, ap, subst}
use Rattle.std.specs.List.{All, fold, flat_map}
use Rattle.std.proofs.lemmas.List.Elements.{All-head}
use Rattle.bern_base.specs.Expressions.{by_levels}
use Rattle.bern_base.specs.RawDepth.{IsShallow, IsShallowFactor, IsShallowProduct}
use Rattle.bern_base.specs.declared.job.Expr.{out-roll-Expr}
use Rattle.bern_base.specs.declared.job.Ref.{Ref}
use Rattle.bern_base.specs.declared.raw.RawExpr.{RawExpr, out-RawExpr}
use Rattle.bern_base.specs.declared.raw.RawFactor.{RawFactor}
use Rattle.bern_base.specs.declared.raw.RawFactor.TheVariants as factor
use Rattle.bern_base.specs.declared.raw.RawProduct.{RawProduct}
use Rattle.bern_base.specs.declared.raw.RawRef.{RawRef}
use Rattle.job_model.specs.References.{joined, factor_sizes, product_sizes, sizes_of}
use Rattle.job_model.specs.Runnable.{IsExpr, IsFactor, IsProduct}
use Rattle.job_rules.specs.Looked.{Scope, reads_of, product_reads, factor_reads}
use Rattle.job_rules.specs.After.{checked_ref, checked_factor, checked_product, checked_expr}
use Rattle.job_rules.specs.Terms.{terms_of, product_terms, factor_terms}
use Rattle.job_rules.proofs.ListLemmas.{each_made}

-- an expression of few levels whose references are each as they have to be
module _ (scope : Scope) (P : Ref → Type 0) where
  abbrev Made : RawRef → Type 0
  Made ref = P (checked_ref scope ref)

  module _ (n : ℕ) (inner : (e : RawExpr) → IsShallow n e → All Made (reads_of n e) → IsExpr P n (checked_expr scope n e)) where
    factor_is : (x : RawFactor) → IsShallowFactor (IsShallow n) x → All Made (factor_reads (reads_of n) x) → IsFactor P (IsExpr P n) (checked_factor scope (checked_expr scope n) x)
    factor_is (factor.Num number) shallow reads = tt
    factor_is (factor.Read ref) shallow reads = All-head Made ref [] reads
    factor_is (factor.Group e) shallow reads = inner e shallow reads

    product_is : (p : RawProduct) → IsShallowProduct (IsShallow n) p → All Made (product_reads (reads_of n) p) → IsProduct P (IsExpr P n) (checked_product scope (checked_expr scope n) p)
    unfolding checked_product
    product_is p = each_made (factor_reads (reads_of n)) (checked_factor scope (checked_expr scope n)) (IsShallowFactor (IsShallow n)) Made (IsFactor P (IsExpr P n)) factor_is p.factors

  pub expr_is : (n : ℕ) (e : RawExpr) → IsShallow n e → All Made (reads_of n e) → IsExpr P n (checked_expr scope n e)
  unfolding IsShallow IsExpr reads_of checked_expr
  expr_is zero e shallow reads = absurd shallow
  expr_is (suc n) e shallow reads =
      let sums = map (checked_product scope (checked_expr scope n)) (out-RawExpr e).sums in
      subst (λ x. All (IsProduct P (IsExpr P n)) x.sums) (sym (out-roll-Expr (record { sums = sums })))
      (each_made (product_reads (reads_of n)) (checked_product scope (checked_expr scope n)) (IsShallowProduct (IsShallow n)) Made (IsProduct P (IsExpr P n)) (product_is n (expr_is n)) (out-RawExpr e).sums shallow reads)

flat-map : {A B C : Type 0} (k : A → B) (g : B → List C) (xs : List A) → flat_map g (map k xs) ≡ flat_map (λ x. g (k x)) xs
flat-map k g [] = refl
flat-map k g (x ∷ xs) = ap (λ l. g (k x) ++ l) (flat-map k g xs)

fold-map : {A B C : Type 0} (k : A → B) (h : C → B → C) (start : C) (xs : List A) → fold h start (map k xs) ≡ fold (λ c x. h c (k x)) start xs
fold-map k h start [] = refl
fold-map k h start (x ∷ xs) = fold-map k h (h start (k x)) xs

fold-same : {A C : Type 0} (g h : C → A → C) → ((c : C) (x : A) → g c x ≡ h c x) → (start : C) (xs : List A) → fold g start xs ≡ fold h start xs
fold-same g h each start [] = refl
fold-same g h each start (x ∷ xs) = ap (λ c. fold g c xs) (each start x) ∙ fold-same g h each (h start x) xs

flat-same : {A C : Type 0} (f g : A → List C) → ((x : A) → f x ≡ g x) → (xs : List A) → flat_map f xs ≡ flat_map g xs
flat-same f g each [] = refl
flat-same f g each (x ∷ xs) = ap (λ l. l ++ flat_map f xs) (each x) ∙ ap (λ l. g x ++ l) (flat-same f g each xs)

-- an expression with numbers has the terms of its text
module _ (scope : Scope) where
  module _ (n : ℕ) (inner : (e : RawExpr) → sizes_of n (checked_expr scope n e) ≡ terms_of n e) where
    factor_sizes_are : (x : RawFactor) → factor_sizes (sizes_of n) (checked_factor scope (checked_expr scope n) x) ≡ factor_terms (terms_of n) x
    factor_sizes_are (factor.Num number) = refl
    factor_sizes_are (factor.Read ref) = refl
    factor_sizes_are (factor.Group e) = inner e

    product_sizes_are : (p : RawProduct) → product_sizes (sizes_of n) (checked_product scope (checked_expr scope n) p) ≡ product_terms (terms_of n) p
    unfolding checked_product
    product_sizes_are p = fold-map (checked_factor scope (checked_expr scope n)) (λ terms f. joined terms (factor_sizes (sizes_of n) f)) (0 ∷ []) p.factors
        ∙ fold-same (λ terms x. joined terms (factor_sizes (sizes_of n) (checked_factor scope (checked_expr scope n) x))) (λ terms x. joined terms (factor_terms (terms_of n) x)) (λ terms x. ap (joined terms) (factor_sizes_are x)) (0 ∷ []) p.factors

  pub sizes_are : (n : ℕ) (e : RawExpr) → sizes_of n (checked_expr scope n e) ≡ terms_of n e
  unfolding by_levels terms_of checked_expr
  sizes_are zero e = refl
  sizes_are (suc n) e =
      let sums = map (checked_product scope (checked_expr scope n)) (out-RawExpr e).sums in
      ap (λ x. flat_map (product_sizes (sizes_of n)) x.sums) (out-roll-Expr (record { sums = sums }))
      ∙ flat-map (checked_product scope (checked_expr scope n)) (product_sizes (sizes_of n)) (out-RawExpr e).sums
      ∙ flat-same (λ p. product_sizes (sizes_of n) (checked_product scope (checked_expr scope n) p)) (product_terms (terms_of n)) (product_sizes_are n (sizes_are n)) (out-RawExpr e).sums
