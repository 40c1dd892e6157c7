-- How many references each term has.
use Rattle.std.proofs.Common.{◌≡◌, ◌∙◌, ℕ, zero, suc, ◌+◌, ◌<◌, ◌≤◌, Bool, true, false, List, [], ◌∷◌, ◌++◌, map, length, length-append, get_or, refl, sym, ap, subst, arith}
use Rattle.std.proofs.lemmas.List.{map-append, length-map, get_or-map}
use Rattle.std.specs.List.{All, fold, flat_map}
use Rattle.bern_base.specs.Expressions.{by_levels}
use Rattle.bern_base.specs.declared.job.Expr.{Expr, out-Expr}
use Rattle.bern_base.specs.declared.job.Factor.{Factor}
use Rattle.bern_base.specs.declared.job.Factor.TheVariants as factor
use Rattle.bern_base.specs.declared.job.Product.{Product}
use Rattle.bern_base.specs.declared.job.Ref.{Ref}
use Rattle.bern_base.specs.declared.limits.TheConstants.{EXPRESSION_LEVELS, MOST_REFERENCES}
use Rattle.job_model.specs.References.{joined, factor_sizes, product_sizes, sizes_of}
use Rattle.term_model.specs.declared.term.Term.{Term}
use Rattle.term_model.specs.Terms.{number_term, read_term, times, choices, sign_of, factor_terms, product_terms, terms_by, terms_of, references_of, is_dense_in}
use Rattle.loop_query.specs.TermLaws.{counts, TermsHaveSizes, TermsAreFew}

times_count : (a b : Term) → length (references_of (times a b)) ≡ length (references_of a) + length (references_of b)
times_count a b =
    omega (arith, length-append (a.dense ++ b.dense) (a.sparse ++ b.sparse), length-append a.dense b.dense, length-append a.sparse b.sparse, length-append a.dense a.sparse, length-append b.dense b.sparse)

row_counts : (a : Term) (right : List Term) → counts (map (times a) right) ≡ map (λ n. length (references_of a) + n) (counts right)
row_counts a [] = refl
row_counts a (b ∷ right) = ap (λ n. n ∷ counts (map (times a) right)) (times_count a b) ∙ ap (λ ns. (length (references_of a) + length (references_of b)) ∷ ns) (row_counts a right)

choices_counts : (left right : List Term) → counts (choices left right) ≡ joined (counts left) (counts right)
choices_counts [] right = refl
choices_counts (a ∷ left) right =
    map-append (λ t. length (references_of t)) (map (times a) right) (choices left right)
    ∙ ap (λ ns. ns ++ counts (choices left right)) (row_counts a right)
    ∙ ap (λ ns. map (λ n. length (references_of a) + n) (counts right) ++ ns) (choices_counts left right)

read_counts : (dense : Bool) (ref : Ref) → counts (read_term dense ref ∷ []) ≡ 1 ∷ []
read_counts true ref = refl
read_counts false ref = refl

module _ (dense : Ref → Bool) (inner : Expr → List Term) (sizes : Expr → List ℕ) (same : (e : Expr) → counts (inner e) ≡ sizes e) where
  factor_counts : (f : Factor) → counts (factor_terms dense inner f) ≡ factor_sizes sizes f
  factor_counts (factor.Num n) = refl
  factor_counts (factor.Read ref) = read_counts (dense ref) ref
  factor_counts (factor.Group e) = same e

  chosen_counts : (fs : List Factor) (ts : List Term) →
      counts (fold (λ all f. choices all (factor_terms dense inner f)) ts fs) ≡ fold (λ all f. joined all (factor_sizes sizes f)) (counts ts) fs
  chosen_counts [] ts = refl
  chosen_counts (f ∷ fs) ts =
      chosen_counts fs (choices ts (factor_terms dense inner f))
      ∙ ap (λ ns. fold (λ all g. joined all (factor_sizes sizes g)) ns fs) (choices_counts ts (factor_terms dense inner f) ∙ ap (joined (counts ts)) (factor_counts f))

  products_counts : (ps : List Product) → counts (flat_map (product_terms dense inner) ps) ≡ flat_map (product_sizes sizes) ps
  products_counts [] = refl
  products_counts (p ∷ ps) =
      map-append (λ t. length (references_of t)) (product_terms dense inner p) (flat_map (product_terms dense inner) ps)
      ∙ ap (λ ns. ns ++ counts (flat_map (product_terms dense inner) ps)) (chosen_counts p.factors (number_term (sign_of p.minus) ∷ []))
      ∙ ap (λ ns. product_sizes sizes p ++ ns) (products_counts ps)

terms_counts : (dense : Ref → Bool) (levels : ℕ) (e : Expr) → counts (terms_by dense levels e) ≡ sizes_of levels e
unfolding by_levels
terms_counts dense zero e = refl
terms_counts dense (suc n) e = products_counts dense (terms_by dense n) (sizes_of n) (terms_counts dense n) (out-Expr e).sums

pub terms_have_sizes : TermsHaveSizes
terms_have_sizes job e = terms_counts (is_dense_in job) EXPRESSION_LEVELS e

all_counts : (P : ℕ → Type 0) (ts : List Term) (sizes : List ℕ) → counts ts ≡ sizes → All P sizes → All (λ t. P (length (references_of t))) ts
all_counts P ts sizes same all k d below =
    let count : Term → ℕ = λ t. length (references_of t) in
    let inside : k < length sizes = omega (arith, ap length same, length-map ts count) in
    subst P (ap (λ ns. get_or ns k (count d)) (sym same) ∙ get_or-map count ts k d (count d) below) (all k (count d) inside)

pub terms_are_few : TermsAreFew
terms_are_few job nest is =
    let same = terms_have_sizes job nest.body in
    record {
      terms = omega (arith, is.terms, ap length same, length-map (terms_of job nest.body) (λ t. length (references_of t)));
      references = all_counts (λ n. n ≤ MOST_REFERENCES) (terms_of job nest.body) (sizes_of EXPRESSION_LEVELS nest.body) same is.references;
    }
