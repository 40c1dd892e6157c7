-- The text of plans, a piece after the other.
use Rattle.std.proofs.Common.{◌≡◌, ◌∙◌, ℕ, zero, suc, ◌+◌, ◌<◌, ◌≤◌, Bool, true, false, cond, List, [], ◌∷◌, ◌++◌, take, length, get_or, refl, sym, ap, subst, lit<, arith}
use Rattle.std.specs.List.{filter, flat_map, fold, range_with_len}
use Rattle.std.proofs.lemmas.Grind.{flat_map-append}
use Rattle.std.proofs.lemmas.List.{append_assoc, append-nil, take_more}
use Rattle.std.proofs.lemmas.List.Elements.{filter-append}
use Rattle.bern_base.specs.declared.job.Checked.{Checked}
use Rattle.bern_base.specs.declared.job.Nest.{Nest}
use Rattle.term_model.specs.declared.plan.PlanStep.{PlanStep}
use Rattle.term_model.specs.declared.term.Term.{Term}
use Rattle.term_model.specs.Plans.{four}
use Rattle.join_plan.specs.PlanText.{bound_after, step_line, steps_text}
use Rattle.join_plan.proofs.PickLemmas.{table_more}

at_four : (v : ℕ) → v < 4 → get_or four v 0 ≡ v
at_four zero below = refl
at_four (suc zero) below = refl
at_four (suc (suc zero)) below = refl
at_four (suc (suc (suc zero))) below = refl
at_four (suc (suc (suc (suc v)))) below = absurd (omega (arith, below))

taken_more : (p : ℕ → Bool) (v : ℕ) → v < 4 → filter p (take (v + 1) four) ≡ filter p (take v four) ++ cond (p v) (v ∷ []) []
taken_more p v below =
    ap (filter p) (take_more four v 0 below ∙ ap (λ x. take v four ++ x ∷ []) (at_four v below)) ∙ filter-append p (take v four) (v ∷ [])

-- a variable of the four that passes is one more piece, and one that does not is none
passed_more : (g : ℕ → List ℕ) (p : ℕ → Bool) (v : ℕ) (before out new : List ℕ) → v < 4 → p v ≡ true → out ≡ before ++ flat_map g (filter p (take v four)) → new ≡ out ++ g v →
    new ≡ before ++ flat_map g (filter p (take (v + 1) four))
passed_more g p v before out new below pass are is =
    is ∙ ap (λ o. o ++ g v) are ∙ append_assoc before (flat_map g (filter p (take v four))) (g v)
    ∙ ap (λ x. before ++ (flat_map g (filter p (take v four)) ++ x)) (sym (append-nil (g v)))
    ∙ ap (λ x. before ++ x) (sym (flat_map-append g (filter p (take v four)) (v ∷ [])))
    ∙ ap (λ xs. before ++ flat_map g xs) (ap (λ b. filter p (take v four) ++ cond b (v ∷ []) []) (sym pass) ∙ sym (taken_more p v below))

failed_more : (g : ℕ → List ℕ) (p : ℕ → Bool) (v : ℕ) (before out : List ℕ) → v < 4 → p v ≡ false → out ≡ before ++ flat_map g (filter p (take v four)) →
    out ≡ before ++ flat_map g (filter p (take (v + 1) four))
failed_more g p v before out below fail are =
    are ∙ ap (λ xs. before ++ flat_map g xs) (sym (append-nil (filter p (take v four))) ∙ ap (λ b. filter p (take v four) ++ cond b (v ∷ []) []) (sym fail) ∙ sym (taken_more p v below))

pub waited_more : (g : ℕ → List ℕ) (p : ℕ → Bool) (v : ℕ) (b : Bool) (before out new : List ℕ) → v < 4 → b ≡ p v → out ≡ before ++ flat_map g (filter p (take v four)) → new ≡ out ++ cond b (g v) [] →
    new ≡ before ++ flat_map g (filter p (take (v + 1) four))
waited_more g p v true before out new below pass are is = passed_more g p v before out new below (sym pass) are is
waited_more g p v false before out new below fail are is = is ∙ append-nil out ∙ failed_more g p v before out below (sym fail) are

-- what is bound after some steps
abbrev pub bound_by : Term → List ℕ → List PlanStep → List ℕ
bound_by t vs steps = fold (bound_after t) vs steps

pub steps_more : (job : Checked) (nest : Nest) (t : Term) (vs : List ℕ) (xs : List PlanStep) (s : PlanStep) →
    steps_text job nest t vs (xs ++ s ∷ []) ≡ steps_text job nest t vs xs ++ step_line job nest t (bound_by t vs xs) s
steps_more job nest t vs [] s = append-nil (step_line job nest t vs s)
steps_more job nest t vs (x ∷ xs) s =
    ap (λ rest. step_line job nest t vs x ++ rest) (steps_more job nest t (bound_after t vs x) xs s)
    ∙ sym (append_assoc (step_line job nest t vs x) (steps_text job nest t (bound_after t vs x) xs) (step_line job nest t (bound_by t (bound_after t vs x) xs) s))

pub bound_more : (t : Term) (vs : List ℕ) (xs : List PlanStep) (s : PlanStep) → bound_by t vs (xs ++ s ∷ []) ≡ bound_after t (bound_by t vs xs) s
bound_more t vs [] s = refl
bound_more t vs (x ∷ xs) s = bound_more t (bound_after t vs x) xs s

-- one piece of a table more
pub piece_more : (g : ℕ → List ℕ) (before out new : List ℕ) (n : ℕ) → out ≡ before ++ flat_map g (range_with_len 0 n) → new ≡ out ++ g n → new ≡ before ++ flat_map g (range_with_len 0 (n + 1))
piece_more g before out new n are is =
    is ∙ ap (λ o. o ++ g n) are ∙ append_assoc before (flat_map g (range_with_len 0 n)) (g n) ∙ ap (λ x. before ++ x) (sym (table_more g n))
