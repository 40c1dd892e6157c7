-- Plans, one term and one nest after the other.
use Rattle.std.proofs.Common.{◌≡◌, ◌∙◌, ℕ, suc, List, [], ◌∷◌, ◌++◌, map, length, Some, slice_get, refl, sym, ap, subst, arith}
use Rattle.std.specs.List.{All, AllZip, Contains}
use Rattle.std.specs.Option.{unwrap_or}
use Rattle.std.proofs.lemmas.List.{append_assoc, append-nil, map-append}
use Rattle.std.proofs.lemmas.List.Elements.{All-contains, All-push}
use Rattle.std.proofs.lemmas.Option.{slice_get_within, unwrap_or-slice_get}
use Rattle.bern_base.specs.declared.job.Checked.{Checked}
use Rattle.bern_base.specs.declared.job.Nest.{Nest}
use Rattle.bern_base.specs.declared.stats.Stats.{Stats}
use Rattle.term_model.specs.declared.plan.PlannedTerm.{PlannedTerm}
use Rattle.term_model.specs.declared.term.Term.{Term}
use Rattle.term_model.specs.Terms.{terms_of}
use Rattle.job_plans.specs.Least.{AreScheduled, IsScheduled}
use Rattle.join_plan.specs.Tasks.{CanSchedule}

pub there : {X : Type 0} (xs : List X) (k : ℕ) (x : X) → slice_get xs k ≡ Some x → Contains xs x
there xs k x is = (k, slice_get_within xs k x is, sym (unwrap_or-slice_get xs k x) ∙ ap (λ o. unwrap_or o x) is)

pub all_there : {X : Type 0} (P : X → Type 0) (xs : List X) (k : ℕ) (x : X) → All P xs → slice_get xs k ≡ Some x → P x
all_there P xs k x all is = All-contains P xs x all (there xs k x is)

-- what is planned so far, and the terms that are left
pub record ArePlannedSo (job : Checked) (stats : List Stats) (nest : Nest) (planned : List PlannedTerm) (left : List Term) : Type 0 where
  pub terms : map (λ p. p.term) planned ++ left ≡ terms_of job nest.body
  pub least : All (IsScheduled stats nest) planned
  pub can : All (λ t. CanSchedule (record { vars = nest.vars; term = t; stats = stats })) left

pub planned_more : (job : Checked) (stats : List Stats) (nest : Nest) (planned : List PlannedTerm) (p : PlannedTerm) (left rest : List Term) → left ≡ p.term ∷ rest → IsScheduled stats nest p →
    ArePlannedSo job stats nest planned left → ArePlannedSo job stats nest (planned ++ p ∷ []) rest
planned_more job stats nest planned p left rest is here so = record {
  terms =
      ap (λ ts. ts ++ rest) (map-append (λ q. q.term) planned (p ∷ [])) ∙ append_assoc (map (λ q. q.term) planned) (p.term ∷ []) rest
      ∙ ap (λ ts. map (λ q. q.term) planned ++ ts) (sym is) ∙ so.terms;
  least = All-push (IsScheduled stats nest) planned p so.least here;
  can = λ k d below. (subst (All (λ t. CanSchedule (record { vars = nest.vars; term = t; stats = stats }))) is so.can) (suc k) d (omega (arith, below));
}

pub first_can : (job : Checked) (stats : List Stats) (nest : Nest) (planned : List PlannedTerm) (t : Term) (left rest : List Term) → left ≡ t ∷ rest → ArePlannedSo job stats nest planned left →
    CanSchedule (record { vars = nest.vars; term = t; stats = stats })
first_can job stats nest planned t left rest is so = (subst (All (λ u. CanSchedule (record { vars = nest.vars; term = u; stats = stats }))) is so.can) 0 t (omega arith)

pub all_planned : (job : Checked) (stats : List Stats) (nest : Nest) (planned : List PlannedTerm) (left : List Term) → left ≡ [] → ArePlannedSo job stats nest planned left → AreScheduled job stats nest planned
all_planned job stats nest planned left is so = record {
  terms = sym (append-nil (map (λ q. q.term) planned)) ∙ ap (λ ts. map (λ q. q.term) planned ++ ts) (sym is) ∙ so.terms;
  least = so.least;
}

-- two lists grow by one item each
pub zip_push : {A B : Type 0} (R : A → B → Type 0) (xs : List A) (ys : List B) (x : A) (y : B) → AllZip R xs ys → R x y → AllZip R (xs ++ x ∷ []) (ys ++ y ∷ [])
zip_push R [] [] x y all here = (here, tt)
zip_push R [] (b ∷ ys) x y all here = absurd all
zip_push R (a ∷ xs) [] x y all here = absurd all
zip_push R (a ∷ xs) (b ∷ ys) x y all here = (all.0, zip_push R xs ys x y all.1 here)

pub none_left : {X : Type 0} (xs : List X) → length xs ≡ 0 → xs ≡ []
none_left [] is = refl
none_left (x ∷ xs) is = absurd (omega (arith, is))
