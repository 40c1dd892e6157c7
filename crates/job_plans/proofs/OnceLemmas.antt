-- A job has one list of plans of least cost.
use Rattle.std.proofs.Common.{◌≡◌, ◌∙◌, List, [], ◌∷◌, drop, get_or, map, refl, sym, ap, subst, arith}
use Rattle.std.specs.List.{All, AllZip}
use Rattle.std.proofs.lemmas.List.Elements.{All-cons, All-nil, All-tail}
use Rattle.bern_base.specs.declared.job.Checked.{Checked}
use Rattle.bern_base.specs.declared.job.Nest.{Nest}
use Rattle.bern_base.specs.declared.stats.Stats.{Stats}
use Rattle.join_plan.proofs.LeastLemmas.{one_least, some_least}
use Rattle.join_plan.specs.Costs.{measures}
use Rattle.join_plan.specs.Least.{IsFirstOfLeast}
use Rattle.term_model.specs.declared.plan.PlannedTerm.{PlannedTerm}
use Rattle.term_model.specs.declared.plan.Plans.{Plans}
use Rattle.term_model.specs.declared.term.Term.{Term}
use Rattle.term_model.specs.Queries.{levels_by, query}
use Rattle.term_model.specs.Terms.{terms_of}
use Rattle.job_plans.specs.Least.{AreLeast, AreScheduled, IsScheduled}

planned_is : (a b : PlannedTerm) → a.term ≡ b.term → a.plan.steps ≡ b.plan.steps → a.cost ≡ b.cost → a ≡ b
planned_is a b term steps cost =
    ap (λ t. record { term = t; plan = a.plan; cost = a.cost }) term
    ∙ ap (λ s. record { term = b.term; plan = record { steps = s }; cost = a.cost }) steps
    ∙ ap (λ n. record { term = b.term; plan = b.plan; cost = n }) cost

module _ (stats : List Stats) (nest : Nest) where
  -- a term has one plan
  one_term : (a b : PlannedTerm) → a.term ≡ b.term → IsScheduled stats nest a → IsScheduled stats nest b → a ≡ b
  one_term a b same first second =
      let again : IsFirstOfLeast (query (levels_by stats) nest a.term) (measures nest.vars a.term stats) b.plan.steps b.cost =
      subst (λ t. IsFirstOfLeast (query (levels_by stats) nest t) (measures nest.vars t stats) b.plan.steps b.cost) (sym same) second in
      let one = one_least (query (levels_by stats) nest a.term) (measures nest.vars a.term stats) a.plan.steps b.plan.steps a.cost b.cost first again in
      planned_is a b same one.0 one.1

  one_nest : (ps qs : List PlannedTerm) → map (λ p. p.term) ps ≡ map (λ p. p.term) qs → All (IsScheduled stats nest) ps → All (IsScheduled stats nest) qs → ps ≡ qs
  one_nest [] [] same first second = refl
  one_nest [] (q ∷ qs) same first second = absurd cc
  one_nest (p ∷ ps) [] same first second = absurd cc
  one_nest (p ∷ ps) (q ∷ qs) same first second =
      let head : p.term ≡ q.term = ap (λ ts. get_or ts 0 p.term) same in
      let here : p ≡ q = one_term p q head (first 0 p (omega arith)) (second 0 q (omega arith)) in
      ap (λ x. x ∷ ps) here ∙ ap (λ xs. q ∷ xs) (one_nest ps qs (ap (drop 1) same) (All-tail (IsScheduled stats nest) p ps first) (All-tail (IsScheduled stats nest) q qs second))

  -- and it has one
  term_of : (t : Term) → (p : PlannedTerm) × (p.term ≡ t) × IsScheduled stats nest p
  term_of t =
      let (found, least) = some_least (query (levels_by stats) nest t) (measures nest.vars t stats) in
      (record { term = t; plan = record { steps = found.steps }; cost = found.cost }, refl, least)

  nest_of : (ts : List Term) → (ps : List PlannedTerm) × (map (λ p. p.term) ps ≡ ts) × All (IsScheduled stats nest) ps
  nest_of [] = ([], refl, All-nil (IsScheduled stats nest))
  nest_of (t ∷ ts) =
      let (p, is, least) = term_of t in
      let (ps, are, all) = nest_of ts in
      (p ∷ ps, ap (λ x. x ∷ map (λ q. q.term) ps) is ∙ ap (λ xs. t ∷ xs) are, All-cons (IsScheduled stats nest) p ps least all)

module _ (job : Checked) (stats : List Stats) where
  one_list : (nests : List Nest) (as_ bs : List (List PlannedTerm)) → AllZip (AreScheduled job stats) nests as_ → AllZip (AreScheduled job stats) nests bs → as_ ≡ bs
  one_list [] [] [] first second = refl
  one_list [] [] (b ∷ bs) first second = absurd second
  one_list [] (a ∷ as_) bs first second = absurd first
  one_list (nest ∷ nests) [] bs first second = absurd first
  one_list (nest ∷ nests) (a ∷ as_) [] first second = absurd second
  one_list (nest ∷ nests) (a ∷ as_) (b ∷ bs) first second =
      ap (λ x. x ∷ as_) (one_nest stats nest a b (first.0.terms ∙ sym second.0.terms) first.0.least second.0.least) ∙ ap (λ xs. b ∷ xs) (one_list nests as_ bs first.1 second.1)

  list_of : (nests : List Nest) → (all : List (List PlannedTerm)) × AllZip (AreScheduled job stats) nests all
  list_of [] = ([], tt)
  list_of (nest ∷ nests) =
      let (ps, are, least) = nest_of stats nest (terms_of job nest.body) in
      let (all, rest) = list_of nests in
      (ps ∷ all, (record { terms = are; least = least }, rest))

  pub least_once : (a b : Plans) → AreLeast job stats a → AreLeast job stats b → a ≡ b
  least_once a b first second =
      let made : List (List PlannedTerm) → Plans = λ nests. record { nests = nests } in
      ap made (one_list job.nests a.nests b.nests first second)

  pub least_there : (plans : Plans) × AreLeast job stats plans
  least_there = let (all, are) = list_of job.nests in (record { nests = all }, are)
