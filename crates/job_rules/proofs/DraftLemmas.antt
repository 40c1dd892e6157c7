-- The lines of a job, one after another.
use Rattle.std.proofs.Common.{◌≡◌, inl, inr, ℕ, ◌<◌, ◌≤◌, ◌+◌, List, [], ◌∷◌, Some, None, length, drop, get_or, refl, sym, subst, ap, ◌∙◌}
use Rattle.std.proofs.lemmas.List.{drop_more, drop_all}
use Rattle.bern_base.specs.declared.raw.JobLine.{JobLine}
use Rattle.bern_base.specs.declared.raw.JobText.{JobText}
use Rattle.bern_base.specs.declared.refusal.Rule.{Rule}
use Rattle.bern_base.specs.declared.refusal.Rule.TheVariants as r
use Rattle.job_rules.specs.State.{State}
use Rattle.job_rules.specs.Rules.{broken_rule}
use Rattle.job_rules.specs.First.{Joins, Leads, AcceptsFrom, RefusesFrom, Accepts, Refuses}

-- a line that joins the job leads on
leads_past : (old new : State) (line : JobLine) (lines : List JobLine) (text : JobText) → Joins old new line.number line.form → Leads old (line ∷ lines) text → Leads new lines text
leads_past old new line lines text joins leads = record {
  accepts = λ job rest. leads.accepts job (joins.unbroken, subst (λ s. AcceptsFrom s lines text.broken job) joins.after rest);
  refuses = λ at rule rest. leads.refuses at rule (inr (joins.unbroken, subst (λ s. RefusesFrom s lines text.broken at rule) joins.after rest));
}

-- the line that a loop has reached, and those after it
here : (lines : List JobLine) (i : ℕ) (line : JobLine) → i < length lines → line ≡ get_or lines i line → drop i lines ≡ line ∷ drop (i + 1) lines
here lines i line within is = drop_more lines i line within ∙ ap (λ x. x ∷ drop (i + 1) lines) (sym is)

pub leads_on : (old new : State) (lines : List JobLine) (i : ℕ) (line : JobLine) (text : JobText) → i < length lines → line ≡ get_or lines i line → Joins old new line.number line.form → Leads old (drop i lines) text → Leads new (drop (i + 1) lines) text
leads_on old new lines i line text within is joins leads = leads_past old new line (drop (i + 1) lines) text joins (subst (λ ls. Leads old ls text) (here lines i line within is) leads)

-- a line that breaks a rule first is refused
pub leads_out : (old : State) (lines : List JobLine) (i : ℕ) (line : JobLine) (text : JobText) (rule : Rule) → i < length lines → line ≡ get_or lines i line → broken_rule old line.form ≡ Some rule → Leads old (drop i lines) text → Refuses text line.number rule
leads_out old lines i line text rule within is broken leads =
    let from : Leads old (line ∷ drop (i + 1) lines) text = subst (λ ls. Leads old ls text) (here lines i line within is) leads in
    from.refuses line.number rule (inl (broken, refl))

-- at the end the job is what was added up
pub leads_home : (state : State) (lines : List JobLine) (i : ℕ) (text : JobText) → length lines ≤ i → text.broken ≡ None → Leads state (drop i lines) text → Accepts text state.job
leads_home state lines i text past none leads =
    let from : Leads state [] text = subst (λ ls. Leads state ls text) (drop_all i lines past) leads in
    from.accepts state.job (rw none refl)

-- or the line without a form is refused
pub leads_broken : (state : State) (lines : List JobLine) (i line : ℕ) (text : JobText) → length lines ≤ i → text.broken ≡ Some line → Leads state (drop i lines) text → Refuses text line r.J2
leads_broken state lines i line text past some leads =
    let from : Leads state [] text = subst (λ ls. Leads state ls text) (drop_all i lines past) leads in
    from.refuses line r.J2 (rw some (refl, refl))
