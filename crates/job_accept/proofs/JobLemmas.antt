-- What each line of a job's text says holds of the job that the text is accepted as.
use Rattle.std.proofs.Common.{ℕ, List, [], ◌∷◌, Option, Some, None, subst, sym}
use Rattle.std.specs.List.{All}
use Rattle.std.proofs.lemmas.List.Elements.{All-head, All-tail}
use Rattle.bern_base.specs.declared.job.Checked.{Checked}
use Rattle.bern_base.specs.declared.raw.Form.{Form}
use Rattle.bern_base.specs.declared.raw.JobLine.{JobLine}
use Rattle.job_text.proofs.DepthLemmas.{read_all}
use Rattle.job_text.specs.Forms.{IsForm}
use Rattle.job_text.specs.Job.{numbered}
use Rattle.job_text.specs.Lines.{lines}
use Rattle.job_rules.specs.After.{after}
use Rattle.job_rules.specs.First.{AcceptsFrom}
use Rattle.job_rules.specs.State.{State, start}
use Rattle.job_accept.specs.Front.{AcceptsBytes}

-- what a line says by its form, and what it leaves true of the job so far
module _ (FormHas : Form → Type 0) (form_has : (f : Form) (text : List ℕ) → IsForm f text → FormHas f) (Holds : Checked → Type 0)
    (one_more : (s : State) (number : ℕ) (f : Form) → FormHas f → Holds s.job → Holds (after s number f).job) where
  abbrev LineHas : JobLine → Type 0
  LineHas line = FormHas line.form

  all_more : (s : State) (ls : List JobLine) (broken : Option ℕ) (job : Checked) → All LineHas ls → Holds s.job → AcceptsFrom s ls broken job → Holds job
  all_more s [] None job lines holds is = subst Holds (sym is) holds
  all_more s [] (Some line) job lines holds is = absurd is
  all_more s (l ∷ ls) broken job lines holds is =
      all_more (after s l.number l.form) ls broken job (All-tail LineHas l ls lines) (one_more s l.number l.form (All-head LineHas l ls lines) holds) is.1

  pub job_holds : Holds start.job → (bytes : List ℕ) (job : Checked) → AcceptsBytes bytes job → Holds job
  job_holds first bytes job accepts =
      let text = accepts.0 in
      all_more start text.lines text.broken job (read_all FormHas form_has (numbered 1 (lines bytes)) text.lines text.broken accepts.1.is) first accepts.2
