-- The turns of an accepted job are its nests in order.
use Rattle.std.proofs.Common.{◌≡◌, ◌∙◌, ℕ, ◌+◌, List, [], ◌∷◌, ◌++◌, Option, Some, None, length, length-append, refl, ap, sym}
use Rattle.std.specs.List.{range_with_len}
use Rattle.std.proofs.Math.Nat.{zero-add}
use Rattle.std.proofs.lemmas.List.{map-id}
use Rattle.std.proofs.lemmas.List.FromFn.{map-range_with_len_more}
use Rattle.bern_base.specs.declared.job.Checked.{Checked}
use Rattle.bern_base.specs.declared.raw.Form.{Form}
use Rattle.bern_base.specs.declared.raw.Form.TheVariants as form
use Rattle.bern_base.specs.declared.raw.JobLine.{JobLine}
use Rattle.bern_base.specs.declared.raw.JobText.{JobText}
use Rattle.job_rules.specs.State.{State, start}
use Rattle.job_rules.specs.After.{after}
use Rattle.job_rules.specs.First.{Accepts, AcceptsFrom}

abbrev IsInOrder : Checked → Type 0
IsInOrder job = job.turns ≡ range_with_len 0 (length job.nests)

-- one turn more, for one nest more
one_more : {A : Type 0} (turns : List ℕ) (nests : List A) (nest : A) → turns ≡ range_with_len 0 (length nests) → turns ++ length nests ∷ [] ≡ range_with_len 0 (length (nests ++ nest ∷ []))
one_more turns nests nest before =
    let n = length nests in
    ap (λ xs. xs ++ n ∷ []) (before ∙ sym (map-id (range_with_len 0 n)))
    ∙ sym (map-range_with_len_more (λ x. x) 0 n n (zero-add n))
    ∙ map-id (range_with_len 0 (n + 1))
    ∙ ap (range_with_len 0) (sym (length-append nests (nest ∷ [])))

after_in_order : (s : State) (line : ℕ) (f : Form) → IsInOrder s.job → IsInOrder (after s line f).job
after_in_order s line (form.Extent name size) before = before
after_in_order s line (form.Place name extent how) before = before
after_in_order s line (form.Format name how) before = before
after_in_order s line (form.Array name extents format axis place file) before = before
after_in_order s line (form.Nest nest) before = one_more s.job.turns s.job.nests _ before
after_in_order s line (form.Print name) before = before

in_order_from : (s : State) (lines : List JobLine) (broken : Option ℕ) (job : Checked) → AcceptsFrom s lines broken job → IsInOrder s.job → IsInOrder job
in_order_from s [] None job is before = ap (λ j. j.turns) is ∙ before ∙ sym (ap (λ j. range_with_len 0 (length j.nests)) is)
in_order_from s [] (Some line) job is before = absurd is
in_order_from s (l ∷ lines) broken job is before = in_order_from (after s l.number l.form) lines broken job is.1 (after_in_order s l.number l.form before)

pub turns_in_order : (text : JobText) (job : Checked) → Accepts text job → job.turns ≡ range_with_len 0 (length job.nests)
turns_in_order text job is = in_order_from start text.lines text.broken job is refl
