-- Jobs: the steps of a reader of lines, and that bytes have one meaning.
use Rattle.std.proofs.Common.{◌≡◌, ℕ, ◌+◌, Bool, true, false, Option, Some, None, List, [], ◌∷◌, ◌++◌, MatchBool, append_assoc, append-nil, refl, sym, ap, subst, ◌∙◌}
use Rattle.bern_base.specs.declared.raw.Form.{Form}
use Rattle.bern_base.specs.declared.raw.JobLine.{JobLine}
use Rattle.job_text.specs.Lines.{lines, said, is_some_text}
use Rattle.job_text.specs.Forms.{IsForm}
use Rattle.job_text.specs.Job.{Numbered, numbered, HasNoForm, IsRead, AddsLine, HasOneMeaning}
use Rattle.job_text.proofs.FormLemmas.{one_form}

-- the forms of some lines, and the broken one, are determined
one_read : (texts : List Numbered) (xs ys : List JobLine) (a b : Option ℕ) → IsRead texts xs a → IsRead texts ys b → (xs ≡ ys) × (a ≡ b)
one_read [] [] [] None None one two = (refl, refl)
one_read [] [] [] None (Some n) one two = absurd two
one_read [] [] [] (Some n) b one two = absurd one
one_read [] [] (y ∷ ys) a b one two = absurd two
one_read [] (x ∷ xs) ys a b one two = absurd one
one_read (t ∷ ts) [] [] None b one two = absurd one
one_read (t ∷ ts) [] [] (Some n) None one two = absurd two
one_read (t ∷ ts) [] [] (Some n) (Some k) one two = (refl, ap Some (one.0 ∙ sym two.0))
one_read (t ∷ ts) [] (y ∷ ys) None b one two = absurd one
one_read (t ∷ ts) [] (y ∷ ys) (Some n) b one two = absurd (one.1 y.form two.1)
one_read (t ∷ ts) (x ∷ xs) [] a None one two = absurd two
one_read (t ∷ ts) (x ∷ xs) [] a (Some n) one two = absurd (two.1 x.form one.1)
one_read (t ∷ ts) (x ∷ xs) (y ∷ ys) a b one two =
    let rest = one_read ts xs ys a b one.2 two.2 in
    let number : x.number ≡ y.number = one.0 ∙ sym two.0 in
    let form = one_form t.1 x.form y.form one.1 two.1 in
    let heads : x ≡ y = ap (λ n. record { number = n; form = x.form }) number ∙ ap (λ f. record { number = y.number; form = f }) form in
    (ap (λ h. h ∷ xs) heads ∙ ap (λ l. y ∷ l) rest.0, rest.1)

pub one_meaning : HasOneMeaning
one_meaning bytes a b one two =
    let same = one_read (numbered 1 (lines bytes)) a.lines b.lines a.broken b.broken one two in
    ap (λ l. record { lines = l; broken = a.broken }) same.0 ∙ ap (λ k. record { lines = b.lines; broken = k }) same.1

-- the forms so far, followed by those of the lines that are left, are those of all lines
pub record Carries (all : List Numbered) (number : ℕ) (left : List (List ℕ)) (forms : List JobLine) : Type 0 where
  pub carries : (more : List JobLine) (broken : Option ℕ) → IsRead (numbered number left) more broken → IsRead all (forms ++ more) broken

pub carries_first : (texts : List (List ℕ)) → Carries (numbered 1 texts) 1 texts []
carries_first texts = record { carries = λ more broken is. is }

pub carries_end : (all : List Numbered) (number : ℕ) (forms : List JobLine) → Carries all number [] forms → IsRead all forms None
carries_end all number forms c = subst (λ l. IsRead all l None) (append-nil forms) (c.carries [] None tt)

module _ (all : List Numbered) (number : ℕ) (line : List ℕ) (left : List (List ℕ)) (forms : List JobLine) (c : Carries all number (line ∷ left) forms) where
  pub carries_broken : is_some_text (said line) ≡ true → HasNoForm (said line) → IsRead all forms (Some number)
  carries_broken some none =
      let here : IsRead (numbered number (line ∷ left)) [] (Some number) = rw some (refl, none) in
      subst (λ l. IsRead all l (Some number)) (append-nil forms) (c.carries [] (Some number) here)

  pub carries_on : (new : List JobLine) → AddsLine number (said line) forms new → Carries all (number + 1) left new
  carries_on new adds = step (is_some_text (said line)) refl adds
    where
      step : (test : Bool) → is_some_text (said line) ≡ test → MatchBool test ((form : Form) × (new ≡ forms ++ record { number = number; form = form } ∷ []) × IsForm form (said line)) (new ≡ forms) → Carries all (number + 1) left new
      step true is adds = record {
        carries = λ more broken read.
            let here : IsRead (numbered number (line ∷ left)) (record { number = number; form = adds.0 } ∷ more) broken = rw is (refl, adds.2, read) in
            subst (λ l. IsRead all l broken) (sym (append_assoc forms (record { number = number; form = adds.0 } ∷ []) more) ∙ ap (λ l. l ++ more) (sym adds.1)) (c.carries (record { number = number; form = adds.0 } ∷ more) broken here);
      }
      step false is same = record {
        carries = λ more broken read.
            let here : IsRead (numbered number (line ∷ left)) more broken = rw is read in
            subst (λ l. IsRead all (l ++ more) broken) (sym same) (c.carries more broken here);
      }
