-- Facts on what a shelf tells, and the causes of faults over calls in a row.
use Rattle.std.proofs.Common.{◌≡◌, ℕ, ◌≤◌, Some, None, Option, Ok, Err, Result, IfSome, IsTrue, subst, sym, ◌∙◌, arith}
use Rattle.bern_ports.specs.Causes.{Rose}
use Rattle.bern_ports.specs.Files.{Files}
use Rattle.bern_ports.specs.Frames.{KeepsShelf, ShelfState}
use Rattle.job_files.specs.Answers.{BlamesOne, HasFaultCause, IsNoFault, KeepsCounts, RoseAtFault}
use Rattle.job_files.specs.declared.load_error.LoadError.{LoadError}
use Rattle.job_files.specs.declared.load_error.LoadError.TheVariants as e

pub if_some_weaker : {X : Type 0} (o : Option X) (P Q : X → Type 0) → ((x : X) → P x → Q x) → IfSome o P → IfSome o Q
if_some_weaker None P Q weaken holds = tt
if_some_weaker (Some x) P Q weaken holds = weaken x holds

-- two facts on what is told
pub told_both : {X : Type 0} (told now : Option X) (P Q R : X → Type 0) → now ≡ told → ((x : X) → P x → Q x → R x) → IfSome told P → IfSome now Q → IfSome told R
told_both told now P Q R same both first second = with_both told P Q R both first (subst (λ o. IfSome o Q) same second)
  where
    with_both : {X : Type 0} (o : Option X) (P Q R : X → Type 0) → ((x : X) → P x → Q x → R x) → IfSome o P → IfSome o Q → IfSome o R
    with_both None P Q R both first second = tt
    with_both (Some x) P Q R both first second = both x first second

-- where no fault is answered and no count of a name changed
no_blame : {T : Type 0} (before after : ShelfState) (result : Result T LoadError) (files : Files) → KeepsCounts before after → IsNoFault result → BlamesOne before after result files
no_blame before after (Ok x) files keeps calm = keeps
no_blame before after (Err (e.Refused r)) files keeps calm = keeps
no_blame before after (Err (e.ReadFault f)) files keeps calm = absurd calm
no_blame before after (Err e.NoMemory) files keeps calm = tt

no_rise : {T : Type 0} (before after : ℕ) (result : Result T LoadError) → IsNoFault result → RoseAtFault before after result
no_rise before after (Ok x) calm = tt
no_rise before after (Err (e.Refused r)) calm = tt
no_rise before after (Err (e.ReadFault f)) calm = absurd calm
no_rise before after (Err e.NoMemory) calm = tt

always : {X : Type 0} (o : Option X) (P : X → Type 0) → ((x : X) → P x) → IfSome o P
always None P holds = tt
always (Some x) P holds = holds x

pub no_fault : {T : Type 0} (before after : ShelfState) (result : Result T LoadError) → KeepsCounts before after → IsNoFault result → HasFaultCause before after result
no_fault before after result keeps calm = record {
  fault = no_rise before.faults after.faults result calm;
  blame = always before.files (BlamesOne before after result) (λ files. no_blame before after result files keeps calm);
}

-- a rise after what came before is a rise over all
rise_then : {T : Type 0} (a b c : ℕ) (result : Result T LoadError) → a ≤ b → RoseAtFault b c result → RoseAtFault a c result
rise_then a b c (Ok x) later rose = tt
rise_then a b c (Err (e.Refused r)) later rose = tt
rise_then a b c (Err (e.ReadFault f)) later rose = omega (arith, later, rose)
rise_then a b c (Err e.NoMemory) later rose = tt

blame_then : {T : Type 0} (a b c : ShelfState) (result : Result T LoadError) (files : Files) → b.sure ≡ a.sure → KeepsCounts a b → BlamesOne b c result files → BlamesOne a c result files
blame_then a b c (Ok x) files sure calm blames = λ n. blames n ∙ calm n
blame_then a b c (Err (e.Refused r)) files sure calm blames = λ n. blames n ∙ calm n
blame_then a b c (Err (e.ReadFault f)) files sure calm blames = record {
  own = λ there.
      let own = blames.own there in (
        subst (λ n. Rose n (c.faults_on f)) (calm f) own.0,
        λ is. own.1 (subst IsTrue (sym sure) is),
      );
  others = λ n other. blames.others n other ∙ calm n;
}
blame_then a b c (Err e.NoMemory) files sure calm blames = tt

-- the cause of an answer after calls without a fault
pub cause_then : {T : Type 0} (a b c : ShelfState) (result : Result T LoadError) → KeepsShelf a b → IfSome a.files (λ fs. KeepsCounts a b) → HasFaultCause b c result → HasFaultCause a c result
cause_then a b c result keeps calm cause = record {
  fault = rise_then a.faults b.faults c.faults result keeps.faults cause.fault;
  blame = told_both a.files b.files (λ fs. KeepsCounts a b) (BlamesOne b c result) (BlamesOne a c result) keeps.files
      (λ fs quiet blames. blame_then a b c result fs keeps.sure quiet blames) calm cause.blame;
}

-- a fault is the same in the answer of a caller
pub as_fault : {T U : Type 0} (before after : ShelfState) (fault : LoadError) → HasFaultCause {T = T} before after (Err fault) → HasFaultCause {T = U} before after (Err fault)
as_fault before after (e.Refused r) cause = record { fault = cause.fault; blame = cause.blame }
as_fault before after (e.ReadFault f) cause = record { fault = cause.fault; blame = cause.blame }
as_fault before after e.NoMemory cause = record { fault = cause.fault; blame = cause.blame }
