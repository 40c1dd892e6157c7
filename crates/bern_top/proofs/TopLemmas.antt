-- What the top call says, from the answer for its words and what was written.
use Rattle.std.proofs.Common.{◌≡◌, ◌≢◌, IsSome, IsTrue, ℕ, List, Option, Some, None, Ok, Err, Result, IfSome, sym, ap, subst, inl, inr, arith}
use Rattle.std.specs.Io.KnownBytes.{Appends, Keeps}
use Rattle.std.proofs.KnownBytes.{Keeps-refl}
use Rattle.std.proofs.lemmas.Bool.{false≢true}
use Rattle.bern_base.specs.declared.refusal.Refusal.{Refusal}
use Rattle.bern_base.specs.declared.refusal.Refusal.TheVariants.{Words}
use Rattle.bern_base.specs.declared.refusal.Rule.{Rule}
use Rattle.bern_ports.specs.Causes.{Rose}
use Rattle.bern_ports.specs.Files.{Files, bytes_of}
use Rattle.bern_ports.specs.Frames.{Port, ShelfState}
use Rattle.job_files.proofs.ShelfLemmas.{if_some_weaker}
use Rattle.job_files.specs.Answers.{HasFaultCause, IsBlamed}
use Rattle.job_files.specs.declared.load_error.LoadError.{LoadError}
use Rattle.job_files.specs.declared.load_error.LoadError.TheVariants as e
use Rattle.bern_top.specs.Answers.{AnswersWords, EndsOnly, HasLine, StopsWithin}
use Rattle.bern_top.specs.Endings.{Done, Ending, Absent, Ends, IsReached, Refuses}
use Rattle.bern_top.specs.Lines.{refusal_line, write_fault_line}
use Rattle.bern_top.specs.Requests.{RefusesWords}
use Rattle.bern_top.specs.Top.{IsCalm, IsDue, IsFaultOf, IsRefused, PrintsText, Says, SaysReadFault, TellsFault}
use Rattle.bern_top.proofs.WritingLemmas.{over}

abbrev Texts : Type 0
Texts = List (List ℕ)

-- words that break a rule are refused by it, whatever else is known of the answer
abbrev pub IsWordsAnswer : Texts → Result (List ℕ) LoadError → Type 0
IsWordsAnswer words result = (rule : Rule) → RefusesWords words rule → result ≡ Err (e.Refused (Words rule))

refusal_in : Refusal → Ending → Refusal
refusal_in default (Done text) = default
refusal_in default (Refuses refusal) = refusal
refusal_in default (Absent name) = default

refused_same : (a b : Refusal) → Refuses a ≡ Refuses b → a ≡ b
unfolding refusal_in
refused_same a b same = ap (refusal_in a) same

done_refused : (text : List ℕ) (r : Refusal) → Done text ≡ Refuses r → ⊥
done_refused text r same = cc

-- the words end with a refusal, so no text is due, and with a text, so nothing is refused
not_due : (files : Files) (words : Texts) (r : Refusal) → EndsOnly (Ends files words) (Refuses r) → (text : List ℕ) → IsDue files words text → ⊥
not_due files words r ends text due = done_refused text r (ends.1 (Done text) due)

only_refusal : (files : Files) (words : Texts) (r : Refusal) → EndsOnly (Ends files words) (Refuses r) → (other : Refusal) → IsRefused files words other → other ≡ r
only_refusal files words r ends other refused = refused_same other r (ends.1 (Refuses other) refused)

not_refused : (files : Files) (words : Texts) (text : List ℕ) → EndsOnly (Ends files words) (Done text) → (r : Refusal) → IsRefused files words r → ⊥
not_refused files words text ends r refused = done_refused text r (sym (ends.1 (Refuses r) refused))

-- what holds of all files
pub for_all : {X : Type 0} (o : Option X) (P : X → Type 0) → ((x : X) → P x) → IfSome o P
for_all None P all = tt
for_all (Some x) P all = all x

if_some_both : {X : Type 0} (o : Option X) (P Q : X → Type 0) → IfSome o P → IfSome o Q → IfSome o (λ x. P x × Q x)
if_some_both None P Q first second = tt
if_some_both (Some x) P Q first second = (first, second)

abbrev Answer : Type 0
Answer = Result (List ℕ) LoadError

-- a refusal, and what is answered in place of it
abbrev refusing : Refusal → Answer
refusing r = Err (e.Refused r)

abbrev faulting : List ℕ → Answer
faulting name = Err (e.ReadFault name)

abbrev wanting : Answer
wanting = Err e.NoMemory

answer_same : (a b : Refusal) → refusing a ≡ refusing b → a ≡ b
answer_same a b same = cc

-- want of memory, a fault and a text are no answers for words that break a rule
fault_apart : (name : List ℕ) (r : Refusal) → faulting name ≡ refusing r → ⊥
fault_apart name r same = cc

memory_apart : (r : Refusal) → wanting ≡ refusing r → ⊥
memory_apart r same = cc

text_apart : (text : List ℕ) (r : Refusal) → Ok text ≡ refusing r → ⊥
text_apart text r same = cc

says_refused : (words : Texts) (before after : ShelfState) (held : Option (List ℕ)) (count : ℕ) (err : Port) (status : ℕ) (r : Refusal) → IsWordsAnswer words (Err (e.Refused r)) → IfSome before.files (λ fs. EndsOnly (Ends fs words) (Refuses r)) →
    status ≡ 2 → HasLine err (refusal_line r) → Says words before after (over held held count count) err status
says_refused words before after held count err status r breaks told is line = record {
  known = inr (inl is);
  done = λ other. absurd (omega (arith, is, other));
  refused = λ _. (Keeps-refl held, (r, if_some_weaker before.files (λ fs. EndsOnly (Ends fs words) (Refuses r)) (λ fs. IsRefused fs words r) (λ fs ends. ends.0) told, line));
  words_refused = λ rule broken. (is, Keeps-refl held, subst (λ t. HasLine err (refusal_line t)) (answer_same r (Words rule) (breaks rule broken)) line);
  read_fault = λ other. absurd (omega (arith, is, other));
  write_fault = λ other. absurd (omega (arith, is, other));
  memory = λ other. absurd (omega (arith, is, other));
  due = if_some_weaker before.files (λ fs. EndsOnly (Ends fs words) (Refuses r)) _ (λ fs ends text due calm dry. absurd (not_due fs words r ends text due)) told;
  refusal = if_some_weaker before.files (λ fs. EndsOnly (Ends fs words) (Refuses r)) _
      (λ fs ends other refused calm. inl (is, subst (λ t. HasLine err (refusal_line t)) (sym (only_refusal fs words r ends other refused)) line)) told;
}

-- a fault with its cause, so the shelf is not calm
not_calm : (files : Files) (words : Texts) (before after : ShelfState) (name : List ℕ) → IsFaultOf files words before after name → Rose before.faults after.faults → IsCalm files words before after → ⊥
not_calm files words before after name fault rose (inl none) = none rose
not_calm files words before after name fault rose (inr calm) = let still = calm name fault.0 in still.1 (fault.1.own still.0).0

says_read_fault : (words : Texts) (before after : ShelfState) (held : Option (List ℕ)) (count : ℕ) (err : Port) (status : ℕ) (name : List ℕ) → IsWordsAnswer words (Err (e.ReadFault name)) → IfSome before.files (λ fs. IsFaultOf fs words before after name) →
    Rose before.faults after.faults → TellsFault err (e.ReadFault name) status → Says words before after (over held held count count) err status
says_read_fault words before after held count err status name breaks told rose tells = record {
  known = inr (inr (inl tells.0));
  done = λ other. absurd (omega (arith, tells.0, other));
  refused = λ other. absurd (omega (arith, tells.0, other));
  words_refused = λ rule broken. absurd (fault_apart name (Words rule) (breaks rule broken));
  read_fault = λ _. (rose, Keeps-refl held, (name, told, tells.1));
  write_fault = λ other. absurd (omega (arith, tells.0, other));
  memory = λ other. absurd (omega (arith, tells.0, other));
  due = if_some_weaker before.files (λ fs. IsFaultOf fs words before after name) _ (λ fs fault text due calm dry. absurd (not_calm fs words before after name fault rose calm)) told;
  refusal = if_some_weaker before.files (λ fs. IsFaultOf fs words before after name) _ (λ fs fault r refused calm. absurd (not_calm fs words before after name fault rose calm)) told;
}

says_memory : (words : Texts) (before after : ShelfState) (held : Option (List ℕ)) (count : ℕ) (err : Port) (status : ℕ) → IsWordsAnswer words (Err e.NoMemory) → TellsFault err e.NoMemory status → Says words before after (over held held count count) err status
says_memory words before after held count err status breaks tells = record {
  known = inr (inr (inr (inr tells.0)));
  done = λ other. absurd (omega (arith, tells.0, other));
  refused = λ other. absurd (omega (arith, tells.0, other));
  words_refused = λ rule broken. absurd (memory_apart (Words rule) (breaks rule broken));
  read_fault = λ other. absurd (omega (arith, tells.0, other));
  write_fault = λ other. absurd (omega (arith, tells.0, other));
  memory = λ _. (Keeps-refl held, tells.1);
  due = for_all before.files _ (λ fs text due calm dry. inr tells.0);
  refusal = for_all before.files _ (λ fs r refused calm. inr tells.0);
}

pub says_fault : (words : Texts) (before after : ShelfState) (held : Option (List ℕ)) (count : ℕ) (err : Port) (status : ℕ) (fault : LoadError) → IsWordsAnswer words (Err fault) → IfSome before.files (λ fs. AnswersWords fs words (Err fault)) →
    HasFaultCause {T = List ℕ} before after (Err fault) → TellsFault err fault status → Says words before after (over held held count count) err status
says_fault words before after held count err status (e.Refused r) breaks told cause tells = says_refused words before after held count err status r breaks told tells.0 tells.1
says_fault words before after held count err status (e.ReadFault name) breaks told cause tells =
    says_read_fault words before after held count err status name breaks (if_some_both before.files (λ fs. IsReached fs words name) (λ fs. IsBlamed before after fs name) told cause.blame) cause.fault tells
says_fault words before after held count err status e.NoMemory breaks told cause tells = says_memory words before after held count err status breaks tells

says_printed : (words : Texts) (before after : ShelfState) (out err : Port) (status : ℕ) (text : List ℕ) → IsWordsAnswer words (Ok text) → IfSome before.files (λ fs. EndsOnly (Ends fs words) (Done text)) → status ≡ 0 → Appends out.old out.new text →
    Keeps err.old err.new → Says words before after out err status
says_printed words before after out err status text breaks told is wrote kept = record {
  known = inl is;
  done = λ _. (if_some_weaker before.files (λ fs. EndsOnly (Ends fs words) (Done text)) (λ fs. (t : List ℕ) × IsDue fs words t × Appends out.old out.new t) (λ fs ends. (text, ends.0, wrote)) told, kept);
  refused = λ other. absurd (omega (arith, is, other));
  words_refused = λ rule broken. absurd (text_apart text (Words rule) (breaks rule broken));
  read_fault = λ other. absurd (omega (arith, is, other));
  write_fault = λ other. absurd (omega (arith, is, other));
  memory = λ other. absurd (omega (arith, is, other));
  due = for_all before.files _ (λ fs t due calm dry. inl is);
  refusal = if_some_weaker before.files (λ fs. EndsOnly (Ends fs words) (Done text)) _ (λ fs ends r refused calm. absurd (not_refused fs words text ends r refused)) told;
}

says_stopped : (words : Texts) (before after : ShelfState) (out err : Port) (status : ℕ) (text : List ℕ) → IsWordsAnswer words (Ok text) → IfSome before.files (λ fs. EndsOnly (Ends fs words) (Done text)) → status ≡ 4 → StopsWithin out text →
    HasLine err write_fault_line → Says words before after out err status
says_stopped words before after out err status text breaks told is stops line = record {
  known = inr (inr (inr (inl is)));
  done = λ other. absurd (omega (arith, is, other));
  refused = λ other. absurd (omega (arith, is, other));
  words_refused = λ rule broken. absurd (text_apart text (Words rule) (breaks rule broken));
  read_fault = λ other. absurd (omega (arith, is, other));
  write_fault = λ _. (stops.rose, if_some_weaker before.files (λ fs. EndsOnly (Ends fs words) (Done text)) (λ fs. (t : List ℕ) × IsDue fs words t × StopsWithin out t) (λ fs ends. (text, ends.0, stops)) told, line);
  memory = λ other. absurd (omega (arith, is, other));
  due = for_all before.files _ (λ fs t due calm dry. absurd (dry stops.rose));
  refusal = if_some_weaker before.files (λ fs. EndsOnly (Ends fs words) (Done text)) _ (λ fs ends r refused calm. absurd (not_refused fs words text ends r refused)) told;
}

pub says_text : (words : Texts) (before after : ShelfState) (out err : Port) (status : ℕ) (text : List ℕ) → IsWordsAnswer words (Ok text) → IfSome before.files (λ fs. EndsOnly (Ends fs words) (Done text)) → PrintsText out err text status →
    Says words before after out err status
says_text words before after out err status text breaks told (inl printed) = says_printed words before after out err status text breaks told printed.0 printed.1 printed.2
says_text words before after out err status text breaks told (inr stopped) = says_stopped words before after out err status text breaks told stopped.0 stopped.1 stopped.2

-- over a sure shelf that has each file that the words reach no read fault is told
pub no_read_fault : (words : Texts) (before after : ShelfState) (out err : Port) (status : ℕ) → IsSome before.files → IsTrue before.sure → IfSome before.files (λ fs. (name : List ℕ) → IsReached fs words name → IsSome (bytes_of fs name)) →
    SaysReadFault words before after out err status → status ≢ 3
no_read_fault words before after out err status tells sure there says three = at before.files tells there (says three).2.1
  where
    at : (files : Option Files) → IsSome files → IfSome files (λ fs. (name : List ℕ) → IsReached fs words name → IsSome (bytes_of fs name)) → IfSome files (λ fs. IsFaultOf fs words before after (says three).2.0) → ⊥
    at None tells there fault = absurd (false≢true tells)
    at (Some fs) tells there fault = (fault.1.own (there (says three).2.0 fault.0)).1 sure
