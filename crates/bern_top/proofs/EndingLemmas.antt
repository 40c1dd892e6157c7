-- Answers for a request, from those of what it does next.
use Rattle.std.proofs.Common.{◌≡◌, ℕ, List, MatchOption, Some, None, Option, Ok, Err, Result, refl, sym, ap, ◌∙◌, subst, inl, inr}
use Rattle.bern_base.specs.declared.job.Checked.{Checked}
use Rattle.bern_base.specs.declared.limits.TheConstants.{MOST_JOB_BYTES}
use Rattle.bern_base.specs.declared.matrix.Matrix.{Matrix}
use Rattle.bern_base.specs.declared.refusal.Refusal.{Refusal}
use Rattle.bern_base.specs.declared.refusal.Refusal.TheVariants.{File, Words}
use Rattle.bern_base.specs.declared.refusal.Rule.{Rule}
use Rattle.bern_base.specs.declared.refusal.Rule.TheVariants.{J1, U2}
use Rattle.bern_ports.specs.Files.{Files, bytes_of}
use Rattle.job_accept.proofs.AnswerLemmas.{one_bytes_answer}
use Rattle.job_accept.specs.Front.{AcceptsBytes, RefusesAt, RefusesBytes}
use Rattle.job_files.specs.Answers.{IsFaultAt, IsNoFault, IsRefusalOf, ReadsWhole}
use Rattle.job_files.specs.FileOrder.{Loads, Refused, Stop, stop_of_files}
use Rattle.job_files.specs.Uses.{entries_in, matrices_from, unplaced}
use Rattle.job_files.specs.declared.load_error.LoadError.{LoadError}
use Rattle.job_files.specs.declared.load_error.LoadError.TheVariants as e
use Rattle.job_plans.proofs.OnceLemmas.{least_once, least_there}
use Rattle.job_plans.specs.Least.{measured}
use Rattle.job_rules.specs.declared.job.CheckError.{CheckError}
use Rattle.job_rules.specs.declared.job.CheckError.TheVariants as c
use Rattle.job_runs.proofs.DueLemmas.{replay_due, run_due}
use Rattle.job_runs.specs.Texts.{replay_text, run_text, text_of_replay, text_of_run}
use Rattle.join_plan.specs.PlanText.{plan_text}
use Rattle.rank_product.proofs.ShapeLemmas.{shape_named}
use Rattle.rank_product.specs.Shapes.{IsProduct}
use Rattle.rank_product.specs.declared.shape.ProductShape.{ProductShape}
use Rattle.bern_top.specs.Answers.{Agrees, AnswersBytes, AnswersJob, AnswersRequest, AnswersWords, EndsOnly, IsJobRefusal, IsWordsRefusal}
use Rattle.bern_top.specs.Endings.{Absent, Done, Ending, Ends, IsNoProduct, IsReached, IsTextOfPlans, PlansFrom, ReachesFile, ReachesInBytes, ReachesInJob, Refuses, Replays, Runs, RunsBytes, RunsJob, ending_at, ending_of, replay_ending, run_ending}
use Rattle.bern_top.specs.Requests.{Asks, HasRequest, IsRequest, RefusesBy, RefusesWords, request}
use Rattle.bern_top.specs.declared.requests.Command.{Command}
use Rattle.bern_top.specs.declared.requests.Command.TheVariants.{Plan, Replay, Run}
use Rattle.bern_top.specs.declared.requests.Request.{Request}
use Rattle.bern_top.specs.declared.requests.WordsError.{WordsError}
use Rattle.bern_top.specs.declared.requests.WordsError.TheVariants as w
use Rattle.bern_top.proofs.RequestLemmas.{one_rule, request_fine, same_request}

-- where more names are reached
reaches_more : (run : Ending → Type 0) (reaches more : List ℕ → Type 0) (result : Result (List ℕ) LoadError) → ((n : List ℕ) → reaches n → more n) → Agrees run reaches result → Agrees run more result
reaches_more run reaches more (Ok text) wider agrees = agrees
reaches_more run reaches more (Err (e.Refused x)) wider agrees = agrees
reaches_more run reaches more (Err (e.ReadFault file)) wider agrees = wider file agrees
reaches_more run reaches more (Err e.NoMemory) wider agrees = agrees

-- what ends as another does
ends_as : (run other : Ending → Type 0) (ending : Ending) → ((x : Ending) → run x → other x) → ((x : Ending) → other x → run x) → EndsOnly run ending → EndsOnly other ending
ends_as run other ending to from ends = (to ending ends.0, λ x is. ends.1 x (from x is))

agrees_as : (run other : Ending → Type 0) (reaches : List ℕ → Type 0) (result : Result (List ℕ) LoadError) → ((x : Ending) → run x → other x) → ((x : Ending) → other x → run x) → Agrees run reaches result → Agrees other reaches result
agrees_as run other reaches (Ok text) to from agrees = ends_as run other (Done text) to from agrees
agrees_as run other reaches (Err (e.Refused x)) to from agrees = ends_as run other (Refuses x) to from agrees
agrees_as run other reaches (Err (e.ReadFault file)) to from agrees = agrees
agrees_as run other reaches (Err e.NoMemory) to from agrees = agrees

-- an ending that is known is the only one
known_end : (ending end : Ending) → ending ≡ end → EndsOnly (λ other. other ≡ ending) end
known_end ending end is = (sym is, λ other same. same ∙ is)

-- what is done after a file was looked for
abbrev after : Option (List ℕ) → List ℕ → (List ℕ → Ending → Type 0) → Ending → Type 0
after found name next ending = MatchOption found (ending ≡ Absent name) (λ bytes. next bytes ending)

-- the job file is there
pub file_there : (files : Files) (r : Request) (bytes : List ℕ) (result : Result (List ℕ) LoadError) → bytes_of files r.job ≡ Some bytes → AnswersBytes files r bytes result → AnswersRequest files r result
file_there files r bytes result there agrees =
    reaches_more (Runs files r) (ReachesInBytes files r bytes) (ReachesFile files r) result (λ n reaches. inr (bytes, there, reaches))
    (subst (λ o. Agrees (after o r.job (RunsBytes files r)) (ReachesInBytes files r bytes) result) (sym there) agrees)

-- a call on the job file failed
pub file_fault : (files : Files) (r : Request) (fault : LoadError) → IsFaultAt r.job fault → AnswersRequest files r (Err fault)
file_fault files r (e.Refused x) is = absurd is
file_fault files r (e.ReadFault file) is = inl is
file_fault files r e.NoMemory is = tt

-- a refusal is no fault
pub refusal_calm : (refusal : Refusal) (fault : LoadError) → IsRefusalOf refusal fault → IsNoFault {T = List ℕ} (Err fault)
refusal_calm refusal (e.Refused x) is = tt
refusal_calm refusal (e.ReadFault file) is = absurd is
refusal_calm refusal e.NoMemory is = tt

-- bytes that are refused
only_refused : (files : Files) (r : Request) (bytes : List ℕ) (line : ℕ) (rule : Rule) → RefusesAt bytes line rule → EndsOnly (RunsBytes files r bytes) (Refuses (File r.job line rule))
only_refused files r bytes line rule refused = (
  inr (line, rule, refused, refl),
  λ other. elim [
    | inl runs ↦ absurd ((one_bytes_answer bytes).apart runs.0 line rule runs.1 refused)
    | inr runs ↦
        runs.3
        ∙ ap (λ l. Refuses (File r.job l runs.1)) ((one_bytes_answer bytes).line runs.0 line runs.1 rule runs.2 refused)
        ∙ ap (λ k. Refuses (File r.job line k)) ((one_bytes_answer bytes).rule runs.0 line runs.1 rule runs.2 refused)
  ],
)

bytes_refused : (files : Files) (r : Request) (bytes : List ℕ) (line : ℕ) (rule : Rule) (fault : LoadError) → RefusesAt bytes line rule → IsRefusalOf (File r.job line rule) fault → AnswersBytes files r bytes (Err fault)
bytes_refused files r bytes line rule (e.Refused x) refused is = subst (λ t. EndsOnly (RunsBytes files r bytes) (Refuses t)) (sym is) (only_refused files r bytes line rule refused)
bytes_refused files r bytes line rule (e.ReadFault file) refused is = absurd is
bytes_refused files r bytes line rule e.NoMemory refused is = tt

pub no_job_in : (files : Files) (r : Request) (bytes : List ℕ) (refused : CheckError) (fault : LoadError) → RefusesBytes bytes refused → IsJobRefusal r.job refused fault → AnswersBytes files r bytes (Err fault)
no_job_in files r bytes (c.Refused line rule) fault refused is = bytes_refused files r bytes line rule fault refused is
no_job_in files r bytes c.NoMemory fault refused is = subst (λ f. AnswersBytes files r bytes (Err f)) (sym is) tt

-- a job file of too many bytes
pub file_too_long : (files : Files) (r : Request) (refused : CheckError) (fault : LoadError) → ReadsWhole files r.job MOST_JOB_BYTES (Ok None) → refused ≡ c.Refused 0 J1 → IsJobRefusal r.job refused fault → AnswersRequest files r (Err fault)
file_too_long files r refused fault long same is =
    file_there files r long.0 (Err fault) long.1 (no_job_in files r long.0 refused fault
    (subst (RefusesBytes long.0) (sym same) (inl (record { long = long.2; line_is = refl; rule_is = refl }))) is)

-- the refusal of a job is no fault
pub no_job_calm : (name : List ℕ) (refused : CheckError) (fault : LoadError) → IsJobRefusal name refused fault → IsNoFault {T = List ℕ} (Err fault)
no_job_calm name (c.Refused line rule) fault is = refusal_calm (File name line rule) fault is
no_job_calm name c.NoMemory fault is = subst (λ f. IsNoFault {T = List ℕ} (Err f)) (sym is) tt

-- bytes that are accepted
pub bytes_accepted : (files : Files) (r : Request) (bytes : List ℕ) (job : Checked) (result : Result (List ℕ) LoadError) → AcceptsBytes bytes job → AnswersJob files r job result → AnswersBytes files r bytes result
bytes_accepted files r bytes job result accepted agrees =
    reaches_more (RunsBytes files r bytes) (ReachesInJob files r job) (ReachesInBytes files r bytes) result (λ n reaches. (job, accepted, reaches))
    (agrees_as (RunsJob files r job) (RunsBytes files r bytes) (ReachesInJob files r job) result
    (λ x runs. inl (job, accepted, runs))
    (λ x. elim [
      | inl runs ↦ subst (λ j. RunsJob files r j x) ((one_bytes_answer bytes).job runs.0 job runs.1 accepted) runs.2
      | inr runs ↦ absurd ((one_bytes_answer bytes).apart job runs.0 runs.1 accepted runs.2)
    ])
    agrees)

-- a run of an accepted job, where its files stop it and where they do not
pub run_stopped : (files : Files) (name : List ℕ) (ranks : ℕ) (job : Checked) (fault : LoadError) → Loads files name ranks job (Err fault) → AnswersJob files (request name (Run ranks)) job (Err fault)
run_stopped files name ranks job (e.Refused x) loads = known_end (run_ending files name ranks job) (Refuses x) (ap (ending_of (run_text (entries_in files) job)) loads)
run_stopped files name ranks job (e.ReadFault file) loads = loads
run_stopped files name ranks job e.NoMemory loads = tt

pub run_done : (files : Files) (name : List ℕ) (ranks : ℕ) (job : Checked) (ms : List Matrix) (text : List ℕ) → Loads files name ranks job (Ok ms) → text ≡ text_of_run job ms →
    AnswersJob files (request name (Run ranks)) job (Ok text)
run_done files name ranks job ms text loads is =
    known_end (run_ending files name ranks job) (Done text) (ap (ending_of (run_text (entries_in files) job)) loads.0 ∙ ap (λ t. Done t) (sym (run_due (entries_in files) job ms text loads.1 is)))

-- the plans of an accepted job, where its files stop them and where they do not
pub plan_stopped : (files : Files) (name : List ℕ) (job : Checked) (fault : LoadError) → Loads files name 1 (unplaced job) (Err fault) → AnswersJob files (request name Plan) job (Err fault)
plan_stopped files name job (e.Refused x) loads = subst (λ stop. EndsOnly (PlansFrom stop files job) (Refuses x)) (sym loads) (known_end (ending_at (Refused x)) (Refuses x) refl)
plan_stopped files name job (e.ReadFault file) loads = loads
plan_stopped files name job e.NoMemory loads = tt

-- there is one text of the plans of least cost
one_text : (job : Checked) (ms : List Matrix) (a b : List ℕ) → IsTextOfPlans job ms a → IsTextOfPlans job ms b → a ≡ b
one_text job ms a b first second = first.2 ∙ ap (plan_text job) (least_once job (measured job ms) first.0 second.0 first.1 second.1) ∙ sym second.2

only_plans : (files : Files) (job : Checked) (text : List ℕ) → IsTextOfPlans job (matrices_from (entries_in files) job.arrays) text → EndsOnly (PlansFrom None files job) (Done text)
only_plans files job text is = (
  (text, is, refl),
  λ other ends. ends.2 ∙ ap (λ t. Done t) (one_text job (matrices_from (entries_in files) job.arrays) ends.0 text ends.1 is),
)

pub plan_done : (files : Files) (name : List ℕ) (job : Checked) (ms : List Matrix) (text : List ℕ) → Loads files name 1 (unplaced job) (Ok ms) → IsTextOfPlans job ms text → AnswersJob files (request name Plan) job (Ok text)
plan_done files name job ms text loads is =
    subst (λ stop. EndsOnly (PlansFrom stop files job) (Done text)) (sym loads.0) (only_plans files job text (subst (λ all. IsTextOfPlans job all text) loads.1 is))

-- where nothing stops it, a text of plans is due
plans_end : (files : Files) (job : Checked) (stop : Option Stop) → stop ≡ None → (text : List ℕ) × PlansFrom stop files job (Done text)
plans_end files job stop none =
    let ms : List Matrix = matrices_from (entries_in files) job.arrays in
    let (plans, least) = least_there job (measured job ms) in
    (plan_text job plans, subst (λ s. PlansFrom s files job (Done (plan_text job plans))) (sym none) (plan_text job plans, (plans, least, refl), refl))

pub plans_due : (files : Files) (words : List (List ℕ)) (name bytes : List ℕ) (job : Checked) → Asks words name Plan → bytes_of files name ≡ Some bytes → AcceptsBytes bytes job → stop_of_files files name 1 (unplaced job) ≡ None →
    (text : List ℕ) × Ends files words (Done text)
plans_due files words name bytes job asks there accepted none =
    let r : Request = request name Plan in
    let (text, ends) = plans_end files job (stop_of_files files name 1 (unplaced job)) none in
    (text, inr (r, asks, subst (λ o. after o name (RunsBytes files r) (Done text)) (sym there) (inl (job, accepted, ends))))

-- a job is one product at most
one_product : (job : Checked) (p q : ProductShape) → IsProduct job p → IsProduct job q → p ≡ q
one_product job p q first second = let same : Some p ≡ Some q = sym (shape_named job p first) ∙ shape_named job q second in cc

-- a replay of a job that is this product
replays_as : (files : Files) (name : List ℕ) (ranks : ℕ) (job : Checked) (product : ProductShape) → IsProduct job product → (x : Ending) → Replays files name ranks job x → x ≡ replay_ending files name ranks job product
replays_as files name ranks job product is x (inl runs) = runs.2 ∙ ap (λ p. replay_ending files name ranks job p) (one_product job runs.0 product runs.1 is)
replays_as files name ranks job product is x (inr runs) = absurd (runs.0 product is)

replay_end : (files : Files) (name : List ℕ) (ranks : ℕ) (job : Checked) (product : ProductShape) (end : Ending) → IsProduct job product → replay_ending files name ranks job product ≡ end → EndsOnly (Replays files name ranks job) end
replay_end files name ranks job product end is same =
    ends_as (λ x. x ≡ replay_ending files name ranks job product) (Replays files name ranks job) end (λ x known. inl (product, is, known)) (replays_as files name ranks job product is)
    (known_end (replay_ending files name ranks job product) end same)

pub replay_stopped : (files : Files) (name : List ℕ) (ranks seed : ℕ) (job : Checked) (product : ProductShape) (fault : LoadError) → IsProduct job product → Loads files name ranks job (Err fault) →
    AnswersJob files (request name (Replay ranks seed)) job (Err fault)
replay_stopped files name ranks seed job product (e.Refused x) is loads = replay_end files name ranks job product (Refuses x) is (ap (ending_of (replay_text (entries_in files) ranks job product)) loads)
replay_stopped files name ranks seed job product (e.ReadFault file) is loads = ((product, is), loads)
replay_stopped files name ranks seed job product e.NoMemory is loads = tt

pub replay_done : (files : Files) (name : List ℕ) (ranks seed : ℕ) (job : Checked) (product : ProductShape) (ms : List Matrix) (text : List ℕ) → IsProduct job product → Loads files name ranks job (Ok ms) →
    text ≡ text_of_replay ranks job product ms → AnswersJob files (request name (Replay ranks seed)) job (Ok text)
replay_done files name ranks seed job product ms text is loads text_is =
    replay_end files name ranks job product (Done text) is
    (ap (ending_of (replay_text (entries_in files) ranks job product)) loads.0 ∙ ap (λ t. Done t) (sym (replay_due (entries_in files) ranks job product ms text loads.1 text_is)))

-- another job is not replayed
pub not_replayed : (files : Files) (name : List ℕ) (ranks seed : ℕ) (job : Checked) (fault : LoadError) → IsNoProduct job → IsRefusalOf (File name 0 U2) fault → AnswersJob files (request name (Replay ranks seed)) job (Err fault)
not_replayed files name ranks seed job (e.Refused x) none is = (
  inr (none, ap (λ t. Refuses t) is),
  λ other. elim [
    | inl runs ↦ absurd (none runs.0 runs.1)
    | inr runs ↦ runs.1 ∙ ap (λ t. Refuses t) (sym is)
  ],
)
not_replayed files name ranks seed job (e.ReadFault file) none is = absurd is
not_replayed files name ranks seed job e.NoMemory none is = tt

-- the words of a request end as it does
words_as : (files : Files) (words : List (List ℕ)) (r : Request) → IsRequest words r → (x : Ending) → Ends files words x → Runs files r x
words_as files words r is x (inl broken) = absurd (request_fine words r broken.0 is broken.1)
words_as files words r is x (inr runs) = subst (λ s. Runs files s x) (same_request words runs.0 r runs.1 is) runs.2

with_command : (r : Request) (command : Command) → r.command ≡ command → request r.job command ≡ r
with_command r command is = ap (λ c. request r.job c) (sym is)

pub words_answered : (files : Files) (words : List (List ℕ)) (r : Request) (command : Command) (result : Result (List ℕ) LoadError) → IsRequest words r → r.command ≡ command → AnswersRequest files (request r.job command) result → AnswersWords files words result
words_answered files words r command result is same agrees =
    reaches_more (Ends files words) (ReachesFile files r) (IsReached files words) result (λ n reaches. (r, is, reaches))
    (agrees_as (Runs files r) (Ends files words) (ReachesFile files r) result (λ x runs. inr (r, is, runs)) (words_as files words r is)
    (subst (λ q. AnswersRequest files q result) (with_command r command same) agrees))

-- words that break a rule end with it
words_refused : (files : Files) (words : List (List ℕ)) (rule : Rule) → RefusesWords words rule → AnswersWords files words (Err (e.Refused (Words rule)))
words_refused files words rule broken = (
  inl (rule, broken, refl),
  λ other. elim [
    | inl breaks ↦ breaks.2 ∙ ap (λ k. Refuses (Words k)) (one_rule words breaks.0 rule breaks.1 broken)
    | inr runs ↦ absurd (request_fine words runs.0 rule runs.1 broken)
  ],
)

pub no_request_in : (files : Files) (words : List (List ℕ)) (refused : WordsError) (fault : LoadError) → RefusesBy (RefusesWords words) (HasRequest words) refused → IsWordsRefusal refused fault → AnswersWords files words (Err fault)
no_request_in files words (w.Refused rule) fault broken is = subst (λ f. AnswersWords files words (Err f)) (sym is) (words_refused files words rule broken)
no_request_in files words w.NoMemory fault has is = subst (λ f. AnswersWords files words (Err f)) (sym is) tt

-- and with no other answer, whatever is told
error_same : (a b : Rule) (fault : LoadError) → fault ≡ e.Refused (Words a) → a ≡ b → fault ≡ e.Refused (Words b)
error_same a b fault is same = is ∙ ap (λ k. e.Refused (Words k)) same

pub no_request_for : (words : List (List ℕ)) (refused : WordsError) (fault : LoadError) (rule : Rule) → RefusesBy (RefusesWords words) (HasRequest words) refused → IsWordsRefusal refused fault → RefusesWords words rule → fault ≡ e.Refused (Words rule)
no_request_for words (w.Refused first) fault rule broken is breaks = error_same first rule fault is (one_rule words first rule broken breaks)
no_request_for words w.NoMemory fault rule has is breaks = absurd (request_fine words has.0 rule has.1 breaks)

-- the refusal of words is no fault
pub no_request_calm : (refused : WordsError) (fault : LoadError) → IsWordsRefusal refused fault → IsNoFault {T = List ℕ} (Err fault)
no_request_calm (w.Refused rule) fault is = subst (λ f. IsNoFault {T = List ℕ} (Err f)) (sym is) tt
no_request_calm w.NoMemory fault is = subst (λ f. IsNoFault {T = List ℕ} (Err f)) (sym is) tt
