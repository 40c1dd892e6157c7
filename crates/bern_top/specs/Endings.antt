-- What a request ends with over told files, in the order in which it reads them: its text, the first refusal, or a file that is
-- not there; and the names that it reaches on the way.
use Rattle.std.specs.Prelude.{◌≡◌, ℕ, ◌⊎◌, List, MatchOption, Option, Some, None}
use Rattle.bern_base.specs.declared.job.Checked.{Checked}
use Rattle.bern_base.specs.declared.matrix.Matrix.{Matrix}
use Rattle.bern_base.specs.declared.refusal.Refusal.{Refusal}
use Rattle.bern_base.specs.declared.refusal.Refusal.TheVariants.{File, Words}
use Rattle.bern_base.specs.declared.refusal.Rule.{Rule}
use Rattle.bern_base.specs.declared.refusal.Rule.TheVariants.{U2}
use Rattle.bern_ports.specs.Files.{Files, bytes_of}
use Rattle.job_accept.specs.Front.{AcceptsBytes, RefusesAt}
use Rattle.job_files.specs.FileOrder.{Missing, Reaches, Refused, Stop, stop_of_files}
use Rattle.job_files.specs.Uses.{entries_in, matrices_from, unplaced}
use Rattle.job_plans.specs.Least.{AreLeast, measured}
use Rattle.job_runs.specs.Texts.{replay_text, run_text}
use Rattle.join_plan.specs.PlanText.{plan_text}
use Rattle.rank_product.specs.Shapes.{IsProduct}
use Rattle.rank_product.specs.declared.shape.ProductShape.{ProductShape}
use Rattle.term_model.specs.declared.plan.Plans.{Plans}
use Rattle.bern_top.specs.Requests.{IsRequest, RefusesWords}
use Rattle.bern_top.specs.declared.requests.Command.{Command}
use Rattle.bern_top.specs.declared.requests.Command.TheVariants.{Plan, Replay, Run}
use Rattle.bern_top.specs.declared.requests.Request.{Request}

pub data Ending : Type 0 where
  Done : (text : List ℕ) → Ending
  Refuses : (refusal : Refusal) → Ending
  Absent : (name : List ℕ) → Ending

-- how it ends where the loading of its files stops so
abbrev pub ending_at : Stop → Ending
ending_at (Refused refusal) = Refuses refusal
ending_at (Missing name) = Absent name

-- the files have a matrix for each array, and the text is due, or their loading stops
abbrev pub ending_of : List ℕ → Option Stop → Ending
ending_of text None = Done text
ending_of text (Some stop) = ending_at stop

abbrev pub files_ending : Files → List ℕ → ℕ → Checked → List ℕ → Ending
files_ending files name ranks job text = ending_of text (stop_of_files files name ranks job)

-- a run of an accepted job
abbrev pub run_ending : Files → List ℕ → ℕ → Checked → Ending
run_ending files name ranks job = files_ending files name ranks job (run_text (entries_in files) job)

-- a replay of an accepted job that is this product
abbrev pub replay_ending : Files → List ℕ → ℕ → Checked → ProductShape → Ending
replay_ending files name ranks job product = files_ending files name ranks job (replay_text (entries_in files) ranks job product)

abbrev pub IsNoProduct : Checked → Type 0
IsNoProduct job = (product : ProductShape) → IsProduct job product → ⊥

-- a replay is of a job of one product; any other job is not built yet, which is U2 at line 0
abbrev pub Replays : Files → List ℕ → ℕ → Checked → Ending → Type 0
Replays files name ranks job ending =
    ((product : ProductShape) × IsProduct job product × (ending ≡ replay_ending files name ranks job product))
    ⊎ (IsNoProduct job × (ending ≡ Refuses (File name 0 U2)))

-- the text of the plans of least cost, by what is measured of these matrices of the arrays
abbrev pub IsTextOfPlans : Checked → List Matrix → List ℕ → Type 0
IsTextOfPlans job ms text = (plans : Plans) × AreLeast job (measured job ms) plans × (text ≡ plan_text job plans)

-- where the loading of the files stops so, or does not stop: then that text is due
abbrev pub PlansFrom : Option Stop → Files → Checked → Ending → Type 0
PlansFrom None files job ending =
    (text : List ℕ) × IsTextOfPlans job (matrices_from (entries_in files) job.arrays) text × (ending ≡ Done text)
PlansFrom (Some stop) files job ending = ending ≡ ending_at stop

-- the plans of an accepted job, on one rank, where no place mentions a file
abbrev pub GivesPlans : Files → List ℕ → Checked → Ending → Type 0
GivesPlans files name job ending = PlansFrom (stop_of_files files name 1 (unplaced job)) files job ending

-- what a command over an accepted job of this name ends with
abbrev pub Does : Command → Files → List ℕ → Checked → Ending → Type 0
Does (Run ranks) files name job ending = ending ≡ run_ending files name ranks job
Does Plan files name job ending = GivesPlans files name job ending
Does (Replay ranks seed) files name job ending = Replays files name ranks job ending

-- what an accepted job ends with
abbrev pub RunsJob : Files → Request → Checked → Ending → Type 0
RunsJob files r job ending = Does r.command files r.job job ending

-- the bytes are an accepted job, or they are refused at their first broken rule
abbrev pub RunsBytes : Files → Request → List ℕ → Ending → Type 0
RunsBytes files r bytes ending =
    ((job : Checked) × AcceptsBytes bytes job × RunsJob files r job ending)
    ⊎ ((line : ℕ) × (rule : Rule) × RefusesAt bytes line rule × (ending ≡ Refuses (File r.job line rule)))

-- the request ends so: its job file is not there, or it runs its bytes
abbrev pub Runs : Files → Request → Ending → Type 0
Runs files r ending = MatchOption (bytes_of files r.job) (ending ≡ Absent r.job) (λ bytes. RunsBytes files r bytes ending)

-- words end so: they break a rule, or are a request that ends so
abbrev pub Ends : Files → List (List ℕ) → Ending → Type 0
Ends files words ending =
    ((rule : Rule) × RefusesWords words rule × (ending ≡ Refuses (Words rule))) ⊎ ((r : Request) × IsRequest words r × Runs files r ending)

-- the names that a command reaches once its job is accepted: those that the order of its files reaches; a replay loads them where
-- the job is one product
abbrev pub ReachesBy : Command → Files → Checked → List ℕ → Type 0
ReachesBy (Run ranks) files job name = Reaches files ranks job name
ReachesBy Plan files job name = Reaches files 1 (unplaced job) name
ReachesBy (Replay ranks seed) files job name = ((product : ProductShape) × IsProduct job product) × Reaches files ranks job name

abbrev pub ReachesInJob : Files → Request → Checked → List ℕ → Type 0
ReachesInJob files r job name = ReachesBy r.command files job name

abbrev pub ReachesInBytes : Files → Request → List ℕ → List ℕ → Type 0
ReachesInBytes files r bytes name = (job : Checked) × AcceptsBytes bytes job × ReachesInJob files r job name

-- the names that the request reaches: the job, and where it is accepted those of its files
abbrev pub ReachesFile : Files → Request → List ℕ → Type 0
ReachesFile files r name = (name ≡ r.job) ⊎ ((bytes : List ℕ) × (bytes_of files r.job ≡ Some bytes) × ReachesInBytes files r bytes name)

-- the names that words reach
abbrev pub IsReached : Files → List (List ℕ) → List ℕ → Type 0
IsReached files words name = (r : Request) × IsRequest words r × ReachesFile files r name
