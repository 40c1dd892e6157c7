-- The order of a job's files, from that of its uses: F7 without files stands before them.
use Rattle.std.proofs.Common.{◌≡◌, ℕ, ◌+◌, ◌<◌, ◌≤◌, Bool, true, false, nat_lt, if◌then◌else◌, List, length, Option, Some, None, Ok, Err, Contains, refl, sym, ap, ◌∙◌, subst, arith}
use Rattle.std.specs.List.{sum_by}
use Rattle.std.proofs.lemmas.Bool.{le-ltb, lt-ltb, ltb-false}
use Rattle.bern_base.specs.declared.job.Checked.{Checked}
use Rattle.bern_base.specs.declared.limits.TheConstants.{MOST_WEIGHT}
use Rattle.bern_base.specs.declared.matrix.Matrix.{Matrix}
use Rattle.bern_base.specs.declared.refusal.Refusal.TheVariants.{File}
use Rattle.bern_base.specs.declared.refusal.Rule.TheVariants.{F7}
use Rattle.bern_ports.specs.Files.{Files, bytes_of}
use Rattle.job_files.specs.Answers.{IsRefusalOf}
use Rattle.job_files.specs.FileOrder.{Loads, LoadsUses, Missing, Reaches, ReachesUse, Refused, Stop, stop_of_files, stop_of_uses}
use Rattle.job_files.specs.Uses.{entries_in, matrices_from, mentioned, uses_of}
use Rattle.job_files.specs.Weight.{weight_of}
use Rattle.job_files.specs.declared.load_error.LoadError.{LoadError}
use Rattle.job_files.specs.declared.load_error.LoadError.TheVariants as e
use Rattle.job_files.proofs.ArrayLemmas.{own_of_job}
use Rattle.job_files.proofs.TotalLemmas.{arrays_keep}
use Rattle.job_files.proofs.WeightLemmas.{reaches_all, reaches_missing}

-- which of two stops a test chooses
abbrev chosen : Bool → List ℕ → Option Stop → Option Stop
chosen heavy name stop = if heavy then Some (Refused (File name 0 F7)) else stop

-- the arrays weigh too much without files
too_heavy : (files : Files) (name : List ℕ) (ranks : ℕ) (job : Checked) → MOST_WEIGHT < weight_of job ranks → stop_of_files files name ranks job ≡ Some (Refused (File name 0 F7))
too_heavy files name ranks job heavy = ap (λ b. chosen b name (stop_of_uses files (weight_of job ranks) (uses_of ranks job))) (lt-ltb MOST_WEIGHT (weight_of job ranks) heavy)

within : (files : Files) (name : List ℕ) (ranks weight : ℕ) (job : Checked) → weight ≡ weight_of job ranks → weight ≤ MOST_WEIGHT → stop_of_files files name ranks job ≡ stop_of_uses files weight (uses_of ranks job)
within files name ranks weight job is light =
    ap (λ b. chosen b name (stop_of_uses files (weight_of job ranks) (uses_of ranks job))) (le-ltb MOST_WEIGHT (weight_of job ranks) (omega (arith, is, light)))
    ∙ ap (λ w. stop_of_uses files w (uses_of ranks job)) (sym is)

pub heavy_loads : (files : Files) (name : List ℕ) (ranks : ℕ) (job : Checked) (fault : LoadError) → MOST_WEIGHT < weight_of job ranks → IsRefusalOf (File name 0 F7) fault → Loads files name ranks job (Err fault)
heavy_loads files name ranks job (e.Refused r) heavy is = too_heavy files name ranks job heavy ∙ ap (λ t. Some (Refused t)) (sym is)
heavy_loads files name ranks job (e.ReadFault file) heavy is = absurd is
heavy_loads files name ranks job e.NoMemory heavy is = tt

pub fault_loads : (files : Files) (name : List ℕ) (ranks weight : ℕ) (job : Checked) (fault : LoadError) → weight ≡ weight_of job ranks → weight ≤ MOST_WEIGHT → LoadsUses files weight (uses_of ranks job) (Err fault) → Loads files name ranks job (Err fault)
fault_loads files name ranks weight job (e.Refused r) is light loads = within files name ranks weight job is light ∙ loads
fault_loads files name ranks weight job (e.ReadFault file) is light loads = record { light = omega (arith, is, light); reached = subst (λ w. ReachesUse files w (uses_of ranks job) file) is loads }
fault_loads files name ranks weight job e.NoMemory is light loads = tt

pub all_load : (files : Files) (name : List ℕ) (ranks weight : ℕ) (job : Checked) (loaded ms : List Matrix) → weight ≡ weight_of job ranks → weight ≤ MOST_WEIGHT → LoadsUses files weight (uses_of ranks job) (Ok loaded) →
    ms ≡ matrices_from (entries_in files) job.arrays → Loads files name ranks job (Ok ms)
all_load files name ranks weight job loaded ms is light loads are = (within files name ranks weight job is light ∙ loads.0, are)

-- what stops for want of a file reaches it
pub job_missing : (files : Files) (name : List ℕ) (ranks : ℕ) (job : Checked) (file : List ℕ) → stop_of_files files name ranks job ≡ Some (Missing file) → Reaches files ranks job file × (bytes_of files file ≡ None)
job_missing files name ranks job file stop = at (nat_lt MOST_WEIGHT (weight_of job ranks)) refl stop
  where
    at : (heavy : Bool) → nat_lt MOST_WEIGHT (weight_of job ranks) ≡ heavy → chosen heavy name (stop_of_uses files (weight_of job ranks) (uses_of ranks job)) ≡ Some (Missing file) →
        Reaches files ranks job file × (bytes_of files file ≡ None)
    at true is stop = absurd cc
    at false is stop =
        let reached = reaches_missing files (weight_of job ranks) (uses_of ranks job) file stop in
        (record { light = ltb-false MOST_WEIGHT (weight_of job ranks) is; reached = reached.0 }, reached.1)

-- where nothing stops, the arrays are light and their files do not stop it
fine_uses : (files : Files) (name : List ℕ) (ranks : ℕ) (job : Checked) → stop_of_files files name ranks job ≡ None → (weight_of job ranks ≤ MOST_WEIGHT) × (stop_of_uses files (weight_of job ranks) (uses_of ranks job) ≡ None)
fine_uses files name ranks job fine = at (nat_lt MOST_WEIGHT (weight_of job ranks)) refl fine
  where
    at : (heavy : Bool) → nat_lt MOST_WEIGHT (weight_of job ranks) ≡ heavy → chosen heavy name (stop_of_uses files (weight_of job ranks) (uses_of ranks job)) ≡ None →
        (weight_of job ranks ≤ MOST_WEIGHT) × (stop_of_uses files (weight_of job ranks) (uses_of ranks job) ≡ None)
    at true is fine = absurd cc
    at false is fine = (ltb-false MOST_WEIGHT (weight_of job ranks) is, fine)

pub job_reaches : (files : Files) (name : List ℕ) (ranks : ℕ) (job : Checked) (file : List ℕ) → stop_of_files files name ranks job ≡ None → Contains (mentioned (uses_of ranks job)) file → Reaches files ranks job file
job_reaches files name ranks job file fine there =
    let uses = fine_uses files name ranks job fine in
    record { light = uses.0; reached = reaches_all files (weight_of job ranks) (uses_of ranks job) file uses.1 there }

pub job_keeps : (files : Files) (name : List ℕ) (ranks : ℕ) (job : Checked) (ms : List Matrix) → Loads files name ranks job (Ok ms) → weight_of job ranks + sum_by (λ m. length m.entries) ms ≤ MOST_WEIGHT
job_keeps files name ranks job ms loads =
    let uses = fine_uses files name ranks job loads.0 in
    subst (λ matrices. weight_of job ranks + sum_by (λ m. length m.entries) matrices ≤ MOST_WEIGHT) (sym loads.1) (arrays_keep files (weight_of job ranks) job.formats job.arrays (uses_of ranks job) (own_of_job ranks job) uses.0 uses.1)
