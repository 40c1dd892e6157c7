-- What the pass over the boundary points needs, and what it adds to the sums.
use Rattle.std.specs.Prelude.{◌≡◌, ℕ, List, Some, length, map, replicate, slice_get, slice_index}
use Rattle.std.specs.List.{All, AllZip}
use Rattle.bern_base.specs.Ring.{ring_add}
use Rattle.bern_base.specs.declared.job.ArrayDecl.{ArrayDecl}
use Rattle.bern_base.specs.declared.letter.NeedSet.{NeedSet}
use Rattle.format_model.specs.Grids.{SameBranches}
use Rattle.format_model.specs.Trees.{Tree}
use Rattle.job_model.specs.State.{State, read}
use Rattle.node_prog.specs.declared.record.Recorded.{Recorded}
use Rattle.pass_model.specs.Local.{IsOwn, local_element}
use Rattle.pass_model.specs.Sums.{body_sum, boundary_sum, home_points}
use Rattle.record_model.specs.Records.{Records}
use Rattle.split_exec.specs.declared.inbox.InSet.{InSet}
use Rattle.split_exec.specs.Passing.{AddsInterior, CanPass}
use Rattle.split_exec.specs.Settings.{Setting, ShowState}
use Rattle.term_model.specs.declared.plan.PlannedTerm.{PlannedTerm}
use Rattle.term_model.specs.Activity.{Entries, SparseHoldZeros}
use Rattle.term_model.specs.Terms.{terms_of}

-- a receive set came with a value for each of its elements
pub record IsFilled (set : NeedSet) (came : InSet) : Type 0 where
  pub array : came.array ≡ set.array
  pub elements : came.elements ≡ set.elements
  pub count : length came.values ≡ length set.elements

-- and these are those of a state
abbrev pub HoldsState : State → List InSet → Type 0
HoldsState state inbox = All (λ came. came.values ≡ map (read state came.array) came.elements) inbox

-- what the interior pass needs, and right records of the boundary points of its terms, for the receive sets that came; the views may have
-- other values now than those over which the records were made
pub record CanRecall
    (s : Setting) (rank : ℕ) (planned : List PlannedTerm) (recorded : List (List Recorded)) (inbox : List InSet) : Type 0 where
  pub pass : CanPass s rank planned
  pub sets : List NeedSet
  pub filled : AllZip IsFilled sets inbox
  pub seen : List Tree
  pub same : AllZip SameBranches seen s.trees
  pub records : Records s.job pass.entries s.places rank s.nest sets seen planned recorded

-- in the state that the views show and of which the inbox has values, the sum of each element of the target that the rank owns has grown
-- by what the boundary points add
abbrev pub AddsBoundary : Setting → ℕ → List PlannedTerm → List InSet → List ℕ → List ℕ → Type 0
AddsBoundary s rank planned inbox old new =
    (entries : Entries) (state : State) → ShowState s entries state rank → HoldsState state inbox →
    (array : ArrayDecl) → slice_get s.job.arrays s.nest.target.array ≡ Some array → (n : ℕ) → IsOwn s.places array rank n →
    slice_index new (local_element s.places array rank n)
    ≡ ring_add (slice_index old (local_element s.places array rank n))
    (boundary_sum s.job entries s.places state s.nest rank n (map (λ p. p.term) planned))

-- both passes were made over all terms of the nest, from sums of 0
pub record AreBothPasses
    (s : Setting) (rank : ℕ) (planned : List PlannedTerm) (inbox : List InSet) (count : ℕ) (between after : List ℕ) : Type 0 where
  pub all : map (λ p. p.term) planned ≡ terms_of s.job s.nest.body
  pub inner : AddsInterior s rank planned (replicate count 0) between
  pub outer : AddsBoundary s rank planned inbox between after

-- then the sum of each own element is what the body of the nest adds to it over all points at home at the rank
abbrev pub PassesLeaveTheBody : Type 0
PassesLeaveTheBody =
    (s : Setting) (rank : ℕ) (planned : List PlannedTerm) (inbox : List InSet) (count : ℕ) (between after : List ℕ)
    (entries : Entries) (state : State) → AreBothPasses s rank planned inbox count between after →
    ShowState s entries state rank → HoldsState state inbox → SparseHoldZeros s.job entries state →
    (array : ArrayDecl) → slice_get s.job.arrays s.nest.target.array ≡ Some array → (n : ℕ) → IsOwn s.places array rank n →
    slice_index after (local_element s.places array rank n) ≡ body_sum s.job state s.nest n (home_points s.job s.places s.nest rank)
