-- The views of ranks' parts, of what arrays begin with.
use Rattle.std.specs.Prelude.{◌≡◌, ℕ, ◌+◌, ◌^◌, ◌<◌, ◌≤◌, nat_lt, if◌then◌else◌, List, Option, Some, length, map, slice_get}
use Rattle.std.specs.List.{All, AllZip, range_with_len}
use Rattle.bern_base.specs.declared.axes.Axis.{Axis}
use Rattle.bern_base.specs.declared.job.ArrayDecl.{ArrayDecl}
use Rattle.bern_base.specs.declared.job.Checked.{Checked}
use Rattle.bern_base.specs.declared.job.FormatDecl.{FormatDecl}
use Rattle.bern_base.specs.declared.limits.TheConstants.{MOST_WEIGHT}
use Rattle.bern_base.specs.declared.matrix.Matrix.{Matrix}
use Rattle.formats.specs.Admitted.{IsAdmitted}
use Rattle.formats.specs.AnyStores.{any_grid, any_tree}
use Rattle.formats.specs.Builds.{part_grid}
use Rattle.formats.specs.declared.any_store.AnyStore.{AnyStore}
use Rattle.format_model.specs.Grids.{Grid}
use Rattle.format_model.specs.Laws.{IsSide}
use Rattle.format_model.specs.Trees.{Describes, Tree}
use Rattle.job_files.specs.FileOrder.{HasRoom, IsArrayIn}
use Rattle.job_files.specs.RowOrders.{IsRowOrder}
use Rattle.job_files.specs.Weight.{weight_of}
use Rattle.job_model.specs.Accepted.{IsAccepted}
use Rattle.job_model.specs.State.{State}
use Rattle.local_views.specs.Views.{Cut, cut_of, view_grid, view_tree}
use Rattle.node_prog.specs.Conditions.{ArePlaced}
use Rattle.part_turns.specs.HeldParts.{AreHeldAt, Shown}
use Rattle.placement.specs.AnyPlaces.{any_ranks, any_triples, triples_at}
use Rattle.placement.specs.Part.{extent_on, part_of}
use Rattle.placement.specs.declared.any_place.AnyPlace.{AnyPlace}
use Rattle.placement.specs.declared.part.Part.{Part}
use Rattle.placement.specs.Placement.{Triple}
use Rattle.term_model.specs.Activity.{Entries}
use Rattle.view_laws.specs.PartViews.{triples_of, view_at}
use Rattle.whole_runs.specs.Engine.{IsFormed}

-- an accepted job, with the matrices and the orders of rows that its files passed with on so many ranks, and its places there
pub record CanDeal (job : Checked) (places : List AnyPlace) (ranks : ℕ) (matrices : List Matrix) (orders : List (List ℕ)) : Type 0 where
  pub accepted : IsAccepted job
  pub formed : IsFormed job
  pub sides : All (λ a. IsSide a.axis) job.arrays
  pub some : 1 ≤ ranks
  pub ranks_are : All (λ p. any_ranks p ≡ ranks) places
  pub placed : (rank : ℕ) → rank < ranks → ArePlaced job (map any_triples places) (map any_ranks places) rank
  pub light : weight_of job ranks ≤ MOST_WEIGHT
  pub room : All (HasRoom (weight_of job ranks)) matrices
  pub arrays : AllZip (IsArrayIn job.formats) job.arrays matrices
  pub rows : AllZip (IsRowOrder job.formats) job.arrays orders

-- the triples of an array's place, and the part of a rank
abbrev pub dealt_by : List AnyPlace → ArrayDecl → List Triple
dealt_by places array = triples_of (map any_triples places) array

abbrev pub part_at : List AnyPlace → ArrayDecl → ℕ → Matrix → Part
part_at places array rank m = part_of array.axis (dealt_by places array) rank m

abbrev pub cut_at : List AnyPlace → ArrayDecl → ℕ → Cut
cut_at places array rank = cut_of array.axis array.cols (dealt_by places array) rank

-- an array of this number whose parts can be built and viewed
pub record IsToDeal (job : Checked) (places : List AnyPlace) (ranks number : ℕ) (m : Matrix) (order : List ℕ) : Type 0 where
  pub array : ArrayDecl
  pub format : FormatDecl
  pub place : AnyPlace
  pub array_is : slice_get job.arrays number ≡ Some array
  pub format_is : slice_get job.formats array.format ≡ Some format
  pub place_is : slice_get places array.place ≡ Some place
  pub ranks_are : any_ranks place ≡ ranks
  pub extent : extent_on array.axis m.rows m.cols ≡ length (any_triples place)
  pub admitted : IsAdmitted array format ranks order m

-- the part of a rank of such an array, whose values fit 64 bits
pub record IsPartOf (job : Checked) (places : List AnyPlace) (ranks number rank : ℕ) (m : Matrix) (order : List ℕ) (part : Part) : Type 0 where
  pub deals : IsToDeal job places ranks number m order
  pub there : rank < ranks
  pub part_is : part ≡ part_at places deals.array rank m
  pub small : All (λ e. e.value < 2 ^ 64) m.entries

-- and those of all ranks
pub record ArePartsOf (job : Checked) (places : List AnyPlace) (ranks number : ℕ) (m : Matrix) (order : List ℕ) (parts : List Part) : Type 0 where
  pub deals : IsToDeal job places ranks number m order
  pub parts_are : parts ≡ map (λ rank. part_at places deals.array rank m) (range_with_len 0 ranks)
  pub small : All (λ e. e.value < 2 ^ 64) m.entries

-- the view of that part, by its tree and, where it is kept whole, its elements
pub record IsDealtView (job : Checked) (places : List AnyPlace) (ranks rank number : ℕ) (m : Matrix) (t : Tree) (g : Option Grid) : Type 0 where
  pub order : List ℕ
  pub deals : IsToDeal job places ranks number m order
  pub small : All (λ e. e.value < 2 ^ 64) m.entries
  pub store : AnyStore
  pub described : let part = part_at places deals.array rank m in Describes (any_tree store) deals.format.shape part.globals order part.matrix
  pub kept : any_grid store ≡ part_grid deals.format.shape (part_at places deals.array rank m).matrix
  pub tree : t ≡ view_at (map any_triples places) deals.array rank (any_tree store)
  pub seen : Cut
  pub grid : g ≡ view_grid seen (any_tree store).levels (any_grid store)

-- what the view of a store shows, where the array is split as a place says
abbrev pub seen_tree : AnyStore → Option AnyPlace → Axis → ℕ → ℕ → Tree
seen_tree store place side cols rank = view_tree (cut_of side cols (triples_at place) rank) (any_tree store)

abbrev pub seen_grid : AnyStore → Option AnyPlace → Axis → ℕ → ℕ → Option Grid
seen_grid store place side cols rank = view_grid (cut_of side cols (triples_at place) rank) (any_tree store).levels (any_grid store)

-- the view of a rank's part of the array of this number, of the matrix that the array begins with
abbrev pub IsDealtIn : Checked → List AnyPlace → ℕ → List Matrix → ℕ → ℕ → Tree → Option Grid → Type 0
IsDealtIn job places ranks matrices rank number t g = (m : Matrix) → slice_get matrices number ≡ Some m → IsDealtView job places ranks rank number m t g

abbrev pub IsViewIn : {V : Type 0} → (V → Tree) → (V → Option Grid) → Checked → List AnyPlace → ℕ → List Matrix → ℕ → ℕ → V → Type 0
IsViewIn tree grid job places ranks matrices rank number view = IsDealtIn job places ranks matrices rank number (tree view) (grid view)

-- so many views of a rank, by the numbers of their arrays
pub record IsRow {V : Type 0} (P : ℕ → V → Type 0) (count : ℕ) (row : List V) : Type 0 where
  pub long : length row ≡ count
  pub each : (number : ℕ) (view : V) → slice_get row number ≡ Some view → P number view

-- for each rank its views of the first arrays: those of one array more below this rank
pub record AreRows {V : Type 0} (rows : List (List V)) (P : ℕ → ℕ → V → Type 0) (ranks number upto : ℕ) : Type 0 where
  pub count : length rows ≡ ranks
  pub each : (rank : ℕ) (row : List V) → slice_get rows rank ≡ Some row → IsRow (P rank) (if nat_lt rank upto then number + 1 else number) row

-- what the views of a rank are
abbrev pub shown_by : {V : Type 0} → (V → Tree) → (V → Option Grid) → List V → Shown
shown_by tree grid views = record { trees = map tree views; grids = map grid views }

-- for each rank views that hold its parts of the arrays in a state
pub record AreHeldParts {V : Type 0} (tree : V → Tree) (grid : V → Option Grid) (job : Checked) (entries : Entries) (state : State) (places : List AnyPlace) (ranks : ℕ) (rows : List (List V)) : Type 0 where
  pub count : length rows ≡ ranks
  pub long : (rank : ℕ) (views : List V) → slice_get rows rank ≡ Some views → length views ≡ length job.arrays
  pub each : (rank : ℕ) (views : List V) → slice_get rows rank ≡ Some views →
      AreHeldAt job entries state (map any_triples places) (map any_ranks places) rank (shown_by tree grid views)
