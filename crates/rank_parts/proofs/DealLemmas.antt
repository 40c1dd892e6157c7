-- The arrays of a job whose parts can be dealt: that each part can be built and viewed.
use Rattle.std.proofs.Common.{◌≡◌, ℕ, zero, suc, ◌+◌, ◌^◌, ◌<◌, ◌≤◌, true, false, List, [], Option, Some, length, map, slice_get, refl, sym, ap, ◌∙◌, subst, arith, zero-add}
use Rattle.std.specs.Prelude.{slice_index_or}
use Rattle.std.specs.List.{All, range_with_len}
use Rattle.bern_base.specs.Shapes.{is_by_row}
use Rattle.bern_base.specs.declared.axes.Axis.{Axis}
use Rattle.bern_base.specs.declared.axes.Axis.TheVariants as axis
use Rattle.bern_base.specs.declared.job.ArrayDecl.{ArrayDecl}
use Rattle.bern_base.specs.declared.job.Checked.{Checked}
use Rattle.bern_base.specs.declared.job.FormatDecl.{FormatDecl}
use Rattle.bern_base.specs.declared.job.PlaceDecl.{PlaceDecl}
use Rattle.bern_base.specs.declared.matrix.Matrix.{Matrix}
use Rattle.format_model.specs.Laws.{IsSide}
use Rattle.format_model.specs.Grids.{Grid}
use Rattle.format_model.specs.Trees.{Describes, Tree}
use Rattle.format_model.specs.Weights.{shape_weight}
use Rattle.formats.specs.AnyStores.{any_grid, any_tree}
use Rattle.formats.specs.Builds.{CanBuild, part_grid}
use Rattle.formats.specs.declared.any_store.AnyStore.{AnyStore}
use Rattle.formats.proofs.AdmittedLemmas.{parts-can-be-built, parts-can-be-viewed}
use Rattle.local_views.specs.Views.{Cut, Fits, cut_of, view_grid, view_tree}
use Rattle.job_files.specs.FileOrder.{HasRoom, IsArrayIn}
use Rattle.job_files.specs.Weight.{array_weight, format_weight, weight_of}
use Rattle.job_model.specs.Accepted.{IsArrayOf, is_col, split_size}
use Rattle.node_prog.proofs.HomeLemmas.{item}
use Rattle.placement.specs.AnyPlaces.{any_is_placement, any_ranks, any_triples, triples_at}
use Rattle.placement.specs.Part.{extent_on, part_of}
use Rattle.placement.specs.Placement.{IsPlacement, Triple}
use Rattle.placement.specs.declared.part.Part.{Part}
use Rattle.placement.specs.declared.any_place.AnyPlace.{AnyPlace}
use Rattle.std.proofs.lemmas.List.{length-map}
use Rattle.std.proofs.lemmas.List.FromFn.{length-map-range_with_len}
use Rattle.whole_runs.specs.Engine.{CanRun}
use Rattle.whole_runs.proofs.ListLemmas.{some_same}
use Rattle.whole_runs.proofs.StoreLemmas.{for_array, one_of_sum, zip_get, zip_long}
use Rattle.whole_turns.proofs.PlaceLemmas.{all_at, below, some_at}
use Rattle.rank_parts.specs.Dealing.{ArePartsOf, CanDeal, IsDealtIn, IsDealtView, IsPartOf, IsToDeal, cut_at, dealt_by, part_at}

pub can_run : (job : Checked) (places : List AnyPlace) (ranks : ℕ) (ms : List Matrix) (orders : List (List ℕ)) → CanDeal job places ranks ms orders → CanRun job ms orders
can_run job places ranks ms orders can = record {
  accepted = can.accepted;
  formed = can.formed;
  ranks = ranks;
  some = can.some;
  light = can.light;
  arrays = can.arrays;
  rows = can.rows;
}

row_side : (a : Axis) → IsSide a → is_col a ≡ false → a ≡ axis.Row
row_side axis.Row side same = refl
row_side axis.Col side same = absurd cc
row_side axis.Both side same = absurd (side refl)

split_extent : (array : ArrayDecl) (m : Matrix) → IsSide array.axis → m.rows ≡ array.rows → m.cols ≡ array.cols → extent_on array.axis m.rows m.cols ≡ split_size array
split_extent array m side rows cols = ap (λ r. extent_on array.axis r m.cols) rows ∙ ap (λ c. extent_on array.axis array.rows c) cols ∙ by_axis array.axis side
  where
    by_axis : (a : Axis) → IsSide a → extent_on a array.rows array.cols ≡ split_size (record array { axis = a })
    by_axis axis.Row one = refl
    by_axis axis.Col one = refl
    by_axis axis.Both one = absurd (one refl)

-- the place of an array, and that it deals the axis along which the array is split
pub record HasPlace (job : Checked) (places : List AnyPlace) (ranks : ℕ) (array : ArrayDecl) : Type 0 where
  pub place : AnyPlace
  pub place_is : slice_get places array.place ≡ Some place
  pub ranks_are : any_ranks place ≡ ranks
  pub extent : length (any_triples place) ≡ split_size array

place_of : (job : Checked) (places : List AnyPlace) (ranks : ℕ) (ms : List Matrix) (orders : List (List ℕ)) (array : ArrayDecl) → CanDeal job places ranks ms orders → IsArrayOf job array → HasPlace job places ranks array
place_of job places ranks ms orders array can is =
    let placed = can.placed 0 can.some in
    let line : PlaceDecl = is.place.0 in
    let count : length places ≡ length job.places = sym (length-map places any_triples) ∙ placed.count in
    let place = some_at places array.place (omega (arith, count, below job.places array.place line is.place.1)) in record {
      place = place.0;
      place_is = place.1;
      ranks_are = all_at (λ p. any_ranks p ≡ ranks) places array.place place.0 can.ranks_are place.1;
      extent = ap length (sym (item any_triples places array.place place.0 [] place.1)) ∙ placed.extents array.place line is.place.2.0 is.place.1 is.place.2.1 ∙ is.place.2.2;
    }

pub to_deal : (job : Checked) (places : List AnyPlace) (ranks : ℕ) (ms : List Matrix) (orders : List (List ℕ)) (k : ℕ) (m : Matrix) (order : List ℕ) → CanDeal job places ranks ms orders →
    slice_get ms k ≡ Some m → slice_get orders k ≡ Some order → IsToDeal job places ranks k m order
to_deal job places ranks ms orders k m order can at there =
    let f = for_array job ms orders k m order (can_run job places ranks ms orders can) at there in
    let array : ArrayDecl = f.array in
    let format : FormatDecl = f.format in
    let is = all_at (IsArrayOf job) job.arrays k array can.accepted.arrays f.array_is in
    let own = zip_get (IsArrayIn job.formats) job.arrays ms k array m can.arrays f.array_is at in
    let side : IsSide array.axis = all_at (λ a. IsSide a.axis) job.arrays k array can.sides f.array_is in
    let place = place_of job places ranks ms orders array can is in
    let same : is.format.0 ≡ format = some_same (sym is.format.1 ∙ f.format_is) in
    let by_row : is_by_row format.shape ≡ true → is_col array.axis ≡ false = subst (λ (g : FormatDecl). is_by_row g.shape ≡ true → is_col array.axis ≡ false) same is.format.2.1 in
    let weight : shape_weight format.shape ranks array ≤ weight_of job ranks =
    subst (λ o. format_weight o ranks array ≤ weight_of job ranks) f.format_is (one_of_sum (array_weight job.formats ranks) job.arrays k array f.array_is) in
    let room : HasRoom (weight_of job ranks) m = all_at (HasRoom (weight_of job ranks)) ms k m can.room at in record {
      array = array;
      format = format;
      place = place.place;
      array_is = f.array_is;
      format_is = f.format_is;
      place_is = place.place_is;
      ranks_are = place.ranks_are;
      extent = split_extent array m side own.is.rows own.is.cols ∙ sym place.extent;
      admitted = record {
        rows = is.rows.1;
        cols = is.cols.1;
        side = side;
        levels = f.whole.levels;
        dims = f.whole.dims;
        by_row = λ yes. row_side array.axis side (by_row yes);
        flat = λ one. ((is.flat one).0, row_side array.axis side (is.flat one).1);
        matrix = f.whole.matrix;
        checked = f.whole.checked;
        listed = f.whole.listed;
        weight = omega (arith, weight, room);
      };
    }

-- the triples of an array that is to be dealt
module _ (job : Checked) (places : List AnyPlace) (ranks number : ℕ) (m : Matrix) (order : List ℕ) (deals : IsToDeal job places ranks number m order) where
  pub triples_are : dealt_by places deals.array ≡ any_triples deals.place
  triples_are = item any_triples places deals.array.place deals.place [] deals.place_is

  pub placed : IsPlacement ranks (dealt_by places deals.array)
  placed = subst (λ n. IsPlacement n (dealt_by places deals.array)) deals.ranks_are (subst (IsPlacement (any_ranks deals.place)) (sym triples_are) (any_is_placement deals.place))

  pub extent : extent_on deals.array.axis m.rows m.cols ≡ length (dealt_by places deals.array)
  extent = deals.extent ∙ ap length (sym triples_are)

  pub can_build : (rank : ℕ) → CanBuild deals.format.shape (part_at places deals.array rank m).globals order (part_at places deals.array rank m).matrix
  can_build rank = parts-can-be-built deals.array deals.format ranks order m (dealt_by places deals.array) rank deals.admitted placed extent

  pub can_view : (rank : ℕ) (store : AnyStore) → Describes (any_tree store) deals.format.shape (part_at places deals.array rank m).globals order (part_at places deals.array rank m).matrix →
      Fits (cut_at places deals.array rank) (any_tree store)
  can_view rank store described = parts-can-be-viewed deals.array deals.format ranks order m (dealt_by places deals.array) rank store deals.admitted placed extent described

-- the part of a rank, where the array and its format are those that the job has
module _ (job : Checked) (places : List AnyPlace) (ranks number rank : ℕ) (m : Matrix) (order : List ℕ) (part : Part) (is : IsPartOf job places ranks number rank m order part)
    (array : ArrayDecl) (format : FormatDecl) (array_is : slice_get job.arrays number ≡ Some array) (format_is : slice_get job.formats array.format ≡ Some format) where
  array_same : is.deals.array ≡ array
  array_same = some_same (sym is.deals.array_is ∙ array_is)

  format_same : is.deals.format ≡ format
  format_same = some_same (sym is.deals.format_is ∙ ap (λ (a : ArrayDecl). slice_get job.formats a.format) array_same ∙ format_is)

  pub build_needs : CanBuild format.shape part.globals order part.matrix
  build_needs =
      subst (λ (f : FormatDecl). CanBuild f.shape part.globals order part.matrix) format_same
      (subst (λ (p : Part). CanBuild is.deals.format.shape p.globals order p.matrix) (sym is.part_is) (can_build job places ranks number m order is.deals rank))

  pub place_there : array.place < length places
  place_there = subst (λ (a : ArrayDecl). a.place < length places) array_same (below places is.deals.array.place is.deals.place is.deals.place_is)

  module _ (ts : List Triple) (ts_are : ts ≡ triples_at (slice_get places array.place)) (store : AnyStore) (described : Describes (any_tree store) format.shape part.globals order part.matrix) where
    own_described : Describes (any_tree store) is.deals.format.shape (part_at places is.deals.array rank m).globals order (part_at places is.deals.array rank m).matrix
    own_described =
        subst (λ (p : Part). Describes (any_tree store) is.deals.format.shape p.globals order p.matrix) is.part_is
        (subst (λ (f : FormatDecl). Describes (any_tree store) f.shape part.globals order part.matrix) (sym format_same) described)

    ts_same : dealt_by places is.deals.array ≡ ts
    ts_same =
        triples_are job places ranks number m order is.deals ∙ ap triples_at (sym is.deals.place_is)
        ∙ ap (λ (a : ArrayDecl). triples_at (slice_get places a.place)) array_same ∙ sym ts_are

    pub view_needs : Fits (cut_of array.axis array.cols ts rank) (any_tree store)
    view_needs =
        subst (λ us. Fits (cut_of array.axis array.cols us rank) (any_tree store)) ts_same
        (subst (λ (a : ArrayDecl). Fits (cut_of a.axis a.cols (dealt_by places is.deals.array) rank) (any_tree store)) array_same
        (can_view job places ranks number m order is.deals rank store own_described))

    pub view_dealt : (t : Tree) (g : Option Grid) (seen : Cut) → any_grid store ≡ part_grid format.shape part.matrix → t ≡ view_tree (cut_of array.axis array.cols ts rank) (any_tree store) →
        g ≡ view_grid seen (any_tree store).levels (any_grid store) → IsDealtView job places ranks rank number m t g
    view_dealt t g seen kept tree grid = record {
      order = order;
      deals = is.deals;
      small = is.small;
      store = store;
      described = own_described;
      kept = kept ∙ ap (λ (f : FormatDecl). part_grid f.shape part.matrix) (sym format_same) ∙ ap (λ (p : Part). part_grid is.deals.format.shape p.matrix) is.part_is;
      tree = tree ∙ ap (λ us. view_tree (cut_of array.axis array.cols us rank) (any_tree store)) (sym ts_same)
          ∙ ap (λ (a : ArrayDecl). view_tree (cut_of a.axis a.cols (dealt_by places is.deals.array) rank) (any_tree store)) (sym array_same);
      seen = seen;
      grid = grid;
    }

-- ---- the parts of all ranks

range_at : {X : Type 0} (f : ℕ → X) (a n k : ℕ) (y : X) → slice_get (map f (range_with_len a n)) k ≡ Some y → y ≡ f (a + k)
range_at f a zero k y at = absurd cc
range_at f a (suc n) zero y at = let same : f a ≡ y = cc in sym same ∙ ap f (omega arith)
range_at f a (suc n) (suc k) y at = range_at f (a + 1) n k y at ∙ ap f (omega arith)

module _ (job : Checked) (places : List AnyPlace) (ranks number : ℕ) (m : Matrix) (order : List ℕ) (parts : List Part) (are : ArePartsOf job places ranks number m order parts) where
  pub parts_long : length parts ≡ ranks
  parts_long = ap length are.parts_are ∙ length-map-range_with_len (λ rank. part_at places are.deals.array rank m) 0 ranks

  pub part_there : (k : ℕ) (part : Part) → slice_get parts k ≡ Some part → IsPartOf job places ranks number k m order part
  part_there k part at = record {
    deals = are.deals;
    there = omega (arith, parts_long, below parts k part at);
    part_is = range_at (λ rank. part_at places are.deals.array rank m) 0 ranks k part (ap (λ ps. slice_get ps k) (sym are.parts_are) ∙ at)
        ∙ ap (λ j. part_at places are.deals.array j m) (zero-add k);
    small = are.small;
  }

pub dealt_in : (job : Checked) (places : List AnyPlace) (ranks rank number : ℕ) (ms : List Matrix) (m : Matrix) (t : Tree) (g : Option Grid) → slice_get ms number ≡ Some m → IsDealtView job places ranks rank number m t g →
    IsDealtIn job places ranks ms rank number t g
dealt_in job places ranks rank number ms m t g at dealt = λ other there. subst (λ k. IsDealtView job places ranks rank number k t g) (some_same (sym at ∙ there)) dealt

-- the triples of the place, as a list of parts is dealt by them
pub parts_are_of : (job : Checked) (places : List AnyPlace) (ranks number : ℕ) (m : Matrix) (order : List ℕ) (parts : List Part) (array : ArrayDecl) (place : AnyPlace) → (deals : IsToDeal job places ranks number m order) →
    slice_get job.arrays number ≡ Some array → slice_get places array.place ≡ Some place → parts ≡ map (λ p. part_of array.axis (any_triples place) p m) (range_with_len 0 ranks) → All (λ e. e.value < 2 ^ 64) m.entries →
    ArePartsOf job places ranks number m order parts
parts_are_of job places ranks number m order parts array place deals array_is place_is is small =
    let same : array ≡ deals.array = some_same (sym array_is ∙ deals.array_is) in
    let triples : any_triples place ≡ dealt_by places array = sym (item any_triples places array.place place [] place_is) in record {
      deals = deals;
      parts_are = is ∙ ap (λ ts. map (λ p. part_of array.axis ts p m) (range_with_len 0 ranks)) triples
          ∙ ap (λ (a : ArrayDecl). map (λ p. part_of a.axis (dealt_by places a) p m) (range_with_len 0 ranks)) same;
      small = small;
    }

-- what `deal` asks of the matrix and the place
pub deal_extent : (job : Checked) (places : List AnyPlace) (ranks number : ℕ) (m : Matrix) (order : List ℕ) (array : ArrayDecl) (place : AnyPlace) → (deals : IsToDeal job places ranks number m order) →
    slice_get job.arrays number ≡ Some array → slice_get places array.place ≡ Some place → (extent_on array.axis m.rows m.cols ≡ length (any_triples place)) × (any_ranks place ≡ ranks)
deal_extent job places ranks number m order array place deals array_is place_is =
    let same : deals.array ≡ array = some_same (sym deals.array_is ∙ array_is) in
    let own : deals.place ≡ place = some_same (sym deals.place_is ∙ ap (λ (a : ArrayDecl). slice_get places a.place) same ∙ place_is) in (
      ap (λ (a : ArrayDecl). extent_on a.axis m.rows m.cols) (sym same) ∙ deals.extent ∙ ap (λ p. length (any_triples p)) own,
      ap any_ranks (sym own) ∙ deals.ranks_are,
    )
