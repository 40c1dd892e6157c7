-- Stores that hold a state show it to rank 0.
use Rattle.std.proofs.Common.{◌≡◌, ◌∙◌, ℕ, ◌+◌, ◌*◌, ◌<◌, ◌^◌, Bool, true, false, List, [], Option, Some, None, map, length, refl, sym, ap, subst, arith}
use Rattle.std.specs.Prelude.{slice_get, slice_index, slice_index_or}
use Rattle.bern_base.specs.Shapes.{is_all_dense}
use Rattle.bern_base.specs.declared.job.ArrayDecl.{ArrayDecl}
use Rattle.bern_base.specs.declared.job.Checked.{Checked}
use Rattle.bern_base.specs.declared.job.FormatDecl.{FormatDecl}
use Rattle.bern_base.specs.declared.job.Nest.{Nest}
use Rattle.format_model.specs.Elements.{path_of}
use Rattle.format_model.specs.Grids.{Grid, HasElement, value_of_element}
use Rattle.format_model.specs.Laws.{searched}
use Rattle.format_model.specs.Stored.{is_stored}
use Rattle.formats.specs.AnyStores.{any_grid, any_tree}
use Rattle.formats.specs.declared.any_store.AnyStore.{AnyStore}
use Rattle.job_model.specs.Runnable.{is_dense, is_dense_format}
use Rattle.job_model.specs.State.{State, read, values_in}
use Rattle.node_prog.proofs.HomeLemmas.{item}
use Rattle.pass_model.specs.Local.{IsOwn, local_element}
use Rattle.placement.specs.AnyPlaces.{any_triples}
use Rattle.placement.specs.declared.any_place.AnyPlace.{AnyPlace}
use Rattle.plan_courses.specs.JobCourses.{IsView}
use Rattle.split_exec.specs.Settings.{HaveParts, HaveValues, ShowState}
use Rattle.term_model.specs.Activity.{Entries, entries_of}
use Rattle.visits.specs.Ways.{no_tree}
use Rattle.whole_laws.specs.HeldArrays.{HoldsArray}
use Rattle.whole_laws.specs.HeldLaws.{HasCell}
use Rattle.whole_laws.proofs.HeldLemmas.{held-arrays-are_views, held-arrays-have_cells, held-arrays-have_the_values}
use Rattle.whole_turns.specs.Turns.{IsHeld, setting_of}
use Rattle.whole_turns.proofs.PlaceLemmas.{below, element_is, some_at, some_same}

module _ (job : Checked) (entries : Entries) (state : State) (places : List AnyPlace) (stores : List AnyStore) (h : IsHeld job entries state places stores) where
  -- the store of an array
  pub record StoreAt (number : ℕ) (array : ArrayDecl) : Type 0 where
    pub store : AnyStore
    pub at : slice_get stores number ≡ Some store
    pub holds : HoldsArray job entries number (values_in state number) (any_tree store) (any_grid store)
    pub array_same : holds.array ≡ array
    pub tree : slice_index_or (map any_tree stores) number no_tree ≡ any_tree store
    pub grid : slice_index_or (map any_grid stores) number None ≡ any_grid store

  pub store_at : (number : ℕ) (array : ArrayDecl) → slice_get job.arrays number ≡ Some array → StoreAt number array
  store_at number array is =
      let found = some_at stores number (omega (arith, h.holds.count, below job.arrays number array is)) in
      let holds = h.holds.each number found.0 found.1 in record {
        store = found.0;
        at = found.1;
        holds = holds;
        array_same = some_same (slice_get job.arrays number) holds.array array holds.array_is is;
        tree = item any_tree stores number found.0 no_tree found.1;
        grid = item any_grid stores number found.0 None found.1;
      }

  pub whole_is : (number : ℕ) (array : ArrayDecl) → (s : StoreAt number array) → is_dense job.formats array ≡ true → is_all_dense s.holds.format.shape ≡ true
  whole_is number array s whole = ap is_dense_format (sym s.holds.format_is) ∙ ap (is_dense job.formats) s.array_same ∙ whole

  -- an array that is kept whole has each element at its number
  pub cell : (number : ℕ) (array : ArrayDecl) → (s : StoreAt number array) → is_dense job.formats array ≡ true → (n : ℕ) → n < array.rows * array.cols → HasCell (any_grid s.store) (values_in state number) n
  cell number array s whole n low =
      held-arrays-have_cells job entries number (values_in state number) (any_tree s.store) (any_grid s.store) s.holds (whole_is number array s whole) n
      (subst (λ (a : ArrayDecl). n < a.rows * a.cols) (sym s.array_same) low)

  module _ (nest : Nest) where
    pub have_parts : HaveParts (setting_of job places nest stores) entries 0
    have_parts = record {
      sparse = λ number array is sparse.
          let s = store_at number array is in
          subst (IsView job entries (map any_triples places) 0 number) (sym s.tree)
          (held-arrays-are_views job entries number (values_in state number) (any_tree s.store) (any_grid s.store) s.holds (map any_triples places) 0);
      whole = λ number array is whole n own.
          let s = store_at number array is in
          subst (λ g. HasElement g (local_element (map any_triples places) array 0 n)) (sym s.grid)
          (subst (HasElement (any_grid s.store)) (sym (element_is job places h.accepted h.placed number array n is own.inside)) (cell number array s whole n own.inside).there);
    }

    have_values : HaveValues (setting_of job places nest stores) entries state 0
    have_values = record {
      sparse = λ number array format is format_is sparse row col high low owner there.
          let s = store_at number array is in
          let values : List ℕ = values_in state number in
          let Found : ArrayDecl → FormatDecl → Type 0 = λ a f.
          row < a.rows → col < a.cols → is_stored f.shape (entries_of entries number) row col ≡ true → searched (any_tree s.store) (path_of f.shape a.cols row col) ≡ Some (slice_index values (row * a.cols + col)) in
          let own : Found s.holds.array s.holds.format = held-arrays-have_the_values job entries number values (any_tree s.store) (any_grid s.store) s.holds row col in
          let same : s.holds.format ≡ format =
          some_same (slice_get job.formats array.format) s.holds.format format (ap (λ (a : ArrayDecl). slice_get job.formats a.format) (sym s.array_same) ∙ s.holds.format_is) format_is in
          ap (λ t. searched t (path_of format.shape array.cols row col)) s.tree
          ∙ subst (Found array) same (subst (λ a. Found a s.holds.format) s.array_same own) high low there;
      whole = λ number array is whole n own.
          let s = store_at number array is in
          ap (λ g. value_of_element g (local_element (map any_triples places) array 0 n)) s.grid
          ∙ ap (value_of_element (any_grid s.store)) (element_is job places h.accepted h.placed number array n is own.inside)
          ∙ (cell number array s whole n own.inside).value;
    }

    pub shows : ShowState (setting_of job places nest stores) entries state 0
    shows = record { parts = have_parts; values = have_values }
