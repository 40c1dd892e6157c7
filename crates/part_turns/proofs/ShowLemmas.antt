-- Views that hold a rank's parts show the passes the state.
use Rattle.std.proofs.Common.{◌≡◌, ◌∙◌, ℕ, ◌+◌, ◌*◌, ◌<◌, true, false, List, Some, sym, ap, subst, arith}
use Rattle.std.specs.Prelude.{slice_get}
use Rattle.std.proofs.lemmas.Nat.{mul-add-lt}
use Rattle.bern_base.specs.Matrix.{element}
use Rattle.bern_base.specs.declared.job.ArrayDecl.{ArrayDecl}
use Rattle.bern_base.specs.declared.job.Checked.{Checked}
use Rattle.bern_base.specs.declared.job.FormatDecl.{FormatDecl}
use Rattle.format_model.specs.Elements.{path_of}
use Rattle.format_model.specs.Laws.{searched}
use Rattle.format_model.specs.Stored.{is_stored}
use Rattle.format_model.specs.Trees.{Tree}
use Rattle.job_model.specs.State.{State, read}
use Rattle.split_exec.proofs.RankLemmas.{same_array}
use Rattle.term_model.specs.Activity.{Entries, entries_of}
use Rattle.term_model.specs.Answers.{Places, owner_in}
use Rattle.view_laws.proofs.ViewLemmas.{views-have_the_values, views-of_parts-are_views}
use Rattle.part_turns.specs.HeldParts.{HeldPartsShowTheState, HoldsSparse, tree_at}

module _ (job : Checked) (entries : Entries) (state : State) (places : Places) (rank number : ℕ) (array : ArrayDecl) (format : FormatDecl) (t : Tree)
    (array_is : slice_get job.arrays number ≡ Some array) (format_is : slice_get job.formats array.format ≡ Some format)
    (h : HoldsSparse job entries state places rank number array t) where
  array_same : h.view.holds.array ≡ array
  array_same = same_array job.arrays number h.view.holds.array array h.view.holds.array_is array_is

  format_same : h.view.holds.format ≡ format
  format_same =
      let first : slice_get job.formats array.format ≡ Some h.view.holds.format =
      ap (λ (a : ArrayDecl). slice_get job.formats a.format) (sym array_same) ∙ h.view.holds.format_is in
      let both : Some h.view.holds.format ≡ Some format = sym first ∙ format_is in
      cc

  -- the leaf of a stored element that the rank owns has the element's value in the state
  pub leaf_value : (row col : ℕ) → row < array.rows → col < array.cols → owner_in places (Some array) (row * array.cols + col) ≡ rank →
      is_stored format.shape (entries_of entries number) row col ≡ true →
      searched t (path_of format.shape array.cols row col) ≡ Some (read state number (row * array.cols + col))
  leaf_value row col high low owner there =
      let Found : ArrayDecl → FormatDecl → Type 0 = λ a f.
      row < a.rows → col < a.cols → owner_in places (Some a) (row * a.cols + col) ≡ rank → is_stored f.shape (entries_of entries number) row col ≡ true →
      searched t (path_of f.shape a.cols row col) ≡ Some (element a.cols (entries_of entries number) (row * a.cols + col)) in
      let own : Found h.view.holds.array h.view.holds.format = views-have_the_values job entries places h.ranks rank number t h.view h.small row col in
      subst (Found array) format_same (subst (λ a. Found a h.view.holds.format) array_same own) high low owner there
      ∙ ap Some (sym (h.values (row * array.cols + col) (omega (arith, mul-add-lt row array.cols col array.rows high low))))

pub held-parts-show_the_state : HeldPartsShowTheState
held-parts-show_the_state job entries state places ranks rank shown nest held = record {
  parts = record {
    sparse = λ number array is sparse.
        let h = held.sparse number array is sparse in views-of_parts-are_views job entries places h.ranks rank number (tree_at shown number) h.view;
    whole = λ number array is whole. (held.dense number array is whole).there;
  };
  values = record {
    sparse = λ number array format is format_is sparse. leaf_value job entries state places rank number array format (tree_at shown number) is format_is (held.sparse number array is sparse);
    whole = λ number array is whole. (held.dense number array is whole).value;
  };
}
