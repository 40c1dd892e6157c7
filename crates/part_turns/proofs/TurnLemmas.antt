-- A turn at a rank: that it can be made, and what it leaves.
use Rattle.std.proofs.Common.{◌≡◌, ◌≢◌, ◌∙◌, ℕ, ◌+◌, ◌*◌, ◌<◌, ◌^◌, true, false, List, map, Option, Some, None, ⊎_elim, length, get_or, refl, sym, ap, subst, arith}
use Rattle.std.specs.Prelude.{slice_get, slice_index}
use Rattle.std.specs.List.{Contains}
use Rattle.std.proofs.lemmas.Bool.{cases_eq}
use Rattle.std.proofs.lemmas.List.Elements.{All-contains}
use Rattle.bern_base.specs.declared.job.ArrayDecl.{ArrayDecl}
use Rattle.bern_base.specs.declared.job.Checked.{Checked}
use Rattle.bern_base.specs.declared.job.Nest.{Nest}
use Rattle.format_model.specs.Grids.{Grid, HasElement, value_of_element}
use Rattle.job_model.specs.Accepted.{IsNestOf}
use Rattle.job_model.specs.Nests.{after_nest}
use Rattle.job_model.specs.Points.{points}
use Rattle.job_model.specs.Runnable.{is_dense}
use Rattle.job_model.specs.State.{State, read, values_in}
use Rattle.loop_query.proofs.ZeroLemmas.{nest_keeps}
use Rattle.nest_laws.specs.NestLaws.{LeavesSums}
use Rattle.nest_laws.proofs.NestLemmas.{nests-leave_sums}
use Rattle.pass_model.specs.Local.{IsOwn, local_element, own_size}
use Rattle.pass_model.specs.Sums.{applied, home_points, is_written}
use Rattle.split_exec.specs.Applying.{HasSize}
use Rattle.split_exec.proofs.RankLemmas.{extent_is, few, own_size_low, same_array}
use Rattle.term_model.specs.declared.plan.PlannedTerm.{PlannedTerm}
use Rattle.term_model.specs.Activity.{Entries}
use Rattle.term_model.specs.Answers.{Places}
use Rattle.term_model.specs.Terms.{terms_of}
use Rattle.whole_turns.specs.Turns.{IsPlannedNest}
use Rattle.whole_turns.proofs.TurnLemmas.{map_has}
use Rattle.part_turns.specs.HeldParts.{AreHeldAt, HoldsDense, HoldsSparse, Shown, grid_at, tree_at}
use Rattle.part_turns.specs.PartTurns.{AreTurnedAt, CanTurnAt, TurnsOfPartsAreHeld, TurnsOfPartsCanBeMade}
use Rattle.part_turns.proofs.HomeSums.{home_sums, home_writes}
use Rattle.part_turns.proofs.ShowLemmas.{held-parts-show_the_state}

-- ---- parts of one size

-- the element of a part is one of another part of the same size
there_too : (old new : Option Grid) (count place : ℕ) → HasSize old count → HasSize new count → HasElement old place → HasElement new place
there_too None new count place first second there = absurd first
there_too (Some g) None count place first second there = absurd second
there_too (Some g) (Some h) count place first second there = omega (arith, first, second, there)

-- ---- a turn

module _ (job : Checked) (entries : Entries) (state : State) (places : Places) (ranks : List ℕ) (rank : ℕ) (shown : Shown) (nest : Nest) (planned : List PlannedTerm)
    (h : AreHeldAt job entries state places ranks rank shown) (p : IsPlannedNest job nest planned) where
  abbrev t : ℕ
  t = nest.target.array

  of_job : IsNestOf job nest
  of_job = All-contains (IsNestOf job) job.nests nest h.at.accepted.nests p.nest_is

  abbrev array : ArrayDecl
  array = of_job.target.array

  array_is : slice_get job.arrays t ≡ Some array
  array_is = of_job.target.element.named

  held : HoldsDense state places rank t array (grid_at shown t)
  held = h.dense t array array_is of_job.target.whole

  size_same : (other : ArrayDecl) → slice_get job.arrays t ≡ Some other → own_size places array rank ≡ own_size places other rank
  size_same other is = ap (λ a. own_size places a rank) (same_array job.arrays t array other array_is is)

  narrow : own_size places array rank < 2 ^ 32
  narrow =
      let low = own_size_low places array rank (extent_is job places ranks rank h.at t array array_is) in
      let most = few job places ranks rank h.at t array array_is of_job.target.whole in
      omega (arith, low, most)

  term_there : (k : ℕ) (d : PlannedTerm) → k < length planned → Contains (terms_of job nest.body) (get_or planned k d).term
  term_there k d low = subst (λ ts. Contains ts (get_or planned k d).term) p.plans.terms (map_has (λ (q : PlannedTerm). q.term) planned k d low)

  can_turn : CanTurnAt job places ranks rank nest planned shown
  can_turn = record {
    pass = record {
      at = h.at;
      nest_is = p.nest_is;
      some = p.some;
      plans = λ k d low. record { accepted = h.at.accepted; nest_is = p.nest_is; term_is = term_there k d low; plan_is = p.plans.plans k d low };
      entries = entries;
      parts = (held-parts-show_the_state job entries state places ranks rank shown nest h).parts;
    };
    array = array;
    array_is = array_is;
    few = narrow;
    sums = λ other is. size_same other is;
    apply = record {
      at = h.at;
      nest_is = p.nest_is;
      count = λ other is. size_same other is;
      elements = λ other is. subst (HasSize (grid_at shown t)) (size_same other is) held.size;
    };
  }

  module _ (new : Shown) (turned : AreTurnedAt job state places rank nest shown new) where
    abbrev after : State
    after = after_nest job.arrays state nest

    leaves : LeavesSums job nest state after
    leaves = nests-leave_sums job nest state of_job h.kept

    new_size : HasSize (grid_at new t) (own_size places array rank)
    new_size = turned.size array array_is

    -- an element of the target has what the nest leaves in it
    value_is : (n : ℕ) → IsOwn places array rank n → value_of_element (grid_at new t) (local_element places array rank n) ≡ read after t n
    value_is n own =
        let k = local_element places array rank n in
        let wide = h.kept.sizes t array array_is in
        turned.applied.elements array array_is n own
        ∙ ap (λ b. applied nest.replace b (value_of_element (grid_at shown t) k) (slice_index turned.sums k)) (home_writes job places nest rank array array_is n own)
        ∙ ap (λ v. applied nest.replace (is_written job nest n (points nest)) v (slice_index turned.sums k)) (held.value n own)
        ∙ ap (λ v. applied nest.replace (is_written job nest n (points nest)) (read state t n) v)
        (turned.are array array_is n own ∙ home_sums job places nest rank array array_is n own state)
        ∙ sym (leaves.target n (omega (arith, wide, own.inside)))

    target_held : HoldsDense after places rank t array (grid_at new t)
    target_held = record {
      size = new_size;
      there = λ n own. there_too (grid_at shown t) (grid_at new t) (own_size places array rank) (local_element places array rank n) held.size new_size (held.there n own);
      value = value_is;
    }

    -- an array that is no target reads as before
    read_same : (number n : ℕ) → number ≢ t → read after number n ≡ read state number n
    read_same number n other = ap (λ values. slice_index values n) (leaves.others number other)

    dense_held : (number : ℕ) (a : ArrayDecl) → slice_get job.arrays number ≡ Some a → is_dense job.formats a ≡ true → HoldsDense after places rank number a (grid_at new number)
    dense_held number a is whole = ⊎_elim
        (λ (same : number ≡ t). subst (λ k. HoldsDense after places rank k a (grid_at new k)) (sym same)
        (subst (λ b. HoldsDense after places rank t b (grid_at new t)) (same_array job.arrays t array a array_is (subst (λ k. slice_get job.arrays k ≡ Some a) same is)) target_held))
        (λ (other : number ≢ t).
        let before = h.dense number a is whole in
        subst (HoldsDense after places rank number a) (sym (turned.grids number other))
        (record { size = before.size; there = before.there; value = λ n own. before.value n own ∙ sym (read_same number n other) }))
        (cases_eq number t)

    -- a sparse array is no target
    no_target : (number : ℕ) (a : ArrayDecl) → slice_get job.arrays number ≡ Some a → is_dense job.formats a ≡ false → number ≢ t
    no_target number a is sparse same =
        let alike : array ≡ a = same_array job.arrays t array a array_is (subst (λ k. slice_get job.arrays k ≡ Some a) same is) in
        let both : true ≡ false = sym of_job.target.whole ∙ ap (is_dense job.formats) alike ∙ sparse in
        cc

    sparse_held : (number : ℕ) (a : ArrayDecl) → slice_get job.arrays number ≡ Some a → is_dense job.formats a ≡ false →
        HoldsSparse job entries after places rank number a (tree_at new number)
    sparse_held number a is sparse =
        let other = no_target number a is sparse in
        let before = h.sparse number a is sparse in
        subst (HoldsSparse job entries after places rank number a) (sym (turned.trees number other))
        (record { ranks = before.ranks; view = before.view; small = before.small; values = λ n low. read_same number n other ∙ before.values n low })

    held_after : AreHeldAt job entries after places ranks rank new
    held_after = record {
      at = h.at;
      kept = leaves.state;
      zeros = nest_keeps job entries nest of_job state h.zeros;
      dense = dense_held;
      sparse = sparse_held;
    }

pub turns-of_parts-can_be_made : TurnsOfPartsCanBeMade
turns-of_parts-can_be_made job entries state places ranks rank shown nest planned h p = can_turn job entries state places ranks rank shown nest planned h p

pub turns-of_parts-are_held : TurnsOfPartsAreHeld
turns-of_parts-are_held job entries state places ranks rank old new nest planned h p turned = held_after job entries state places ranks rank old nest planned h p new turned
