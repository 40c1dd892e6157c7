-- What a node keeps as it works, and what it knows of its entries.
use Rattle.std.proofs.Common.{◌≡◌, ℕ, ◌<◌, true, false, cond, ◌==◌, ◌||◌, ◌&&◌, not, List, [], ◌∷◌, length, map, get_or, set, replicate, Some, slice_get, refl, sym, ap, ◌∙◌, subst, ◌⊎◌, inl, inr, arith}
use Rattle.std.proofs.lemmas.Option.{get_or_from_slice_get}
use Rattle.std.specs.List.{All, range_with_len}
use Rattle.std.proofs.Math.Nat.{zero-add}
use Rattle.std.proofs.lemmas.Bool.{eqb-true, cases_eq, false≢true, cond-true, cond-false}
use Rattle.std.proofs.lemmas.List.{length-map, length-set, get_or-set_same, get_or-set_other}
use Rattle.std.proofs.lemmas.List.Elements.{All-map, All-filter, All-same, filter_passes, filter_agree}
use Rattle.std.proofs.lemmas.List.FromFn.{get_or-map-range_with_len, length-map-range_with_len}
use Rattle.bern_base.specs.declared.axes.Axis.TheVariants.{Row}
use Rattle.bern_base.specs.declared.matrix.Entry.{Entry}
use Rattle.bern_base.specs.Matrix.{IsInside}
use Rattle.placement.specs.Placement.{Triple, owner_of, local_of, owned_indices, owned_of}
use Rattle.placement.specs.PlacementLaws.{local-below}
use Rattle.placement.specs.CyclicLaws.{length-cyclic}
use Rattle.placement.specs.Part.{localized}
use Rattle.placement.proofs.IndexLemmas.{length-owned_indices}
use Rattle.rank_scripts.specs.Acts.{Work, at_work, at_post, at_end, receiver}
use Rattle.rank_scripts.specs.Nodes.{worked, sent, NodeFit}
use Rattle.rank_scripts.specs.Nodes as scripted
use Rattle.rank_scripts.proofs.NodeLemmas.{worked_fit}
use Rattle.bern_base.specs.declared.letter.Letter.{Letter}
use Rattle.job_model.specs.State.{read}
use Rattle.rank_model.specs.Products.{IsRun, Run, answer, answer_part, end_state, end_value, is_home, is_received, part_values, reads, scripts}
use Rattle.rank_node.specs.declared.stage.Stage.{Stage}
use Rattle.rank_node.specs.declared.stage.Stage.TheVariants.{Inspect, Request, AwaitRequests, Values, Inner, AwaitValues, Outer, Done}
use Rattle.rank_node.specs.declared.stage.Tally.{Tally}
use Rattle.rank_node.specs.declared.node.Node.{Node}
use Rattle.rank_node.specs.Positions.{todo_of, passed_of, state_of, is_inspected, is_summed, HasItsLetter, GoesTo}
use Rattle.rank_node.specs.Waits.{letters_from, HaveAsks}
use Rattle.rank_node.specs.Sets.{asked_of, all_asked}
use Rattle.rank_node.specs.Sums.{HaveGrown, inner_term, outer_term}
use Rattle.rank_node.specs.NodeStates.{node_of, given_of, values_held, HasWorked, IsOfRun, IsTallied, IsNode}
use Rattle.rank_node.proofs.NodeLemmas.{node_at, worked_same}
use Rattle.rank_node.proofs.ListLemmas.{length-zeros}
use Rattle.rank_node.proofs.PositionLemmas.{post_request, post_values}

-- a node with other values, sets, sums and another stage
abbrev pub after_work : Node → List (List ℕ) → List (List ℕ) → List ℕ → Stage → Node
after_work n values asks sums stage = record n { values = values; asks = asks; sums = sums; stage = stage }

of_run_worked : (run : Run) (n : Node) (values asks : List (List ℕ)) (sums : List ℕ) (stage : Stage) → IsOfRun run n → length values ≡ length n.values → IsOfRun run (after_work n values asks sums stage)
of_run_worked run n values asks sums stage is long =
    record {
      run_is = is.run_is;
      rank = is.rank;
      ranks = is.ranks;
      some_block = is.some_block;
      place = is.place;
      target = is.target;
      source = is.source;
      entries = is.entries;
      arrays = long ∙ is.arrays;
    }

-- what a work leaves, where it leads from a stage to the next
pub record Leaves (run : Run) (n : Node) (values asks : List (List ℕ)) (sums : List ℕ) (next stop : Stage) : Type 0 where
  pub todo : todo_of run n.rank n.stage ≡ Work ∷ todo_of run n.rank next
  pub passed : passed_of next ≡ passed_of n.stage
  pub goes : GoesTo run n.rank (letters_from n.given) next stop
  pub long : length values ≡ length n.values
  pub part : (array : ℕ) → run.dense array ≡ true → get_or values array [] ≡ part_values run (state_of run stop) array n.rank
  pub asked : is_inspected stop ≡ true → HaveAsks run n.rank asks
  pub summed : is_summed stop ≡ true → HaveGrown (inner_term run.place n.rank (get_or values run.source [])) n.entries (replicate (length (run.held run.target n.rank)) 0) sums

pub worked_moved : (run : Run) (n : Node) (next stop : Stage) → IsNode run n → todo_of run n.rank n.stage ≡ Work ∷ todo_of run n.rank next → passed_of next ≡ passed_of n.stage →
    GoesTo run n.rank (letters_from n.given) next stop → node_at run n.rank stop (given_of n) ≡ worked (scripts run) n.rank (node_of run n)
worked_moved run n next stop is todo passed goes = worked_same run n.rank n.stage next stop (given_of n) is.fit todo passed goes

pub worked_kept : (run : Run) (n : Node) (values asks : List (List ℕ)) (sums : List ℕ) (next stop : Stage) → IsNode run n → Leaves run n values asks sums next stop → IsNode run (after_work n values asks sums stop)
worked_kept run n values asks sums next stop is leaves =
    let same = worked_moved run n next stop is leaves.todo leaves.passed leaves.goes in
    let P : scripted.Node Letter → Type 0 = λ node. (q : ℕ) (d : Tally) → q < run.ranks → IsTallied (sent (scripts run) n.rank node q) (get_or n.sent q d) in
    record {
      of_run = of_run_worked run n values asks sums stop is.of_run leaves.long;
      part = leaves.part;
      asked = leaves.asked;
      summed = leaves.summed;
      boxes = is.boxes;
      fronts = is.fronts;
      tallies = is.tallies;
      tallied = subst P (sym same) is.tallied;
      letter = leaves.goes.letter;
      fit = subst (NodeFit (scripts run) n.rank) (sym same) (worked_fit (scripts run) n.rank (node_of run n) (ap at_work leaves.todo) is.fit);
    }

pub work_moves : (run : Run) (n : Node) (values asks : List (List ℕ)) (sums : List ℕ) (next stop : Stage) → IsNode run n → Leaves run n values asks sums next stop → HasWorked run n (after_work n values asks sums stop)
work_moves run n values asks sums next stop is leaves = record {
  node = worked_kept run n values asks sums next stop is leaves;
  rank = refl;
  moved = worked_moved run n next stop is leaves.todo leaves.passed leaves.goes;
}

-- the stages at which a rank works
pub works_at : (run : Run) (r : ℕ) (stage : Stage) → HasItsLetter run r stage → at_work (todo_of run r stage) ≡ true → (stage ≡ Inspect) ⊎ ((stage ≡ Inner) ⊎ (stage ≡ Outer))
works_at run r Inspect has at = inl refl
works_at run r (Request to) has at = absurd (let todo = ap at_work (post_request run r to (Request to) refl has) in cc)
works_at run r AwaitRequests has at = absurd (cc)
works_at run r (Values to) has at = absurd (let todo = ap at_work (post_values run r to (Values to) refl has).todo in cc)
works_at run r Inner has at = inr (inl refl)
works_at run r AwaitValues has at = absurd (cc)
works_at run r Outer has at = inr (inr refl)
works_at run r Done has at = absurd (cc)

-- the extent of a node is that of its run
pub extent_is : (run : Run) (n : Node) → IsOfRun run n → n.extent ≡ length run.place
extent_is run n is = sym (ap length is.place ∙ length-cyclic n.extent n.ranks n.block)

-- the entries of a node lie in its part
home_entries : (run : Run) (r : ℕ) → IsRun run → All (λ e. (local_of run.place e.row < owned_of run.place r) × (e.col < length run.place)) (answer run r)
home_entries run r is = λ k d below.
    let e = get_or (answer run r) k d in
    let home : owner_of run.place e.row ≡ r = eqb-true (owner_of run.place e.row) r (filter_passes (is_home run r) run.entries k d below) in
    let inside : IsInside (length run.place) (length run.place) e = All-filter (is_home run r) (IsInside (length run.place) (length run.place)) run.entries is.inside k d below in
    (subst (λ q. local_of run.place e.row < owned_of run.place q) home (local-below is.placed e.row inside.0), inside.1)

pub entries_rows : (run : Run) (n : Node) → IsOfRun run n → All (λ e. e.row < owned_of run.place n.rank) n.entries
entries_rows run n is =
    All-same (λ e. e.row < owned_of run.place n.rank) n.entries (answer_part run n.rank) is.entries
    (All-map (λ e. e.row < owned_of run.place n.rank) (localized Row run.place) (answer run n.rank) (λ k d below. (home_entries run n.rank is.run_is k d below).0))

pub entries_cols : (run : Run) (n : Node) → IsOfRun run n → All (λ e. e.col < length run.place) n.entries
entries_cols run n is =
    All-same (λ e. e.col < length run.place) n.entries (answer_part run n.rank) is.entries
    (All-map (λ e. e.col < length run.place) (localized Row run.place) (answer run n.rank) (λ k d below. (home_entries run n.rank is.run_is k d below).1))

-- own numbers of the rows leave what entries read
reads_part : (place : List Triple) (es : List Entry) (w : ℕ) → reads (map (localized Row place) es) w ≡ reads es w
reads_part place [] w = refl
reads_part place (e ∷ es) w = ap (λ b. (e.col == w) || b) (reads_part place es w)

-- the sets that a node asks for are those that it receives
pub asks_are : (run : Run) (n : Node) (asks : List (List ℕ)) → IsOfRun run n → asks ≡ all_asked run.place n.entries (length run.place) n.rank run.ranks → HaveAsks run n.rank asks
asks_are run n asks is are =
    let r = n.rank in
    let f = asked_of run.place n.entries (length run.place) r in
    record {
      long = ap length are ∙ length-map-range_with_len f 0 run.ranks;
      each = λ q d below.
          let same : (w : ℕ) → is_received run.place n.entries r q w ≡ is_received run.place (answer run r) r q w =
          λ w. ap (λ b. b && (owner_of run.place w == q && not (q == r))) (ap (λ es. reads es w) is.entries ∙ reads_part run.place (answer run r) w) in
          ap (λ xs. get_or xs q d) are ∙ get_or-map-range_with_len f 0 run.ranks q q d below (zero-add q) ∙
          filter_agree (is_received run.place n.entries r q) (is_received run.place (answer run r) r q) same (range_with_len 0 (length run.place));
    }

-- the number of elements of T that a rank owns
pub target_count : (run : Run) (r : ℕ) → IsRun run → length (run.held run.target r) ≡ owned_of run.place r
target_count run r is = ap length (is.target_held r) ∙ length-owned_indices run.place r

-- an inspection
pub inspect_leaves : (run : Run) (n : Node) (asks : List (List ℕ)) (stop : Stage) → IsNode run n → n.stage ≡ Inspect → HaveAsks run n.rank asks → GoesTo run n.rank (letters_from n.given) (Request 0) stop →
    Leaves run n n.values asks n.sums (Request 0) stop
inspect_leaves run n asks stop is at asked goes =
    record {
      todo = ap (todo_of run n.rank) at;
      passed = sym (ap passed_of at);
      goes = goes;
      long = refl;
      part = λ array whole. is.part array whole ∙ ap (λ state. part_values run state array n.rank) (ap (state_of run) at ∙ sym goes.state);
      asked = λ e. asked;
      summed = λ e. absurd (false≢true (sym goes.summed ∙ e));
    }

-- the sums of the inner points
pub inner_leaves : (run : Run) (n : Node) (sums : List ℕ) (stop : Stage) → IsNode run n → n.stage ≡ Inner →
    HaveGrown (inner_term run.place n.rank (values_held n run.source)) n.entries (replicate (length (run.held run.target n.rank)) 0) sums → GoesTo run n.rank (letters_from n.given) AwaitValues stop →
    Leaves run n n.values n.asks sums AwaitValues stop
inner_leaves run n sums stop is at grown goes =
    record {
      todo = ap (todo_of run n.rank) at;
      passed = sym (ap passed_of at);
      goes = goes;
      long = refl;
      part = λ array whole. is.part array whole ∙ ap (λ state. part_values run state array n.rank) (ap (state_of run) at ∙ sym goes.state);
      asked = λ e. is.asked (ap is_inspected at);
      summed = λ e. grown;
    }

-- the end: T has its new values, and all else is as before
pub outer_leaves : (run : Run) (n : Node) (values : List ℕ) → IsNode run n → n.stage ≡ Outer → values ≡ part_values run (end_state run) run.target n.rank →
    Leaves run n (set n.values n.target values) n.asks n.sums Done Done
outer_leaves run n values is at are =
    let of_run = is.of_run in
    record {
      todo = ap (todo_of run n.rank) at;
      passed = sym (ap passed_of at);
      goes = record { position = refl; letter = tt; inspected = refl; summed = refl; state = refl };
      long = length-set n.values n.target values;
      part = λ array whole.
          elim (cases_eq array run.target) [
            | inl here ↦
                let inside : run.target < length n.values = rw of_run.arrays of_run.run_is.target in
                let P : ℕ → Type 0 = λ a. get_or (set n.values n.target values) a [] ≡ part_values run (end_state run) a n.rank in
                subst P (sym here) (ap (λ t. get_or (set n.values t values) run.target []) of_run.target ∙ get_or-set_same n.values run.target values [] inside ∙ are)
            | inr other ↦
                let kept : get_or (end_state run) array [] ≡ get_or run.first array [] = get_or-set_other run.first run.target array (map (end_value run) (range_with_len 0 (length run.place))) [] other in
                get_or-set_other n.values n.target array values [] (λ e. other (e ∙ of_run.target)) ∙ is.part array whole ∙
                ap (λ state. part_values run state array n.rank) (ap (state_of run) at) ∙
                ap (λ (xs : List ℕ). map (λ w. get_or xs w 0) (run.held array n.rank)) (sym kept)
          ];
      asked = λ e. is.asked (ap is_inspected at);
      summed = λ e. absurd (false≢true e);
    }

-- the same growth, by equal lists
pub inner_grown : (place place' : List Triple) (rank : ℕ) (own own' : List ℕ) (es es' : List Entry) (old old' new new' : List ℕ) → place ≡ place' → own ≡ own' → es ≡ es' → old ≡ old' → new' ≡ new →
    HaveGrown (inner_term place rank own) es old new → HaveGrown (inner_term place' rank own') es' old' new'
inner_grown place place' rank own own' es es' old old' new new' a b d e f grown =
    let A : List Triple → Type 0 = λ p. HaveGrown (inner_term p rank own) es old new in
    let B : List ℕ → Type 0 = λ o. HaveGrown (inner_term place' rank o) es old new in
    let D : List Entry → Type 0 = λ xs. HaveGrown (inner_term place' rank own') xs old new in
    let E : List ℕ → Type 0 = λ xs. HaveGrown (inner_term place' rank own') es' xs new in
    let F : List ℕ → Type 0 = λ xs. HaveGrown (inner_term place' rank own') es' old' xs in
    subst F (sym f) (subst E e (subst D d (subst B b (subst A a grown))))

pub outer_grown : (place place' : List Triple) (rank : ℕ) (known known' : List ℕ) (es es' : List Entry) (old old' new : List ℕ) → place ≡ place' → known ≡ known' → es ≡ es' → old ≡ old' →
    HaveGrown (outer_term place rank known) es old new → HaveGrown (outer_term place' rank known') es' old' new
outer_grown place place' rank known known' es es' old old' new a b d e grown =
    let A : List Triple → Type 0 = λ p. HaveGrown (outer_term p rank known) es old new in
    let B : List ℕ → Type 0 = λ o. HaveGrown (outer_term place' rank o) es old new in
    let D : List Entry → Type 0 = λ xs. HaveGrown (outer_term place' rank known') xs old new in
    let E : List ℕ → Type 0 = λ xs. HaveGrown (outer_term place' rank known') es' xs new in
    subst E e (subst D d (subst B b (subst A a grown)))

-- the rank's own values of T, before it has applied its sums
pub own_target : (run : Run) (n : Node) (list slice : List ℕ) → IsNode run n → state_of run n.stage ≡ run.first → slice_get n.values n.target ≡ Some list → slice ≡ list →
    slice ≡ map (read run.first run.target) (owned_indices run.place n.rank)
own_target run n list slice is state read_is reads =
    reads ∙ sym (get_or_from_slice_get n.values n.target list [] read_is) ∙ ap (λ a. get_or n.values a []) is.of_run.target ∙ is.part run.target is.of_run.run_is.target_dense ∙
    ap (λ st. part_values run st run.target n.rank) state ∙ ap (map (read run.first run.target)) (is.of_run.run_is.target_held n.rank)

pub target_inside : (run : Run) (n : Node) → IsNode run n → n.target < length n.values
target_inside run n is =
    let inside = is.of_run.run_is.target in
    let arrays = is.of_run.arrays in
    let same = is.of_run.target in
    omega arith

pub zeros_long : (n : ℕ) (zeros : List ℕ) → zeros ≡ replicate n 0 → length zeros ≡ n
zeros_long n zeros are = ap length are ∙ length-zeros n

-- as many sums as the rank owns elements of T
pub zeros_owned : (run : Run) (n : Node) (list zeros : List ℕ) (count : ℕ) → IsNode run n → state_of run n.stage ≡ run.first → slice_get n.values n.target ≡ Some list → count ≡ length list → zeros ≡ replicate count 0 →
    zeros ≡ replicate (owned_of run.place n.rank) 0
zeros_owned run n list zeros count is state at counted are =
    let own = own_target run n list list is state at refl in
    are ∙ ap (λ k. replicate k 0) (counted ∙ ap length own ∙ length-map (owned_indices run.place n.rank) (read run.first run.target) ∙ length-owned_indices run.place n.rank)

-- the sums of the inner points, once they are made
pub inner_kept : (run : Run) (n : Node) → IsNode run n → is_summed n.stage ≡ true → HaveGrown (inner_term run.place n.rank (values_held n run.source)) (answer_part run n.rank) (replicate (owned_of run.place n.rank) 0) n.sums
inner_kept run n is summed =
    inner_grown run.place run.place n.rank (values_held n run.source) (values_held n run.source) n.entries (answer_part run n.rank) _ _ n.sums n.sums refl refl is.of_run.entries
    (ap (λ k. replicate k 0) (target_count run n.rank is.of_run.run_is)) refl (is.summed summed)

pub inner_sums_long : (run : Run) (n : Node) → IsNode run n → is_summed n.stage ≡ true → length n.sums ≡ owned_of run.place n.rank
inner_sums_long run n is summed = (inner_kept run n is summed).long ∙ length-zeros (owned_of run.place n.rank)

-- the state of which a rank holds its part, by what it has still to do
pub state_is : (run : Run) (r : ℕ) (stage : Stage) → HasItsLetter run r stage → state_of run stage ≡ cond (at_end (todo_of run r stage)) (end_state run) run.first
state_is run r Inspect has = refl
state_is run r (Request to) has = let todo = ap at_end (post_request run r to (Request to) refl has) in rw todo refl
state_is run r AwaitRequests has = refl
state_is run r (Values to) has = let todo = ap at_end (post_values run r to (Values to) refl has).todo in rw todo refl
state_is run r Inner has = refl
state_is run r AwaitValues has = refl
state_is run r Outer has = refl
state_is run r Done has = refl

pub held_before : (run : Run) (n : Node) (array : ℕ) → IsNode run n → run.dense array ≡ true → at_end (todo_of run n.rank n.stage) ≡ false → values_held n array ≡ part_values run run.first array n.rank
held_before run n array is whole at =
    is.part array whole ∙ ap (λ state. part_values run state array n.rank) (state_is run n.rank n.stage is.letter ∙ cond-false _ (end_state run) run.first at)

pub held_at_end : (run : Run) (n : Node) (array : ℕ) → IsNode run n → run.dense array ≡ true → at_end (todo_of run n.rank n.stage) ≡ true → values_held n array ≡ part_values run (end_state run) array n.rank
held_at_end run n array is whole at =
    is.part array whole ∙ ap (λ state. part_values run state array n.rank) (state_is run n.rank n.stage is.letter ∙ cond-true _ (end_state run) run.first at)

-- the receiver of a post is another rank of the run
pub receiver_below : (run : Run) (r : ℕ) (stage : Stage) → HasItsLetter run r stage → at_post (todo_of run r stage) ≡ true → receiver (todo_of run r stage) < run.ranks
receiver_below run r Inspect has at = absurd (cc)
receiver_below run r (Request to) has at = let todo = ap receiver (post_request run r to (Request to) refl has) in rw todo has.0
receiver_below run r AwaitRequests has at = absurd (cc)
receiver_below run r (Values to) has at = let todo = ap receiver (post_values run r to (Values to) refl has).todo in rw todo has.0
receiver_below run r Inner has at = absurd (cc)
receiver_below run r AwaitValues has at = absurd (cc)
receiver_below run r Outer has at = absurd (cc)
receiver_below run r Done has at = absurd (cc)
