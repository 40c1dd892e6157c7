-- What a node keeps as it posts, takes and works.
use Rattle.std.proofs.Common.{◌≡◌, ℕ, ◌+◌, ◌<◌, ◌≤◌, true, List, [], ◌∷◌, ◌++◌, Some, length, get_or, set, slice_get, map, sym, ap, ◌∙◌, subst, inl, inr, arith}
use Rattle.std.proofs.lemmas.Option.{get_or_from_slice_get}
use Rattle.std.proofs.lemmas.List.{length-set, length_push, get_or-set_same, get_or-set_other}
use Rattle.std.proofs.lemmas.Bool.{cases_eq}
use Rattle.bern_base.specs.declared.limits.TheConstants.{MOST_SIDE}
use Rattle.bern_base.specs.declared.letter.Letter.{Letter}
use Rattle.rank_scripts.specs.Acts.{at_post}
use Rattle.rank_scripts.specs.Ranks.{put}
use Rattle.rank_scripts.specs.Scripts.{book, IsFrontOf, IsNextOf}
use Rattle.rank_scripts.specs.Nodes.{has_all, worked, posted, took, sent, NodeFit}
use Rattle.rank_scripts.specs.Nodes as scripted
use Rattle.rank_scripts.proofs.NodeLemmas.{posted_fit, took_fit, has_all-more}
use Rattle.rank_scripts.proofs.BookLemmas.{IsFrontOf-next}
use Rattle.job_model.specs.State.{read}
use Rattle.placement.specs.Placement.{owned_indices}
use Rattle.rank_model.specs.Products.{Run, part_values, scripts, send}
use Rattle.rank_node.specs.declared.stage.Stage.{Stage}
use Rattle.rank_node.specs.declared.stage.Tally.{Tally}
use Rattle.rank_node.specs.declared.node.Node.{Node}
use Rattle.rank_node.specs.declared.stage.Stage.TheVariants.{Values}
use Rattle.rank_node.specs.Letters.{asked_in}
use Rattle.rank_node.specs.Positions.{todo_of, passed_of, state_of, HasItsLetter, GoesTo, Posts}
use Rattle.rank_node.specs.Waits.{letters_from, HaveFronts}
use Rattle.rank_node.specs.NodeStates.{node_of, given_of, values_held, IsOfRun, IsTallied, IsNode}
use Rattle.rank_node.proofs.NodeLemmas.{node_at, posted_same, took_same, posted_tallied, post_small, letters_from-set}
use Rattle.rank_node.proofs.PositionLemmas.{asked_is}

-- a node with other letters, counts and another stage
abbrev pub moved : Node → List (List Letter) → List Tally → Stage → Node
moved n given tallies stage = record n { given = given; sent = tallies; stage = stage }

of_run_moved : (run : Run) (n : Node) (given : List (List Letter)) (tallies : List Tally) (stage : Stage) → IsOfRun run n → IsOfRun run (moved n given tallies stage)
of_run_moved run n given tallies stage is =
    record {
      run_is = is.run_is;
      rank = is.rank;
      ranks = is.ranks;
      some_block = is.some_block;
      place = is.place;
      target = is.target;
      source = is.source;
      entries = is.entries;
      arrays = is.arrays;
    }

pub posted_moved : (run : Run) (n : Node) (to values : ℕ) (next stop : Stage) → IsNode run n → (p : Posts run n.rank to n.stage next values) →
    GoesTo run n.rank (letters_from n.given) next stop → node_at run n.rank stop (given_of n) ≡ posted (scripts run) n.rank (node_of run n)
posted_moved run n to values next stop is p goes = posted_same run n.rank n.stage next stop (given_of n) to p.letter is.fit p.todo p.passed goes

pub posted_kept : (run : Run) (n : Node) (to values : ℕ) (next stop : Stage) (tally : Tally) (tallies : List Tally) → IsNode run n → to < run.ranks → Posts run n.rank to n.stage next values →
    slice_get n.sent to ≡ Some tally → tallies ≡ set n.sent to (record { letters = tally.letters + 1; values = tally.values + values }) →
    GoesTo run n.rank (letters_from n.given) next stop → IsNode run (moved n n.given tallies stop)
posted_kept run n to values next stop tally tallies is below p at new goes =
    let same = posted_moved run n to values next stop is p goes in
    let P : scripted.Node Letter → Type 0 = λ node. (q : ℕ) (d : Tally) → q < run.ranks → IsTallied (sent (scripts run) n.rank node q) (get_or tallies q d) in
    record {
      of_run = of_run_moved run n n.given tallies stop is.of_run;
      part = λ array whole. is.part array whole ∙ ap (λ state. part_values run state array n.rank) (sym (goes.state ∙ p.state));
      asked = λ e. is.asked (sym (goes.inspected ∙ p.inspected) ∙ e);
      summed = λ e. is.summed (sym (goes.summed ∙ p.summed) ∙ e);
      boxes = is.boxes;
      fronts = is.fronts;
      tallies = ap length new ∙ length-set n.sent to _ ∙ is.tallies;
      tallied = subst P (sym same) (posted_tallied run n.rank to (node_of run n) p.letter (todo_of run n.rank next) is.fit p.todo n.sent tallies tally values is.tallies below p.size is.tallied at new);
      letter = goes.letter;
      fit = subst (NodeFit (scripts run) n.rank) (sym same) (posted_fit (scripts run) n.rank (node_of run n) (ap at_post p.todo) is.fit);
    }

-- one more letter of a rank
pub fronts_more : (run : Run) (r from : ℕ) (given new : List (List Letter)) (letter : Letter) → HaveFronts run r given → length given ≡ run.ranks → from < run.ranks →
    IsNextOf (book (scripts run) from r) (letters_from given from) letter → new ≡ set given from (letters_from given from ++ letter ∷ []) → HaveFronts run r new
fronts_more run r from given new letter fronts long below next is q there =
    let more = letters_from given from ++ letter ∷ [] in
    elim (cases_eq q from) [
      | inl here ↦
          let now : letters_from new from ≡ more = ap (λ xs. get_or xs from []) is ∙ get_or-set_same given from more [] (rw long below) in
          let P : ℕ → Type 0 = λ k. IsFrontOf (letters_from new k) (book (scripts run) k r) in
          subst P (sym here) (rw now (IsFrontOf-next (letters_from given from) (book (scripts run) from r) letter (fronts from below) next))
      | inr other ↦
          let now : letters_from new q ≡ letters_from given q = ap (λ xs. get_or xs q []) is ∙ get_or-set_other given from q more [] other in
          rw now (fronts q there)
    ]

-- with more letters a rank has still passed what it has passed
pub requests_more : (run : Run) (n : Node) (from : ℕ) (new : List (List Letter)) (letter : Letter) → IsNode run n → from < run.ranks →
    new ≡ set n.given from (letters_from n.given from ++ letter ∷ []) → passed_of n.stage ≡ 1 → has_all (scripts run) n.rank (letters_from new) 0 ≡ true
requests_more run n from new letter is below new_is passed =
    has_all-more (scripts run) n.rank (given_of n) (letters_from new) 0
    (λ q. elim (cases_eq q from) [
      | inl here ↦
          let now : letters_from new from ≡ letters_from n.given from ++ letter ∷ [] = ap (λ xs. get_or xs from []) new_is ∙ get_or-set_same n.given from (letters_from n.given from ++ letter ∷ []) [] (rw is.boxes below) in
          let long = ap length now ∙ length_push (letters_from n.given from) letter in
          rw here (omega arith)
      | inr other ↦
          let now : letters_from new q ≡ letters_from n.given q = ap (λ xs. get_or xs q []) new_is ∙ get_or-set_other n.given from q (letters_from n.given from ++ letter ∷ []) [] other in
          rw now (omega arith)
    ])
    (is.fit.past 0 (omega arith))

given_more : (run : Run) (n : Node) (from : ℕ) (new : List (List Letter)) (letter : Letter) → IsNode run n → from < run.ranks →
    new ≡ set n.given from (letters_from n.given from ++ letter ∷ []) → letters_from new ≡ put (given_of n) from (given_of n from ++ letter ∷ [])
given_more run n from new letter is below new_is =
    ap letters_from new_is ∙ letters_from-set n.given from (letters_from n.given from ++ letter ∷ []) (rw is.boxes below)

pub took_moved : (run : Run) (n : Node) (from : ℕ) (new : List (List Letter)) (letter : Letter) (stop : Stage) → IsNode run n → from < run.ranks →
    new ≡ set n.given from (letters_from n.given from ++ letter ∷ []) → GoesTo run n.rank (letters_from new) n.stage stop →
    node_at run n.rank stop (letters_from new) ≡ took (scripts run) n.rank (node_of run n) from (letter ∷ [])
took_moved run n from new letter stop is below new_is goes =
    let more = given_more run n from new letter is below new_is in
    let P : (ℕ → List Letter) → Type 0 = λ given. GoesTo run n.rank given n.stage stop in
    ap (node_at run n.rank stop) more ∙ took_same run n.rank n.stage stop (given_of n) from (letter ∷ []) is.fit (subst P more goes)

pub took_kept : (run : Run) (n : Node) (from : ℕ) (new : List (List Letter)) (letter : Letter) (stop : Stage) → IsNode run n → from < run.ranks →
    IsNextOf (book (scripts run) from n.rank) (given_of n from) letter →
    new ≡ set n.given from (letters_from n.given from ++ letter ∷ []) → GoesTo run n.rank (letters_from new) n.stage stop → IsNode run (moved n new n.sent stop)
took_kept run n from new letter stop is below next new_is goes =
    let same = took_moved run n from new letter stop is below new_is goes in
    let P : scripted.Node Letter → Type 0 = λ node. (q : ℕ) (d : Tally) → q < run.ranks → IsTallied (sent (scripts run) n.rank node q) (get_or n.sent q d) in
    record {
      of_run = of_run_moved run n new n.sent stop is.of_run;
      part = λ array whole. is.part array whole ∙ ap (λ state. part_values run state array n.rank) (sym goes.state);
      asked = λ e. is.asked (sym goes.inspected ∙ e);
      summed = λ e. is.summed (sym goes.summed ∙ e);
      boxes = ap length new_is ∙ length-set n.given from _ ∙ is.boxes;
      fronts = fronts_more run n.rank from n.given new letter is.fronts is.boxes below next new_is;
      tallies = is.tallies;
      tallied = subst P (sym same) is.tallied;
      letter = goes.letter;
      fit = subst (NodeFit (scripts run) n.rank) (sym same) (took_fit (scripts run) n.rank (node_of run n) from (letter ∷ []) is.fit);
    }

-- the counts of a post fit
pub post_counts : (run : Run) (n : Node) (to values : ℕ) (next : Stage) (tally : Tally) → IsNode run n → to < run.ranks → Posts run n.rank to n.stage next values →
    slice_get n.sent to ≡ Some tally → (tally.letters + 1 ≤ 2) × (tally.values + values ≤ MOST_SIDE)
post_counts run n to values next tally is below p at =
    let P : Tally → Type 0 = λ t. IsTallied (sent (scripts run) n.rank (node_of run n) to) t in
    let tallied : IsTallied (sent (scripts run) n.rank (node_of run n) to) tally = subst P (get_or_from_slice_get n.sent to tally tally at) (is.tallied to tally below) in
    let small = post_small run n.rank to (node_of run n) p.letter (todo_of run n.rank next) is.fit p.todo is.of_run.run_is below tally tallied in
    let size = p.size in
    (small.0, let sum = small.1 in omega arith)

-- at the post of values a rank has the Request of the receiver
pub asked_at : (run : Run) (n : Node) (to : ℕ) → IsNode run n → n.stage ≡ Values to → asked_in (letters_from n.given to) ≡ send run n.rank to
asked_at run n to is at =
    let P : Stage → Type 0 = λ stage. HasItsLetter run n.rank stage in
    let has : HasItsLetter run n.rank (Values to) = subst P at is.letter in
    let passed : passed_of n.stage ≡ 1 = ap passed_of at in
    asked_is run n.rank to (letters_from n.given) is.of_run.rank has.0 has.1 (is.fit.past 0 (omega arith)) (is.fronts to has.0)

-- the same by the slices that code reads
pub asked_slice : (run : Run) (n : Node) (to : ℕ) (letters : List Letter) (slice : List ℕ) → IsNode run n → n.stage ≡ Values to → slice_get n.given to ≡ Some letters → slice ≡ asked_in letters →
    slice ≡ send run n.rank to
asked_slice run n to letters slice is at read reads =
    reads ∙ ap asked_in (sym (get_or_from_slice_get n.given to letters [] read)) ∙ asked_at run n to is at

pub source_inside : (run : Run) (n : Node) → IsNode run n → n.source < length n.values
source_inside run n is =
    let inside = is.of_run.run_is.source in
    let arrays = is.of_run.arrays in
    let same = is.of_run.source in
    omega arith

-- the rank's own values of D, while it has not applied its sums
pub own_source : (run : Run) (n : Node) (list slice : List ℕ) → IsNode run n → state_of run n.stage ≡ run.first → slice_get n.values n.source ≡ Some list → slice ≡ list →
    slice ≡ map (read run.first run.source) (owned_indices run.place n.rank)
own_source run n list slice is state read_is reads =
    reads ∙ sym (get_or_from_slice_get n.values n.source list [] read_is) ∙ ap (λ a. get_or n.values a []) is.of_run.source ∙ is.part run.source is.of_run.run_is.source_dense ∙
    ap (λ st. part_values run st run.source n.rank) state ∙ ap (map (read run.first run.source)) (is.of_run.run_is.source_held n.rank)

pub own_slice : (run : Run) (n : Node) (to : ℕ) (list slice : List ℕ) → IsNode run n → n.stage ≡ Values to → slice_get n.values n.source ≡ Some list → slice ≡ list →
    slice ≡ map (read run.first run.source) (owned_indices run.place n.rank)
own_slice run n to list slice is at read_is reads = own_source run n list slice is (ap (state_of run) at) read_is reads

pub held_source : (run : Run) (n : Node) → IsNode run n → state_of run n.stage ≡ run.first → values_held n run.source ≡ map (read run.first run.source) (owned_indices run.place n.rank)
held_source run n is state =
    is.part run.source is.of_run.run_is.source_dense ∙ ap (λ st. part_values run st run.source n.rank) state ∙ ap (map (read run.first run.source)) (is.of_run.run_is.source_held n.rank)
