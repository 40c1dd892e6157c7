-- A node, as the rank of a run that it is.
use Rattle.std.specs.Prelude.{◌≡◌, ℕ, ◌<◌, true, List, [], ◌∷◌, length, replicate, take, slice_index_or}
use Rattle.std.specs.List.{sum_by}
use Rattle.bern_base.specs.declared.letter.Letter.{Letter}
use Rattle.placement.specs.Cyclic.{cyclic_triples}
use Rattle.rank_scripts.specs.Acts.{posts_to, receiver}
use Rattle.rank_scripts.specs.Scripts.{Scripts, book, IsNextOf}
use Rattle.rank_scripts.specs.Nodes.{worked, posted, took, sent, NodeFit}
use Rattle.rank_scripts.specs.Nodes as scripted
use Rattle.rank_model.specs.Products.{IsRun, Run, answer_part, part_values, scripts}
use Rattle.turn_model.specs.Schedules.{values_in}
use Rattle.rank_node.specs.declared.stage.Tally.{Tally}
use Rattle.rank_node.specs.declared.node.Node.{Node}
use Rattle.rank_node.specs.Positions.{passed_of, todo_of, state_of, is_inspected, is_summed, HasItsLetter}
use Rattle.rank_node.specs.Waits.{letters_from, HaveAsks, HaveFronts}
use Rattle.rank_node.specs.Sums.{HaveGrown, inner_term}

-- the letters that a node has taken from a rank
abbrev pub given_of : Node → ℕ → List Letter
given_of n q = letters_from n.given q

-- its position, what it was given, and what it has still to post
abbrev pub node_of : Run → Node → scripted.Node Letter
node_of run n = record {
  passed = passed_of n.stage;
  todo = todo_of run n.rank n.stage;
  given = given_of n;
  rest = λ q. posts_to q (todo_of run n.rank n.stage);
}

-- the values that it holds of an array, by its own numbers of the elements
abbrev pub values_held : Node → ℕ → List ℕ
values_held n array = slice_index_or n.values array []

-- the rank, the place and the arrays of the node are those of the run
pub record IsOfRun (run : Run) (n : Node) : Type 0 where
  pub run_is : IsRun run
  pub rank : n.rank < run.ranks
  pub ranks : n.ranks ≡ run.ranks
  pub some_block : 0 < n.block
  pub place : run.place ≡ cyclic_triples n.extent n.ranks n.block
  pub target : n.target ≡ run.target
  pub source : n.source ≡ run.source
  pub entries : n.entries ≡ answer_part run n.rank
  pub arrays : length n.values ≡ length run.first

-- it holds its part of the state
abbrev pub HoldsItsPart : Run → Node → Type 0
HoldsItsPart run n =
    (array : ℕ) → run.dense array ≡ true → values_held n array ≡ part_values run (state_of run n.stage) array n.rank

-- sums, one for each element of T that the rank owns, over its inner points
abbrev pub HaveInnerSums : Run → Node → List ℕ → Type 0
HaveInnerSums run n sums =
    HaveGrown (inner_term run.place n.rank (values_held n run.source)) n.entries (replicate (length (run.held run.target n.rank)) 0) sums

-- it has counted what it posted to each rank
pub record IsTallied (posted : List Letter) (tally : Tally) : Type 0 where
  pub letters : tally.letters ≡ length posted
  pub values : tally.values ≡ sum_by values_in posted

pub record IsNode (run : Run) (n : Node) : Type 0 where
  pub of_run : IsOfRun run n
  pub part : HoldsItsPart run n
  pub asked : is_inspected n.stage ≡ true → HaveAsks run n.rank n.asks
  pub summed : is_summed n.stage ≡ true → HaveInnerSums run n n.sums
  pub boxes : length n.given ≡ run.ranks
  pub fronts : HaveFronts run n.rank n.given
  pub tallies : length n.sent ≡ run.ranks
  pub tallied : (q : ℕ) (d : Tally) → q < run.ranks →
      IsTallied (sent (scripts run) n.rank (node_of run n) q) (slice_index_or n.sent q d)
  pub letter : HasItsLetter run n.rank n.stage
  pub fit : NodeFit (scripts run) n.rank (node_of run n)

-- the node is the same rank of the run, which has moved on in its script
pub record HasMoved (run : Run) (old new : Node) (next : scripted.Node Letter) : Type 0 where
  pub node : IsNode run new
  pub rank : new.rank ≡ old.rank
  pub moved : node_of run new ≡ next

-- by its work, by its post, or by these letters of another rank
abbrev pub HasWorked : Run → Node → Node → Type 0
HasWorked run old new = HasMoved run old new (worked (scripts run) old.rank (node_of run old))

abbrev pub HasPosted : Run → Node → Node → Type 0
HasPosted run old new = HasMoved run old new (posted (scripts run) old.rank (node_of run old))

abbrev pub HasTaken : Run → ℕ → List Letter → Node → Node → Type 0
HasTaken run from letters old new = HasMoved run old new (took (scripts run) old.rank (node_of run old) from letters)

-- the letter is the first that a rank at a post has still to post to the receiver
abbrev pub IsFirstOfRest : Scripts Letter → ℕ → scripted.Node Letter → Letter → Type 0
IsFirstOfRest scripts r node letter = take 1 (node.rest (receiver node.todo)) ≡ letter ∷ []

-- it is the next of the receiver's book, after what was posted
abbrev pub IsNextToPost : Scripts Letter → ℕ → scripted.Node Letter → Letter → Type 0
IsNextToPost scripts r node letter = IsNextOf (book scripts r (receiver node.todo)) (sent scripts r node (receiver node.todo)) letter
