-- A node: how far its rank has come, and its part of the arrays.
use Rattle.std.specs.Prelude.{◌≡◌, ◌≢◌, ℕ, ◌<◌, List, [], ◌∷◌, take}
use Rattle.bern_base.specs.declared.letter.Letter.{Letter}
use Rattle.rank_scripts.specs.Scripts.{IsNextOf, book}
use Rattle.rank_scripts.specs.Nodes.{worked, posted, took}
use Rattle.rank_scripts.specs.Nodes as scripted
use Rattle.turn_model.specs.Runs.{Run, scripts}
use Rattle.turn_node.specs.declared.node.Node.{Node}
use Rattle.turn_node.specs.Parts.{At}
use Rattle.turn_node.specs.Positions.{Phase, phase_of, steps_left}
use Rattle.turn_node.specs.Progresses.{IsProgress, at, node_of}

-- the rank of the scripts that a node is
abbrev pub rank_in : {A : Type 0} → Run → Node A → scripted.Node Letter
rank_in run node = node_of run node.progress

-- it is a rank of the run, and its part of the arrays stands before its turn
pub record IsNode {A : Type 0} (stands : A → At → Phase → Type 0) (run : Run) (node : Node A) : Type 0 where
  pub progress : IsProgress run node.progress
  pub part : stands node.part (at run node.progress) (phase_of node.progress.stage)

-- it is the same rank of the run, which has moved on in its script
pub record Moves {A : Type 0} (stands : A → At → Phase → Type 0) (run : Run) (old new : Node A) (next : scripted.Node Letter) : Type 0 where
  pub node : IsNode stands run new
  pub rank : new.progress.rank ≡ old.progress.rank
  pub moved : rank_in run new ≡ next

-- by its work, by its post, or by these letters of another rank
abbrev pub HasWorked : {A : Type 0} → (A → At → Phase → Type 0) → Run → Node A → Node A → Type 0
HasWorked stands run old new = Moves stands run old new (worked (scripts run) old.progress.rank (rank_in run old))

abbrev pub HasPosted : {A : Type 0} → (A → At → Phase → Type 0) → Run → Node A → Node A → Type 0
HasPosted stands run old new = Moves stands run old new (posted (scripts run) old.progress.rank (rank_in run old))

abbrev pub HasTaken : {A : Type 0} → (A → At → Phase → Type 0) → Run → ℕ → List Letter → Node A → Node A → Type 0
HasTaken stands run from letters old new = Moves stands run old new (took (scripts run) old.progress.rank (rank_in run old) from letters)

-- the steps that its works may still take
abbrev pub allowance : {A : Type 0} → Run → Node A → ℕ
allowance run node = steps_left run node.progress.rank node.progress.stage

-- a node can take the oldest of these letters in flight from rank q: it is the next of the book
pub record CanTake {A : Type 0} (stands : A → At → Phase → Type 0) (run : Run) (q : ℕ) (letters : List Letter) (n : Node A) : Type 0 where
  pub node : IsNode stands run n
  pub from : q < run.ranks
  pub some : letters ≢ []
  pub next : (letter : Letter) → take 1 letters ≡ letter ∷ [] → IsNextOf (book (scripts run) q n.progress.rank) ((rank_in run n).given q) letter
