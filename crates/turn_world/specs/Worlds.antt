-- A world of nodes, as the world of the ranks of a run that it is.
use Rattle.std.specs.Prelude.{◌≡◌, ℕ, ◌<◌, Bool, true, false, List, [], ◌∷◌, ◌++◌, Option, Some, None, length, map, filter, take, slice_get, slice_index_or, slice_set}
use Rattle.std.specs.List.{All, range_with_len, flat_map, sum_by}
use Rattle.bern_base.specs.declared.letter.Letter.{Letter}
use Rattle.rank_scripts.specs.Acts.{at_end, receiver}
use Rattle.rank_scripts.specs.Nodes.{fresh}
use Rattle.rank_scripts.specs.Nodes as scripted
use Rattle.rank_scripts.specs.Worlds.{Works, Posts, Takes, Fit, can}
use Rattle.rank_scripts.specs.Worlds as worlds
use Rattle.turn_model.specs.Runs.{IsRun, Run, scripts, turns_of}
use Rattle.turn_node.specs.declared.node.Node.{Node}
use Rattle.turn_node.specs.declared.stage.Want.{Want}
use Rattle.turn_node.specs.declared.stage.Want.TheVariants as want
use Rattle.turn_node.specs.NodeStates.{allowance, rank_in, IsNode}
use Rattle.turn_node.specs.Parts.{At}
use Rattle.turn_node.specs.Positions.{New, Phase, Ready}
use Rattle.turn_world.specs.declared.event.Event.{Event}
use Rattle.turn_world.specs.declared.world.World.{World}
use Rattle.turn_world.specs.declared.event.Event.TheVariants.{Work, Post, Take}

-- an event of the scripts
abbrev pub event_of : Event → worlds.Event
event_of (Work rank) = Works rank
event_of (Post rank) = Posts rank
event_of (Take rank from) = Takes rank from

-- the rank that a node is; one that is not there stands at its start
abbrev pub node_or : {A : Type 0} → Run → ℕ → Option (Node A) → scripted.Node Letter
node_or run r None = fresh (scripts run) r
node_or run r (Some n) = rank_in run n

abbrev pub node_in : {A : Type 0} → Run → List (Node A) → ℕ → scripted.Node Letter
node_in run nodes r = node_or run r (slice_get nodes r)

-- the letters in flight, by sender and receiver
abbrev pub flight_in : List (List (List Letter)) → ℕ → ℕ → List Letter
flight_in boxes p q = slice_index_or (slice_index_or boxes p []) q []

abbrev pub world_in : {A : Type 0} → Run → List (Node A) → List (List (List Letter)) → worlds.World Letter
world_in run nodes boxes = record { node = node_in run nodes; flight = flight_in boxes }

-- node r is rank r of the run
pub record IsRank {A : Type 0} (stands : A → At → Phase → Type 0) (run : Run) (r : ℕ) (n : Node A) : Type 0 where
  pub rank : n.progress.rank ≡ r
  pub node : IsNode stands run n

-- one node for each rank, one box for each pair, and all fit
pub record IsFit {A : Type 0} (stands : A → At → Phase → Type 0) (run : Run) (nodes : List (Node A)) (boxes : List (List (List Letter))) : Type 0 where
  pub run_is : IsRun run
  pub count : length nodes ≡ run.ranks
  pub nodes_are : (r : ℕ) (n : Node A) → slice_get nodes r ≡ Some n → IsRank stands run r n
  pub rows : length boxes ≡ run.ranks
  pub row : All (λ row. length row ≡ run.ranks) boxes
  pub fit : Fit (scripts run) (world_in run nodes boxes)

-- the world of the machine that a world is, and what each call needs of it and keeps
abbrev pub world_of : {A : Type 0} → Run → World A → worlds.World Letter
world_of run w = world_in run w.nodes w.boxes

abbrev pub IsWorld : {A : Type 0} → (A → At → Phase → Type 0) → Run → World A → Type 0
IsWorld stands run w = IsFit stands run w.nodes w.boxes

-- the steps that the works of all nodes may still take
abbrev pub steps_left : {A : Type 0} → Run → List (Node A) → ℕ
steps_left run nodes = sum_by (allowance run) nodes

-- an event that happened: the world is fit still, and has gone on as the machine does
pub record Happened {A : Type 0} (stands : A → At → Phase → Type 0) (run : Run) (nodes : List (Node A)) (boxes : List (List (List Letter))) (event : worlds.Event)
    (new_nodes : List (Node A)) (new_boxes : List (List (List Letter))) : Type 0 where
  pub fit : IsFit stands run new_nodes new_boxes
  pub same : world_in run new_nodes new_boxes ≡ worlds.happens (scripts run) (world_in run nodes boxes) event

abbrev pub HasHappened : {A : Type 0} → (A → At → Phase → Type 0) → Run → worlds.Event → World A → World A → Type 0
HasHappened stands run event old new = Happened stands run old.nodes old.boxes event new.nodes new.boxes

-- what is listed has grown by those of these events that are enabled
abbrev pub AddsEnabled : {A : Type 0} → Run → World A → List worlds.Event → List Event → List Event → Type 0
AddsEnabled run w events old new = map event_of new ≡ map event_of old ++ filter (can (scripts run) (world_of run w)) events

-- all events that there could be, by rank, and then work, post, and takes by sender
abbrev pub events_of : ℕ → ℕ → List worlds.Event
events_of ranks r = Works r ∷ Posts r ∷ map (Takes r) (range_with_len 0 ranks)

abbrev pub all_events : ℕ → List worlds.Event
all_events ranks = flat_map (events_of ranks) (range_with_len 0 ranks)

-- those that are enabled
abbrev pub enabled_events : Run → worlds.World Letter → List worlds.Event
enabled_events run w = filter (can (scripts run) w) (all_events run.ranks)

-- the letters in flight from rank p to rank q are now these, and all others as before
abbrev pub with_flight : List (List (List Letter)) → ℕ → ℕ → List Letter → List (List (List Letter))
with_flight boxes p q letters = slice_set boxes p (slice_set (slice_index_or boxes p []) q letters)

-- one new node for each rank
pub record IsStart {A : Type 0} (stands : A → At → Phase → Type 0) (run : Run) (nodes : List (Node A)) : Type 0 where
  pub count : length nodes ≡ run.ranks
  pub nodes_are : (r : ℕ) (n : Node A) → slice_get nodes r ≡ Some n → IsRank stands run r n
  pub fresh_are : (r : ℕ) (n : Node A) → slice_get nodes r ≡ Some n → rank_in run n ≡ fresh (scripts run) r

-- the letter that rank r posts stands after those in flight to its receiver
pub record IsPosted {A : Type 0} (run : Run) (r : ℕ) (n : Node A) (old new : List (List (List Letter))) : Type 0 where
  pub to : ℕ
  pub letter : Letter
  pub receives : receiver (rank_in run n).todo ≡ to
  pub within : to < run.ranks
  pub first : take 1 ((rank_in run n).rest (receiver (rank_in run n).todo)) ≡ letter ∷ []
  pub boxes : new ≡ with_flight old r to (flight_in old r to ++ letter ∷ [])

abbrev pub is_work : Want → Bool
is_work want.Work = true
is_work (want.Post to) = false
is_work want.Letter = false
is_work want.Done = false

abbrev pub is_post : Want → Bool
is_post want.Work = false
is_post (want.Post to) = true
is_post want.Letter = false
is_post want.Done = false

abbrev pub is_end : Want → Bool
is_end want.Work = false
is_end (want.Post to) = false
is_end want.Letter = false
is_end want.Done = true

-- the event stands among these
pub record IsAmong (event : Event) (events : List Event) : Type 0 where
  pub place : ℕ
  pub at : slice_get events place ≡ Some event

-- each node is done, its part of the arrays stands after the last turn, and every box is empty
pub record AreAtEnd {A : Type 0} (stands : A → At → Phase → Type 0) (run : Run) (nodes : List (Node A)) (boxes : List (List (List Letter))) : Type 0 where
  pub done : (r : ℕ) (n : Node A) → slice_get nodes r ≡ Some n → at_end (rank_in run n).todo ≡ true
  pub parts : (r : ℕ) (n : Node A) → slice_get nodes r ≡ Some n → stands n.part (record { run = run; rank = r; turn = turns_of run }) Ready
  pub empty : (p q : ℕ) → flight_in boxes p q ≡ []

-- from a world of nodes on, whatever events are tried in whatever order
abbrev pub EveryListIsFit : {A : Type 0} → (A → At → Phase → Type 0) → Type 0
EveryListIsFit {A} stands =
    (run : Run) (nodes : List (Node A)) (boxes : List (List (List Letter))) → IsFit stands run nodes boxes → (events : List Event) →
    Fit (scripts run) (worlds.run (scripts run) (world_in run nodes boxes) (map event_of events))
