-- All ranks together, the letters in flight between them, and what may happen next.
use Rattle.std.specs.Prelude.{◌≡◌, ℕ, ◌+◌, ◌*◌, Bool, true, false, ◌&&◌, List, [], ◌∷◌, ◌++◌, length, take, drop, if◌then◌else◌, nat_lt}
use Rattle.rank_scripts.specs.Acts.{works, at_work, at_post, at_end, receiver}
use Rattle.rank_scripts.specs.Ranks.{put, all_below, sum_below}
use Rattle.rank_scripts.specs.Scripts.{Scripts, book}
use Rattle.rank_scripts.specs.Nodes.{Node, fresh, worked, posted, took, NodeFit}

-- each rank, and the letters in flight, by sender and receiver, the oldest first
pub record World (L : Type 0) : Type 0 where
  pub node : ℕ → Node L
  pub flight : ℕ → ℕ → List L

-- what may happen: a rank does its work, posts its letter, or takes the oldest letter in flight from another
pub data Event : Type 0 where
  Works : (rank : ℕ) → Event
  Posts : (rank : ℕ) → Event
  Takes : (rank : ℕ) → (from : ℕ) → Event

-- there is an element
abbrev pub has_some : {A : Type 0} → List A → Bool
has_some [] = false
has_some (x ∷ xs) = true

-- the event is enabled
abbrev pub can : {L : Type 0} → Scripts L → World L → Event → Bool
can scripts w (Works r) = nat_lt r scripts.ranks && at_work (w.node r).todo
can scripts w (Posts r) = nat_lt r scripts.ranks && at_post (w.node r).todo
can scripts w (Takes r from) = nat_lt r scripts.ranks && (nat_lt from scripts.ranks && has_some (w.flight from r))

-- the world after an enabled event
abbrev pub happens : {L : Type 0} → Scripts L → World L → Event → World L
happens scripts w (Works r) = record { node = put w.node r (worked scripts r (w.node r)); flight = w.flight }
happens scripts w (Posts r) =
    let to = receiver (w.node r).todo in
    record {
      node = put w.node r (posted scripts r (w.node r));
      flight = put w.flight r (put (w.flight r) to (w.flight r to ++ take 1 ((w.node r).rest to)));
    }
happens scripts w (Takes r from) =
    record {
      node = put w.node r (took scripts r (w.node r) from (take 1 (w.flight from r)));
      flight = put w.flight from (put (w.flight from) r (drop 1 (w.flight from r)));
    }

-- an event that is not enabled changes nothing
abbrev pub step : {L : Type 0} → Scripts L → World L → Event → World L
step scripts w event = if can scripts w event then happens scripts w event else w

-- every rank at the start of its script, and nothing in flight
abbrev pub start : {L : Type 0} → Scripts L → World L
start scripts = record { node = fresh scripts; flight = λ p q. [] }

-- the world after all of these events
abbrev pub run : {L : Type 0} → Scripts L → World L → List Event → World L
run scripts w [] = w
run scripts w (event ∷ events) = run scripts (step scripts w event) events

-- how many of them were enabled when their turn came
abbrev pub accepted : {L : Type 0} → Scripts L → World L → List Event → ℕ
accepted scripts w [] = 0
accepted scripts w (event ∷ events) =
    (if can scripts w event then 1 else 0) + accepted scripts (step scripts w event) events

-- every rank is at the end of its script
abbrev pub done : {L : Type 0} → Scripts L → World L → Bool
done scripts w = all_below scripts.ranks (λ r. at_end (w.node r).todo)

-- how many events a rank alone has still to come: its works, and each letter to post, which is then taken too
abbrev pub node_left : {L : Type 0} → ℕ → Node L → ℕ
node_left ranks node = works node.todo + 2 * sum_below ranks (λ q. length (node.rest q))

-- how many letters are in flight
abbrev pub in_flight : {L : Type 0} → ℕ → (ℕ → ℕ → List L) → ℕ
in_flight ranks flight = sum_below ranks (λ p. sum_below ranks (λ q. length (flight p q)))

-- how many enabled events there are still to come
abbrev pub left : {L : Type 0} → Scripts L → World L → ℕ
left scripts w = sum_below scripts.ranks (λ p. node_left scripts.ranks (w.node p)) + in_flight scripts.ranks w.flight

-- a world as a run leaves it: each rank is fit, and each book is what was given, what is in flight and what is still
-- to post, in this order
pub record Fit {L : Type 0} (scripts : Scripts L) (w : World L) : Type 0 where
  pub nodes : (r : ℕ) → NodeFit scripts r (w.node r)
  pub books : (p q : ℕ) → (w.node q).given p ++ w.flight p q ++ (w.node p).rest q ≡ book scripts p q
