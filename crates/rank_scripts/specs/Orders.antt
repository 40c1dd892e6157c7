-- The words for what holds in every order of events.
use Rattle.std.specs.Prelude.{◌≡◌, ℕ, true, List, [], ◌∷◌, ◌++◌}
use Rattle.rank_scripts.specs.Scripts.{Scripts, book, IsNextOf}
use Rattle.rank_scripts.specs.Worlds.{World, Event, Posts, Takes, can, happens, run, done}

-- some event is enabled
pub record GoesOn {L : Type 0} (scripts : Scripts L) (w : World L) : Type 0 where
  pub event : Event
  pub enabled : can scripts w event ≡ true

-- some events lead to the end
pub record Finishes {L : Type 0} (scripts : Scripts L) (w : World L) : Type 0 where
  pub events : List Event
  pub ends : done scripts (run scripts w events) ≡ true

-- rank r's post puts in flight the next letter of its book, after all that it has posted before
pub record PostsNext {L : Type 0} (scripts : Scripts L) (w : World L) (r to : ℕ) : Type 0 where
  pub letter : L
  pub next : IsNextOf (book scripts r to) ((w.node to).given r ++ w.flight r to) letter
  pub flight : (happens scripts w (Posts r)).flight r to ≡ w.flight r to ++ letter ∷ []

-- rank r's take gives it the next letter of the sender's book, after all that it was given before
pub record TakesNext {L : Type 0} (scripts : Scripts L) (w : World L) (r from : ℕ) : Type 0 where
  pub letter : L
  pub next : IsNextOf (book scripts from r) ((w.node r).given from) letter
  pub given : ((happens scripts w (Takes r from)).node r).given from ≡ (w.node r).given from ++ letter ∷ []

-- rank q was given the whole book of rank p, each letter once and in order, and no letter is on its way or still to post
pub record IsDelivered {L : Type 0} (scripts : Scripts L) (w : World L) (p q : ℕ) : Type 0 where
  pub given : (w.node q).given p ≡ book scripts p q
  pub flight : w.flight p q ≡ []
  pub rest : (w.node p).rest q ≡ []
