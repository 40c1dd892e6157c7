-- A run by hand: two ranks, one turn, and each has one letter of values for the other. The letters are numbers here.
use Rattle.std.specs.Prelude.{◌≡◌, ℕ, List, [], ◌∷◌, Some}
use Rattle.rank_scripts.specs.Acts.{Work, Wait}
use Rattle.rank_scripts.specs.Scripts.{Scripts}
use Rattle.rank_scripts.specs.Worlds.{World, Event, Works, Posts, Takes}
use Rattle.rank_scripts.specs.Rounds.{turn_scripts}

-- 0 asks for values, and 1 has them
abbrev pub two_ranks : Scripts ℕ
two_ranks = turn_scripts 2 1 (λ p q. 0) (λ turn p q. Some 1)

-- rank 0 goes ahead as far as it can, and then rank 1
abbrev pub two_ranks_events : List Event
two_ranks_events =
    Works 0 ∷ Posts 0 ∷ Works 1 ∷ Posts 1
    ∷ Takes 0 1 ∷ Posts 0 ∷ Works 0
    ∷ Takes 1 0 ∷ Posts 1 ∷ Takes 1 0 ∷ Works 1 ∷ Works 1
    ∷ Takes 0 1 ∷ Works 0 ∷ []

-- the world after the first ten of them: rank 0 waits for values that are in flight, and rank 1 has taken its own early
pub record IsDrawn (w : World ℕ) : Type 0 where
  pub waiting : (w.node 0).todo ≡ Wait ∷ Work ∷ []
  pub working : (w.node 1).todo ≡ Work ∷ Wait ∷ Work ∷ []
  pub asked : (w.node 0).given 1 ≡ 0 ∷ []
  pub flight : w.flight 1 0 ≡ 1 ∷ []
  pub early : (w.node 1).given 0 ≡ 0 ∷ 1 ∷ []
