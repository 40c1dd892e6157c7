-- What a rank knows where it waits: the letters that it was given from each rank, and what it asked of each.
use Rattle.std.specs.Prelude.{◌≡◌, ℕ, ◌<◌, List, [], ◌∷◌, length, slice_index, slice_index_or, true}
use Rattle.bern_base.specs.declared.letter.Letter.{Letter}
use Rattle.rank_scripts.specs.Scripts.{book, IsFrontOf}
use Rattle.job_model.specs.State.{read}
use Rattle.rank_model.specs.Products.{Run, answer, is_received, receive, scripts}

abbrev pub letters_from : List (List Letter) → ℕ → List Letter
letters_from given q = slice_index_or given q []

-- from each rank a front of its book
abbrev pub HaveFronts : Run → ℕ → List (List Letter) → Type 0
HaveFronts run r given = (q : ℕ) → q < run.ranks → IsFrontOf (letters_from given q) (book (scripts run) q r)

-- rank r, one of n ranks, was given a front of each book to it
pub record AreGiven (run : Run) (r n : ℕ) (given : List (List Letter)) : Type 0 where
  pub rank : r < run.ranks
  pub ranks : n ≡ run.ranks
  pub long : length given ≡ n
  pub fronts : HaveFronts run r given

-- of each rank what it receives from it
pub record HaveAsks (run : Run) (r : ℕ) (asks : List (List ℕ)) : Type 0 where
  pub long : length asks ≡ run.ranks
  pub each : (q : ℕ) (d : List ℕ) → q < run.ranks → slice_index_or asks q d ≡ receive run r q

-- the number of letters due in all from a rank that has these elements
abbrev pub due_for : List ℕ → ℕ
due_for [] = 1
due_for (w ∷ ws) = 2

-- of the elements that rank r receives from the ranks below n, the values stand at their numbers
pub record AreKnown (run : Run) (r n : ℕ) (known : List ℕ) : Type 0 where
  pub long : length known ≡ length run.place
  pub each : (q w : ℕ) → q < n → is_received run.place (answer run r) r q w ≡ true → w < length run.place →
      slice_index known w ≡ read run.first run.source w
