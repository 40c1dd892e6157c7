-- What a contract sees of one side of a box, and of a box that is closed.
use Rattle.std.specs.Prelude.{◌≡◌, ℕ, List, [], ◌∷◌, ◌++◌}
use Rattle.std.specs.declared.alloc.Global.{Global}
use Rattle.crossbeam_queue.specs.SegTies.{SegId}
use Rattle.bern_base.specs.declared.letter.Letter.{Letter}
use Rattle.rank_mail.specs.declared.rule.Route.{Route}

-- one side of a box: which box it is, and the letters that were posted, or taken, on this side
pub record Lane : Type 0 where
  pub mail : SegId Global
  pub route : Route
  pub letters : List Letter

-- a letter more
abbrev pub grown : Lane → Letter → Lane
grown lane letter = record lane { letters = lane.letters ++ letter ∷ [] }

-- a closed box: what was posted, and what was taken
pub record Haul : Type 0 where
  pub route : Route
  pub posted : List Letter
  pub taken : List Letter

-- the books of a run: which letters are to go from one rank to another
abbrev pub Books : Type 0
Books = ℕ → ℕ → List Letter

abbrev pub route_of : Books → ℕ → ℕ → Route
route_of books p q = record { from = p; to = q; book = books p q }

-- the two sides of the box from p to q
pub record AreSides (books : Books) (p q : ℕ) (out into : Lane) : Type 0 where
  pub same : out.mail ≡ into.mail
  pub sender : out.route ≡ route_of books p q
  pub receiver : into.route ≡ route_of books p q

-- the two sides of a new one
pub record AreNewSides (books : Books) (p q : ℕ) (out into : Lane) : Type 0 where
  pub sides : AreSides books p q out into
  pub none_posted : out.letters ≡ []
  pub none_taken : into.letters ≡ []

-- the box of these two sides, closed
abbrev pub haul_of : Lane → Lane → Haul
haul_of out into = record { route = into.route; posted = out.letters; taken = into.letters }
