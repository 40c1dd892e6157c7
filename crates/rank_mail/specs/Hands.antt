-- What the passes of a box know, and the rule of a box.
use Rattle.std.specs.Prelude.{◌≡◌, List, [], ◌∷◌, ◌++◌}
use Rattle.bern_base.specs.declared.letter.Letter.{Letter}
use Rattle.rank_scripts.specs.Scripts.{IsFrontOf, IsNextOf}
use Rattle.rank_mail.specs.declared.rule.Role.{Role}
use Rattle.rank_mail.specs.declared.rule.Role.TheVariants.{Whole, Receives, Sends, Joined, Spent}
use Rattle.rank_mail.specs.declared.rule.Route.{Route}
use Rattle.rank_mail.specs.declared.rule.Hand.{Hand}

abbrev pub hand : Role → Route → List Letter → List Letter → Hand
hand role route posted taken = record { role = role; route = route; posted = posted; taken = taken }

-- a box of no pair
abbrev pub nowhere : Route
nowhere = record { from = 0; to = 0; book = [] }

-- the one pass of a box that is not in use yet
abbrev pub whole : Hand
whole = hand Whole nowhere [] []

-- the receiver's pass, and the sender's
abbrev pub receives : Route → List Letter → Hand
receives route taken = hand Receives route [] taken

abbrev pub sends : Route → List Letter → Hand
sends route posted = hand Sends route posted []

-- the receiver's pass after it took in the sender's, and the sender's after that
abbrev pub joined : Route → List Letter → List Letter → Hand
joined route posted taken = hand Joined route posted taken

abbrev pub spent : Hand
spent = hand Spent nowhere [] []

-- the passes of a box. There are at most two: the receiver's, which is made with the box, and the sender's, which is
-- split from it once
pub data IsHeld (route : Route) (posted taken : List Letter) (views : List Hand) : Type 0 where
  Unsplit : posted ≡ [] → views ≡ whole ∷ [] → IsHeld route posted taken views
  Split : views ≡ receives route taken ∷ sends route posted ∷ [] → IsHeld route posted taken views
  Closed : views ≡ joined route posted taken ∷ spent ∷ [] → IsHeld route posted taken views

pub record IsBoxOf (route : Route) (posted taken items : List Letter) (views : List Hand) : Type 0 where
  -- what was posted is what was taken and then what the box holds
  pub through : posted ≡ taken ++ items
  -- it is a front of the book
  pub within : IsFrontOf posted route.book
  pub held : IsHeld route posted taken views

-- the rule of a box, of what it holds, the oldest first, and of what its passes know
abbrev pub IsBox : List Letter → List Hand → Type 0
IsBox items views = (route : Route) × (posted : List Letter) × (taken : List Letter) × IsBoxOf route posted taken items views

-- what was taken is a front of what was posted, and this a front of the book
pub record AreFronts (taken posted book : List Letter) : Type 0 where
  pub of_posted : IsFrontOf taken posted
  pub of_book : IsFrontOf posted book

-- the receiver has taken the next letter of the book
pub record IsTaken (v : Hand) (letter : Letter) (w : Hand) : Type 0 where
  pub after : w ≡ receives v.route (v.taken ++ letter ∷ [])
  pub next : IsNextOf v.route.book v.taken letter

-- the pass of a closed box
pub record IsClosed (v : Hand) : Type 0 where
  pub role : v ≡ joined v.route v.posted v.taken
  pub fronts : AreFronts v.taken v.posted v.route.book
