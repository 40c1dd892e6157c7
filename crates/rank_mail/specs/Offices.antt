-- What an office has carried: a list of closed boxes.
use Rattle.std.specs.Prelude.{◌≡◌, ◌≢◌, ℕ, ◌<◌, ◌==◌, ◌&&◌, List, [], ◌++◌, length, if◌then◌else◌}
use Rattle.std.specs.List.{flat_map}
use Rattle.bern_base.specs.declared.letter.Letter.{Letter}
use Rattle.rank_mail.specs.Hands.{AreFronts}
use Rattle.rank_mail.specs.Lanes.{Books, Haul}
use Rattle.rank_mail.specs.Desks.{Desk, desk_at, posted, taken}

-- the letters of a closed box, if it went from p to q
abbrev pub taken_between : ℕ → ℕ → Haul → List Letter
taken_between p q haul = if (haul.route.from == p) && (haul.route.to == q) then haul.taken else []

-- the letters that p posted to q and q took, over all closed runs in order
abbrev pub carried : List Haul → ℕ → ℕ → List Letter
carried hauls p q = flat_map (taken_between p q) hauls

-- for each pair, what was carried has grown by what the receiver's end took from the sender
abbrev pub HasCarried : List Desk → List Haul → List Haul → Type 0
HasCarried ends old new = (p q : ℕ) → carried new p q ≡ carried old p q ++ taken (desk_at ends q) p

-- for each pair, what was taken is a front of what was posted, and this a front of the book
abbrev pub AreAllInOrder : Books → List Desk → Type 0
AreAllInOrder books ends =
    (p q : ℕ) → p < length ends → q < length ends → p ≢ q →
    AreFronts (taken (desk_at ends q) p) (posted (desk_at ends p) q) (books p q)
