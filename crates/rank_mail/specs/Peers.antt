-- What a rank holds of another: the side that posts to it, and the side that takes from it.
use Rattle.std.specs.Prelude.{◌≡◌, ℕ, List, [], ◌∷◌, Option, Some, None}
use Rattle.bern_base.specs.declared.letter.Letter.{Letter}
use Rattle.std.specs.declared.alloc.Global.{Global}
use Rattle.crossbeam_queue.specs.SegTies.{SegId}
use Rattle.rank_mail.specs.declared.rule.Route.{Route}
use Rattle.rank_mail.specs.declared.peer.Peer.{Peer}
use Rattle.rank_mail.specs.Hands.{AreFronts}
use Rattle.rank_mail.specs.Lanes.{Books, Lane, Haul, AreSides, AreNewSides, grown, haul_of}

-- what was posted to it, and what was taken from it
abbrev pub posted_of : Option Peer → List Letter
posted_of (Some peer) = peer.to.letters
posted_of None = []

abbrev pub taken_of : Option Peer → List Letter
taken_of (Some peer) = peer.from.letters
taken_of None = []

-- the book of the box to it, and of the box from it
abbrev pub book_to_of : Option Peer → List Letter
book_to_of (Some peer) = peer.to.route.book
book_to_of None = []

abbrev pub book_from_of : Option Peer → List Letter
book_from_of (Some peer) = peer.from.route.book
book_from_of None = []

-- a letter more was posted to it, or taken from it
abbrev pub posting : Letter → Option Peer → Option Peer
posting letter (Some peer) = Some (record peer { to = grown peer.to letter })
posting letter None = None

abbrev pub taking : Letter → Option Peer → Option Peer
taking letter (Some peer) = Some (record peer { from = grown peer.from letter })
taking letter None = None

-- one side of a box without its letters: which box it is
pub record Mark : Type 0 where
  pub mail : SegId Global
  pub route : Route

abbrev pub mark_of : Lane → Mark
mark_of lane = record { mail = lane.mail; route = lane.route }

-- the boxes to it and from it
abbrev pub boxes_of : Option Peer → Option (Mark × Mark)
boxes_of (Some peer) = Some (mark_of peer.to, mark_of peer.from)
boxes_of None = None

-- nothing was posted to it or taken from it
pub record IsUnused (peer : Option Peer) : Type 0 where
  pub posted : posted_of peer ≡ []
  pub taken : taken_of peer ≡ []

-- what p holds of q, and q of p: both sides of the box there, and of the box back
pub record AreTied (books : Books) (p q : ℕ) (a b : Option Peer) : Type 0 where
  pub mine : Peer
  pub theirs : Peer
  pub is_mine : a ≡ Some mine
  pub is_theirs : b ≡ Some theirs
  pub there : AreSides books p q mine.to theirs.from
  pub back : AreSides books q p theirs.to mine.from

-- the same of two new boxes
pub record AreNewPeers (books : Books) (p q : ℕ) (mine theirs : Peer) : Type 0 where
  pub there : AreNewSides books p q mine.to theirs.from
  pub back : AreNewSides books q p theirs.to mine.from

-- the sides of these two belong to the same two boxes
pub record AreMates (a b : Option Peer) : Type 0 where
  pub mine : Peer
  pub theirs : Peer
  pub is_mine : a ≡ Some mine
  pub is_theirs : b ≡ Some theirs
  pub there : mine.to.mail ≡ theirs.from.mail
  pub back : theirs.to.mail ≡ mine.from.mail

-- their two boxes, closed
abbrev pub hauls_between : Option Peer → Option Peer → List Haul
hauls_between (Some mine) (Some theirs) = haul_of mine.to theirs.from ∷ haul_of theirs.to mine.from ∷ []
hauls_between (Some mine) None = []
hauls_between None theirs = []

-- what was taken is a front of what was posted, and this a front of the book, there and back
pub record AreInOrder (a b : Option Peer) : Type 0 where
  pub there : AreFronts (taken_of b) (posted_of a) (book_from_of b)
  pub back : AreFronts (taken_of a) (posted_of b) (book_from_of a)
