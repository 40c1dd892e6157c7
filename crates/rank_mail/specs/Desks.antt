-- What a contract sees of an end, and of all ends of an issue.
use Rattle.std.specs.Prelude.{◌≡◌, ℕ, ◌<◌, List, [], Option, None, length, slice_index_or, slice_set, All}
use Rattle.bern_base.specs.declared.letter.Letter.{Letter}
use Rattle.rank_mail.specs.declared.peer.Peer.{Peer}
use Rattle.rank_mail.specs.Lanes.{Books}
use Rattle.rank_mail.specs.Peers.{posted_of, taken_of, book_to_of, book_from_of, posting, taking, boxes_of, IsUnused, AreTied}

-- an end: its rank, and what it holds of each rank, by rank; nothing of its own
pub record Desk : Type 0 where
  pub rank : ℕ
  pub peers : List (Option Peer)

abbrev pub peer_at : Desk → ℕ → Option Peer
peer_at desk q = slice_index_or desk.peers q None

-- what the end has posted to rank q, and what it has taken from rank p
abbrev pub posted : Desk → ℕ → List Letter
posted desk q = posted_of (peer_at desk q)

abbrev pub taken : Desk → ℕ → List Letter
taken desk p = taken_of (peer_at desk p)

-- the book of the box to rank q, and of the box from rank p
abbrev pub book_to : Desk → ℕ → List Letter
book_to desk q = book_to_of (peer_at desk q)

abbrev pub book_from : Desk → ℕ → List Letter
book_from desk p = book_from_of (peer_at desk p)

-- the end after it posted a letter to rank q, or took one from rank p
abbrev pub posts_on : Desk → ℕ → Letter → Desk
posts_on desk q letter = record desk { peers = slice_set desk.peers q (posting letter (peer_at desk q)) }

abbrev pub takes_on : Desk → ℕ → Letter → Desk
takes_on desk p letter = record desk { peers = slice_set desk.peers p (taking letter (peer_at desk p)) }

-- the end of rank p; one of nothing where there is none
abbrev pub desk_at : List Desk → ℕ → Desk
desk_at ends p = slice_index_or ends p (record { rank = 0; peers = [] })

-- all ends of an issue with these books, by rank
pub record IsIssue (books : Books) (ranks : ℕ) (ends : List Desk) : Type 0 where
  pub count : length ends ≡ ranks
  pub numbered : (p : ℕ) → p < ranks → (desk_at ends p).rank ≡ p
  pub size : (p : ℕ) → p < ranks → length (desk_at ends p).peers ≡ ranks
  pub own : (p : ℕ) → p < ranks → peer_at (desk_at ends p) p ≡ None
  -- any two of them share two boxes, one each way
  pub tied : (p q : ℕ) → p < q → q < ranks → AreTied books p q (peer_at (desk_at ends p) q) (peer_at (desk_at ends q) p)

-- the same of a new issue: nothing was posted or taken
pub record IsNewIssue (books : Books) (ranks : ℕ) (ends : List Desk) : Type 0 where
  pub issue : IsIssue books ranks ends
  pub unused : All (λ desk. All IsUnused desk.peers) ends

-- the end still has the sides of the same boxes
pub record IsSameEnd (old new : Desk) : Type 0 where
  pub rank : new.rank ≡ old.rank
  pub size : length new.peers ≡ length old.peers
  pub boxes : (q : ℕ) → boxes_of (peer_at new q) ≡ boxes_of (peer_at old q)
