-- How the ends of an issue are made and unmade, one rank at a time.
use Rattle.std.specs.Prelude.{◌≡◌, ℕ, ◌+◌, ◌<◌, ◌≤◌, List, [], ◌∷◌, ◌++◌, Option, None, length, slice_index_or, All}
use Rattle.bern_base.specs.declared.letter.Letter.{Letter}
use Rattle.rank_mail.specs.declared.peer.Peer.{Peer}
use Rattle.rank_mail.specs.Lanes.{Books, Haul}
use Rattle.rank_mail.specs.Peers.{IsUnused, AreTied, AreInOrder}
use Rattle.rank_mail.specs.Desks.{Desk, peer_at, taken, desk_at, IsIssue}
use Rattle.rank_mail.specs.Offices.{carried}

-- the ends of the first k ranks share their boxes, and those of the first m ranks also share boxes with rank k, which
-- holds these peers
pub record IsMet (books : Books) (k m : ℕ) (ends : List Desk) (peers : List (Option Peer)) : Type 0 where
  pub count : length ends ≡ k
  pub within : m ≤ k
  pub numbered : (p : ℕ) → p < k → (desk_at ends p).rank ≡ p
  pub met : (p : ℕ) → p < m → length (desk_at ends p).peers ≡ k + 1
  pub unmet : (p : ℕ) → m ≤ p → p < k → length (desk_at ends p).peers ≡ k
  pub own : (p : ℕ) → p < k → peer_at (desk_at ends p) p ≡ None
  pub tied : (p q : ℕ) → p < q → q < k → AreTied books p q (peer_at (desk_at ends p) q) (peer_at (desk_at ends q) p)
  pub peers_count : length peers ≡ m
  pub next : (p : ℕ) → p < m → AreTied books p k (peer_at (desk_at ends p) k) (slice_index_or peers p None)

-- nothing was posted or taken yet
pub record AreUnused (ends : List Desk) (peers : List (Option Peer)) : Type 0 where
  pub ends_unused : All (λ desk. All IsUnused desk.peers) ends
  pub peers_unused : All IsUnused peers

-- what was carried from p to q, and then what q's end still has from p
abbrev pub reached : List Haul → List Desk → ℕ → ℕ → List Letter
reached hauls ends p q = carried hauls p q ++ taken (desk_at ends q) p

-- the boxes of rank k, whose end was the last, are closed
pub record HasParted (books : Books) (k : ℕ) (before : List Desk) (last : Desk) (after : List Desk) (old new : List Haul) : Type 0 where
  pub issue : IsIssue books k after
  pub same : (p q : ℕ) → p < k → q < k → peer_at (desk_at after p) q ≡ peer_at (desk_at before p) q
  pub totals : (p q : ℕ) → reached new after p q ≡ reached old (before ++ last ∷ []) p q
  pub ordered : (p : ℕ) → p < k → AreInOrder (peer_at (desk_at before p) k) (peer_at last p)
