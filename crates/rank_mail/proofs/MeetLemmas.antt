-- The ends of an issue, with one rank more and with one rank less.
use Rattle.std.proofs.Common.{◌≡◌, ◌≢◌, ℕ, ◌+◌, ◌<◌, List, [], ◌∷◌, ◌++◌, Option, None, Some, length, slice_index_or, slice_set, All, refl, sym, ap, ◌∙◌, subst, inl, inr, arith}
use Rattle.std.proofs.lemmas.Bool.{cases_eq}
use Rattle.std.proofs.lemmas.List.{get_or-set_same, get_or-set_other, length-set, length_push}
use Rattle.std.proofs.lemmas.List.Elements.{All-set, All-push}
use Rattle.rank_mail.specs.declared.peer.Peer.{Peer}
use Rattle.rank_mail.specs.Lanes.{Books}
use Rattle.rank_mail.specs.Peers.{IsUnused, AreTied, AreNewPeers, AreMates}
use Rattle.rank_mail.specs.Desks.{Desk, peer_at, desk_at, IsIssue}
use Rattle.rank_mail.specs.Meetings.{IsMet, AreUnused}
use Rattle.rank_mail.proofs.ListLemmas.{push_other, push_here}

-- the desk of rank m has one peer more in the longer list: this one, at place k
pub record HasMore (k m : ℕ) (peer : Option Peer) (short long : List Desk) : Type 0 where
  pub count : length long ≡ length short
  pub others : (p : ℕ) → p ≢ m → desk_at long p ≡ desk_at short p
  pub rank : (desk_at long m).rank ≡ (desk_at short m).rank
  pub peers : (desk_at long m).peers ≡ (desk_at short m).peers ++ peer ∷ []
  pub size : length (desk_at short m).peers ≡ k

-- a desk written in its place
pub more_from_push : (k m : ℕ) (peer : Option Peer) (ends : List Desk) (new : Desk) → m < length ends →
    length (desk_at ends m).peers ≡ k → new.rank ≡ (desk_at ends m).rank → new.peers ≡ (desk_at ends m).peers ++ peer ∷ [] →
    HasMore k m peer ends (slice_set ends m new)
more_from_push k m peer ends new within size rank peers =
    let here : desk_at (slice_set ends m new) m ≡ new = get_or-set_same ends m new _ within in
    record {
      count = length-set ends m new;
      others = λ p other. get_or-set_other ends m p new _ other;
      rank = ap (λ (d : Desk). d.rank) here ∙ rank;
      peers = ap (λ (d : Desk). d.peers) here ∙ peers;
      size = size;
    }

pub more_from_pop : (k m : ℕ) (peer : Option Peer) (ends : List Desk) (new : Desk) → m < length ends →
    length (desk_at ends m).peers ≡ k + 1 → new.rank ≡ (desk_at ends m).rank → (desk_at ends m).peers ≡ new.peers ++ peer ∷ [] →
    HasMore k m peer (slice_set ends m new) ends
more_from_pop k m peer ends new within size rank peers =
    let here : desk_at (slice_set ends m new) m ≡ new = get_or-set_same ends m new _ within in
    let count : length new.peers + 1 ≡ k + 1 = sym (length_push new.peers peer) ∙ ap length (sym peers) ∙ size in
    record {
      count = sym (length-set ends m new);
      others = λ p other. sym (get_or-set_other ends m p new _ other);
      rank = sym rank ∙ sym (ap (λ (d : Desk). d.rank) here);
      peers = peers ∙ ap (λ (d : Desk). d.peers ++ peer ∷ []) (sym here);
      size = ap (λ (d : Desk). length d.peers) here ∙ (omega (arith, count));
    }

-- what is held of the ranks below k is the same
pub same_below : (k m : ℕ) (peer : Option Peer) (short long : List Desk) → HasMore k m peer short long →
    (p q : ℕ) → q < k → peer_at (desk_at long p) q ≡ peer_at (desk_at short p) q
same_below k m peer short long more p q below =
    elim (cases_eq p m) [
      | inl e ↦
          let P : ℕ → Type 0 = λ i. peer_at (desk_at long i) q ≡ peer_at (desk_at short i) q in
          let at : q ≢ length (desk_at short m).peers = (λ e. omega (arith, more.size, e, below)) in
          subst P (sym e) (ap (λ xs. slice_index_or xs q None) more.peers ∙ push_other (desk_at short m).peers peer q None at)
      | inr other ↦ ap (λ (d : Desk). peer_at d q) (more.others p other)
    ]

-- what the longer desk holds of rank k
pub new_peer : (k m : ℕ) (peer : Option Peer) (short long : List Desk) → HasMore k m peer short long → peer_at (desk_at long m) k ≡ peer
new_peer k m peer short long more = ap (λ xs. slice_index_or xs k None) more.peers ∙ push_here (desk_at short m).peers peer k None (sym more.size)

ranks_same : (k m : ℕ) (peer : Option Peer) (short long : List Desk) → HasMore k m peer short long →
    (p : ℕ) → (desk_at long p).rank ≡ (desk_at short p).rank
ranks_same k m peer short long more p =
    elim (cases_eq p m) [
      | inl e ↦ let P : ℕ → Type 0 = λ i. (desk_at long i).rank ≡ (desk_at short i).rank in subst P (sym e) more.rank
      | inr other ↦ ap (λ (d : Desk). d.rank) (more.others p other)
    ]

-- peers that are tied, under other names
retied : (books : Books) (p q : ℕ) (a b a' b' : Option Peer) → a' ≡ a → b' ≡ b → AreTied books p q a b → AreTied books p q a' b'
retied books p q a b a' b' e f tied =
    record { mine = tied.mine; theirs = tied.theirs; is_mine = e ∙ tied.is_mine; is_theirs = f ∙ tied.is_theirs; there = tied.there; back = tied.back }

-- rank m and the next one meet
pub met_more : (books : Books) (k m : ℕ) (a b : Option Peer) (short long : List Desk) (peers : List (Option Peer)) →
    m < k → IsMet books k m short peers → HasMore k m a short long → AreTied books m k a b →
    IsMet books k (m + 1) long (peers ++ b ∷ [])
met_more books k m a b short long peers below met more tied =
    let same = same_below k m a short long more in
    record {
      count = more.count ∙ met.count;
      within = omega (arith, below);
      numbered = λ p h. ranks_same k m a short long more p ∙ met.numbered p h;
      met = λ p h.
          elim (cases_eq p m) [
            | inl e ↦
                let P : ℕ → Type 0 = λ i. length (desk_at long i).peers ≡ k + 1 in
                subst P (sym e) (ap length more.peers ∙ length_push (desk_at short m).peers a ∙ ap (λ n. n + 1) more.size)
            | inr other ↦ ap (λ (d : Desk). length d.peers) (more.others p other) ∙ met.met p (omega (arith, h, other))
          ];
      unmet = λ p above h. ap (λ (d : Desk). length d.peers) (more.others p (λ e. omega (arith, above, e))) ∙ met.unmet p (omega (arith, above)) h;
      own = λ p h. same p p h ∙ met.own p h;
      tied = λ p q pq h. retied books p q _ _ _ _ (same p q h) (same q p (omega (arith, pq, h))) (met.tied p q pq h);
      peers_count = length_push peers b ∙ ap (λ n. n + 1) met.peers_count;
      next = λ p h.
          elim (cases_eq p m) [
            | inl e ↦
                let P : ℕ → Type 0 = λ i. AreTied books i k (peer_at (desk_at long i) k) (slice_index_or (peers ++ b ∷ []) i None) in
                subst P (sym e) (retied books m k a b _ _ (new_peer k m a short long more) (push_here peers b m None (sym met.peers_count)) tied)
            | inr other ↦
                let at : p ≢ length peers = (λ e. other (e ∙ met.peers_count)) in
                retied books p k _ _ _ _ (ap (λ (d : Desk). peer_at d k) (more.others p other)) (push_other peers b p None at) (met.next p (omega (arith, h, other)))
          ];
    }

-- rank m and the next one part
pub met_less : (books : Books) (k m : ℕ) (a b : Option Peer) (short long : List Desk) (peers : List (Option Peer)) →
    m < k → IsMet books k (m + 1) long (peers ++ b ∷ []) → HasMore k m a short long → IsMet books k m short peers
met_less books k m a b short long peers below met more =
    let same = same_below k m a short long more in
    let count : length peers ≡ m = (let e = sym (length_push peers b) ∙ met.peers_count in omega (arith, e)) in
    record {
      count = sym more.count ∙ met.count;
      within = omega (arith, below);
      numbered = λ p h. sym (ranks_same k m a short long more p) ∙ met.numbered p h;
      met = λ p h. ap (λ (d : Desk). length d.peers) (sym (more.others p (λ e. omega (arith, h, e)))) ∙ met.met p (omega (arith, h));
      unmet = λ p above h.
          elim (cases_eq p m) [
            | inl e ↦ let P : ℕ → Type 0 = λ i. length (desk_at short i).peers ≡ k in subst P (sym e) more.size
            | inr other ↦ ap (λ (d : Desk). length d.peers) (sym (more.others p other)) ∙ met.unmet p (omega (arith, above, other)) h
          ];
      own = λ p h. sym (same p p h) ∙ met.own p h;
      tied = λ p q pq h. retied books p q _ _ _ _ (sym (same p q h)) (sym (same q p (omega (arith, pq, h)))) (met.tied p q pq h);
      peers_count = count;
      next = λ p h.
          retied books p k _ _ _ _ (ap (λ (d : Desk). peer_at d k) (sym (more.others p (λ e. omega (arith, h, e)))))
          (sym (push_other peers b p None (λ e. omega (arith, h, e, count)))) (met.next p (omega (arith, h)));
    }

-- what the two that part hold of each other
pub parting_tie : (books : Books) (k m : ℕ) (a b : Option Peer) (short long : List Desk) (peers : List (Option Peer)) →
    IsMet books k (m + 1) long (peers ++ b ∷ []) → HasMore k m a short long → AreTied books m k a b
parting_tie books k m a b short long peers met more =
    let count : length peers ≡ m = (let e = sym (length_push peers b) ∙ met.peers_count in omega (arith, e)) in
    retied books m k _ _ _ _ (sym (new_peer k m a short long more)) (sym (push_here peers b m None (sym count))) (met.next m (omega arith))

-- at first the next rank has met no one
pub issue_met : (books : Books) (k : ℕ) (ends : List Desk) → IsIssue books k ends → IsMet books k 0 ends []
issue_met books k ends issue = record {
  count = issue.count;
  within = omega arith;
  numbered = issue.numbered;
  met = λ p h. absurd (omega (arith, h));
  unmet = λ p _ h. issue.size p h;
  own = issue.own;
  tied = issue.tied;
  peers_count = refl;
  next = λ p h. absurd (omega (arith, h));
}

pub met_issue : (books : Books) (k : ℕ) (ends : List Desk) (peers : List (Option Peer)) → IsMet books k 0 ends peers → IsIssue books k ends
met_issue books k ends peers met = record {
  count = met.count;
  numbered = met.numbered;
  size = λ p h. met.unmet p (omega arith) h;
  own = met.own;
  tied = met.tied;
}

-- the desks of a list with one more at its end
desk_before : (ends : List Desk) (last : Desk) (k p : ℕ) → length ends ≡ k → p < k → desk_at (ends ++ last ∷ []) p ≡ desk_at ends p
desk_before ends last k p count h = push_other ends last p _ (λ e. omega (arith, count, h, e))

desk_last : (ends : List Desk) (last : Desk) (k : ℕ) → length ends ≡ k → desk_at (ends ++ last ∷ []) k ≡ last
desk_last ends last k count = push_here ends last k _ (sym count)

-- the last rank leaves its place
pub issue_less : (books : Books) (k : ℕ) (ends : List Desk) (peers : List (Option Peer)) (own : Option Peer) (last : Desk) →
    IsIssue books (k + 1) (ends ++ last ∷ []) → last.peers ≡ peers ++ own ∷ [] → IsMet books k k ends peers
issue_less books k ends peers own last issue held =
    let count : length ends ≡ k = (let e = sym (length_push ends last) ∙ issue.count in omega (arith, e)) in
    let before : (p : ℕ) → p < k → desk_at ends p ≡ desk_at (ends ++ last ∷ []) p = (λ p h. sym (desk_before ends last k p count h)) in
    let here : last ≡ desk_at (ends ++ last ∷ []) k = sym (desk_last ends last k count) in
    let peers_count : length peers ≡ k = (let e = sym (length_push peers own) ∙ ap length (sym held) ∙ ap (λ (d : Desk). length d.peers) here ∙ issue.size k (omega arith) in omega (arith, e)) in
    record {
      count = count;
      within = omega arith;
      numbered = λ p h. ap (λ (d : Desk). d.rank) (before p h) ∙ issue.numbered p (omega (arith, h));
      met = λ p h. ap (λ (d : Desk). length d.peers) (before p h) ∙ issue.size p (omega (arith, h));
      unmet = λ p above h. absurd (omega (arith, above, h));
      own = λ p h. ap (λ (d : Desk). peer_at d p) (before p h) ∙ issue.own p (omega (arith, h));
      tied = λ p q pq h. retied books p q _ _ _ _ (ap (λ (d : Desk). peer_at d q) (before p (omega (arith, pq, h)))) (ap (λ (d : Desk). peer_at d p) (before q h)) (issue.tied p q pq (omega (arith, h)));
      peers_count = peers_count;
      next = λ p h. retied books p k _ _ _ _ (ap (λ (d : Desk). peer_at d k) (before p h))
          (sym (push_other peers own p None (λ e. omega (arith, h, e, peers_count))) ∙ ap (λ xs. slice_index_or xs p None) (sym held) ∙ ap (λ (d : Desk). peer_at d p) here)
          (issue.tied p k h (omega arith));
    }

-- new peers are tied, and unused
pub new_tie : (books : Books) (p q : ℕ) (mine theirs : Peer) → AreNewPeers books p q mine theirs → AreTied books p q (Some mine) (Some theirs)
new_tie books p q mine theirs new =
    record { mine = mine; theirs = theirs; is_mine = refl; is_theirs = refl; there = new.there.sides; back = new.back.sides }

pub tied_mates : (books : Books) (p q : ℕ) (a b : Option Peer) → AreTied books p q a b → AreMates a b
tied_mates books p q a b tied =
    record { mine = tied.mine; theirs = tied.theirs; is_mine = tied.is_mine; is_theirs = tied.is_theirs; there = tied.there.same; back = tied.back.same }

-- an unused peer more
pub unused_more : (m : ℕ) (a b : Option Peer) (ends : List Desk) (peers : List (Option Peer)) (new : Desk) → m < length ends →
    new.peers ≡ (desk_at ends m).peers ++ a ∷ [] → IsUnused a → IsUnused b → AreUnused ends peers → AreUnused (slice_set ends m new) (peers ++ b ∷ [])
unused_more m a b ends peers new within held mine theirs unused =
    let P : List (Option Peer) → Type 0 = λ xs. All IsUnused xs in
    record {
      ends_unused = All-set (λ (d : Desk). All IsUnused d.peers) ends m new
          (subst P (sym held) (All-push IsUnused (desk_at ends m).peers a (unused.ends_unused m _ within) mine)) unused.ends_unused;
      peers_unused = All-push IsUnused peers b unused.peers_unused theirs;
    }
