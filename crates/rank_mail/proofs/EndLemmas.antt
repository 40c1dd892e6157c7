-- An end that posted or took: what it has posted and taken, and that it has the sides of the same boxes.
use Rattle.std.proofs.Common.{◌≡◌, ◌≢◌, ℕ, ◌<◌, List, [], ◌∷◌, ◌++◌, Option, None, Some, IsSome, length, slice_index_or, slice_set, refl, sym, ap, ◌∙◌, inl, inr, arith}
use Rattle.std.proofs.lemmas.Bool.{cases_eq, cases_lt, false≢true}
use Rattle.std.proofs.lemmas.List.{get_or-set_same, get_or-set_other, length-set}
use Rattle.bern_base.specs.declared.letter.Letter.{Letter}
use Rattle.rank_mail.specs.declared.peer.Peer.{Peer}
use Rattle.rank_mail.specs.Lanes.{Books}
use Rattle.rank_mail.specs.Peers.{Mark, mark_of, boxes_of, posted_of, taken_of, book_to_of, book_from_of, posting, taking, AreTied}
use Rattle.rank_mail.specs.Desks.{Desk, peer_at, posted, taken, book_to, book_from, posts_on, takes_on, desk_at, IsIssue, IsSameEnd}
use Rattle.rank_mail.proofs.ListLemmas.{beyond}

-- an end holds something only of ranks that are there
pub known_within : (desk : Desk) (q : ℕ) → IsSome (peer_at desk q) → q < length desk.peers
known_within desk q known =
    elim (cases_lt q (length desk.peers)) [
      | inl h ↦ h
      | inr h ↦ absurd (none_known (peer_at desk q) (beyond desk.peers q None h) known)
    ]
  where
    none_known : (o : Option Peer) → o ≡ None → IsSome o → ⊥
    none_known (Some peer) e is = cc
    none_known None e is = false≢true is

-- what it holds after one place changed
here : (desk : Desk) (q : ℕ) (peer : Option Peer) → q < length desk.peers → slice_index_or (slice_set desk.peers q peer) q None ≡ peer
here desk q peer within = get_or-set_same desk.peers q peer None within

elsewhere : (desk : Desk) (q p : ℕ) (peer : Option Peer) → p ≢ q → slice_index_or (slice_set desk.peers q peer) p None ≡ peer_at desk p
elsewhere desk q p peer other = get_or-set_other desk.peers q p peer None other

-- what is the same of the new peer is the same at each place
alike : {A : Type 0} (f : Option Peer → A) (desk : Desk) (q p : ℕ) (peer : Option Peer) → f peer ≡ f (peer_at desk q) →
    f (slice_index_or (slice_set desk.peers q peer) p None) ≡ f (peer_at desk p)
alike f desk q p peer same =
    elim (cases_eq p q) [
      | inl e ↦
          elim (cases_lt q (length desk.peers)) [
            | inl h ↦ ap (λ i. f (slice_index_or (slice_set desk.peers q peer) i None)) e ∙ ap f (here desk q peer h) ∙ same ∙ ap (λ i. f (peer_at desk i)) (sym e)
            | inr h ↦
                ap f (beyond (slice_set desk.peers q peer) p None (let n = length-set desk.peers q peer in omega (arith, n, h, e)))
                ∙ ap f (sym (beyond desk.peers p None (omega (arith, h, e))))
          ]
      | inr other ↦ ap f (elsewhere desk q p peer other)
    ]

posting_posted : (letter : Letter) (o : Option Peer) → IsSome o → posted_of (posting letter o) ≡ posted_of o ++ letter ∷ []
posting_posted letter (Some peer) is = refl
posting_posted letter None is = absurd (false≢true is)

taking_taken : (letter : Letter) (o : Option Peer) → IsSome o → taken_of (taking letter o) ≡ taken_of o ++ letter ∷ []
taking_taken letter (Some peer) is = refl
taking_taken letter None is = absurd (false≢true is)

posting_taken : (letter : Letter) (o : Option Peer) → taken_of (posting letter o) ≡ taken_of o
posting_taken letter (Some peer) = refl
posting_taken letter None = refl

taking_posted : (letter : Letter) (o : Option Peer) → posted_of (taking letter o) ≡ posted_of o
taking_posted letter (Some peer) = refl
taking_posted letter None = refl

posting_boxes : (letter : Letter) (o : Option Peer) → boxes_of (posting letter o) ≡ boxes_of o
posting_boxes letter (Some peer) = refl
posting_boxes letter None = refl

taking_boxes : (letter : Letter) (o : Option Peer) → boxes_of (taking letter o) ≡ boxes_of o
taking_boxes letter (Some peer) = refl
taking_boxes letter None = refl

-- a post
pub posted-posts_on : (desk : Desk) (q : ℕ) (letter : Letter) → IsSome (peer_at desk q) → posted (posts_on desk q letter) q ≡ posted desk q ++ letter ∷ []
posted-posts_on desk q letter known = ap posted_of (here desk q _ (known_within desk q known)) ∙ posting_posted letter (peer_at desk q) known

pub posted-posts_on_other : (desk : Desk) (q p : ℕ) (letter : Letter) → p ≢ q → posted (posts_on desk q letter) p ≡ posted desk p
posted-posts_on_other desk q p letter other = ap posted_of (elsewhere desk q p _ other)

pub taken-posts_on : (desk : Desk) (q p : ℕ) (letter : Letter) → taken (posts_on desk q letter) p ≡ taken desk p
taken-posts_on desk q p letter = alike taken_of desk q p _ (posting_taken letter (peer_at desk q))

-- a take
pub taken-takes_on : (desk : Desk) (p : ℕ) (letter : Letter) → IsSome (peer_at desk p) → taken (takes_on desk p letter) p ≡ taken desk p ++ letter ∷ []
taken-takes_on desk p letter known = ap taken_of (here desk p _ (known_within desk p known)) ∙ taking_taken letter (peer_at desk p) known

pub taken-takes_on_other : (desk : Desk) (p q : ℕ) (letter : Letter) → q ≢ p → taken (takes_on desk p letter) q ≡ taken desk q
taken-takes_on_other desk p q letter other = ap taken_of (elsewhere desk p q _ other)

pub posted-takes_on : (desk : Desk) (p q : ℕ) (letter : Letter) → posted (takes_on desk p letter) q ≡ posted desk q
posted-takes_on desk p q letter = alike posted_of desk p q _ (taking_posted letter (peer_at desk p))

-- the same boxes
pub IsSameEnd-refl : (desk : Desk) → IsSameEnd desk desk
IsSameEnd-refl desk = record { rank = refl; size = refl; boxes = λ q. refl }

pub IsSameEnd-trans : (a b c : Desk) → IsSameEnd a b → IsSameEnd b c → IsSameEnd a c
IsSameEnd-trans a b c h i = record { rank = i.rank ∙ h.rank; size = i.size ∙ h.size; boxes = λ q. i.boxes q ∙ h.boxes q }

pub IsSameEnd-posts_on : (desk : Desk) (q : ℕ) (letter : Letter) → IsSameEnd desk (posts_on desk q letter)
IsSameEnd-posts_on desk q letter =
    record { rank = refl; size = length-set desk.peers q _; boxes = λ p. alike boxes_of desk q p _ (posting_boxes letter (peer_at desk q)) }

pub IsSameEnd-takes_on : (desk : Desk) (p : ℕ) (letter : Letter) → IsSameEnd desk (takes_on desk p letter)
IsSameEnd-takes_on desk p letter =
    record { rank = refl; size = length-set desk.peers p _; boxes = λ q. alike boxes_of desk p q _ (taking_boxes letter (peer_at desk p)) }

-- the same books
abbrev boxes_to : Option (Mark × Mark) → List Letter
boxes_to (Some marks) = marks.0.route.book
boxes_to None = []

abbrev boxes_from : Option (Mark × Mark) → List Letter
boxes_from (Some marks) = marks.1.route.book
boxes_from None = []

to_boxes : (o : Option Peer) → book_to_of o ≡ boxes_to (boxes_of o)
to_boxes (Some peer) = refl
to_boxes None = refl

from_boxes : (o : Option Peer) → book_from_of o ≡ boxes_from (boxes_of o)
from_boxes (Some peer) = refl
from_boxes None = refl

pub book_to-same : (old new : Desk) → IsSameEnd old new → (q : ℕ) → book_to new q ≡ book_to old q
book_to-same old new same q = to_boxes (peer_at new q) ∙ ap boxes_to (same.boxes q) ∙ sym (to_boxes (peer_at old q))

pub book_from-same : (old new : Desk) → IsSameEnd old new → (p : ℕ) → book_from new p ≡ book_from old p
book_from-same old new same p = from_boxes (peer_at new p) ∙ ap boxes_from (same.boxes p) ∙ sym (from_boxes (peer_at old p))

-- so the ends of an issue stay the ends of that issue
some_boxes : (o : Option Peer) (x : Mark × Mark) → boxes_of o ≡ Some x → (peer : Peer) × (o ≡ Some peer) × ((mark_of peer.to, mark_of peer.from) ≡ x)
some_boxes (Some peer) x e = (peer, refl, some_same e)
  where
    some_same : {A : Type 0} {a b : A} → Some a ≡ Some b → a ≡ b
    some_same {A} {a} {b} e = cc
some_boxes None x e = absurd cc

no_boxes : (o : Option Peer) → boxes_of o ≡ None → o ≡ None
no_boxes (Some peer) e = absurd cc
no_boxes None e = refl

tied_same : (books : Books) (p q : ℕ) (a b a' b' : Option Peer) → boxes_of a' ≡ boxes_of a → boxes_of b' ≡ boxes_of b → AreTied books p q a b → AreTied books p q a' b'
tied_same books p q a b a' b' e f tie =
    let mine = some_boxes a' (mark_of tie.mine.to, mark_of tie.mine.from) (e ∙ ap boxes_of tie.is_mine) in
    let theirs = some_boxes b' (mark_of tie.theirs.to, mark_of tie.theirs.from) (f ∙ ap boxes_of tie.is_theirs) in
    record {
      mine = mine.0;
      theirs = theirs.0;
      is_mine = mine.1;
      is_theirs = theirs.1;
      there = record {
        same = ap (λ (x : Mark × Mark). x.0.mail) mine.2 ∙ tie.there.same ∙ ap (λ (x : Mark × Mark). x.1.mail) (sym theirs.2);
        sender = ap (λ (x : Mark × Mark). x.0.route) mine.2 ∙ tie.there.sender;
        receiver = ap (λ (x : Mark × Mark). x.1.route) theirs.2 ∙ tie.there.receiver;
      };
      back = record {
        same = ap (λ (x : Mark × Mark). x.0.mail) theirs.2 ∙ tie.back.same ∙ ap (λ (x : Mark × Mark). x.1.mail) (sym mine.2);
        sender = ap (λ (x : Mark × Mark). x.0.route) theirs.2 ∙ tie.back.sender;
        receiver = ap (λ (x : Mark × Mark). x.1.route) mine.2 ∙ tie.back.receiver;
      };
    }

pub IsIssue-same : (books : Books) (ranks : ℕ) (old new : List Desk) → IsIssue books ranks old → length new ≡ length old →
    ((p : ℕ) → p < ranks → IsSameEnd (desk_at old p) (desk_at new p)) → IsIssue books ranks new
IsIssue-same books ranks old new issue count same = record {
  count = count ∙ issue.count;
  numbered = λ p h. (same p h).rank ∙ issue.numbered p h;
  size = λ p h. (same p h).size ∙ issue.size p h;
  own = λ p h. no_boxes (peer_at (desk_at new p) p) ((same p h).boxes p ∙ ap boxes_of (issue.own p h));
  tied = λ p q pq h. tied_same books p q _ _ _ _ ((same p (omega (arith, pq, h))).boxes q) ((same q h).boxes p) (issue.tied p q pq h);
}
