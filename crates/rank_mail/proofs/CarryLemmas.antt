-- What closing boxes adds to what was carried.
use Rattle.std.proofs.Common.{◌≡◌, ◌≢◌, ℕ, ◌+◌, ◌<◌, ◌≤◌, List, [], ◌∷◌, ◌++◌, Option, None, length, slice_index_or, slice_set, refl, sym, ap, ◌∙◌, subst, append_assoc, append-nil, inl, inr, arith}
use Rattle.std.proofs.lemmas.Bool.{cases_eq, eq-eqb, ne_eqb}
use Rattle.std.proofs.lemmas.Grind.{flat_map-append}
use Rattle.std.proofs.lemmas.List.{get_or_read, length_push}
use Rattle.bern_base.specs.declared.letter.Letter.{Letter}
use Rattle.rank_mail.specs.declared.rule.Route.{Route}
use Rattle.rank_mail.specs.declared.peer.Peer.{Peer}
use Rattle.rank_mail.specs.Lanes.{Books, Haul, haul_of}
use Rattle.rank_mail.specs.Peers.{taken_of, hauls_between, AreTied, AreMates, AreInOrder}
use Rattle.rank_mail.specs.Desks.{Desk, peer_at, desk_at, taken, IsIssue}
use Rattle.rank_mail.specs.Offices.{taken_between, carried}
use Rattle.rank_mail.specs.Meetings.{IsMet, HasParted, reached}
use Rattle.rank_mail.proofs.ListLemmas.{beyond, push_other, push_here}
use Rattle.rank_mail.proofs.MeetLemmas.{HasMore, more_from_pop, same_below, new_peer, met_less, met_issue, issue_less, parting_tie, tied_mates}

-- the letters of a closed box count for its own pair
between_here : (p q : ℕ) (haul : Haul) → haul.route.from ≡ p → haul.route.to ≡ q → taken_between p q haul ≡ haul.taken
between_here p q haul e f = rw (eq-eqb haul.route.from p e, eq-eqb haul.route.to q f) refl

between_other : (p q : ℕ) (haul : Haul) → (haul.route.from ≡ p → haul.route.to ≡ q → ⊥) → taken_between p q haul ≡ []
between_other p q haul other =
    elim (cases_eq haul.route.from p) [
      | inl e ↦
          elim (cases_eq haul.route.to q) [
            | inl f ↦ absurd (other e f)
            | inr apart ↦ rw (eq-eqb haul.route.from p e, ne_eqb haul.route.to q apart) refl
          ]
      | inr apart ↦ rw (ne_eqb haul.route.from p apart) refl
    ]

-- what two closed boxes add
carried_two : (hauls : List Haul) (x y : Haul) (p q : ℕ) →
    carried (hauls ++ x ∷ y ∷ []) p q ≡ carried hauls p q ++ (taken_between p q x ++ taken_between p q y)
carried_two hauls x y p q =
    flat_map-append (taken_between p q) hauls (x ∷ y ∷ [])
    ∙ ap (λ zs. carried hauls p q ++ (taken_between p q x ++ zs)) (append-nil (taken_between p q y))

-- the last rank, with these peers
abbrev pub row : ℕ → List (Option Peer) → Desk
row k peers = record { rank = k; peers = peers }

-- while the boxes of the last rank are closed
pub record IsParting (books : Books) (k : ℕ) (before : List Desk) (last : Desk) (old : List Haul) (ends : List Desk) (peers : List (Option Peer)) (hauls : List Haul) : Type 0 where
  pub met : IsMet books k (length peers) ends peers
  pub totals : (p q : ℕ) → reached hauls (ends ++ row k peers ∷ []) p q ≡ reached old (before ++ last ∷ []) p q
  pub same : (p q : ℕ) → p < k → q < k → peer_at (desk_at ends p) q ≡ peer_at (desk_at before p) q
  pub here : (p : ℕ) → p < length peers → peer_at (desk_at ends p) k ≡ peer_at (desk_at before p) k
  pub there : (p : ℕ) → p < length peers → slice_index_or peers p None ≡ peer_at last p
  pub ordered : (p : ℕ) → length peers ≤ p → p < k → AreInOrder (peer_at (desk_at before p) k) (peer_at last p)

-- three lists of which one at most holds something
sum_none : (x y z all : List Letter) → x ≡ [] → y ≡ [] → z ≡ all → (x ++ y) ++ z ≡ all
sum_none x y z all e f g = ap (λ xs. (xs ++ y) ++ z) e ∙ ap (λ ys. ys ++ z) f ∙ g

sum_first : (x y z all : List Letter) → x ≡ all → y ≡ [] → z ≡ [] → (x ++ y) ++ z ≡ all
sum_first x y z all e f g = ap (λ zs. (x ++ y) ++ zs) g ∙ append-nil (x ++ y) ∙ ap (λ ys. x ++ ys) f ∙ append-nil x ∙ e

sum_second : (x y z all : List Letter) → x ≡ [] → y ≡ all → z ≡ [] → (x ++ y) ++ z ≡ all
sum_second x y z all e f g = ap (λ zs. (x ++ y) ++ zs) g ∙ append-nil (x ++ y) ∙ ap (λ xs. xs ++ y) e ∙ f

-- what the ends take, the last one among them
taken_rows : (k : ℕ) (ends new : List Desk) (x y : Desk) (p q : ℕ) → length ends ≡ k → length new ≡ k →
    (q ≡ k → taken x p ≡ taken y p) → (q ≢ k → taken (desk_at ends q) p ≡ taken (desk_at new q) p) →
    taken (desk_at (ends ++ x ∷ []) q) p ≡ taken (desk_at (new ++ y ∷ []) q) p
taken_rows k ends new x y p q count same_count last others =
    elim (cases_eq q k) [
      | inl e ↦
          ap (λ (d : Desk). taken d p) (push_here ends x q _ (e ∙ sym count)) ∙ last e
          ∙ ap (λ (d : Desk). taken d p) (sym (push_here new y q _ (e ∙ sym same_count)))
      | inr other ↦
          ap (λ (d : Desk). taken d p) (push_other ends x q _ (λ e. other (e ∙ count))) ∙ others other
          ∙ ap (λ (d : Desk). taken d p) (sym (push_other new y q _ (λ e. other (e ∙ same_count))))
    ]

-- before any of them is closed
pub parting_start : (books : Books) (k : ℕ) (before : List Desk) (last : Desk) (old : List Haul) (peers : List (Option Peer)) (own : Option Peer) →
    IsIssue books (k + 1) (before ++ last ∷ []) → last.peers ≡ peers ++ own ∷ [] → IsParting books k before last old before peers old
parting_start books k before last old peers own issue held =
    let met : IsMet books k k before peers = issue_less books k before peers own last issue held in
    let none : own ≡ None =
    sym (push_here peers own k None (sym met.peers_count)) ∙ ap (λ xs. slice_index_or xs k None) (sym held)
    ∙ ap (λ (d : Desk). peer_at d k) (sym (push_here before last k _ (sym met.count))) ∙ issue.own k (omega arith) in
    let alike : (p : ℕ) → slice_index_or peers p None ≡ peer_at last p = (λ p.
    elim (cases_eq p (length peers)) [
      | inl e ↦ beyond peers p None (omega (arith, e)) ∙ sym none ∙ sym (push_here peers own p None e) ∙ ap (λ xs. slice_index_or xs p None) (sym held)
      | inr other ↦ sym (push_other peers own p None other) ∙ ap (λ xs. slice_index_or xs p None) (sym held)
    ]) in
    let AtCount : ℕ → Type 0 = λ m. IsMet books k m before peers in
    record {
      met = subst AtCount (sym met.peers_count) met;
      totals = λ p q. ap (λ xs. carried old p q ++ xs) (taken_rows k before before (row k peers) last p q met.count met.count (λ e. ap taken_of (alike p)) (λ other. refl));
      same = λ p q h i. refl;
      here = λ p h. refl;
      there = λ p h. alike p;
      ordered = λ p above below. (let e = met.peers_count in absurd (omega (arith, above, below, e)));
    }

-- of two boxes there and back, the letters that count for a pair are what its receiver's end no longer has
closed_parts : (k m : ℕ) (a b : Option Peer) (short long : List Desk) (peers : List (Option Peer)) (x y : Haul) (p q : ℕ) →
    m < k → m ≡ length peers → length short ≡ k → HasMore k m a short long →
    x.route.from ≡ m → x.route.to ≡ k → y.route.from ≡ k → y.route.to ≡ m → x.taken ≡ taken_of b → y.taken ≡ taken_of a →
    (taken_between p q x ++ taken_between p q y) ++ taken (desk_at (short ++ row k peers ∷ []) q) p ≡ taken (desk_at (long ++ row k (peers ++ b ∷ []) ∷ []) q) p
closed_parts k m a b short long peers x y p q below place count more x_from x_to y_from y_to x_taken y_taken =
    elim (cases_eq q k) [
      | inl e ↦
          elim (cases_eq p m) [
            | inl f ↦ sum_first _ _ _ _
                (between_here p q x (x_from ∙ sym f) (x_to ∙ sym e) ∙ x_taken ∙ ap taken_of (sym (push_here peers b p None (f ∙ place))) ∙ sym (at_last (peers ++ b ∷ []) long long_count e))
                (between_other p q y (λ g h. omega (arith, below, y_from, g, f)))
                (at_last peers short count e ∙ ap taken_of (beyond peers p None (omega (arith, f, place))))
            | inr other ↦ sum_none _ _ _ _
                (between_other p q x (λ g h. other (sym g ∙ x_from)))
                (between_other p q y (λ g h. omega (arith, below, y_to, h, e)))
                (at_last peers short count e ∙ ap taken_of (sym (push_other peers b p None (λ h. other (h ∙ sym place)))) ∙ sym (at_last (peers ++ b ∷ []) long long_count e))
          ]
      | inr apart ↦
          elim (cases_eq q m) [
            | inl e ↦
                elim (cases_eq p k) [
                  | inl f ↦ sum_second _ _ _ _
                      (between_other p q x (λ g h. apart (sym h ∙ x_to)))
                      (between_here p q y (y_from ∙ sym f) (y_to ∙ sym e) ∙ y_taken ∙ ap taken_of (sym (at_m a f)) ∙ ap (λ i. taken (desk_at long i) p) (sym e) ∙ sym (not_last (peers ++ b ∷ []) long long_count apart))
                      (not_last peers short count apart ∙ ap (λ i. taken (desk_at short i) p) e ∙ ap taken_of (beyond (desk_at short m).peers p None (omega (arith, f, more.size))))
                  | inr other ↦ sum_none _ _ _ _
                      (between_other p q x (λ g h. apart (sym h ∙ x_to)))
                      (between_other p q y (λ g h. other (sym g ∙ y_from)))
                      (not_last peers short count apart ∙ ap (λ i. taken (desk_at short i) p) e
                      ∙ ap taken_of (sym (push_other (desk_at short m).peers a p None (λ h. other (h ∙ more.size))) ∙ ap (λ xs. slice_index_or xs p None) (sym more.peers))
                      ∙ ap (λ i. taken (desk_at long i) p) (sym e) ∙ sym (not_last (peers ++ b ∷ []) long long_count apart))
                ]
            | inr away ↦ sum_none _ _ _ _
                (between_other p q x (λ g h. apart (sym h ∙ x_to)))
                (between_other p q y (λ g h. away (sym h ∙ y_to)))
                (not_last peers short count apart ∙ ap (λ (d : Desk). taken d p) (sym (more.others q away)) ∙ sym (not_last (peers ++ b ∷ []) long long_count apart))
          ]
    ]
  where
    long_count : length long ≡ k
    long_count = more.count ∙ count

    at_last : (held : List (Option Peer)) (ends : List Desk) → length ends ≡ k → q ≡ k →
        taken (desk_at (ends ++ row k held ∷ []) q) p ≡ taken_of (slice_index_or held p None)
    at_last held ends size e = ap (λ (d : Desk). taken d p) (push_here ends (row k held) q _ (e ∙ sym size))

    not_last : (held : List (Option Peer)) (ends : List Desk) → length ends ≡ k → q ≢ k →
        taken (desk_at (ends ++ row k held ∷ []) q) p ≡ taken (desk_at ends q) p
    not_last held ends size other = ap (λ (d : Desk). taken d p) (push_other ends (row k held) q _ (λ e. other (e ∙ size)))

    at_m : (peer : Option Peer) → p ≡ k → peer_at (desk_at long m) p ≡ a
    at_m peer f = ap (λ i. peer_at (desk_at long m) i) f ∙ new_peer k m a short long more

-- so what was carried, and what the ends still have, is the same together
closed_total : (books : Books) (k m : ℕ) (a b : Option Peer) (short long : List Desk) (peers : List (Option Peer)) (hauls : List Haul) →
    m < k → m ≡ length peers → length short ≡ k → HasMore k m a short long → AreTied books m k a b → (p q : ℕ) →
    reached (hauls ++ hauls_between a b) (short ++ row k peers ∷ []) p q ≡ reached hauls (long ++ row k (peers ++ b ∷ []) ∷ []) p q
closed_total books k m a b short long peers hauls below place count more tie p q =
    let x : Haul = haul_of tie.mine.to tie.theirs.from in
    let y : Haul = haul_of tie.theirs.to tie.mine.from in
    let two : hauls_between a b ≡ x ∷ y ∷ [] = rw (tie.is_mine, tie.is_theirs) refl in
    let after = taken (desk_at (short ++ row k peers ∷ []) q) p in
    ap (λ zs. carried (hauls ++ zs) p q ++ after) two ∙ ap (λ zs. zs ++ after) (carried_two hauls x y p q)
    ∙ append_assoc (carried hauls p q) (taken_between p q x ++ taken_between p q y) after
    ∙ ap (λ zs. carried hauls p q ++ zs) (closed_parts k m a b short long peers x y p q below place count more
    (ap (λ (r : Route). r.from) tie.there.receiver) (ap (λ (r : Route). r.to) tie.there.receiver)
    (ap (λ (r : Route). r.from) tie.back.receiver) (ap (λ (r : Route). r.to) tie.back.receiver)
    (ap taken_of (sym tie.is_theirs)) (ap taken_of (sym tie.is_mine)))

-- one rank's boxes are closed
pub parting_step : (books : Books) (k m : ℕ) (before : List Desk) (last : Desk) (old : List Haul) (a b : Option Peer) (short long : List Desk) (peers : List (Option Peer)) (hauls : List Haul) →
    m ≡ length peers → IsParting books k before last old long (peers ++ b ∷ []) hauls → HasMore k m a short long → AreInOrder a b →
    IsParting books k before last old short peers (hauls ++ hauls_between a b)
parting_step books k m before last old a b short long peers hauls place part more ordered =
    let count : length (peers ++ b ∷ []) ≡ m + 1 = length_push peers b ∙ ap (λ n. n + 1) (sym place) in
    let AtCount : ℕ → Type 0 = λ n. IsMet books k n long (peers ++ b ∷ []) in
    let met : IsMet books k (m + 1) long (peers ++ b ∷ []) = subst AtCount count part.met in
    let below : m < k = (let h = met.within in omega (arith, h)) in
    let less : IsMet books k m short peers = met_less books k m a b short long peers below met more in
    let tie = parting_tie books k m a b short long peers met more in
    let AtLength : ℕ → Type 0 = λ n. IsMet books k n short peers in
    record {
      met = subst AtLength place less;
      totals = λ p q. closed_total books k m a b short long peers hauls below place less.count more tie p q ∙ part.totals p q;
      same = λ p q h i. sym (same_below k m a short long more p q i) ∙ part.same p q h i;
      here = λ p h. ap (λ (d : Desk). peer_at d k) (sym (more.others p (λ e. omega (arith, e, h, place)))) ∙ part.here p (omega (arith, h, count, place));
      there = λ p h. sym (push_other peers b p None (λ e. omega (arith, e, h))) ∙ part.there p (omega (arith, h, count, place));
      ordered = λ p above h.
          elim (cases_eq p m) [
            | inl e ↦
                let mine : a ≡ peer_at (desk_at before m) k = sym (new_peer k m a short long more) ∙ part.here m (omega (arith, count)) in
                let theirs : b ≡ peer_at last m = sym (push_here peers b m None place) ∙ part.there m (omega (arith, count)) in
                let First : Option Peer → Type 0 = λ x. AreInOrder x b in
                let Second : Option Peer → Type 0 = λ x. AreInOrder (peer_at (desk_at before m) k) x in
                let At : ℕ → Type 0 = λ i. AreInOrder (peer_at (desk_at before i) k) (peer_at last i) in
                subst At (sym e) (subst Second theirs (subst First mine ordered))
            | inr other ↦ part.ordered p (omega (arith, above, other, count, place)) h
          ];
    }

-- what the sides belong to, for the call that closes them
pub parting_mates : (books : Books) (k m : ℕ) (before : List Desk) (last : Desk) (old : List Haul) (a b : Option Peer) (short long : List Desk) (peers : List (Option Peer)) (hauls : List Haul) →
    m ≡ length peers → IsParting books k before last old long (peers ++ b ∷ []) hauls → HasMore k m a short long → AreMates a b
parting_mates books k m before last old a b short long peers hauls place part more =
    let count : length (peers ++ b ∷ []) ≡ m + 1 = length_push peers b ∙ ap (λ n. n + 1) (sym place) in
    let AtCount : ℕ → Type 0 = λ n. IsMet books k n long (peers ++ b ∷ []) in
    tied_mates books m k a b (parting_tie books k m a b short long peers (subst AtCount count part.met) more)

-- the rank whose boxes are next has the last rank as its last peer
pub parting_more : (books : Books) (k m : ℕ) (before : List Desk) (last : Desk) (old : List Haul) (a b : Option Peer) (long : List Desk) (peers : List (Option Peer)) (hauls : List Haul) (was new : Desk) →
    m ≡ length peers → IsParting books k before last old long (peers ++ b ∷ []) hauls → was ≡ desk_at long m → new.rank ≡ was.rank → was.peers ≡ new.peers ++ a ∷ [] →
    HasMore k m a (slice_set long m new) long
parting_more books k m before last old a b long peers hauls was new place part is rank held =
    let met = part.met in
    let count : length (peers ++ b ∷ []) ≡ m + 1 = length_push peers b ∙ ap (λ n. n + 1) (sym place) in
    more_from_pop k m a long new (let e = met.count in let h = met.within in omega (arith, e, h, count)) (met.met m (omega (arith, count)))
    (rank ∙ ap (λ (d : Desk). d.rank) is) (sym (ap (λ (d : Desk). d.peers) is) ∙ held)

-- the turn of one rank: the last rank's peer for it is there, and so is its own for the last rank
pub record IsTurn (books : Books) (k m : ℕ) (before : List Desk) (last : Desk) (old : List Haul) (a b : Option Peer) (short long : List Desk) (peers : List (Option Peer)) (hauls : List Haul) : Type 0 where
  pub place : m ≡ length peers
  pub part : IsParting books k before last old long (peers ++ b ∷ []) hauls
  pub more : HasMore k m a short long

pub turn : (books : Books) (k m : ℕ) (before : List Desk) (last : Desk) (old : List Haul) (a b : Option Peer) (long : List Desk) (all peers : List (Option Peer)) (hauls : List Haul) (was new : Desk) →
    m ≡ length peers → IsParting books k before last old long all hauls → all ≡ peers ++ b ∷ [] → was ≡ slice_index_or long m was → new.rank ≡ was.rank → was.peers ≡ new.peers ++ a ∷ [] →
    IsTurn books k m before last old a b (slice_set long m new) long peers hauls
turn books k m before last old a b long all peers hauls was new place given shape read rank held =
    let Now : List (Option Peer) → Type 0 = λ xs. IsParting books k before last old long xs hauls in
    let part = subst Now shape given in
    let within : m < length long = (let h = part.met.within in let e = part.met.count in let n = length_push peers b in omega (arith, h, e, n, place)) in
    record {
      place = place;
      part = part;
      more = parting_more books k m before last old a b long peers hauls was new place part (get_or_read long m was within read _) rank held;
    }

-- all of them are closed
pub parting_end : (books : Books) (k : ℕ) (before : List Desk) (last : Desk) (old : List Haul) (ends : List Desk) (peers : List (Option Peer)) (hauls : List Haul) →
    peers ≡ [] → IsParting books k before last old ends peers hauls → HasParted books k before last ends old hauls
parting_end books k before last old ends peers hauls none part =
    let AtCount : ℕ → Type 0 = λ n. IsMet books k n ends peers in
    let met : IsMet books k 0 ends peers = subst AtCount (ap length none) part.met in
    let nobody : (p q : ℕ) → taken (desk_at ends q) p ≡ taken (desk_at (ends ++ row k peers ∷ []) q) p = (λ p q.
    elim (cases_eq q k) [
      | inl e ↦
          ap (λ (d : Desk). taken d p) (beyond ends q _ (omega (arith, e, met.count))) ∙ ap (λ xs. taken_of (slice_index_or xs p None)) (sym none)
          ∙ ap (λ (d : Desk). taken d p) (sym (push_here ends (row k peers) q _ (e ∙ sym met.count)))
      | inr other ↦ ap (λ (d : Desk). taken d p) (sym (push_other ends (row k peers) q _ (λ e. other (e ∙ met.count))))
    ]) in
    record {
      issue = met_issue books k ends peers met;
      same = part.same;
      totals = λ p q. ap (λ xs. carried hauls p q ++ xs) (nobody p q) ∙ part.totals p q;
      ordered = λ p h. part.ordered p (let e = ap length none in omega (arith, e)) h;
    }

-- while the ranks leave, the last first
pub record IsClosing (books : Books) (all : List Desk) (old : List Haul) (ends : List Desk) (hauls : List Haul) : Type 0 where
  pub issue : IsIssue books (length ends) ends
  pub within : length ends ≤ length all
  pub totals : (p q : ℕ) → reached hauls ends p q ≡ reached old all p q
  pub same : (p q : ℕ) → p < length ends → q < length ends → peer_at (desk_at ends p) q ≡ peer_at (desk_at all p) q
  pub ordered : (p q : ℕ) → p < q → length ends ≤ q → q < length all → AreInOrder (peer_at (desk_at all p) q) (peer_at (desk_at all q) p)

-- one rank has left
pub closing_step : (books : Books) (all : List Desk) (old : List Haul) (ends : List Desk) (last : Desk) (hauls : List Haul) (left : List Desk) (more : List Haul) →
    IsClosing books all old (ends ++ last ∷ []) hauls → HasParted books (length ends) ends last left hauls more → IsClosing books all old left more
closing_step books all old ends last hauls left more closing parted =
    let k = length ends in
    let count : length (ends ++ last ∷ []) ≡ k + 1 = length_push ends last in
    let size : length left ≡ k = parted.issue.count in
    let before : (p : ℕ) → p < k → desk_at (ends ++ last ∷ []) p ≡ desk_at ends p = (λ p h. push_other ends last p _ (λ e. omega (arith, e, h))) in
    let here : desk_at (ends ++ last ∷ []) k ≡ last = push_here ends last k _ refl in
    let AtCount : ℕ → Type 0 = λ n. IsIssue books n left in
    record {
      issue = subst AtCount (sym size) parted.issue;
      within = (let h = closing.within in omega (arith, h, count, size));
      totals = λ p q. parted.totals p q ∙ closing.totals p q;
      same = λ p q h i.
          parted.same p q (omega (arith, h, size)) (omega (arith, i, size)) ∙ ap (λ (d : Desk). peer_at d q) (sym (before p (omega (arith, h, size))))
          ∙ closing.same p q (omega (arith, h, size, count)) (omega (arith, i, size, count));
      ordered = λ p q pq above h.
          elim (cases_eq q k) [
            | inl e ↦
                let pk : p < k = omega (arith, pq, e) in
                let mine : peer_at (desk_at ends p) k ≡ peer_at (desk_at all p) k =
                ap (λ (d : Desk). peer_at d k) (sym (before p pk)) ∙ closing.same p k (omega (arith, pk, count)) (omega (arith, count)) in
                let theirs : peer_at last p ≡ peer_at (desk_at all k) p =
                ap (λ (d : Desk). peer_at d p) (sym here) ∙ closing.same k p (omega (arith, count)) (omega (arith, pk, count)) in
                let First : Option Peer → Type 0 = λ x. AreInOrder x (peer_at last p) in
                let Second : Option Peer → Type 0 = λ x. AreInOrder (peer_at (desk_at all p) k) x in
                let At : ℕ → Type 0 = λ i. AreInOrder (peer_at (desk_at all p) i) (peer_at (desk_at all i) p) in
                subst At (sym e) (subst Second theirs (subst First mine (parted.ordered p pk)))
            | inr other ↦ closing.ordered p q pq (omega (arith, above, size, count, other)) h
          ];
    }
