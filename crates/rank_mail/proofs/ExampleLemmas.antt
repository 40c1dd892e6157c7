-- Ends that have numbered letters to post.
use Rattle.std.proofs.Common.{◌≡◌, ◌≢◌, ℕ, zero, suc, ◌<◌, List, [], ◌∷◌, ◌++◌, Option, Some, IsSome, length, slice_get, refl, sym, ap, ◌∙◌, subst, inl, inr, arith}
use Rattle.std.proofs.lemmas.Bool.{cases_order}
use Rattle.std.proofs.lemmas.List.{length_push}
use Rattle.std.proofs.lemmas.List.FromFn.{get_or-map-range_with_len, length-map-range_with_len}
use Rattle.std.proofs.lemmas.Option.{slice_get-get_or}
use Rattle.bern_base.specs.declared.letter.Letter.{Letter}
use Rattle.rank_scripts.specs.Scripts.{IsNextOf}
use Rattle.rank_mail.specs.declared.peer.Peer.{Peer}
use Rattle.rank_mail.specs.declared.rule.Route.{Route}
use Rattle.rank_mail.specs.Lanes.{Books}
use Rattle.rank_mail.specs.Peers.{book_to_of, IsUnused}
use Rattle.rank_mail.specs.Desks.{Desk, peer_at, posted, desk_at, IsIssue, IsNewIssue, IsSameEnd}
use Rattle.rank_mail.specs.Examples.{numbered, numbers, alike, IsReady}
use Rattle.rank_mail.proofs.ListLemmas.{push_here, push_other}
use Rattle.rank_mail.proofs.EndLemmas.{IsIssue-same}

-- the next number is the next letter
pub next_number : (n : ℕ) (before : List Letter) (i : ℕ) → length before ≡ i → i < n → IsNextOf (numbers n) before (numbered i)
next_number n before i count h =
    let size : length (numbers n) ≡ n = length-map-range_with_len numbered 0 n in
    ap (λ k. slice_get (numbers n) k) count ∙ slice_get-get_or (numbers n) i (numbered i) (omega (arith, size, h))
    ∙ ap Some (get_or-map-range_with_len numbered 0 n i i (numbered i) h (omega arith))

-- in a new issue each end has all letters to post to each other rank
pub ready_at : (n ranks : ℕ) (ends : List Desk) → IsNewIssue (alike n) ranks ends → (p q : ℕ) → p < ranks → q < ranks → p ≢ q → IsReady n (desk_at ends p) q
ready_at n ranks ends new p q hp hq apart =
    let unused : IsUnused (peer_at (desk_at ends p) q) = new.unused p _ (let e = new.issue.count in omega (arith, e, hp)) q _ (let e = new.issue.size p hp in omega (arith, e, hq)) in
    elim (cases_order p q) [
      | inl e ↦ absurd (apart e)
      | inr (inl pq) ↦
          let tie = new.issue.tied p q pq hq in
          ready tie.mine tie.is_mine (ap (λ (r : Route). r.book) tie.there.sender) unused.posted
      | inr (inr qp) ↦
          let tie = new.issue.tied q p qp hp in
          ready tie.theirs tie.is_theirs (ap (λ (r : Route). r.book) tie.back.sender) unused.posted
    ]
  where
    ready : (peer : Peer) → peer_at (desk_at ends p) q ≡ Some peer → peer.to.route.book ≡ numbers n → posted (desk_at ends p) q ≡ [] → IsReady n (desk_at ends p) q
    ready peer is book none = record {
      known = (let P : Option Peer → Type 0 = λ o. IsSome o in subst P (sym is) refl);
      book = ap book_to_of is ∙ book;
      none = none;
    }

-- the same of two ends taken from the list of two
pub ready_last : (n : ℕ) (ends rest : List Desk) (first second : Desk) → IsNewIssue (alike n) 2 ends → ends ≡ (rest ++ first ∷ []) ++ second ∷ [] → IsReady n second 0
ready_last n ends rest first second new all =
    let e : length (rest ++ first ∷ []) ≡ 1 = (let h = sym (length_push (rest ++ first ∷ []) second) ∙ ap length (sym all) ∙ new.issue.count in omega (arith, h)) in
    let P : Desk → Type 0 = λ d. IsReady n d 0 in
    subst P (ap (λ ds. desk_at ds 1) all ∙ push_here (rest ++ first ∷ []) second 1 _ (sym e)) (ready_at n 2 ends new 1 0 (omega arith) (omega arith) (λ h. omega (arith, h)))

pub ready_first : (n : ℕ) (ends rest : List Desk) (first second : Desk) → IsNewIssue (alike n) 2 ends → ends ≡ (rest ++ first ∷ []) ++ second ∷ [] → IsReady n first 1
ready_first n ends rest first second new all =
    let e : length (rest ++ first ∷ []) ≡ 1 = (let h = sym (length_push (rest ++ first ∷ []) second) ∙ ap length (sym all) ∙ new.issue.count in omega (arith, h)) in
    let f : length rest ≡ 0 = (let h = sym (length_push rest first) ∙ e in omega (arith, h)) in
    let P : Desk → Type 0 = λ d. IsReady n d 1 in
    subst P (ap (λ ds. desk_at ds 0) all ∙ push_other (rest ++ first ∷ []) second 0 _ (λ h. omega (arith, h, e)) ∙ push_here rest first 0 _ (sym f))
    (ready_at n 2 ends new 0 1 (omega arith) (omega arith) (λ h. omega (arith, h)))

-- two ends of an issue, used
pub two_same : (books : Books) (a b x y : Desk) (ends : List Desk) → IsIssue books 2 (a ∷ b ∷ []) → IsSameEnd a x → IsSameEnd b y → ends ≡ x ∷ y ∷ [] → IsIssue books (length ends) ends
two_same books a b x y ends issue first second all =
    let P : List Desk → Type 0 = λ ds. IsIssue books (length ds) ds in
    subst P (sym all) (IsIssue-same books 2 (a ∷ b ∷ []) (x ∷ y ∷ []) issue refl each)
  where
    each : (p : ℕ) → p < 2 → IsSameEnd (desk_at (a ∷ b ∷ []) p) (desk_at (x ∷ y ∷ []) p)
    each zero h = first
    each (suc zero) h = second
    each (suc (suc p)) h = absurd (omega (arith, h))
