-- A fit world that is not done has an enabled event, and a done world has delivered every letter.
use Rattle.std.proofs.Common.{◌≡◌, ℕ, zero, suc, ◌+◌, ◌<◌, ◌≤◌, Bool, true, false, not, List, [], ◌∷◌, ◌++◌, length, length-append, append_assoc, refl, sym, ap, ◌∙◌, subst, ◌⊎◌, inl, inr, arith}
use Rattle.std.proofs.lemmas.Bool.{and_from, lt-ltb, leb-false, not-true, not-false, true≢false, cases_Bool, true_from_ne_false}
use Rattle.std.proofs.lemmas.List.{nil_from_length}
use Rattle.rank_scripts.specs.Acts.{Act, Work, Post, Wait, works, at_work, at_post, at_wait, at_end}
use Rattle.rank_scripts.specs.Ranks.{all_below, sum_below}
use Rattle.rank_scripts.specs.Scripts.{Scripts, book, named, IsClosed, total}
use Rattle.rank_scripts.specs.Worlds.{World, Event, Works, Posts, Takes, has_some, happens, start, run, accepted, done, Fit, node_left, in_flight, left}
use Rattle.rank_scripts.specs.Orders.{GoesOn, Finishes, IsDelivered}
use Rattle.rank_scripts.proofs.RankLemmas.{Least, least_below, all_below_at, not_all_below, sum_same, sum_constant}
use Rattle.rank_scripts.proofs.ActLemmas.{end_first}
use Rattle.rank_scripts.proofs.PositionLemmas.{named-posted, finished-given, finished-rest}
use Rattle.rank_scripts.proofs.BookLemmas.{sent-is, sent-world}
use Rattle.rank_scripts.proofs.WorldLemmas.{start_fit, happens_fit, step-enabled}
use Rattle.rank_scripts.proofs.CountLemmas.{happens_count, run_count, start_count}

-- a list without an element is empty
pub none_in_flight : {A : Type 0} (xs : List A) → has_some xs ≡ false → xs ≡ []
none_in_flight [] none = refl
none_in_flight (x ∷ xs) none = absurd (cc)

-- acts of which the first is no work, no post and no end are at a wait
pub waits_otherwise : {L : Type 0} (todo : List (Act L)) → at_work todo ≡ false → at_post todo ≡ false →
    at_end todo ≡ false → at_wait todo ≡ true
waits_otherwise [] work post over = absurd (cc)
waits_otherwise (Work ∷ acts) work post over = absurd (cc)
waits_otherwise (Post to letter ∷ acts) work post over = absurd (cc)
waits_otherwise (Wait ∷ acts) work post over = refl

-- of the ranks that wait, one that has passed the fewest waits was given all that it waits for, once nothing is in
-- flight and no rank works or posts
pub stuck : {L : Type 0} (scripts : Scripts L) (w : World L) → Fit scripts w →
    ((p q : ℕ) → p < scripts.ranks → q < scripts.ranks → w.flight p q ≡ []) →
    ((r : ℕ) → r < scripts.ranks → at_work (w.node r).todo ≡ false) →
    ((r : ℕ) → r < scripts.ranks → at_post (w.node r).todo ≡ false) →
    Least scripts.ranks (λ r. at_wait (w.node r).todo) (λ r. (w.node r).passed) → ⊥
stuck scripts w fit silent idle mute found =
    let r = found.rank in
    let m = (w.node r).passed in
    let lacks = not_all_below scripts.ranks _ ((fit.nodes r).waiting found.passes) in
    let q = lacks.0 in
    let fewer : length ((w.node r).given q) < named scripts r m q = leb-false _ _ lacks.2 in
    let halts : (at_wait (w.node q).todo ≡ true) × (m ≤ (w.node q).passed) ⊎ (at_end (w.node q).todo ≡ true) =
    elim (cases_Bool (at_end (w.node q).todo)) [
      | inl ended ↦ inr ended
      | inr going ↦
          let waits_there = waits_otherwise (w.node q).todo (idle q lacks.1) (mute q lacks.1) going in
          inl (waits_there, found.least q lacks.1 waits_there)
    ] in
    let posted = named-posted scripts r m q (w.node q) (fit.nodes q) halts in
    let lengths = ap length (sent-world scripts w q r fit ∙ sent-is scripts q (w.node q) (fit.nodes q) r) in
    let parts = length-append ((w.node r).given q) (w.flight q r) in
    let none = ap length (silent q r lacks.1 found.there) in
    absurd (omega arith)

-- the first of two numbers at which a test passes
pub pair_below : (n : ℕ) (test : ℕ → ℕ → Bool) →
    ((j : ℕ) × (k : ℕ) × (j < n) × (k < n) × (test j k ≡ true)) ⊎ ((j k : ℕ) → j < n → k < n → test j k ≡ false)
pair_below n test =
    elim (least_below n (λ j. not (all_below n (λ k. not (test j k)))) (λ j. 0)) [
      | inl row ↦
          let at = not_all_below n (λ k. not (test row.rank k)) (not-true _ row.passes) in
          inl (row.rank, at.0, row.there, at.1, not-false _ at.2)
      | inr none ↦ inr (λ j k h l. not-true _ (all_below_at n (λ i. not (test j i)) (not-false _ (none j h)) k l))
    ]

-- so a fit world that is not done has an enabled event
pub goes_on : {L : Type 0} (scripts : Scripts L) (w : World L) → Fit scripts w → done scripts w ≡ false →
    GoesOn scripts w
goes_on scripts w fit going =
    elim (least_below scripts.ranks (λ r. at_work (w.node r).todo) (λ r. 0)) [
      | inl r ↦ record { event = Works r.rank; enabled = and_from _ _ (lt-ltb _ _ r.there) r.passes }
      | inr idle ↦ elim (least_below scripts.ranks (λ r. at_post (w.node r).todo) (λ r. 0)) [
        | inl r ↦ record { event = Posts r.rank; enabled = and_from _ _ (lt-ltb _ _ r.there) r.passes }
        | inr mute ↦ elim (pair_below scripts.ranks (λ from r. has_some (w.flight from r))) [
          | inl found ↦ record { event = Takes found.1 found.0; enabled = and_from _ _ (lt-ltb _ _ found.3) (and_from _ _ (lt-ltb _ _ found.2) found.4) }
          | inr silent ↦
              let last = not_all_below scripts.ranks _ going in
              let waits_there = waits_otherwise (w.node last.0).todo (idle last.0 last.1) (mute last.0 last.1) last.2 in
              elim (least_below scripts.ranks (λ r. at_wait (w.node r).todo) (λ r. (w.node r).passed)) [
                | inl found ↦ absurd (stuck scripts w fit (λ p q h l. none_in_flight (w.flight p q) (silent p q h l)) idle mute found)
                | inr none ↦ absurd (true≢false (sym waits_there ∙ none last.0 last.1))
              ]
        ]
      ]
    ]

-- in a done world each rank was given each book to it, nothing is in flight and nothing is still to be posted
pub done_delivered : {L : Type 0} (scripts : Scripts L) (w : World L) (p q : ℕ) → IsClosed scripts → Fit scripts w →
    done scripts w ≡ true → p < scripts.ranks → q < scripts.ranks → IsDelivered scripts w p q
done_delivered scripts w p q closed fit over p_there q_there =
    let ended = λ (r : ℕ) (h : r < scripts.ranks). all_below_at scripts.ranks (λ k. at_end (w.node k).todo) over r h in
    let front : (w.node q).given p ++ (w.flight p q ++ (w.node p).rest q) ≡ book scripts p q =
    sym (append_assoc ((w.node q).given p) (w.flight p q) ((w.node p).rest q)) ∙ fit.books p q in
    let all = finished-given scripts q (w.node q) p _ closed (fit.nodes q) (ended q q_there) p_there front in
    let parts = length-append (w.flight p q) ((w.node p).rest q) in
    let none = ap length all.1 in
    record {
      given = all.0;
      flight = nil_from_length (w.flight p q) (omega arith);
      rest = finished-rest scripts p (w.node p) q (fit.nodes p) (ended p p_there);
    }

-- a world is done exactly where no event is left
pub done_none : {L : Type 0} (scripts : Scripts L) (w : World L) → IsClosed scripts → Fit scripts w →
    done scripts w ≡ true → left scripts w ≡ 0
done_none scripts w closed fit over =
    let ranks = scripts.ranks in
    let zeros = sum_constant ranks 0 in
    let nodes : sum_below ranks (λ p. node_left ranks (w.node p)) ≡ 0 =
    sum_same ranks (λ p. node_left ranks (w.node p)) (λ p. 0) (λ p h.
    let ended = end_first (w.node p).todo (all_below_at ranks (λ k. at_end (w.node k).todo) over p h) in
    let work = ap works ended in
    let rests : sum_below ranks (λ q. length ((w.node p).rest q)) ≡ 0 =
    sum_same ranks (λ q. length ((w.node p).rest q)) (λ q. 0) (λ q l. ap length (done_delivered scripts w p q closed fit over h l).rest) ∙ (omega arith) in
    omega arith) ∙ (omega arith) in
    let flights : in_flight ranks w.flight ≡ 0 =
    sum_same ranks (λ p. sum_below ranks (λ q. length (w.flight p q))) (λ p. 0) (λ p h.
    sum_same ranks (λ q. length (w.flight p q)) (λ q. 0) (λ q l. ap length (done_delivered scripts w p q closed fit over h l).flight) ∙ (omega arith)) ∙ (omega arith) in
    omega arith

pub none_done : {L : Type 0} (scripts : Scripts L) (w : World L) → IsClosed scripts → Fit scripts w →
    left scripts w ≡ 0 → done scripts w ≡ true
none_done scripts w closed fit none =
    true_from_ne_false (done scripts w) (λ going.
    let next = goes_on scripts w fit going in
    let counted = happens_count scripts w next.event closed fit next.enabled in
    omega arith)

-- the count of a run from the start
pub accepted_left : {L : Type 0} (scripts : Scripts L) (events : List Event) → IsClosed scripts →
    accepted scripts (start scripts) events + left scripts (run scripts (start scripts) events) ≡ total scripts
accepted_left scripts events closed = run_count scripts (start scripts) events closed (start_fit scripts) ∙ start_count scripts

-- from every fit world some events lead to the end
pub finishes : {L : Type 0} (scripts : Scripts L) (n : ℕ) (w : World L) → IsClosed scripts → Fit scripts w →
    left scripts w ≡ n → Finishes scripts w
finishes {L} scripts zero w closed fit count = record { events = []; ends = none_done scripts w closed fit count }
finishes {L} scripts (suc n) w closed fit count =
    elim (cases_Bool (done scripts w)) [
      | inl over ↦ record { events = []; ends = over }
      | inr going ↦
          let next = goes_on scripts w fit going in
          let counted = happens_count scripts w next.event closed fit next.enabled in
          let more = finishes scripts n (happens scripts w next.event) closed (happens_fit scripts w next.event next.enabled fit) (omega arith) in
          let after : World L → Type 0 = λ v. done scripts (run scripts v more.events) ≡ true in
          record {
            events = next.event ∷ more.events;
            ends = subst after (sym (step-enabled scripts w next.event next.enabled)) more.ends;
          }
    ]
