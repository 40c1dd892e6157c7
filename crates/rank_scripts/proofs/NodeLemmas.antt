-- One rank: what settling keeps, and that its start, its work, its posts and its takes keep `NodeFit`.
use Rattle.std.proofs.Common.{◌≡◌, ℕ, suc, ◌<◌, ◌≤◌, Bool, true, false, List, [], ◌∷◌, ◌++◌, length, length-append, drop, refl, sym, ap, ◌∙◌, inl, inr, arith, add-one, add-zero}
use Rattle.std.proofs.lemmas.Bool.{cond_both, cases_eq, leb-true, le-leb, eq-eqb, ne_eqb}
use Rattle.rank_scripts.specs.Acts.{Act, Work, Post, Wait, posts_to, works, at_work, at_post, at_wait}
use Rattle.rank_scripts.specs.Ranks.{put}
use Rattle.rank_scripts.specs.Scripts.{Scripts, book, named}
use Rattle.rank_scripts.specs.Nodes.{HasAllBefore, Node, has_all, past_waits, settle, fresh, worked, posted, took, IsPlace, NodeFit}
use Rattle.rank_scripts.proofs.RankLemmas.{put_both, all_below_at, all_below_from}
use Rattle.rank_scripts.proofs.ActLemmas.{IsPlace-next}

-- what passing a wait keeps, settling keeps
pub past_waits_any : {L : Type 0} (passes : ℕ → Bool) (P : ℕ → List (Act L) → Type 0) →
    ((m : ℕ) (acts : List (Act L)) → passes m ≡ true → P m (Wait ∷ acts) → P (suc m) acts) →
    (m : ℕ) (acts : List (Act L)) → P m acts → P (past_waits passes m acts).passed (past_waits passes m acts).todo
past_waits_any passes P next m [] here = here
past_waits_any passes P next m (Work ∷ acts) here = here
past_waits_any passes P next m (Post to letter ∷ acts) here = here
past_waits_any passes P next m (Wait ∷ acts) here =
    cond_both (passes m) (past_waits passes (suc m) acts) (record { passed = m; todo = Wait ∷ acts }) (λ at. P at.passed at.todo)
    (λ e. past_waits_any passes P next (suc m) acts (next m acts e here))
    (λ e. here)

-- it stops only at a wait that the test does not let pass
pub past_waits_stops : {L : Type 0} (passes : ℕ → Bool) (m : ℕ) (acts : List (Act L)) →
    at_wait (past_waits passes m acts).todo ≡ true → passes (past_waits passes m acts).passed ≡ false
past_waits_stops passes m [] = λ waits_here. absurd (cc)
past_waits_stops passes m (Work ∷ acts) = λ waits_here. absurd (cc)
past_waits_stops passes m (Post to letter ∷ acts) = λ waits_here. absurd (cc)
past_waits_stops passes m (Wait ∷ acts) =
    cond_both (passes m) (past_waits passes (suc m) acts) (record { passed = m; todo = Wait ∷ acts }) (λ at. at_wait at.todo ≡ true → passes at.passed ≡ false)
    (λ e. past_waits_stops passes (suc m) acts)
    (λ e waits_here. e)

-- settling does no work and posts nothing
pub works-settle : {L : Type 0} (scripts : Scripts L) (r m : ℕ) (acts : List (Act L)) (given rest : ℕ → List L) →
    works (settle scripts r m acts given rest).todo ≡ works acts
works-settle scripts r m acts given rest = past_waits_any (has_all scripts r given) (λ k todo. works todo ≡ works acts) (λ k todo e at. at) m acts refl

pub posts_to-settle : {L : Type 0} (scripts : Scripts L) (r m : ℕ) (acts : List (Act L)) (given rest : ℕ → List L) (q : ℕ) →
    posts_to q (settle scripts r m acts given rest).todo ≡ posts_to q acts
posts_to-settle scripts r m acts given rest q = past_waits_any (has_all scripts r given) (λ k todo. posts_to q todo ≡ posts_to q acts) (λ k todo e at. at) m acts refl

-- a settled node is fit
pub settle_fit : {L : Type 0} (scripts : Scripts L) (r m : ℕ) (acts : List (Act L)) (given rest : ℕ → List L) →
    IsPlace (scripts.script r) m acts → ((q : ℕ) → rest q ≡ posts_to q acts) →
    HasAllBefore scripts r given m → NodeFit scripts r (settle scripts r m acts given rest)
settle_fit {L} scripts r m acts given rest place rests past =
    let passes : ℕ → Bool = has_all scripts r given in
    record {
      place = past_waits_any passes (λ k todo. IsPlace (scripts.script r) k todo) (λ k todo e at. rw (← add-one k) (IsPlace-next (scripts.script r) k Wait todo at)) m acts place;
      rests = λ q. past_waits_any passes (λ k todo. rest q ≡ posts_to q todo) (λ k todo e at. at) m acts (rests q);
      past = past_waits_any passes (λ k todo. (j : ℕ) → j < k → passes j ≡ true)
          (λ k todo e at j h. elim (cases_eq j k) [ inl same ↦ rw same e | inr other ↦ at j (omega arith) ]) m acts past;
      waiting = past_waits_stops passes m acts;
    }

-- more letters pass each wait that fewer pass
pub has_all-more : {L : Type 0} (scripts : Scripts L) (r : ℕ) (given more : ℕ → List L) (m : ℕ) →
    ((q : ℕ) → length (given q) ≤ length (more q)) → has_all scripts r given m ≡ true →
    has_all scripts r more m ≡ true
has_all-more scripts r given more m grows all =
    all_below_from scripts.ranks _ (λ q h.
    let known : named scripts r m q ≤ length (given q) = leb-true _ _ (all_below_at scripts.ranks _ all q h) in
    let more_there = grows q in
    le-leb _ _ (omega arith))

-- each event keeps a node fit
pub fresh_fit : {L : Type 0} (scripts : Scripts L) (r : ℕ) → NodeFit scripts r (fresh scripts r)
fresh_fit scripts r =
    settle_fit scripts r 0 (scripts.script r) (λ q. []) (λ q. book scripts r q)
    (record { before = []; split = refl; count = refl })
    (λ q. refl)
    (λ k h. absurd (omega arith))

pub worked_fit : {L : Type 0} (scripts : Scripts L) (r : ℕ) (node : Node L) → at_work node.todo ≡ true →
    NodeFit scripts r node → NodeFit scripts r (worked scripts r node)
worked_fit {L} scripts r node = go node.passed node.todo node.given node.rest
  where
    go : (m : ℕ) (todo : List (Act L)) (given rest : ℕ → List L) → at_work todo ≡ true →
        NodeFit scripts r (record { passed = m; todo = todo; given = given; rest = rest }) →
        NodeFit scripts r (worked scripts r (record { passed = m; todo = todo; given = given; rest = rest }))
    go m [] given rest at fit = absurd (cc)
    go m (Work ∷ acts) given rest at fit =
        settle_fit scripts r m acts given rest (rw add-zero at (IsPlace-next (scripts.script r) m Work acts fit.place)) fit.rests fit.past
    go m (Post to letter ∷ acts) given rest at fit = absurd (cc)
    go m (Wait ∷ acts) given rest at fit = absurd (cc)

pub posted_fit : {L : Type 0} (scripts : Scripts L) (r : ℕ) (node : Node L) → at_post node.todo ≡ true →
    NodeFit scripts r node → NodeFit scripts r (posted scripts r node)
posted_fit {L} scripts r node = go node.passed node.todo node.given node.rest
  where
    go : (m : ℕ) (todo : List (Act L)) (given rest : ℕ → List L) → at_post todo ≡ true →
        NodeFit scripts r (record { passed = m; todo = todo; given = given; rest = rest }) →
        NodeFit scripts r (posted scripts r (record { passed = m; todo = todo; given = given; rest = rest }))
    go m [] given rest at fit = absurd (cc)
    go m (Work ∷ acts) given rest at fit = absurd (cc)
    go m (Post to letter ∷ acts) given rest at fit =
        settle_fit scripts r m acts given (put rest to (drop 1 (rest to)))
        (rw add-zero at (IsPlace-next (scripts.script r) m (Post to letter) acts fit.place))
        (put_both rest to (drop 1 (rest to)) (λ q left. left ≡ posts_to q acts)
        (rw (fit.rests to, eq-eqb to to refl) refl)
        (λ q other. rw (fit.rests q, ne_eqb to q (λ e. other (sym e))) refl))
        fit.past
    go m (Wait ∷ acts) given rest at fit = absurd (cc)

pub took_fit : {L : Type 0} (scripts : Scripts L) (r : ℕ) (node : Node L) (from : ℕ) (letters : List L) →
    NodeFit scripts r node → NodeFit scripts r (took scripts r node from letters)
took_fit scripts r node from letters fit =
    settle_fit scripts r node.passed node.todo (put node.given from (node.given from ++ letters)) node.rest fit.place fit.rests
    (λ k h. has_all-more scripts r node.given _ k
    (put_both node.given from (node.given from ++ letters) (λ q more. length (node.given q) ≤ length more)
    (let both = length-append (node.given from) letters in omega arith)
    (λ q other. omega arith))
    (fit.past k h))

-- at a post, the letter is the first of those that are still to be posted to its receiver
pub rest-at_post : {L : Type 0} (scripts : Scripts L) (r : ℕ) (node : Node L) (to : ℕ) (letter : L) (acts : List (Act L)) →
    node.todo ≡ Post to letter ∷ acts → NodeFit scripts r node → node.rest to ≡ letter ∷ posts_to to acts
rest-at_post scripts r node to letter acts at fit = fit.rests to ∙ ap (posts_to to) at ∙ rw (eq-eqb to to refl) refl
