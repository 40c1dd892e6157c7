-- Every enabled event leaves one event less to come.
use Rattle.std.proofs.Common.{◌≡◌, ℕ, suc, ◌+◌, ◌*◌, ◌<◌, true, cond, List, [], ◌∷◌, ◌++◌, length, length-append, take, drop, refl, ap, ◌∙◌, inl, inr, arith}
use Rattle.std.proofs.lemmas.Bool.{and_parts, ltb-true, cases_lt, cases_Bool}
use Rattle.rank_scripts.specs.Acts.{works, at_work, at_post, receiver}
use Rattle.rank_scripts.specs.Ranks.{put, sum_below}
use Rattle.rank_scripts.specs.Scripts.{Scripts, book, IsClosed, total}
use Rattle.rank_scripts.specs.Nodes.{Node, fresh, worked, posted, took, NodeFit}
use Rattle.rank_scripts.specs.Worlds.{World, Event, Works, Posts, Takes, has_some, can, happens, step, start, run, accepted, Fit, node_left, in_flight, left}
use Rattle.rank_scripts.proofs.RankLemmas.{sum_same, sum_put, sum_constant, sum_add, sum_double}
use Rattle.rank_scripts.proofs.ActLemmas.{work_first, post_first}
use Rattle.rank_scripts.proofs.NodeLemmas.{works-settle, rest-at_post}
use Rattle.rank_scripts.proofs.WorldLemmas.{step_fit}

-- what one rank has left
pub worked_left : {L : Type 0} (scripts : Scripts L) (r ranks : ℕ) (node : Node L) → at_work node.todo ≡ true →
    suc (node_left ranks (worked scripts r node)) ≡ node_left ranks node
worked_left scripts r ranks node at =
    let after = works-settle scripts r node.passed (drop 1 node.todo) node.given node.rest in
    let before = ap works (work_first node.todo at) in
    omega arith

pub posted_left : {L : Type 0} (scripts : Scripts L) (r ranks : ℕ) (node : Node L) → at_post node.todo ≡ true →
    receiver node.todo < ranks → NodeFit scripts r node →
    suc (suc (node_left ranks (posted scripts r node))) ≡ node_left ranks node
posted_left scripts r ranks node at within fit =
    let to = receiver node.todo in
    let first = post_first node.todo at in
    let after = works-settle scripts r node.passed (drop 1 node.todo) node.given (put node.rest to (drop 1 (node.rest to))) in
    let before = ap works first.1 in
    let rest = rest-at_post scripts r node to first.0 (drop 1 node.todo) first.1 fit in
    let now : length (node.rest to) ≡ suc (length (drop 1 (node.rest to))) = rw rest refl in
    let sum = sum_put ranks node.rest to (drop 1 (node.rest to)) length within in
    omega arith

pub took_left : {L : Type 0} (scripts : Scripts L) (r ranks : ℕ) (node : Node L) (from : ℕ) (more : List L) →
    node_left ranks (took scripts r node from more) ≡ node_left ranks node
took_left scripts r ranks node from more =
    let after = works-settle scripts r node.passed node.todo (put node.given from (node.given from ++ more)) node.rest in
    omega arith

-- the letters in flight after those of one pair changed
pub in_flight-put : {L : Type 0} (ranks : ℕ) (flight : ℕ → ℕ → List L) (p q : ℕ) (new : List L) → p < ranks →
    q < ranks →
    in_flight ranks (put flight p (put (flight p) q new)) + length (flight p q) ≡ in_flight ranks flight + length new
in_flight-put ranks flight p q new p_there q_there =
    let all = sum_put ranks flight p (put (flight p) q new) (λ row. sum_below ranks (λ j. length (row j))) p_there in
    let row = sum_put ranks (flight p) q new length q_there in
    omega arith

-- the receiver of a letter is there
pub post_within : {L : Type 0} (scripts : Scripts L) (w : World L) (r : ℕ) → IsClosed scripts → Fit scripts w →
    at_post (w.node r).todo ≡ true → receiver (w.node r).todo < scripts.ranks
post_within scripts w r closed fit at =
    let to = receiver (w.node r).todo in
    let first = post_first (w.node r).todo at in
    let rest = rest-at_post scripts r (w.node r) to first.0 (drop 1 (w.node r).todo) first.1 (fit.nodes r) in
    elim (cases_lt to scripts.ranks) [
      | inl within ↦ within
      | inr past ↦
          let none : length ((w.node to).given r ++ w.flight r to ++ (w.node r).rest to) ≡ 0 = ap length (fit.books r to ∙ closed.within r to past) in
          let some = ap length rest in
          let parts = length-append ((w.node to).given r ++ w.flight r to) ((w.node r).rest to) in
          absurd (omega arith)
    ]

pub happens_count : {L : Type 0} (scripts : Scripts L) (w : World L) (event : Event) → IsClosed scripts →
    Fit scripts w → can scripts w event ≡ true → suc (left scripts (happens scripts w event)) ≡ left scripts w
happens_count scripts w (Works r) closed fit enabled =
    let parts = and_parts _ _ enabled in
    let there = ltb-true r scripts.ranks parts.0 in
    let nodes = sum_put scripts.ranks w.node r (worked scripts r (w.node r)) (node_left scripts.ranks) there in
    let here = worked_left scripts r scripts.ranks (w.node r) parts.1 in
    omega arith
happens_count scripts w (Posts r) closed fit enabled =
    let parts = and_parts _ _ enabled in
    let there = ltb-true r scripts.ranks parts.0 in
    let node = w.node r in
    let to = receiver node.todo in
    let within = post_within scripts w r closed fit parts.1 in
    let first = post_first node.todo parts.1 in
    let rest = rest-at_post scripts r node to first.0 (drop 1 node.todo) first.1 (fit.nodes r) in
    let one : length (take 1 (node.rest to)) ≡ 1 = rw rest refl in
    let nodes = sum_put scripts.ranks w.node r (posted scripts r node) (node_left scripts.ranks) there in
    let here = posted_left scripts r scripts.ranks node parts.1 within (fit.nodes r) in
    let flights = in_flight-put scripts.ranks w.flight r to (w.flight r to ++ take 1 (node.rest to)) there within in
    let joined = length-append (w.flight r to) (take 1 (node.rest to)) in
    omega arith
happens_count scripts w (Takes r from) closed fit enabled =
    let parts = and_parts _ _ enabled in
    let more = and_parts _ _ parts.1 in
    let there = ltb-true r scripts.ranks parts.0 in
    let from_there = ltb-true from scripts.ranks more.0 in
    let nodes = sum_put scripts.ranks w.node r (took scripts r (w.node r) from (take 1 (w.flight from r))) (node_left scripts.ranks) there in
    let here = took_left scripts r scripts.ranks (w.node r) from (take 1 (w.flight from r)) in
    let flights = in_flight-put scripts.ranks w.flight from r (drop 1 (w.flight from r)) from_there there in
    let shorter = length-drop_one (w.flight from r) more.1 in
    omega arith
  where
    length-drop_one : {A : Type 0} (xs : List A) → has_some xs ≡ true → suc (length (drop 1 xs)) ≡ length xs
    length-drop_one [] some = absurd (cc)
    length-drop_one (x ∷ xs) some = refl

pub step_count : {L : Type 0} (scripts : Scripts L) (w : World L) (event : Event) → IsClosed scripts → Fit scripts w →
    cond (can scripts w event) 1 0 + left scripts (step scripts w event) ≡ left scripts w
step_count scripts w event closed fit =
    elim (cases_Bool (can scripts w event)) [
      | inl enabled ↦ rw (enabled) (let counted = happens_count scripts w event closed fit enabled in omega arith)
      | inr refused ↦ rw (refused) (omega arith)
    ]

-- the events that were accepted and those that are left make up what was left before
pub run_count : {L : Type 0} (scripts : Scripts L) (w : World L) (events : List Event) → IsClosed scripts →
    Fit scripts w → accepted scripts w events + left scripts (run scripts w events) ≡ left scripts w
run_count scripts w [] closed fit = omega arith
run_count scripts w (event ∷ events) closed fit =
    let first = step_count scripts w event closed fit in
    let rest = run_count scripts (step scripts w event) events closed (step_fit scripts w event fit) in
    omega arith

pub start_count : {L : Type 0} (scripts : Scripts L) → left scripts (start scripts) ≡ total scripts
start_count scripts =
    let ranks = scripts.ranks in
    let posts = λ (p : ℕ). sum_below ranks (λ q. length (book scripts p q)) in
    let each = sum_same ranks (λ p. node_left ranks (fresh scripts p)) (λ p. works (scripts.script p) + 2 * posts p)
    (λ p h. let kept = works-settle scripts p 0 (scripts.script p) (λ q. []) (λ q. book scripts p q) in omega arith) in
    let split = sum_add ranks (λ p. works (scripts.script p)) (λ p. 2 * posts p) in
    let doubled = sum_double ranks posts in
    let silent : in_flight ranks (start scripts).flight ≡ 0 =
    sum_same ranks (λ p. sum_below ranks (λ q. 0)) (λ p. 0) (λ p h. let none = sum_constant ranks 0 in omega arith) ∙ (let none = sum_constant ranks 0 in omega arith) in
    omega arith
