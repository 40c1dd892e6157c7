-- All ranks: what stands where in a book, and that every event keeps `Fit`.
use Rattle.std.proofs.Common.{◌≡◌, ℕ, true, false, ◌&&◌, nat_lt, List, [], ◌∷◌, ◌++◌, take, drop, append_assoc, take-append-drop, refl, sym, ap, ◌∙◌}
use Rattle.std.proofs.lemmas.Bool.{cond_both, cond-true, cond-false, and_parts}
use Rattle.rank_scripts.specs.Acts.{posts_to, at_post, receiver}
use Rattle.rank_scripts.specs.Ranks.{put}
use Rattle.rank_scripts.specs.Scripts.{Scripts, book}
use Rattle.rank_scripts.specs.Nodes.{Node, worked, posted, took, NodeFit}
use Rattle.rank_scripts.specs.Worlds.{World, Event, Works, Posts, Takes, has_some, can, happens, step, start, run, Fit}
use Rattle.rank_scripts.specs.Orders.{PostsNext, TakesNext}
use Rattle.rank_scripts.proofs.RankLemmas.{put_same, put_other, put_both, put_two}
use Rattle.rank_scripts.proofs.BookLemmas.{IsNextOf-from}
use Rattle.rank_scripts.proofs.NodeLemmas.{fresh_fit, worked_fit, posted_fit, took_fit, rest-at_post}
use Rattle.rank_scripts.proofs.ActLemmas.{post_first}

-- the oldest letter moves from one list to the end of the list before it
pub take_moves : {A : Type 0} (given flight rest : List A) →
    (given ++ take 1 flight) ++ drop 1 flight ++ rest ≡ given ++ flight ++ rest
take_moves given flight rest = rw (append_assoc given (take 1 flight) (drop 1 flight), take-append-drop 1 flight) refl

pub post_moves : {A : Type 0} (given flight rest : List A) →
    given ++ (flight ++ take 1 rest) ++ drop 1 rest ≡ given ++ flight ++ rest
post_moves given flight rest =
    rw (← append_assoc given flight (take 1 rest), append_assoc (given ++ flight) (take 1 rest) (drop 1 rest), take-append-drop 1 rest) refl

-- a fact of each node that a change of node r keeps
pub nodes_put : {L : Type 0} (node : ℕ → Node L) (r : ℕ) (new : Node L) (P : ℕ → Node L → Type 0) → P r new →
    ((q : ℕ) → P q (node q)) → (q : ℕ) → P q (put node r new q)
nodes_put node r new P here each = put_both node r new P here (λ q other. each q)

-- the events keep `Fit`
pub works_fit : {L : Type 0} (scripts : Scripts L) (w : World L) (r : ℕ) → can scripts w (Works r) ≡ true →
    Fit scripts w → Fit scripts (happens scripts w (Works r))
works_fit scripts w r enabled fit =
    let new = worked scripts r (w.node r) in
    let given = nodes_put w.node r new (λ q node. (p : ℕ) → node.given p ≡ (w.node q).given p) (λ p. refl) (λ q p. refl) in
    let rest = nodes_put w.node r new (λ p node. (q : ℕ) → node.rest q ≡ (w.node p).rest q) (λ q. refl) (λ p q. refl) in
    record {
      nodes = nodes_put w.node r new (NodeFit scripts) (worked_fit scripts r (w.node r) (and_parts _ _ enabled).1 (fit.nodes r)) fit.nodes;
      books = λ p q. rw (given q p, rest p q) (fit.books p q);
    }

pub posts_fit : {L : Type 0} (scripts : Scripts L) (w : World L) (r : ℕ) → can scripts w (Posts r) ≡ true →
    Fit scripts w → Fit scripts (happens scripts w (Posts r))
posts_fit scripts w r enabled fit =
    let node = w.node r in
    let new = posted scripts r node in
    let to = receiver node.todo in
    let after = w.flight r to ++ take 1 (node.rest to) in
    let given = nodes_put w.node r new (λ q n. (p : ℕ) → n.given p ≡ (w.node q).given p) (λ p. refl) (λ q p. refl) in
    record {
      nodes = nodes_put w.node r new (NodeFit scripts) (posted_fit scripts r node (and_parts _ _ enabled).1 (fit.nodes r)) fit.nodes;
      books = λ p q. rw (given q p)
          (put_two w.flight w.node r (put (w.flight r) to after) new (λ p row n. (w.node q).given p ++ row q ++ n.rest q ≡ book scripts p q)
          (put_two (w.flight r) node.rest to after (drop 1 (node.rest to)) (λ q flight rest. (w.node q).given r ++ flight ++ rest ≡ book scripts r q)
          (rw (post_moves ((w.node to).given r) (w.flight r to) (node.rest to)) (fit.books r to))
          (λ q other. fit.books r q)
          q)
          (λ p other. fit.books p q)
          p);
    }

pub takes_fit : {L : Type 0} (scripts : Scripts L) (w : World L) (r from : ℕ) → Fit scripts w →
    Fit scripts (happens scripts w (Takes r from))
takes_fit scripts w r from fit =
    let node = w.node r in
    let oldest = take 1 (w.flight from r) in
    let left = drop 1 (w.flight from r) in
    let new = took scripts r node from oldest in
    let rest = nodes_put w.node r new (λ p n. (q : ℕ) → n.rest q ≡ (w.node p).rest q) (λ q. refl) (λ p q. refl) in
    record {
      nodes = nodes_put w.node r new (NodeFit scripts) (took_fit scripts r node from oldest (fit.nodes r)) fit.nodes;
      books = λ p q. rw (rest p q)
          (put_both w.flight from (put (w.flight from) r left) (λ p row. (put w.node r new q).given p ++ row q ++ (w.node p).rest q ≡ book scripts p q)
          (put_two w.node (w.flight from) r new left (λ q n flight. n.given from ++ flight ++ (w.node from).rest q ≡ book scripts from q)
          (rw (put_same node.given from (node.given from ++ oldest), take_moves (node.given from) (w.flight from r) ((w.node from).rest r)) (fit.books from r))
          (λ q other. fit.books from q)
          q)
          (λ p other. rw (nodes_put w.node r new (λ q n. n.given p ≡ (w.node q).given p) (put_other node.given from (node.given from ++ oldest) p other) (λ q. refl) q) (fit.books p q))
          p);
    }

pub happens_fit : {L : Type 0} (scripts : Scripts L) (w : World L) (event : Event) → can scripts w event ≡ true →
    Fit scripts w → Fit scripts (happens scripts w event)
happens_fit scripts w (Works r) enabled fit = works_fit scripts w r enabled fit
happens_fit scripts w (Posts r) enabled fit = posts_fit scripts w r enabled fit
happens_fit scripts w (Takes r from) enabled fit = takes_fit scripts w r from fit

-- an enabled event happens, and another changes nothing
pub step-enabled : {L : Type 0} (scripts : Scripts L) (w : World L) (event : Event) → can scripts w event ≡ true →
    step scripts w event ≡ happens scripts w event
step-enabled scripts w event enabled = cond-true (can scripts w event) (happens scripts w event) w enabled

pub step-refused : {L : Type 0} (scripts : Scripts L) (w : World L) (event : Event) → can scripts w event ≡ false →
    step scripts w event ≡ w
step-refused scripts w event refused = cond-false (can scripts w event) (happens scripts w event) w refused

pub step_fit : {L : Type 0} (scripts : Scripts L) (w : World L) (event : Event) → Fit scripts w →
    Fit scripts (step scripts w event)
step_fit scripts w event fit = cond_both (can scripts w event) (happens scripts w event) w (Fit scripts) (λ e. happens_fit scripts w event e fit) (λ e. fit)

pub start_fit : {L : Type 0} (scripts : Scripts L) → Fit scripts (start scripts)
start_fit scripts = record { nodes = fresh_fit scripts; books = λ p q. refl }

pub run_fit : {L : Type 0} (scripts : Scripts L) (w : World L) (events : List Event) → Fit scripts w →
    Fit scripts (run scripts w events)
run_fit scripts w [] fit = fit
run_fit scripts w (event ∷ events) fit = run_fit scripts (step scripts w event) events (step_fit scripts w event fit)

-- an element of a list that has one
pub some_first : {A : Type 0} (xs : List A) → has_some xs ≡ true → (x : A) × (xs ≡ x ∷ drop 1 xs)
some_first [] some = absurd (cc)
some_first (x ∷ xs) some = (x, refl)

-- what is posted and what is taken is the next letter of its book
pub posts_next : {L : Type 0} (scripts : Scripts L) (w : World L) (r : ℕ) → Fit scripts w →
    can scripts w (Posts r) ≡ true → PostsNext scripts w r (receiver (w.node r).todo)
posts_next {L} scripts w r fit enabled =
    let node = w.node r in
    let to = receiver node.todo in
    let at : at_post node.todo ≡ true = (and_parts (nat_lt r scripts.ranks) (at_post node.todo) enabled).1 in
    let first = post_first node.todo at in
    let letter = first.0 in
    let rest = rest-at_post scripts r node to letter (drop 1 node.todo) first.1 (fit.nodes r) in
    let before = (w.node to).given r ++ w.flight r to in
    let whole : before ++ letter ∷ posts_to to (drop 1 node.todo) ≡ book scripts r to = rw rest at (fit.books r to) in
    let sent : w.flight r to ++ take 1 (node.rest to) ≡ w.flight r to ++ letter ∷ [] = rw rest refl in
    record {
      letter = letter;
      next = IsNextOf-from before letter (posts_to to (drop 1 node.todo)) (book scripts r to) whole;
      flight = ap (λ (row : ℕ → List L). row to) (put_same w.flight r (put (w.flight r) to (w.flight r to ++ take 1 (node.rest to)))) ∙ put_same (w.flight r) to (w.flight r to ++ take 1 (node.rest to)) ∙ sent;
    }

pub takes_next : {L : Type 0} (scripts : Scripts L) (w : World L) (r from : ℕ) → Fit scripts w →
    can scripts w (Takes r from) ≡ true → TakesNext scripts w r from
takes_next {L} scripts w r from fit enabled =
    let node = w.node r in
    let some : has_some (w.flight from r) ≡ true =
    (and_parts (nat_lt from scripts.ranks) (has_some (w.flight from r)) (and_parts (nat_lt r scripts.ranks) (nat_lt from scripts.ranks && has_some (w.flight from r)) enabled).1).1 in
    let first = some_first (w.flight from r) some in
    let letter = first.0 in
    let after = drop 1 (w.flight from r) ++ (w.node from).rest r in
    let whole : node.given from ++ letter ∷ after ≡ book scripts from r =
    sym (append_assoc (node.given from) (letter ∷ drop 1 (w.flight from r)) ((w.node from).rest r)) ∙ rw (← first.1) (fit.books from r) in
    let taken : node.given from ++ take 1 (w.flight from r) ≡ node.given from ++ letter ∷ [] = ap (λ (xs : List L). node.given from ++ take 1 xs) first.1 in
    record {
      letter = letter;
      next = IsNextOf-from (node.given from) letter after (book scripts from r) whole;
      given = ap (λ (n : Node L). n.given from) (put_same w.node r (took scripts r node from (take 1 (w.flight from r)))) ∙ put_same node.given from (node.given from ++ take 1 (w.flight from r)) ∙ taken;
    }
