-- What a rank has posted where it stands, and what it was given at its end.
use Rattle.std.proofs.Common.{◌≡◌, ℕ, ◌<◌, ◌≤◌, true, List, [], ◌∷◌, ◌++◌, length, length-append, append-nil, drop, refl, sym, ap, ◌∙◌, ◌⊎◌, inl, inr, arith}
use Rattle.std.proofs.lemmas.Bool.{leb-true}
use Rattle.std.proofs.lemmas.List.{nil_from_length}
use Rattle.rank_scripts.specs.Acts.{Wait, posts_to, waits, until, at_wait, at_end}
use Rattle.rank_scripts.specs.Scripts.{Scripts, book, named, IsClosed}
use Rattle.rank_scripts.specs.Nodes.{Node, NodeFit}
use Rattle.rank_scripts.proofs.RankLemmas.{all_below_at}
use Rattle.rank_scripts.proofs.ActLemmas.{posts_to-append, waits-append, until-wait, until-posts, until-posts_before, wait_first, end_first}

-- a book is what was posted and what is still to post
pub book-split : {L : Type 0} (scripts : Scripts L) (p : ℕ) (node : Node L) → (fit : NodeFit scripts p node) →
    (q : ℕ) → book scripts p q ≡ posts_to q fit.place.before ++ node.rest q
book-split scripts p node fit q = ap (posts_to q) fit.place.split ∙ posts_to-append q fit.place.before node.todo ∙ rw (fit.rests q) refl

-- a rank that waits or is at its end has posted all that another rank's wait names which comes after no more waits
pub named-posted : {L : Type 0} (scripts : Scripts L) (r m q : ℕ) (node : Node L) → (fit : NodeFit scripts q node) →
    (at_wait node.todo ≡ true) × (m ≤ node.passed) ⊎ (at_end node.todo ≡ true) →
    named scripts r m q ≤ length (posts_to r fit.place.before)
named-posted scripts r m q node fit (inl waits_there) =
    let split = fit.place.split ∙ ap (λ todo. fit.place.before ++ todo) (wait_first node.todo waits_there.0) in
    let count = fit.place.count in
    let known = until-posts_before r m fit.place.before (drop 1 node.todo) (let h = waits_there.1 in omega arith) in
    rw split known
named-posted scripts r m q node fit (inr ended) =
    let split = fit.place.split ∙ ap (λ todo. fit.place.before ++ todo) (end_first node.todo ended) ∙ append-nil fit.place.before in
    rw split (until-posts r m fit.place.before)

-- a rank at its end was given as many letters as each book to it has
pub finished-length : {L : Type 0} (scripts : Scripts L) (r : ℕ) (node : Node L) (from : ℕ) → IsClosed scripts →
    NodeFit scripts r node → at_end node.todo ≡ true → from < scripts.ranks →
    length (book scripts from r) ≤ length (node.given from)
finished-length scripts r node from closed fit ended there =
    let ends = closed.ends from in
    let m = waits ends.before in
    let whole : scripts.script r ≡ fit.place.before = fit.place.split ∙ ap (λ todo. fit.place.before ++ todo) (end_first node.todo ended) ∙ append-nil fit.place.before in
    let passed : waits (scripts.script r) ≡ node.passed = ap waits whole ∙ fit.place.count in
    let same = closed.alike from r in
    let cut = ap waits ends.split ∙ waits-append ends.before (Wait ∷ ends.after) in
    let last = ends.last in
    let all = fit.past m (omega arith) in
    let known : named scripts r m from ≤ length (node.given from) = leb-true _ _ (all_below_at scripts.ranks _ all from there) in
    let before : named scripts r m from ≡ length (posts_to r ends.before) = ap (λ acts. length (posts_to r (until m acts))) ends.split ∙ ap (λ acts. length (posts_to r acts)) (until-wait ends.before ends.after) in
    let posted : book scripts from r ≡ posts_to r ends.before =
    ap (posts_to r) ends.split ∙ posts_to-append r ends.before (Wait ∷ ends.after) ∙ rw (ends.silent r) (append-nil (posts_to r ends.before)) in
    let lengths = ap length posted in
    omega arith

-- so if it was given a front of the book, it was given the book
pub finished-given : {L : Type 0} (scripts : Scripts L) (r : ℕ) (node : Node L) (from : ℕ) (more : List L) →
    IsClosed scripts → NodeFit scripts r node → at_end node.todo ≡ true → from < scripts.ranks →
    node.given from ++ more ≡ book scripts from r → (node.given from ≡ book scripts from r) × (more ≡ [])
finished-given scripts r node from more closed fit ended there front =
    let enough = finished-length scripts r node from closed fit ended there in
    let parts = length-append (node.given from) more in
    let whole = ap length front in
    let none = nil_from_length more (omega arith) in
    (sym (append-nil (node.given from)) ∙ rw (← none) front, none)

-- and has posted its own books
pub finished-rest : {L : Type 0} (scripts : Scripts L) (r : ℕ) (node : Node L) (q : ℕ) → NodeFit scripts r node →
    at_end node.todo ≡ true → node.rest q ≡ []
finished-rest scripts r node q fit ended = fit.rests q ∙ ap (posts_to q) (end_first node.todo ended)
