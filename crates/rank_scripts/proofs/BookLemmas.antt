-- The fronts of a book: what was given of it, what was posted of it, and the letter that comes next.
use Rattle.std.proofs.Common.{◌≡◌, ℕ, zero, suc, ◌-◌, true, List, [], ◌∷◌, ◌++◌, Some, length, length-append, take, take_at, drop, slice_get, append_assoc, append-nil, take-append-drop, refl, sym, ap, ◌∙◌, subst, arith}
use Rattle.std.proofs.lemmas.List.{append_cancel_right}
use Rattle.rank_scripts.specs.Acts.{posts_to, at_post, at_end, receiver}
use Rattle.rank_scripts.specs.Scripts.{Scripts, book, IsFrontOf, IsNextOf}
use Rattle.rank_scripts.specs.Nodes.{Node, fresh, posted, sent, NodeFit}
use Rattle.rank_scripts.specs.Worlds.{World, Fit}
use Rattle.rank_scripts.proofs.RankLemmas.{put_same, put_other}
use Rattle.rank_scripts.proofs.ActLemmas.{post_first}
use Rattle.rank_scripts.proofs.PositionLemmas.{book-split, finished-rest}
use Rattle.rank_scripts.proofs.NodeLemmas.{rest-at_post}

-- a front, and what stands after it
pub IsFrontOf-from : {A : Type 0} (front rest whole : List A) → front ++ rest ≡ whole → IsFrontOf front whole
IsFrontOf-from {A} front rest whole e = let P : List A → Type 0 = λ xs. take (length front) xs ≡ front in subst P e (take_at front rest (length front) refl)

pub IsFrontOf-split : {A : Type 0} (front whole : List A) → IsFrontOf front whole →
    front ++ drop (length front) whole ≡ whole
IsFrontOf-split front whole h = ap (λ xs. xs ++ drop (length front) whole) (sym h) ∙ take-append-drop (length front) whole

-- the element after a front
pub IsNextOf-from : {A : Type 0} (before : List A) (letter : A) (after whole : List A) →
    before ++ letter ∷ after ≡ whole → IsNextOf whole before letter
IsNextOf-from {A} before letter after whole e = let P : List A → Type 0 = λ xs. IsNextOf xs before letter in subst P e (there before)
  where
    there : (xs : List A) → slice_get (xs ++ letter ∷ after) (length xs) ≡ Some letter
    there [] = refl
    there (x ∷ xs) = there xs

pub drop-next : {A : Type 0} (whole : List A) (n : ℕ) (letter : A) → slice_get whole n ≡ Some letter →
    drop n whole ≡ letter ∷ drop (suc n) whole
drop-next [] n letter next = absurd (cc)
drop-next (x ∷ whole) zero letter next = cc
drop-next (x ∷ whole) (suc n) letter next = drop-next whole n letter next

-- a front and the next element are a front
pub IsFrontOf-next : {A : Type 0} (front whole : List A) (letter : A) → IsFrontOf front whole →
    IsNextOf whole front letter → IsFrontOf (front ++ letter ∷ []) whole
IsFrontOf-next front whole letter h next =
    let after = drop (suc (length front)) whole in
    IsFrontOf-from (front ++ letter ∷ []) after whole
    (append_assoc front (letter ∷ []) after ∙ ap (λ xs. front ++ xs) (sym (drop-next whole (length front) letter next)) ∙ IsFrontOf-split front whole h)

-- what is left of a whole without its last elements
pub take-front : {A : Type 0} (front rest whole : List A) → front ++ rest ≡ whole →
    take (length whole - length rest) whole ≡ front
take-front {A} front rest whole e =
    let P : List A → Type 0 = λ xs. take (length xs - length rest) xs ≡ front in
    let parts = length-append front rest in
    subst P e (take_at front rest (length (front ++ rest) - length rest) (omega arith))

-- what a rank has posted, at its position
pub sent-is : {L : Type 0} (scripts : Scripts L) (r : ℕ) (node : Node L) → (fit : NodeFit scripts r node) → (q : ℕ) →
    sent scripts r node q ≡ posts_to q fit.place.before
sent-is scripts r node fit q = take-front (posts_to q fit.place.before) (node.rest q) (book scripts r q) (sym (book-split scripts r node fit q))

pub sent-split : {L : Type 0} (scripts : Scripts L) (r : ℕ) (node : Node L) → NodeFit scripts r node → (q : ℕ) →
    sent scripts r node q ++ node.rest q ≡ book scripts r q
sent-split scripts r node fit q = rw (sent-is scripts r node fit q) (sym (book-split scripts r node fit q))

-- nothing at the start, and the whole book at the end
pub sent-fresh : {L : Type 0} (scripts : Scripts L) (r q : ℕ) → sent scripts r (fresh scripts r) q ≡ []
sent-fresh scripts r q = take-front [] (book scripts r q) (book scripts r q) refl

pub sent-end : {L : Type 0} (scripts : Scripts L) (r : ℕ) (node : Node L) → NodeFit scripts r node →
    at_end node.todo ≡ true → (q : ℕ) → sent scripts r node q ≡ book scripts r q
sent-end scripts r node fit ended q =
    sym (append-nil (sent scripts r node q)) ∙ rw (← finished-rest scripts r node q fit ended) (sent-split scripts r node fit q)

-- a post adds the next letter of the book to its receiver, and nothing to others; `worked` and `took` leave `sent` as
-- it is by their definitions
pub rest-posted : {L : Type 0} (scripts : Scripts L) (r : ℕ) (node : Node L) → NodeFit scripts r node →
    at_post node.todo ≡ true →
    (letter : L) × (node.rest (receiver node.todo) ≡ letter ∷ (posted scripts r node).rest (receiver node.todo))
rest-posted scripts r node fit at =
    let to = receiver node.todo in
    let first = post_first node.todo at in
    let rest = rest-at_post scripts r node to first.0 (drop 1 node.todo) first.1 fit in
    let after = ap (λ xs. drop 1 xs) rest in
    (first.0, rest ∙ ap (λ xs. first.0 ∷ xs) (sym after ∙ sym (put_same node.rest to (drop 1 (node.rest to)))))

pub sent-posted : {L : Type 0} (scripts : Scripts L) (r : ℕ) (node : Node L) → NodeFit scripts r node →
    at_post node.todo ≡ true → (letter : L) →
    node.rest (receiver node.todo) ≡ letter ∷ (posted scripts r node).rest (receiver node.todo) →
    sent scripts r (posted scripts r node) (receiver node.todo) ≡ sent scripts r node (receiver node.todo) ++ letter ∷ []
sent-posted scripts r node fit at letter rest =
    let to = receiver node.todo in
    let before = sent scripts r node to in
    let after = (posted scripts r node).rest to in
    take-front (before ++ letter ∷ []) after (book scripts r to)
    (append_assoc before (letter ∷ []) after ∙ ap (λ xs. before ++ xs) (sym rest) ∙ sent-split scripts r node fit to)

pub sent-posted_other : {L : Type 0} (scripts : Scripts L) (r : ℕ) (node : Node L) (q : ℕ) →
    (q ≡ receiver node.todo → ⊥) → sent scripts r (posted scripts r node) q ≡ sent scripts r node q
sent-posted_other scripts r node q other =
    let to = receiver node.todo in
    ap (λ xs. take (length (book scripts r q) - length xs) (book scripts r q)) (put_other node.rest to (drop 1 (node.rest to)) q other)

pub next-at_post : {L : Type 0} (scripts : Scripts L) (r : ℕ) (node : Node L) → NodeFit scripts r node →
    (q : ℕ) (letter : L) (after : List L) → node.rest q ≡ letter ∷ after →
    IsNextOf (book scripts r q) (sent scripts r node q) letter
next-at_post scripts r node fit q letter after rest =
    IsNextOf-from (sent scripts r node q) letter after (book scripts r q) (ap (λ xs. sent scripts r node q ++ xs) (sym rest) ∙ sent-split scripts r node fit q)

-- in a fit world what a rank has posted was given or is in flight, and what was given is a front of the book
pub sent-world : {L : Type 0} (scripts : Scripts L) (w : World L) (p q : ℕ) → Fit scripts w →
    (w.node q).given p ++ w.flight p q ≡ sent scripts p (w.node p) q
sent-world scripts w p q fit =
    append_cancel_right _ _ ((w.node p).rest q) (fit.books p q ∙ sym (sent-split scripts p (w.node p) (fit.nodes p) q))

pub given-front : {L : Type 0} (scripts : Scripts L) (w : World L) (p q : ℕ) → Fit scripts w →
    IsFrontOf ((w.node q).given p) (book scripts p q)
given-front scripts w p q fit =
    IsFrontOf-from ((w.node q).given p) (w.flight p q ++ (w.node p).rest q) (book scripts p q)
    (sym (append_assoc ((w.node q).given p) (w.flight p q) ((w.node p).rest q)) ∙ fit.books p q)
