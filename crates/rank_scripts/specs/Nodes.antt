-- One rank as it goes through its script: where it stands, what it was given, what it has still to post.
use Rattle.std.specs.Prelude.{◌≡◌, ℕ, suc, ◌-◌, ◌<◌, Bool, true, false, List, [], ◌∷◌, ◌++◌, length, take, drop, if◌then◌else◌, nat_le}
use Rattle.rank_scripts.specs.Acts.{Act, Work, Post, Wait, posts_to, waits, at_wait, receiver}
use Rattle.rank_scripts.specs.Ranks.{put, all_below}
use Rattle.rank_scripts.specs.Scripts.{Scripts, book, named}

-- where a rank stands: how many waits it has passed, and what is left of its script
pub record Position (L : Type 0) : Type 0 where
  pub passed : ℕ
  pub todo : List (Act L)

-- a rank: its position, the letters that it took, by sender, and those that it has still to post, by receiver
pub record Node (L : Type 0) : Type 0 where
  pub passed : ℕ
  pub todo : List (Act L)
  pub given : ℕ → List L
  pub rest : ℕ → List L

-- rank r was given every letter that its wait after m others names
abbrev pub has_all : {L : Type 0} → Scripts L → ℕ → (ℕ → List L) → ℕ → Bool
has_all scripts r given m = all_below scripts.ranks (λ q. nat_le (named scripts r m q) (length (given q)))

-- rank r was given all that its first m waits name
abbrev pub HasAllBefore : {L : Type 0} → Scripts L → ℕ → (ℕ → List L) → ℕ → Type 0
HasAllBefore scripts r given m = (k : ℕ) → k < m → has_all scripts r given k ≡ true

-- where a rank stands that has gone past each wait that the test lets pass
abbrev pub past_waits : {L : Type 0} → (ℕ → Bool) → ℕ → List (Act L) → Position L
past_waits passes m [] = record { passed = m; todo = [] }
past_waits passes m (Work ∷ acts) = record { passed = m; todo = Work ∷ acts }
past_waits passes m (Post to letter ∷ acts) = record { passed = m; todo = Post to letter ∷ acts }
past_waits passes m (Wait ∷ acts) = if passes m then past_waits passes (suc m) acts else record { passed = m; todo = Wait ∷ acts }

-- the node that has passed each wait whose letters it was given
abbrev pub settle : {L : Type 0} → Scripts L → ℕ → ℕ → List (Act L) → (ℕ → List L) → (ℕ → List L) → Node L
settle scripts r m acts given rest =
    record {
      passed = (past_waits (has_all scripts r given) m acts).passed;
      todo = (past_waits (has_all scripts r given) m acts).todo;
      given = given;
      rest = rest;
    }

-- rank r at the start
abbrev pub fresh : {L : Type 0} → Scripts L → ℕ → Node L
fresh scripts r = settle scripts r 0 (scripts.script r) (λ q. []) (λ q. book scripts r q)

-- after its work
abbrev pub worked : {L : Type 0} → Scripts L → ℕ → Node L → Node L
worked scripts r node = settle scripts r node.passed (drop 1 node.todo) node.given node.rest

-- after its letter was posted
abbrev pub posted : {L : Type 0} → Scripts L → ℕ → Node L → Node L
posted scripts r node =
    let to = receiver node.todo in
    settle scripts r node.passed (drop 1 node.todo) node.given (put node.rest to (drop 1 (node.rest to)))

-- after it took these letters of another rank
abbrev pub took : {L : Type 0} → Scripts L → ℕ → Node L → ℕ → List L → Node L
took scripts r node from letters =
    settle scripts r node.passed node.todo (put node.given from (node.given from ++ letters)) node.rest

-- what it has posted to rank q so far
abbrev pub sent : {L : Type 0} → Scripts L → ℕ → Node L → ℕ → List L
sent scripts r node q = take (length (book scripts r q) - length (node.rest q)) (book scripts r q)

-- the acts are what is left of the script once m waits were passed
pub record IsPlace {L : Type 0} (script : List (Act L)) (m : ℕ) (acts : List (Act L)) : Type 0 where
  pub before : List (Act L)
  pub split : script ≡ before ++ acts
  pub count : waits before ≡ m

-- the part of `Fit` that speaks of one rank alone
pub record NodeFit {L : Type 0} (scripts : Scripts L) (r : ℕ) (node : Node L) : Type 0 where
  -- it stands in its script
  pub place : IsPlace (scripts.script r) node.passed node.todo
  -- what it has still to post is what its position posts
  pub rests : (q : ℕ) → node.rest q ≡ posts_to q node.todo
  -- it was given what the waits that it has passed name
  pub past : HasAllBefore scripts r node.given node.passed
  -- it was not given all that the wait at which it stands names
  pub waiting : at_wait node.todo ≡ true → has_all scripts r node.given node.passed ≡ false
