-- What a rank does, act by act, and what a list of acts posts.
use Rattle.std.specs.Prelude.{ℕ, zero, suc, Bool, true, false, List, [], ◌∷◌, if◌then◌else◌, ◌==◌}
use Rattle.std.specs.List.{flat_map}

-- one thing that a rank does. A wait has no label: which letters the m-th wait of a rank names, the scripts of all
-- ranks together say
pub data Act (L : Type 0) : Type 0 where
  Work : Act L
  Post : (to : ℕ) → (letter : L) → Act L
  Wait : Act L

-- the letter that an act posts to rank q, if it does
abbrev pub posted_to : {L : Type 0} → ℕ → Act L → List L
posted_to q Work = []
posted_to q (Post to letter) = if to == q then letter ∷ [] else []
posted_to q Wait = []

-- the letters that these acts post to rank q, in order
abbrev pub posts_to : {L : Type 0} → ℕ → List (Act L) → List L
posts_to q acts = flat_map (posted_to q) acts

-- how many of the acts are work
abbrev pub works : {L : Type 0} → List (Act L) → ℕ
works [] = 0
works (Work ∷ acts) = suc (works acts)
works (Post to letter ∷ acts) = works acts
works (Wait ∷ acts) = works acts

-- how many of them are waits
abbrev pub waits : {L : Type 0} → List (Act L) → ℕ
waits [] = 0
waits (Work ∷ acts) = waits acts
waits (Post to letter ∷ acts) = waits acts
waits (Wait ∷ acts) = suc (waits acts)

-- the acts begin with work
abbrev pub at_work : {L : Type 0} → List (Act L) → Bool
at_work [] = false
at_work (Work ∷ acts) = true
at_work (Post to letter ∷ acts) = false
at_work (Wait ∷ acts) = false

-- they begin with a post
abbrev pub at_post : {L : Type 0} → List (Act L) → Bool
at_post [] = false
at_post (Work ∷ acts) = false
at_post (Post to letter ∷ acts) = true
at_post (Wait ∷ acts) = false

-- they begin with a wait
abbrev pub at_wait : {L : Type 0} → List (Act L) → Bool
at_wait [] = false
at_wait (Work ∷ acts) = false
at_wait (Post to letter ∷ acts) = false
at_wait (Wait ∷ acts) = true

-- there are none
abbrev pub at_end : {L : Type 0} → List (Act L) → Bool
at_end [] = true
at_end (act ∷ acts) = false

-- to whom the first act posts. Where it does not post, the number says nothing
abbrev pub receiver : {L : Type 0} → List (Act L) → ℕ
receiver [] = 0
receiver (Work ∷ acts) = 0
receiver (Post to letter ∷ acts) = to
receiver (Wait ∷ acts) = 0

-- what stands before the wait that comes after m others; all of the acts where there is none
abbrev pub until : {L : Type 0} → ℕ → List (Act L) → List (Act L)
until m [] = []
until m (Work ∷ acts) = Work ∷ until m acts
until m (Post to letter ∷ acts) = Post to letter ∷ until m acts
until zero (Wait ∷ acts) = []
until (suc m) (Wait ∷ acts) = Wait ∷ until m acts
