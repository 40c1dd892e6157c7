-- The scripts of all ranks: their books, which letters a wait names, and how many events a run has.
use Rattle.std.specs.Prelude.{◌≡◌, ℕ, ◌+◌, ◌*◌, ◌≤◌, List, [], ◌∷◌, ◌++◌, Some, length, take, slice_get}
use Rattle.rank_scripts.specs.Acts.{Act, Wait, posts_to, works, waits, until}
use Rattle.rank_scripts.specs.Ranks.{sum_below}

-- how many ranks there are, and what each does, from its first act to its last
pub record Scripts (L : Type 0) : Type 0 where
  pub ranks : ℕ
  pub script : ℕ → List (Act L)

-- the letters from rank p to rank q, in the order in which p posts them
abbrev pub book : {L : Type 0} → Scripts L → ℕ → ℕ → List L
book scripts p q = posts_to q (scripts.script p)

-- the letters are the first of the book
abbrev pub IsFrontOf : {L : Type 0} → List L → List L → Type 0
IsFrontOf front book = take (length front) book ≡ front

-- the letter stands in the book right after these
abbrev pub IsNextOf : {L : Type 0} → List L → List L → L → Type 0
IsNextOf book before letter = slice_get book (length before) ≡ Some letter

-- how many letters of rank q the wait of rank r that comes after m others names: all that q posts to r before its own
-- wait that comes after m others
abbrev pub named : {L : Type 0} → Scripts L → ℕ → ℕ → ℕ → ℕ
named scripts r m q = length (posts_to r (until m (scripts.script q)))

-- nothing is posted after the last wait, so a rank that has passed its waits has posted its letters
pub record EndsPosting {L : Type 0} (acts : List (Act L)) : Type 0 where
  pub before : List (Act L)
  pub after : List (Act L)
  pub split : acts ≡ before ++ Wait ∷ after
  pub last : waits after ≡ 0
  pub silent : (q : ℕ) → posts_to q after ≡ []

-- every letter goes to a rank that is there and is named by a wait of that rank
pub record IsClosed {L : Type 0} (scripts : Scripts L) : Type 0 where
  pub within : (p q : ℕ) → scripts.ranks ≤ q → book scripts p q ≡ []
  pub alike : (p q : ℕ) → waits (scripts.script p) ≡ waits (scripts.script q)
  pub ends : (p : ℕ) → EndsPosting (scripts.script p)

-- how many letters all books have
abbrev pub letters : {L : Type 0} → Scripts L → ℕ
letters scripts = sum_below scripts.ranks (λ p. sum_below scripts.ranks (λ q. length (book scripts p q)))

-- how many events a whole run has: each work, and each letter once posted and once taken
abbrev pub total : {L : Type 0} → Scripts L → ℕ
total scripts = sum_below scripts.ranks (λ p. works (scripts.script p)) + 2 * letters scripts
