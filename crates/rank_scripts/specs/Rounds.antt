-- Scripts made of rounds: in each round a rank posts what is due, works, waits for what is due to it, and works again.
use Rattle.std.specs.Prelude.{ℕ, Bool, true, List, [], ◌∷◌, ◌++◌, Option, Some, None, length, take, map, replicate, filter_map, is_none, slice_get, if◌then◌else◌, ◌==◌, nat_lt}
use Rattle.std.specs.List.{flat_map, range_with_len}
use Rattle.std.specs.Option.{option_and_then}
use Rattle.rank_scripts.specs.Acts.{Act, Work, Post, Wait}
use Rattle.rank_scripts.specs.Ranks.{all_below, sum_below}
use Rattle.rank_scripts.specs.Scripts.{Scripts}

-- which letter is due from one rank to another, if one is, and how many works stand before the wait and after it
pub record Round (L : Type 0) : Type 0 where
  pub due : ℕ → ℕ → Option L
  pub inner : ℕ
  pub outer : ℕ

-- the letter from p to q; no rank posts to itself
abbrev pub due_of : {L : Type 0} → ℕ → ℕ → Round L → Option L
due_of p q round = if p == q then None else round.due p q

-- the post of a letter, if there is one
abbrev pub post_due : {L : Type 0} → ℕ → Option L → List (Act L)
post_due q None = []
post_due q (Some letter) = Post q letter ∷ []

-- posts to the ranks a, a + 1, .. a + n - 1 of what is due to each
abbrev pub posts_between : {L : Type 0} → (ℕ → Option L) → ℕ → ℕ → List (Act L)
posts_between due a n = flat_map (λ q. post_due q (due q)) (range_with_len a n)

-- rank p's posts of a round, by rising receiver
abbrev pub posts_of : {L : Type 0} → ℕ → ℕ → Round L → List (Act L)
posts_of ranks p round = posts_between (λ q. due_of p q round) 0 ranks

-- so much work
abbrev pub works_of : {L : Type 0} → ℕ → List (Act L)
works_of n = replicate n Work

-- what rank p does in a round
abbrev pub acts_of : {L : Type 0} → ℕ → ℕ → Round L → List (Act L)
acts_of ranks p round =
    posts_of ranks p round ++ (works_of round.inner ++ Wait ∷ works_of round.outer)

-- what it does round after round
abbrev pub acts_of_all : {L : Type 0} → ℕ → ℕ → List (Round L) → List (Act L)
acts_of_all ranks p rounds = flat_map (acts_of ranks p) rounds

-- the scripts of these rounds: a first work, and then the rounds
abbrev pub scripts_of : {L : Type 0} → ℕ → List (Round L) → Scripts L
scripts_of ranks rounds = record { ranks = ranks; script = λ p. Work ∷ acts_of_all ranks p rounds }

-- the letters from p to q that are due in these rounds, in order
abbrev pub letters_of : {L : Type 0} → ℕ → ℕ → List (Round L) → List L
letters_of p q rounds = filter_map (due_of p q) rounds

-- the rounds of a run: each rank requests of each other one what it will need, once, and then each turn (one execution of
-- a nest) has a round with the values that are due, one work before the wait and one after it
abbrev pub request_round : {L : Type 0} → (ℕ → ℕ → L) → Round L
request_round request = record { due = λ p q. Some (request p q); inner = 0; outer = 0 }

abbrev pub turn_round : {L : Type 0} → (ℕ → ℕ → ℕ → Option L) → ℕ → Round L
turn_round values turn = record { due = values turn; inner = 1; outer = 1 }

abbrev pub turn_rounds : {L : Type 0} → ℕ → (ℕ → ℕ → L) → (ℕ → ℕ → ℕ → Option L) → List (Round L)
turn_rounds turns request values = request_round request ∷ map (turn_round values) (range_with_len 0 turns)

abbrev pub turn_scripts : {L : Type 0} → ℕ → ℕ → (ℕ → ℕ → L) → (ℕ → ℕ → ℕ → Option L) → Scripts L
turn_scripts ranks turns request values = scripts_of ranks (turn_rounds turns request values)

-- how many Values letters are due in all turns
abbrev pub values_due : {L : Type 0} → ℕ → ℕ → (ℕ → ℕ → ℕ → Option L) → ℕ
values_due ranks turns values =
    sum_below ranks (λ p. sum_below ranks (λ q.
    if p == q then 0 else length (filter_map (λ turn. values turn p q) (range_with_len 0 turns))))

-- the letter from q to r that is due in round m
abbrev pub round_letter : {L : Type 0} → List (Round L) → ℕ → ℕ → ℕ → Option L
round_letter rounds m q r = option_and_then (due_of q r) (slice_get rounds m)

-- rank r took the letter of round m from q, if one is due: it took more letters of q than the earlier rounds have
abbrev pub round_given : {L : Type 0} → List (Round L) → ℕ → (ℕ → List L) → ℕ → ℕ → Bool
round_given rounds r given m q =
    if is_none (round_letter rounds m q r) then true else nat_lt (length (letters_of q r (take m rounds))) (length (given q))

-- the other reading of a wait: that of round m names the letters of round m alone
abbrev pub has_round : {L : Type 0} → ℕ → List (Round L) → ℕ → (ℕ → List L) → ℕ → Bool
has_round ranks rounds r given m = all_below ranks (λ q. round_given rounds r given m q)
