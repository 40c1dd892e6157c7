-- Scripts of rounds are closed, their books are the letters that are due, and how many events they take.
use Rattle.std.proofs.Common.{◌≡◌, ℕ, zero, suc, ◌+◌, ◌-◌, ◌*◌, ◌<◌, ◌≤◌, cond, List, [], ◌∷◌, ◌++◌, ◌==◌, Option, Some, None, length, map, filter_map, sum_by, append-nil, append_assoc, refl, sym, ap, ◌∙◌, subst, ◌⊎◌, inl, inr, arith}
use Rattle.std.specs.List.{range_with_len, cons_option}
use Rattle.std.specs.Option.{option_to_list}
use Rattle.std.proofs.lemmas.Bool.{cases_eq, cases_lt, eq-eqb, ne_eqb, cond_both}
use Rattle.std.proofs.lemmas.List.Sums.{sum_by-cons}
use Rattle.std.proofs.lemmas.List.FromFn.{length-range_with_len}
use Rattle.rank_scripts.specs.Acts.{Act, Work, Wait, posts_to, works, waits}
use Rattle.rank_scripts.specs.Ranks.{sum_below}
use Rattle.rank_scripts.specs.Scripts.{book, EndsPosting, IsClosed, letters, total}
use Rattle.rank_scripts.specs.Rounds.{posts_between, acts_of_all, Round, due_of, post_due, posts_of, works_of, acts_of, scripts_of, letters_of, request_round, turn_round, turn_rounds, turn_scripts, values_due}
use Rattle.rank_scripts.proofs.RankLemmas.{sum_same, sum_change, sum_constant, sum_add}
use Rattle.rank_scripts.proofs.ActLemmas.{posts_to-append, works-append, waits-append}

-- works alone
pub posts_to-works_of : (L : Type 0) (q n : ℕ) → posts_to q (works_of {L = L} n) ≡ []
posts_to-works_of L q zero = refl
posts_to-works_of L q (suc n) = posts_to-works_of L q n

pub waits-works_of : (L : Type 0) (n : ℕ) → waits (works_of {L = L} n) ≡ 0
waits-works_of L zero = refl
waits-works_of L (suc n) = waits-works_of L n

pub works-works_of : (L : Type 0) (n : ℕ) → works (works_of {L = L} n) ≡ n
works-works_of L zero = refl
works-works_of L (suc n) = ap suc (works-works_of L n)

-- posts alone: one for each letter that is due
pub posts_to-post_due : {L : Type 0} (q i : ℕ) (letter : Option L) →
    posts_to q (post_due i letter) ≡ (cond (i == q) (option_to_list letter) [])
posts_to-post_due q i None = cond_both (i == q) [] [] (λ xs. [] ≡ xs) (λ e. refl) (λ e. refl)
posts_to-post_due q i (Some letter) = append-nil (cond (i == q) (letter ∷ []) [])

pub waits-post_due : {L : Type 0} (i : ℕ) (letter : Option L) → waits (post_due i letter) ≡ 0
waits-post_due i None = refl
waits-post_due i (Some letter) = refl

pub works-post_due : {L : Type 0} (i : ℕ) (letter : Option L) → works (post_due i letter) ≡ 0
works-post_due i None = refl
works-post_due i (Some letter) = refl

pub waits-posts_between : {L : Type 0} (due : ℕ → Option L) (a n : ℕ) → waits (posts_between due a n) ≡ 0
waits-posts_between due a zero = refl
waits-posts_between due a (suc n) = waits-append (post_due a (due a)) (posts_between due (a + 1) n) ∙ rw (waits-post_due a (due a), waits-posts_between due (a + 1) n) refl

pub works-posts_between : {L : Type 0} (due : ℕ → Option L) (a n : ℕ) → works (posts_between due a n) ≡ 0
works-posts_between due a zero = refl
works-posts_between due a (suc n) = works-append (post_due a (due a)) (posts_between due (a + 1) n) ∙ rw (works-post_due a (due a), works-posts_between due (a + 1) n) refl

-- nothing goes to a rank that is not among them
pub posts_to-past : {L : Type 0} (due : ℕ → Option L) (q a n : ℕ) → (q < a) ⊎ (a + n ≤ q) →
    posts_to q (posts_between due a n) ≡ []
posts_to-past due q a zero past = refl
posts_to-past due q a (suc n) past =
    let other : a ≡ q → ⊥ = elim past [ inl h ↦ (λ e. omega arith) | inr h ↦ (λ e. omega arith) ] in
    let further : (q < a + 1) ⊎ (a + 1 + n ≤ q) = elim past [ inl h ↦ inl (omega arith) | inr h ↦ inr (omega arith) ] in
    posts_to-append q (post_due a (due a)) (posts_between due (a + 1) n) ∙
    rw (posts_to-post_due q a (due a), ne_eqb a q other) (posts_to-past due q (a + 1) n further)

-- one that is gets what is due to it
pub posts_to-there : {L : Type 0} (due : ℕ → Option L) (q a n : ℕ) → a ≤ q → q < a + n →
    posts_to q (posts_between due a n) ≡ option_to_list (due q)
posts_to-there due q a zero low high = absurd (omega arith)
posts_to-there due q a (suc n) low high =
    posts_to-append q (post_due a (due a)) (posts_between due (a + 1) n) ∙
    elim (cases_eq a q) [
      | inl here ↦
          rw (posts_to-post_due q a (due a), eq-eqb a q here, posts_to-past due q (a + 1) n (inl (omega arith)), append-nil (option_to_list (due a)), here) refl
      | inr other ↦
          rw (posts_to-post_due q a (due a), ne_eqb a q other) (posts_to-there due q (a + 1) n (omega arith) (omega arith))
    ]

-- a round
pub posts_to-round : {L : Type 0} (ranks p q : ℕ) (round : Round L) →
    posts_to q (acts_of ranks p round) ≡ posts_to q (posts_of ranks p round)
posts_to-round {L} ranks p q round =
    posts_to-append q (posts_of ranks p round) (works_of round.inner ++ Wait ∷ works_of round.outer) ∙
    rw (posts_to-append q (works_of round.inner) (Wait ∷ works_of round.outer), posts_to-works_of L q round.inner, posts_to-works_of L q round.outer) (append-nil (posts_to q (posts_of ranks p round)))

pub waits-round : {L : Type 0} (ranks p : ℕ) (round : Round L) → waits (acts_of ranks p round) ≡ 1
waits-round {L} ranks p round =
    let all = waits-append (posts_of ranks p round) (works_of round.inner ++ Wait ∷ works_of round.outer) in
    let after = waits-append (works_of {L = L} round.inner) (Wait ∷ works_of round.outer) in
    let posts = waits-posts_between (λ q. due_of p q round) 0 ranks in
    let inner = waits-works_of L round.inner in
    let outer = waits-works_of L round.outer in
    omega arith

pub works-round : {L : Type 0} (ranks p : ℕ) (round : Round L) →
    works (acts_of ranks p round) ≡ round.inner + round.outer
works-round {L} ranks p round =
    let all = works-append (posts_of ranks p round) (works_of round.inner ++ Wait ∷ works_of round.outer) in
    let after = works-append (works_of {L = L} round.inner) (Wait ∷ works_of round.outer) in
    let posts = works-posts_between (λ q. due_of p q round) 0 ranks in
    let inner = works-works_of L round.inner in
    let outer = works-works_of L round.outer in
    omega arith

-- all rounds
pub waits-rounds : {L : Type 0} (ranks p : ℕ) (rounds : List (Round L)) →
    waits (acts_of_all ranks p rounds) ≡ length rounds
waits-rounds ranks p [] = refl
waits-rounds ranks p (round ∷ rounds) =
    let all = waits-append (acts_of ranks p round) (acts_of_all ranks p rounds) in
    let first = waits-round ranks p round in
    let rest = waits-rounds ranks p rounds in
    omega arith

pub works-rounds : {L : Type 0} (ranks p : ℕ) (rounds : List (Round L)) →
    works (acts_of_all ranks p rounds) ≡ sum_by (λ (round : Round L). round.inner + round.outer) rounds
works-rounds ranks p [] = refl
works-rounds {L} ranks p (round ∷ rounds) =
    let all = works-append (acts_of ranks p round) (acts_of_all ranks p rounds) in
    let first = works-round ranks p round in
    let rest = works-rounds ranks p rounds in
    let sum = sum_by-cons (λ (r : Round L). r.inner + r.outer) round rounds in
    omega arith

pub posts_to-rounds_past : {L : Type 0} (ranks p q : ℕ) (rounds : List (Round L)) → ranks ≤ q →
    posts_to q (acts_of_all ranks p rounds) ≡ []
posts_to-rounds_past ranks p q [] past = refl
posts_to-rounds_past ranks p q (round ∷ rounds) past =
    posts_to-append q (acts_of ranks p round) (acts_of_all ranks p rounds) ∙
    rw (posts_to-round ranks p q round, posts_to-past (λ i. due_of p i round) q 0 ranks (inr (omega arith))) (posts_to-rounds_past ranks p q rounds past)

-- a book is the letters that are due
pub cons_option-append : {A : Type 0} (first : Option A) (rest : List A) →
    cons_option first rest ≡ option_to_list first ++ rest
cons_option-append None rest = refl
cons_option-append (Some x) rest = refl

pub posts_to-rounds : {L : Type 0} (ranks p q : ℕ) (rounds : List (Round L)) → q < ranks →
    posts_to q (acts_of_all ranks p rounds) ≡ letters_of p q rounds
posts_to-rounds ranks p q [] there = refl
posts_to-rounds ranks p q (round ∷ rounds) there =
    posts_to-append q (acts_of ranks p round) (acts_of_all ranks p rounds) ∙
    rw (posts_to-round ranks p q round, posts_to-there (λ i. due_of p i round) q 0 ranks (omega arith) (omega arith), posts_to-rounds ranks p q rounds there) (sym (cons_option-append (due_of p q round) (letters_of p q rounds)))

pub book-rounds : {L : Type 0} (ranks : ℕ) (rounds : List (Round L)) (p q : ℕ) → q < ranks →
    book (scripts_of ranks rounds) p q ≡ letters_of p q rounds
book-rounds ranks rounds p q there = posts_to-rounds ranks p q rounds there

-- the book of a pair in a run over turns
pub letters_of-turns : {L : Type 0} (values : ℕ → ℕ → ℕ → Option L) (p q : ℕ) (turns : List ℕ) → (p ≡ q → ⊥) →
    letters_of p q (map (turn_round values) turns) ≡ filter_map (λ turn. values turn p q) turns
letters_of-turns values p q [] other = refl
letters_of-turns values p q (turn ∷ turns) other = rw (ne_eqb p q other, letters_of-turns values p q turns other) refl

pub book-turns : {L : Type 0} (ranks turns : ℕ) (request : ℕ → ℕ → L) (values : ℕ → ℕ → ℕ → Option L) (p q : ℕ) →
    q < ranks → (p ≡ q → ⊥) →
    book (turn_scripts ranks turns request values) p q ≡ request p q ∷ filter_map (λ turn. values turn p q) (range_with_len 0 turns)
book-turns ranks turns request values p q there other =
    book-rounds ranks (turn_rounds turns request values) p q there ∙
    rw (ne_eqb p q other, letters_of-turns values p q (range_with_len 0 turns) other) refl

-- rounds are closed, once there is one
pub EndsPosting-append : {L : Type 0} (xs ys : List (Act L)) → EndsPosting ys → EndsPosting (xs ++ ys)
EndsPosting-append xs ys ends =
    record {
      before = xs ++ ends.before;
      after = ends.after;
      split = ap (λ zs. xs ++ zs) ends.split ∙ sym (append_assoc xs ends.before (Wait ∷ ends.after));
      last = ends.last;
      silent = ends.silent;
    }

pub EndsPosting-round : {L : Type 0} (ranks p : ℕ) (round : Round L) → EndsPosting (acts_of ranks p round)
EndsPosting-round {L} ranks p round =
    record {
      before = posts_of ranks p round ++ works_of round.inner;
      after = works_of round.outer;
      split = sym (append_assoc (posts_of ranks p round) (works_of round.inner) (Wait ∷ works_of round.outer));
      last = waits-works_of L round.outer;
      silent = λ q. posts_to-works_of L q round.outer;
    }

pub EndsPosting-rounds : {L : Type 0} (ranks p : ℕ) (first : Round L) (rounds : List (Round L)) →
    EndsPosting (acts_of_all ranks p (first ∷ rounds))
EndsPosting-rounds ranks p first [] = rw (append-nil (acts_of ranks p first)) (EndsPosting-round ranks p first)
EndsPosting-rounds ranks p first (second ∷ rounds) = EndsPosting-append (acts_of ranks p first) (acts_of_all ranks p (second ∷ rounds)) (EndsPosting-rounds ranks p second rounds)

pub IsClosed-rounds : {L : Type 0} (ranks : ℕ) (first : Round L) (rounds : List (Round L)) →
    IsClosed (scripts_of ranks (first ∷ rounds))
IsClosed-rounds ranks first rounds =
    record {
      within = λ p q past. posts_to-rounds_past ranks p q (first ∷ rounds) past;
      alike = λ p q. waits-rounds ranks p (first ∷ rounds) ∙ sym (waits-rounds ranks q (first ∷ rounds));
      ends = λ p. EndsPosting-append (Work ∷ []) (acts_of_all ranks p (first ∷ rounds)) (EndsPosting-rounds ranks p first rounds);
    }

-- how many events rounds take
pub total-rounds : {L : Type 0} (ranks : ℕ) (rounds : List (Round L)) →
    total (scripts_of ranks rounds) ≡ ranks * (1 + sum_by (λ (round : Round L). round.inner + round.outer) rounds) + 2 * letters (scripts_of ranks rounds)
total-rounds {L} ranks rounds =
    let each = sum_same ranks (λ p. works (Work ∷ acts_of_all ranks p rounds)) (λ p. 1 + sum_by (λ (round : Round L). round.inner + round.outer) rounds)
    (λ p h. let counted = works-rounds ranks p rounds in omega arith) in
    let same = sum_constant ranks (1 + sum_by (λ (round : Round L). round.inner + round.outer) rounds) in
    omega arith

pub works-turns : {L : Type 0} (values : ℕ → ℕ → ℕ → Option L) (turns : List ℕ) →
    sum_by (λ (round : Round L). round.inner + round.outer) (map (turn_round values) turns) ≡ 2 * length turns
works-turns values [] = refl
works-turns {L} values (turn ∷ turns) =
    let rest = works-turns values turns in
    let sum = sum_by-cons (λ (round : Round L). round.inner + round.outer) (turn_round values turn) (map (turn_round values) turns) in
    omega arith

pub total-turns : {L : Type 0} (ranks turns : ℕ) (request : ℕ → ℕ → L) (values : ℕ → ℕ → ℕ → Option L) →
    total (turn_scripts ranks turns request values) ≡ ranks * (1 + 2 * turns) + 2 * letters (turn_scripts ranks turns request values)
total-turns {L} ranks turns request values =
    let rest = works-turns values (range_with_len 0 turns) in
    let count = length-range_with_len 0 turns in
    let sum = sum_by-cons (λ (round : Round L). round.inner + round.outer) (request_round request) (map (turn_round values) (range_with_len 0 turns)) in
    let works_each : sum_by (λ (round : Round L). round.inner + round.outer) (turn_rounds turns request values) ≡ 2 * turns = omega arith in
    total-rounds ranks (turn_rounds turns request values) ∙ rw works_each refl

pub IsClosed-turns : {L : Type 0} (ranks turns : ℕ) (request : ℕ → ℕ → L) (values : ℕ → ℕ → ℕ → Option L) →
    IsClosed (turn_scripts ranks turns request values)
IsClosed-turns ranks turns request values = IsClosed-rounds ranks (request_round request) (map (turn_round values) (range_with_len 0 turns))

-- a rank posts nothing to itself
pub letters_of-own : {L : Type 0} (p : ℕ) (rounds : List (Round L)) → letters_of p p rounds ≡ []
letters_of-own p [] = refl
letters_of-own p (round ∷ rounds) = rw (eq-eqb p p refl) (letters_of-own p rounds)

pub book-own : {L : Type 0} (ranks p : ℕ) (rounds : List (Round L)) → book (scripts_of ranks rounds) p p ≡ []
book-own ranks p rounds =
    elim (cases_lt p ranks) [
      | inl there ↦ book-rounds ranks rounds p p there ∙ letters_of-own p rounds
      | inr past ↦ posts_to-rounds_past ranks p p rounds past
    ]

-- how many letters there are in a run over turns: each pair's Request, and the values that are due
pub length-book_turns : {L : Type 0} (ranks turns : ℕ) (request : ℕ → ℕ → L) (values : ℕ → ℕ → ℕ → Option L) (p q : ℕ) →
    q < ranks →
    length (book (turn_scripts ranks turns request values) p q) ≡ cond (p == q) 0 1 + cond (p == q) 0 (length (filter_map (λ turn. values turn p q) (range_with_len 0 turns)))
length-book_turns ranks turns request values p q there =
    elim (cases_eq p q) [
      | inl same ↦
          let none : ℕ → Type 0 = λ k. length (book (turn_scripts ranks turns request values) p k) ≡ 0 in
          rw (eq-eqb p q same) (subst none same (ap length (book-own ranks p (turn_rounds turns request values))))
      | inr other ↦
          let all = ap length (book-turns ranks turns request values p q there other) in
          rw (ne_eqb p q other) (omega arith)
    ]

-- the ranks but one
pub sum-others : (ranks p : ℕ) → p < ranks → sum_below ranks (λ q. cond (p == q) 0 1) ≡ ranks - 1
sum-others ranks p there =
    let changed = sum_change ranks p (λ q. cond (p == q) 0 1) (λ q. 1) there (λ q other. rw (ne_eqb p q (λ e. other (sym e))) refl) in
    let here : cond {A = ℕ} (p == p) 0 1 ≡ 0 = rw (eq-eqb p p refl) refl in
    let ones = sum_constant ranks 1 in
    omega arith

pub letters-turns : {L : Type 0} (ranks turns : ℕ) (request : ℕ → ℕ → L) (values : ℕ → ℕ → ℕ → Option L) →
    letters (turn_scripts ranks turns request values) ≡ ranks * (ranks - 1) + values_due ranks turns values
letters-turns ranks turns request values =
    let due = λ (p q : ℕ). cond (p == q) 0 (length (filter_map (λ turn. values turn p q) (range_with_len 0 turns))) in
    let each = sum_same ranks (λ p. sum_below ranks (λ q. length (book (turn_scripts ranks turns request values) p q))) (λ p. (ranks - 1) + sum_below ranks (due p))
    (λ p h.
    sum_same ranks _ (λ q. cond (p == q) 0 1 + due p q) (λ q l. length-book_turns ranks turns request values p q l) ∙
    sum_add ranks (λ q. cond (p == q) 0 1) (due p) ∙ rw (sum-others ranks p h) refl) in
    each ∙ sum_add ranks (λ p. ranks - 1) (λ p. sum_below ranks (due p)) ∙ rw (sum_constant ranks (ranks - 1)) refl
