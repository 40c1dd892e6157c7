-- A wait that names the letters of all rounds so far is passed exactly where one that names those of its own round is.
use Rattle.std.proofs.Common.{◌+◌, slice_get, drop, take-append-drop, Some, ◌≡◌, ℕ, zero, suc, ◌<◌, ◌≤◌, Bool, true, cond, List, [], ◌∷◌, ◌++◌, nat_le, nat_lt, Option, None, is_none, length, take, append-nil, append_assoc, refl, sym, ap, ◌∙◌, arith, inl, inr}
use Rattle.std.specs.Option.{option_to_list}
use Rattle.std.proofs.lemmas.Bool.{cond_both, leb-true, le-leb, cases_eq}
use Rattle.std.proofs.lemmas.Bool.Decides.{nat_tests}
use Rattle.std.proofs.lemmas.List.{length_push}
use Rattle.std.proofs.lemmas.List.Elements.{filter_map-append}
use Rattle.rank_scripts.specs.Acts.{Act, Work, Post, Wait, posts_to, waits, until}
use Rattle.rank_scripts.specs.Ranks.{all_below}
use Rattle.rank_scripts.specs.Scripts.{named, book, IsFrontOf}
use Rattle.rank_scripts.specs.Nodes.{HasAllBefore, Position, has_all, past_waits}
use Rattle.rank_scripts.specs.Rounds.{acts_of_all, Round, due_of, posts_of, works_of, acts_of, scripts_of, letters_of, round_letter, has_round}
use Rattle.rank_scripts.proofs.BookLemmas.{IsNextOf-from}
use Rattle.rank_scripts.proofs.RankLemmas.{all_below_at}
use Rattle.rank_scripts.proofs.ActLemmas.{posts_to-append, waits-append}
use Rattle.rank_scripts.proofs.RoundLemmas.{book-rounds, posts_to-works_of, waits-works_of, waits-posts_between, posts_to-there, cons_option-append}

-- acts without a wait stand before every wait after them
pub until-append : {L : Type 0} (m : ℕ) (xs ys : List (Act L)) → waits xs ≡ 0 → until m (xs ++ ys) ≡ xs ++ until m ys
until-append m [] ys none = refl
until-append m (Work ∷ xs) ys none = ap (λ zs. Work ∷ zs) (until-append m xs ys none)
until-append m (Post to letter ∷ xs) ys none = ap (λ zs. Post to letter ∷ zs) (until-append m xs ys none)
until-append m (Wait ∷ xs) ys none = absurd (omega arith)

-- a round, cut at its wait
abbrev pub front_of : {L : Type 0} → ℕ → ℕ → Round L → List (Act L)
front_of ranks q round = posts_of ranks q round ++ works_of round.inner

pub round-cut : {L : Type 0} (ranks q : ℕ) (round : Round L) (rest : List (Act L)) →
    acts_of ranks q round ++ rest ≡ front_of ranks q round ++ Wait ∷ (works_of round.outer ++ rest)
round-cut ranks q round rest = simp append_assoc

pub waits-front_of : {L : Type 0} (ranks q : ℕ) (round : Round L) → waits (front_of ranks q round) ≡ 0
waits-front_of {L} ranks q round =
    waits-append (posts_of ranks q round) (works_of round.inner) ∙ rw (waits-posts_between (λ i. due_of q i round) 0 ranks, waits-works_of L round.inner) refl

pub posts_to-front_of : {L : Type 0} (ranks q r : ℕ) (round : Round L) → r < ranks →
    posts_to r (front_of ranks q round) ≡ option_to_list (due_of q r round)
posts_to-front_of {L} ranks q r round there =
    posts_to-append r (posts_of ranks q round) (works_of round.inner) ∙
    rw (posts_to-there (λ i. due_of q i round) r 0 ranks (omega arith) (omega arith), posts_to-works_of L r round.inner) (append-nil (option_to_list (due_of q r round)))

-- what a rank posts before the wait of round m are the letters of the rounds up to m
pub posts_to-until : {L : Type 0} (ranks q r m : ℕ) (rounds : List (Round L)) → r < ranks →
    posts_to r (until m (acts_of_all ranks q rounds)) ≡ letters_of q r (take (suc m) rounds)
posts_to-until ranks q r m [] there = refl
posts_to-until {L} ranks q r zero (round ∷ rounds) there =
    let cut = ap (λ acts. posts_to r (until 0 acts)) (round-cut ranks q round (acts_of_all ranks q rounds)) in
    let before = ap (posts_to r) (until-append 0 (front_of ranks q round) (Wait ∷ (works_of round.outer ++ acts_of_all ranks q rounds)) (waits-front_of ranks q round) ∙ append-nil (front_of ranks q round)) in
    cut ∙ before ∙ posts_to-front_of ranks q r round there ∙ sym (cons_option-append (due_of q r round) [] ∙ append-nil (option_to_list (due_of q r round)))
posts_to-until {L} ranks q r (suc m) (round ∷ rounds) there =
    let rest = acts_of_all ranks q rounds in
    let cut = ap (λ acts. posts_to r (until (suc m) acts)) (round-cut ranks q round rest) in
    let before = ap (posts_to r) (until-append (suc m) (front_of ranks q round) (Wait ∷ (works_of round.outer ++ rest)) (waits-front_of ranks q round)) in
    let further = until-append m (works_of round.outer) rest (waits-works_of L round.outer) in
    let outer : posts_to r (until m (works_of round.outer ++ rest)) ≡ letters_of q r (take (suc m) rounds) =
    ap (posts_to r) further ∙ posts_to-append r (works_of round.outer) (until m rest) ∙ rw (posts_to-works_of L r round.outer) (posts_to-until ranks q r m rounds there) in
    cut ∙ before ∙ posts_to-append r (front_of ranks q round) (Wait ∷ until m (works_of round.outer ++ rest)) ∙
    rw (posts_to-front_of ranks q r round there, outer) (sym (cons_option-append (due_of q r round) (letters_of q r (take (suc m) rounds))))

-- the letters of one more round
pub letters_of-more : {L : Type 0} (rounds : List (Round L)) (m q r : ℕ) →
    letters_of q r (take (suc m) rounds) ≡ letters_of q r (take m rounds) ++ option_to_list (round_letter rounds m q r)
letters_of-more [] zero q r = refl
letters_of-more [] (suc m) q r = refl
letters_of-more (round ∷ rounds) zero q r = cons_option-append (due_of q r round) [] ∙ append-nil (option_to_list (due_of q r round))
letters_of-more (round ∷ rounds) (suc m) q r =
    cons_option-append (due_of q r round) (letters_of q r (take (suc m) rounds)) ∙
    rw (letters_of-more rounds m q r, ← append_assoc (option_to_list (due_of q r round)) (letters_of q r (take m rounds)) (option_to_list (round_letter rounds m q r)), ← cons_option-append (due_of q r round) (letters_of q r (take m rounds))) refl

-- a count that has the earlier letters has the next one too exactly where it is more
pub count_next : {A : Type 0} (before : List A) (next : Option A) (count : ℕ) → length before ≤ count →
    nat_le (length (before ++ option_to_list next)) count ≡ cond (is_none next) true (nat_lt (length before) count)
count_next before None count h = rw (append-nil before) (le-leb (length before) count h)
count_next before (Some letter) count h = rw (length_push before letter) (grind (arith, nat_tests))

pub all_below-same : (n : ℕ) (f g : ℕ → Bool) → ((k : ℕ) → k < n → f k ≡ g k) → all_below n f ≡ all_below n g
all_below-same zero f g same = refl
all_below-same (suc n) f g same =
    let here : f n ≡ g n = same n (omega arith) in
    let below = all_below-same n f g (λ k h. same k (omega arith)) in
    cc

-- the law at one wait
pub has_all-round : {L : Type 0} (ranks : ℕ) (rounds : List (Round L)) (r : ℕ) (given : ℕ → List L) (m : ℕ) →
    r < ranks → HasAllBefore (scripts_of ranks rounds) r given m →
    has_all (scripts_of ranks rounds) r given m ≡ has_round ranks rounds r given m
has_all-round {L} ranks rounds r given m there past =
    all_below-same ranks _ _ (λ q h.
    rw (posts_to-until ranks q r m rounds there, letters_of-more rounds m q r)
    (count_next (letters_of q r (take m rounds)) (round_letter rounds m q r) (length (given q)) (earlier m past q h)))
  where
    earlier : (m : ℕ) → HasAllBefore (scripts_of ranks rounds) r given m → (q : ℕ) → q < ranks →
        length (letters_of q r (take m rounds)) ≤ length (given q)
    earlier zero past q h = omega arith
    earlier (suc k) past q h =
        let known : named (scripts_of ranks rounds) r k q ≤ length (given q) = leb-true _ _ (all_below_at ranks _ (past k (omega arith)) q h) in
        let same = ap length (posts_to-until ranks q r k rounds there) in
        omega arith

-- the law at every wait that a rank passes at once
pub past_waits-same : {L : Type 0} (passes other : ℕ → Bool) →
    ((m : ℕ) → ((k : ℕ) → k < m → passes k ≡ true) → passes m ≡ other m) → (m : ℕ) (acts : List (Act L)) →
    ((k : ℕ) → k < m → passes k ≡ true) → past_waits passes m acts ≡ past_waits other m acts
past_waits-same passes other same m [] past = refl
past_waits-same passes other same m (Work ∷ acts) past = refl
past_waits-same passes other same m (Post to letter ∷ acts) past = refl
past_waits-same {L} passes other same m (Wait ∷ acts) past =
    let stay : Position L = record { passed = m; todo = Wait ∷ acts } in
    rw (← same m past)
    (cond_both (passes m) (past_waits passes (suc m) acts) stay (λ at. at ≡ cond (passes m) (past_waits other (suc m) acts) stay)
    (λ e. rw e (past_waits-same passes other same (suc m) acts (λ k h. elim (cases_eq k m) [ inl here ↦ rw here e | inr other ↦ past k (omega arith) ])))
    (λ e. rw e refl))

pub past_waits-round : {L : Type 0} (ranks : ℕ) (rounds : List (Round L)) (r : ℕ) (given : ℕ → List L) (m : ℕ) (acts : List (Act L)) →
    r < ranks → HasAllBefore (scripts_of ranks rounds) r given m →
    past_waits (has_all (scripts_of ranks rounds) r given) m acts ≡ past_waits (has_round ranks rounds r given) m acts
past_waits-round ranks rounds r given m acts there past =
    past_waits-same (has_all (scripts_of ranks rounds) r given) (has_round ranks rounds r given)
    (λ k earlier. has_all-round ranks rounds r given k there earlier) m acts past

-- a rank that has passed the wait of round m was given the letter of that round from each rank that had one due: it
-- stands after the letters of the earlier rounds
pub slice_get-take : {A : Type 0} (n : ℕ) (xs : List A) (i : ℕ) → i < n → slice_get (take n xs) i ≡ slice_get xs i
slice_get-take zero xs i h = absurd (omega arith)
slice_get-take (suc n) [] i h = refl
slice_get-take (suc n) (x ∷ xs) zero h = refl
slice_get-take (suc n) (x ∷ xs) (suc i) h = slice_get-take n xs i (omega arith)

pub letters_of-split : {L : Type 0} (rounds : List (Round L)) (m q r : ℕ) →
    letters_of q r (take m rounds) ++ letters_of q r (drop m rounds) ≡ letters_of q r rounds
letters_of-split rounds m q r =
    sym (filter_map-append (due_of q r) (take m rounds) (drop m rounds)) ∙ ap (letters_of q r) (take-append-drop m rounds)

pub given-letter : {L : Type 0} (ranks : ℕ) (rounds : List (Round L)) (r : ℕ) (given : ℕ → List L) (m q : ℕ) (letter : L) →
    r < ranks → q < ranks → has_all (scripts_of ranks rounds) r given m ≡ true →
    IsFrontOf (given q) (book (scripts_of ranks rounds) q r) → round_letter rounds m q r ≡ Some letter →
    slice_get (given q) (length (letters_of q r (take m rounds))) ≡ Some letter
given-letter {L} ranks rounds r given m q letter there q_there all front due =
    let before = letters_of q r (take m rounds) in
    let after = letters_of q r (drop (suc m) rounds) in
    let with_it : letters_of q r (take (suc m) rounds) ≡ before ++ letter ∷ [] = letters_of-more rounds m q r ∙ ap (λ (next : Option L). before ++ option_to_list next) due in
    let enough : named (scripts_of ranks rounds) r m q ≤ length (given q) = leb-true _ _ (all_below_at ranks _ all q q_there) in
    let count : named (scripts_of ranks rounds) r m q ≡ length before + 1 =
    ap length (posts_to-until ranks q r m rounds there ∙ with_it) ∙ length_push before letter in
    let whole : before ++ letter ∷ after ≡ book (scripts_of ranks rounds) q r =
    sym (append_assoc before (letter ∷ []) after) ∙ ap (λ xs. xs ++ after) (sym with_it) ∙ letters_of-split rounds (suc m) q r ∙ sym (book-rounds ranks rounds q r there) in
    let next : slice_get (book (scripts_of ranks rounds) q r) (length before) ≡ Some letter = IsNextOf-from before letter after (book (scripts_of ranks rounds) q r) whole in
    ap (λ (xs : List L). slice_get xs (length before)) (sym front) ∙ slice_get-take (length (given q)) (book (scripts_of ranks rounds) q r) (length before) (omega arith) ∙ next
