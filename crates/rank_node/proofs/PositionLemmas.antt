-- The positions of a rank, one after another.
use Rattle.std.proofs.Common.{◌≡◌, ℕ, suc, ◌+◌, ◌-◌, ◌<◌, ◌≤◌, Bool, true, false, nat_le, List, [], ◌∷◌, ◌++◌, Option, Some, None, length, map, filter_map, take, refl, sym, ap, ◌∙◌, subst, inl, inr, arith}
use Rattle.std.specs.List.{range_with_len, cons_option}
use Rattle.std.proofs.lemmas.Bool.{cases_eq, eq-eqb, ne_eqb, cond-true, cond-false, le-leb, leb-true, false_from_ne_true}
use Rattle.std.proofs.lemmas.List.{length-map}
use Rattle.bern_base.specs.declared.letter.Letter.{Letter}
use Rattle.bern_base.specs.declared.letter.Letter.TheVariants as letter
use Rattle.rank_scripts.specs.Acts.{Act, Work, Post, Wait, at_wait}
use Rattle.rank_scripts.specs.Scripts.{book, named, IsFrontOf}
use Rattle.rank_scripts.specs.Nodes.{Position, has_all, past_waits}
use Rattle.rank_scripts.specs.Rounds.{post_due, posts_between, letters_of}
use Rattle.rank_scripts.proofs.RankLemmas.{all_below_at, all_below_from}
use Rattle.rank_scripts.proofs.RoundLemmas.{letters_of-own, book-turns}
use Rattle.rank_scripts.proofs.WaitLemmas.{posts_to-until}
use Rattle.job_model.specs.State.{read}
use Rattle.rank_model.specs.Products.{Run, need_sets, receive, schedule, scripts, send}
use Rattle.turn_model.specs.Schedules.{request, rounds, some_values, values_in, values_letter}
use Rattle.rank_node.specs.declared.stage.Stage.{Stage}
use Rattle.rank_node.specs.declared.stage.Stage.TheVariants.{Request, AwaitRequests, Values, Inner, AwaitValues, Outer}
use Rattle.rank_node.specs.Letters.{asked_elements, asked_in}
use Rattle.rank_node.specs.Waits.{due_for}
use Rattle.rank_node.specs.Positions.{due_request, due_values, from_inner, from_values, from_requests, todo_of, HasItsLetter, GoesTo, Posts}

-- posts to the ranks from a to the last, one at a time
posts_split : (due : ℕ → Option Letter) (a ranks : ℕ) → a < ranks → posts_between due a (ranks - a) ≡ post_due a (due a) ++ posts_between due (a + 1) (ranks - (a + 1))
posts_split due a ranks below =
    let more : ranks - a ≡ suc (ranks - (a + 1)) = omega arith in
    rw more refl

posts_end : (due : ℕ → Option Letter) (a ranks : ℕ) → ranks ≤ a → posts_between due a (ranks - a) ≡ []
posts_end due a ranks past =
    let none : ranks - a ≡ 0 = omega arith in
    rw none refl

-- a Request to another rank
pub request_first : (run : Run) (r to : ℕ) → to < run.ranks → (to ≡ r → ⊥) → from_requests run r to ≡ Post to (request (schedule run) r to) ∷ from_requests run r (to + 1)
request_first run r to below other =
    rw (posts_split (due_request run r) to run.ranks below, ne_eqb r to (λ e. other (sym e))) refl

-- none to itself
pub request_own : (run : Run) (r : ℕ) → r < run.ranks → from_requests run r r ≡ from_requests run r (r + 1)
request_own run r below = rw (posts_split (due_request run r) r run.ranks below, eq-eqb r r refl) refl

pub request_end : (run : Run) (r to : ℕ) → run.ranks ≤ to → from_requests run r to ≡ Wait ∷ from_values run r 0
request_end run r to past = rw (posts_end (due_request run r) to run.ranks past) refl

-- values to a rank to which some are due
pub values_some : (nest : ℕ) (xs : List ℕ) → (xs ≡ [] → ⊥) → (letter : Letter) × (some_values nest xs ≡ Some letter)
values_some nest [] some = absurd (some refl)
values_some nest (x ∷ xs) some = (_, refl)

map_some : {A B : Type 0} (f : A → B) (xs : List A) → (xs ≡ [] → ⊥) → map f xs ≡ [] → ⊥
map_some f [] some none = some refl
map_some f (x ∷ xs) some none = absurd (cc)

pub values_first : (run : Run) (r to : ℕ) → to < run.ranks → (to ≡ r → ⊥) → (send run r to ≡ [] → ⊥) →
    (letter : Letter) × (values_letter (schedule run) 0 r to ≡ Some letter) × (from_values run r to ≡ Post to letter ∷ from_values run r (to + 1))
values_first run r to below other some =
    let due = values_some 0 (map (read run.first run.source) (send run r to)) (map_some (read run.first run.source) (send run r to) some) in
    let here : due_values run r to ≡ Some due.0 = rw (ne_eqb r to (λ e. other (sym e))) due.1 in
    (due.0, due.1, rw (posts_split (due_values run r) to run.ranks below, here) refl)

-- none to itself, and none to a rank that needs nothing
pub values_own : (run : Run) (r : ℕ) → r < run.ranks → from_values run r r ≡ from_values run r (r + 1)
values_own run r below = rw (posts_split (due_values run r) r run.ranks below, eq-eqb r r refl) refl

pub values_none : (run : Run) (r to : ℕ) → to < run.ranks → send run r to ≡ [] → from_values run r to ≡ from_values run r (to + 1)
values_none run r to below none =
    elim (cases_eq to r) [
      | inl own ↦ rw own (values_own run r (rw (← own) below))
      | inr other ↦
          let here : due_values run r to ≡ None = rw (ne_eqb r to (λ e. other (sym e)), none) refl in
          rw (posts_split (due_values run r) to run.ranks below, here) refl
    ]

pub values_end : (run : Run) (r to : ℕ) → run.ranks ≤ to → from_values run r to ≡ from_inner
values_end run r to past = rw (posts_end (due_values run r) to run.ranks past) refl

-- how many letters of rank q the waits of rank r name
named_is : (run : Run) (r m q : ℕ) → r < run.ranks → named (scripts run) r m q ≡ length (letters_of q r (take (suc m) (rounds (schedule run))))
named_is run r m q there = ap length (posts_to-until run.ranks q r m (rounds (schedule run)) there)

pub named_own : (run : Run) (r m : ℕ) → r < run.ranks → named (scripts run) r m r ≡ 0
named_own run r m there = named_is run r m r there ∙ ap length (letters_of-own r (take (suc m) (rounds (schedule run))))

pub named_request : (run : Run) (r q : ℕ) → r < run.ranks → (q ≡ r → ⊥) → named (scripts run) r 0 q ≡ 1
named_request run r q there other = named_is run r 0 q there ∙ rw (ne_eqb q r other) refl

due_length : (letter : Letter) (f : ℕ → ℕ) (xs : List ℕ) → length (cons_option (Some letter) (cons_option (some_values 0 (map f xs)) [])) ≡ due_for xs
due_length letter f [] = refl
due_length letter f (x ∷ xs) = refl

pub named_values : (run : Run) (r q : ℕ) → r < run.ranks → (q ≡ r → ⊥) → named (scripts run) r 1 q ≡ due_for (receive run r q)
named_values run r q there other = named_is run r 1 q there ∙ rw (ne_eqb q r other) (due_length (request (schedule run) q r) (read run.first run.source) (receive run r q))

-- tests at a wait
pub enough : (m n k : ℕ) → m ≡ n → n ≤ k → nat_le m k ≡ true
enough m n k e h = le-leb m k (omega arith)

pub lacks : (run : Run) (r m q : ℕ) (given : ℕ → List Letter) → q < run.ranks → length (given q) < named (scripts run) r m q → false ≡ has_all (scripts run) r given m
lacks run r m q given below short =
    sym (false_from_ne_true (has_all (scripts run) r given m) (λ all.
    let enough_there : named (scripts run) r m q ≤ length (given q) = leb-true _ _ (all_below_at run.ranks _ all q below) in
    omega arith))

pub has_all_from : (run : Run) (r m : ℕ) (given : ℕ → List Letter) → ((q : ℕ) → q < run.ranks → nat_le (named (scripts run) r m q) (length (given q)) ≡ true) → true ≡ has_all (scripts run) r given m
has_all_from run r m given each = sym (all_below_from run.ranks _ each)

-- a rank that was given something from another one has its Request
pub asked_front : (run : Run) (r q : ℕ) (given : List Letter) → r < run.ranks → (q ≡ r → ⊥) → 0 < length given → IsFrontOf given (book (scripts run) q r) →
    asked_in given ≡ send run r q
asked_front run r q [] there other some front = absurd (omega arith)
asked_front run r q (letter ∷ given) there other some front =
    let book_is = book-turns run.ranks 1 (request (schedule run)) (values_letter (schedule run)) q r there other in
    let first : letter ∷ given ≡ request (schedule run) q r ∷ take (length given) (filter_map (λ nest. values_letter (schedule run) nest q r) (range_with_len 0 1)) = sym front ∙ ap (λ xs. take (suc (length given)) xs) book_is in
    ap asked_in first ∙ asked_request r run.source (receive run q r)
  where
    asked_request : (owner array : ℕ) (ws : List ℕ) → asked_elements (need_sets 0 owner array ws) ≡ ws
    asked_request owner array [] = refl
    asked_request owner array (w ∷ ws) = refl

pub asked_is : (run : Run) (r q : ℕ) (given : ℕ → List Letter) → r < run.ranks → q < run.ranks → (q ≡ r → ⊥) → has_all (scripts run) r given 0 ≡ true →
    IsFrontOf (given q) (book (scripts run) q r) → asked_in (given q) ≡ send run r q
asked_is run r q given there below other all front =
    let enough_there : named (scripts run) r 0 q ≤ length (given q) = leb-true _ _ (all_below_at run.ranks _ all q below) in
    let one = named_request run r q there other in
    asked_front run r q (given q) there other (omega arith) front

-- a rank stands at a work, at a post, and at a wait that it can not pass
pub stays : (passes : ℕ → Bool) (m : ℕ) (acts : List (Act Letter)) → (at_wait acts ≡ true → passes m ≡ false) → past_waits passes m acts ≡ record { passed = m; todo = acts }
stays passes m [] waits = refl
stays passes m (Work ∷ acts) waits = refl
stays passes m (Post to letter ∷ acts) waits = refl
stays passes m (Wait ∷ acts) waits = cond-false (passes m) _ _ (waits refl)

-- the ways from stage to stage
pub goes_request : (run : Run) (r from to : ℕ) (given : ℕ → List Letter) → to < run.ranks → (to ≡ r → ⊥) → from_requests run r from ≡ from_requests run r to →
    GoesTo run r given (Request from) (Request to)
goes_request run r from to given below other same =
    let passes = has_all (scripts run) r given in
    let first = request_first run r to below other in
    record {
      position = ap (past_waits passes 0) (same ∙ first) ∙ ap (λ acts. position 0 acts) (sym first);
      letter = (below, other);
      inspected = refl;
      summed = refl;
      state = refl;
    }
  where
    position : ℕ → List (Act Letter) → Position Letter
    position m acts = record { passed = m; todo = acts }

pub goes_through : (run : Run) (r from : ℕ) (given : ℕ → List Letter) (to : Stage) → from_requests run r from ≡ Wait ∷ from_values run r 0 →
    GoesTo run r given AwaitRequests to → GoesTo run r given (Request from) to
goes_through run r from given to same goes =
    record { position = ap (past_waits (has_all (scripts run) r given) 0) same ∙ goes.position; letter = goes.letter; inspected = goes.inspected; summed = goes.summed; state = goes.state }

pub goes_on_requests : (run : Run) (r : ℕ) (given : ℕ → List Letter) (to : Stage) → has_all (scripts run) r given 0 ≡ true →
    GoesTo run r given (Values 0) to → GoesTo run r given AwaitRequests to
goes_on_requests run r given to all goes = record { position = cond-true _ _ _ all ∙ goes.position; letter = goes.letter; inspected = goes.inspected; summed = goes.summed; state = goes.state }

pub stops_at_requests : (run : Run) (r : ℕ) (given : ℕ → List Letter) → has_all (scripts run) r given 0 ≡ false → GoesTo run r given AwaitRequests AwaitRequests
stops_at_requests run r given lack = record { position = cond-false _ _ _ lack; letter = tt; inspected = refl; summed = refl; state = refl }

pub goes_on_values : (run : Run) (r : ℕ) (given : ℕ → List Letter) → has_all (scripts run) r given 1 ≡ true → GoesTo run r given AwaitValues Outer
goes_on_values run r given all = record { position = cond-true _ _ _ all; letter = tt; inspected = refl; summed = refl; state = refl }

pub stops_at_values : (run : Run) (r : ℕ) (given : ℕ → List Letter) → has_all (scripts run) r given 1 ≡ false → GoesTo run r given AwaitValues AwaitValues
stops_at_values run r given lack = record { position = cond-false _ _ _ lack; letter = tt; inspected = refl; summed = refl; state = refl }

pub goes_values : (run : Run) (r from to : ℕ) (given : ℕ → List Letter) → to < run.ranks → (to ≡ r → ⊥) → (send run r to ≡ [] → ⊥) → from_values run r from ≡ from_values run r to →
    GoesTo run r given (Values from) (Values to)
goes_values run r from to given below other some same =
    let passes = has_all (scripts run) r given in
    let first = (values_first run r to below other some).2 in
    record {
      position = ap (past_waits passes 1) (same ∙ first) ∙ ap (λ (acts : List (Act Letter)). position 1 acts) (sym first);
      letter = (below, other, some);
      inspected = refl;
      summed = refl;
      state = refl;
    }
  where
    position : ℕ → List (Act Letter) → Position Letter
    position m acts = record { passed = m; todo = acts }

pub goes_inner : (run : Run) (r from : ℕ) (given : ℕ → List Letter) → from_values run r from ≡ from_inner → GoesTo run r given (Values from) Inner
goes_inner run r from given same = record { position = ap (past_waits (has_all (scripts run) r given) 1) same; letter = tt; inspected = refl; summed = refl; state = refl }

-- a rank that posts
pub post_request : (run : Run) (r to : ℕ) (stage : Stage) → stage ≡ Request to → HasItsLetter run r stage →
    todo_of run r stage ≡ Post to (request (schedule run) r to) ∷ todo_of run r (Request (to + 1))
post_request run r to stage is has =
    let P : Stage → Type 0 = λ s. HasItsLetter run r s → todo_of run r s ≡ Post to (request (schedule run) r to) ∷ from_requests run r (to + 1) in
    subst P (sym is) (λ h. request_first run r to h.0 h.1) has

pub record PostsValues (run : Run) (r to : ℕ) (stage : Stage) : Type 0 where
  pub letter : Letter
  pub is : values_letter (schedule run) 0 r to ≡ Some letter
  pub todo : todo_of run r stage ≡ Post to letter ∷ todo_of run r (Values (to + 1))

pub post_values : (run : Run) (r to : ℕ) (stage : Stage) → stage ≡ Values to → HasItsLetter run r stage → PostsValues run r to stage
post_values run r to stage is has =
    let P : Stage → Type 0 = λ s. HasItsLetter run r s → PostsValues run r to s in
    subst P (sym is) (λ h. let first = values_first run r to h.0 h.1 h.2 in record { letter = first.0; is = first.1; todo = first.2 }) has

pub posts_request : (run : Run) (r to : ℕ) (stage : Stage) → stage ≡ Request to → HasItsLetter run r stage → Posts run r to stage (Request (to + 1)) 0
posts_request run r to stage is has =
    let P : Stage → Type 0 = λ s. HasItsLetter run r s → Posts run r to s (Request (to + 1)) 0 in
    subst P (sym is)
    (λ h. record {
      letter = request (schedule run) r to;
      todo = request_first run r to h.0 h.1;
      size = refl;
      passed = refl;
      inspected = refl;
      summed = refl;
      state = refl;
    })
    has

values_size : (f : ℕ → ℕ) (ws : List ℕ) (l : Letter) → some_values 0 (map f ws) ≡ Some l → values_in l ≡ length ws
values_size f [] l is = absurd (cc)
values_size f (w ∷ ws) l is =
    let same : letter.Values 0 (f w ∷ map f ws) ≡ l = cc in
    ap values_in (sym same) ∙ length-map (w ∷ ws) f

pub posts_values : (run : Run) (r to count : ℕ) (stage : Stage) → stage ≡ Values to → HasItsLetter run r stage → count ≡ length (send run r to) → Posts run r to stage (Values (to + 1)) count
posts_values run r to count stage is has counted =
    let P : Stage → Type 0 = λ s. HasItsLetter run r s → Posts run r to s (Values (to + 1)) count in
    subst P (sym is)
    (λ h.
    let first = values_first run r to h.0 h.1 h.2 in
    record {
      letter = first.0;
      todo = first.2;
      size = values_size (read run.first run.source) (send run r to) first.0 first.1 ∙ sym counted;
      passed = refl;
      inspected = refl;
      summed = refl;
      state = refl;
    })
    has
