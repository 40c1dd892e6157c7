-- What a rank is owed and owes in a turn, and the letters that it keeps.
use Rattle.std.proofs.Common.{◌≡◌, ℕ, zero, suc, ◌+◌, ◌<◌, ◌≤◌, Bool, true, false, ◌==◌, ◌&&◌, not, nat_le, nat_lt, List, [], ◌∷◌, Option, Some, None, is_none, cond, length, length-append, map, take, drop, get_or, slice_get, sum_by, refl, sym, ap, ◌∙◌, subst, inl, inr, arith}
use Rattle.std.specs.List.{range_with_len}
use Rattle.std.specs.Option.{option_map, option_to_list, option_and_then}
use Rattle.std.proofs.Math.Nat.{zero-add}
use Rattle.std.proofs.lemmas.Bool.{cases_Bool, cases_eq, eq-eqb, ne_eqb, cond-true, cond-false, le-leb, leb-true, le-ltb, lt-ltb, ltb-true, ltb-false, false_from_ne_true, false≢true}
use Rattle.std.proofs.lemmas.Option.{slice_get-map, slice_get-get_or, get_or_from_slice_get}
use Rattle.std.proofs.lemmas.List.{length-map, length-take-le, drop_all}
use Rattle.std.proofs.lemmas.List.FromFn.{length-range_with_len, get_or-range_with_len, get_or-map-range_with_len, length-map-range_with_len}
use Rattle.std.proofs.lemmas.List.Sums.{sum_by-cons}
use Rattle.bern_base.specs.declared.letter.Letter.{Letter}
use Rattle.bern_base.specs.declared.letter.Letter.TheVariants as letter
use Rattle.bern_base.specs.declared.letter.NeedSet.{NeedSet}
use Rattle.bern_base.specs.declared.letter.Needs.{Needs}
use Rattle.job_model.specs.State.{State, read}
use Rattle.rank_scripts.specs.Scripts.{book, named, IsFrontOf}
use Rattle.rank_scripts.specs.Nodes.{HasAllBefore, has_all}
use Rattle.rank_scripts.specs.Rounds.{due_of, letters_of, round_given, round_letter, turn_round}
use Rattle.rank_scripts.proofs.RankLemmas.{all_below_at, all_below_from}
use Rattle.rank_scripts.proofs.RoundLemmas.{letters_of-own}
use Rattle.rank_scripts.proofs.WaitLemmas.{has_all-round, letters_of-more, posts_to-until}
use Rattle.turn_model.specs.Runs.{Run, all_values, asked, asked_for, nest_at, schedule, scripts, set_values, some_due, turns_of}
use Rattle.turn_model.specs.Schedules.{rounds, some_values, values_in, values_letter}
use Rattle.turn_model.proofs.DueLemmas.{due-none, due-some}
use Rattle.turn_node.specs.Asks.{elements_in, no_needs}
use Rattle.turn_node.specs.Parts.{all_asks, needs_from}
use Rattle.turn_node.specs.Positions.{due_values}
use Rattle.turn_node.specs.Progresses.{asked_at, given_by, owes, taken_at, used}

-- the nest of a turn
pub nest_is : (run : Run) (turns : List ℕ) (t nest : ℕ) → turns ≡ run.turns → slice_get turns t ≡ Some nest → nest ≡ nest_at run t
nest_is run turns t nest are at = sym (get_or_from_slice_get run.turns t nest 0 (ap (λ ts. slice_get ts t) (sym are) ∙ at))

-- values are due exactly where some element is asked for
some_letter : (o : Option Letter) → (o ≡ None → ⊥) → (letter : Letter) × (o ≡ Some letter)
some_letter None some = absurd (some refl)
some_letter (Some letter) some = (letter, refl)

due_other : (run : Run) (t p q : ℕ) → (p ≡ q → ⊥) → due_values run t p q ≡ values_letter (schedule run) t p q
due_other run t p q other = cond-false (p == q) None (values_letter (schedule run) t p q) (ne_eqb p q other)

pub due_own : (run : Run) (t p : ℕ) → due_values run t p p ≡ None
due_own run t p = cond-true (p == p) None (values_letter (schedule run) t p p) (eq-eqb p p refl)

pub due_some : (run : Run) (t p q : ℕ) → (p ≡ q → ⊥) → some_due (nest_at run t) (asked run q p) ≡ true → (letter : Letter) × (due_values run t p q ≡ Some letter)
due_some run t p q other some =
    let found = some_letter (values_letter (schedule run) t p q) (due-some run t p q some) in
    (found.0, due_other run t p q other ∙ found.1)

pub due_none : (run : Run) (t p q : ℕ) → (p ≡ q → ⊥) → some_due (nest_at run t) (asked run q p) ≡ false → due_values run t p q ≡ None
due_none run t p q other none = due_other run t p q other ∙ due-none run t p q none

-- a letter that is due goes to another rank, and has the values of the turn
pub record IsDue (run : Run) (t p q : ℕ) (due : Letter) : Type 0 where
  pub other : p ≡ q → ⊥
  pub letter_is : values_letter (schedule run) t p q ≡ Some due
  pub size : values_in due ≡ sum_by elements_in (asked_for run (nest_at run t) q p)

pub values_long : (state : State) (sets : List NeedSet) → length (all_values state sets) ≡ sum_by elements_in sets
values_long state [] = refl
values_long state (set ∷ sets) =
    length-append (set_values state set) (all_values state sets) ∙
    (let here = length-map set.elements (read state set.array) in
    let rest = values_long state sets in
    let sum = sum_by-cons elements_in set sets in
    omega arith)

values_size : (t : ℕ) (xs : List ℕ) (due : Letter) → some_values t xs ≡ Some due → values_in due ≡ length xs
values_size t [] due is = absurd (cc)
values_size t (x ∷ xs) due is =
    let same : letter.Values t (x ∷ xs) ≡ due = cc in
    ap values_in (sym same)

pub is_due : (run : Run) (t p q : ℕ) (due : Letter) → due_values run t p q ≡ Some due → IsDue run t p q due
is_due run t p q due is =
    let other : p ≡ q → ⊥ = λ same. none_some due (sym (cond-true (p == q) None (values_letter (schedule run) t p q) (eq-eqb p q same)) ∙ is) in
    let letter_is = sym (due_other run t p q other) ∙ is in
    record {
      other = other;
      letter_is = letter_is;
      size = values_size t (all_values (run.state t) (asked_for run (nest_at run t) q p)) due letter_is ∙ values_long (run.state t) (asked_for run (nest_at run t) q p);
    }
  where
    none_some : (l : Letter) → None ≡ Some l → ⊥
    none_some l e = absurd (cc)

-- what a rank asks of another one
pub asks_at : (run : Run) (r q : ℕ) (asks : List Needs) → asks ≡ all_asks run r → q < run.ranks → asked_at asks q ≡ needs_from run r q
asks_at run r q asks are below = ap (λ xs. get_or xs q no_needs) are ∙ get_or-map-range_with_len (needs_from run r) 0 run.ranks q q no_needs below (zero-add q)

pub asks_long : (run : Run) (r : ℕ) (asks : List Needs) → asks ≡ all_asks run r → length asks ≡ run.ranks
asks_long run r asks are = ap length are ∙ length-map-range_with_len (needs_from run r) 0 run.ranks

-- what a rank is owed
pub owed : (run : Run) (t r q nest : ℕ) (asks : List Needs) → nest ≡ nest_at run t → asks ≡ all_asks run r → q < run.ranks → owes r q nest asks ≡ true →
    (letter : Letter) × (due_values run t q r ≡ Some letter)
owed run t r q nest asks nest_is are below owing =
    elim (cases_eq q r) [
      | inl own ↦ absurd (let none : not (q == r) ≡ false = ap not (eq-eqb q r own) in false≢true (sym (ap (λ b. b && some_due nest (asked_at asks q).sets) none) ∙ owing))
      | inr other ↦
          let some : not (q == r) ≡ true = ap not (ne_eqb q r other) in
          let due : some_due nest (asked_at asks q).sets ≡ true = sym (ap (λ b. b && some_due nest (asked_at asks q).sets) some) ∙ owing in
          due_some run t q r other (ap (λ k. some_due k (asked run r q)) (sym nest_is) ∙ ap (λ (n : Needs). some_due nest n.sets) (sym (asks_at run r q asks are below)) ∙ due)
    ]

pub not_owed : (run : Run) (t r q nest : ℕ) (asks : List Needs) → nest ≡ nest_at run t → asks ≡ all_asks run r → q < run.ranks → owes r q nest asks ≡ false → due_values run t q r ≡ None
not_owed run t r q nest asks nest_is are below free =
    elim (cases_eq q r) [
      | inl own ↦ subst (λ k. due_values run t q k ≡ None) own (due_own run t q)
      | inr other ↦
          let some : not (q == r) ≡ true = ap not (ne_eqb q r other) in
          let due : some_due nest (asked_at asks q).sets ≡ false = sym (ap (λ b. b && some_due nest (asked_at asks q).sets) some) ∙ free in
          due_none run t q r other (ap (λ k. some_due k (asked run r q)) (sym nest_is) ∙ ap (λ (n : Needs). some_due nest n.sets) (sym (asks_at run r q asks are below)) ∙ due)
    ]

-- how many letters of rank q the waits of rank r name
pub named_is : (run : Run) (r m q : ℕ) → r < run.ranks → named (scripts run) r m q ≡ used run r m q
named_is run r m q there = ap length (posts_to-until run.ranks q r m (rounds (schedule run)) there)

pub named_own : (run : Run) (r m : ℕ) → r < run.ranks → named (scripts run) r m r ≡ 0
named_own run r m there = named_is run r m r there ∙ ap length (letters_of-own r (take (suc m) (rounds (schedule run))))

pub named_request : (run : Run) (r q : ℕ) → r < run.ranks → (q ≡ r → ⊥) → named (scripts run) r 0 q ≡ 1
named_request run r q there other = named_is run r 0 q there ∙ rw (ne_eqb q r other) refl

-- tests at a wait
pub enough : (m n k : ℕ) → m ≡ n → n ≤ k → nat_le m k ≡ true
enough m n k e h = le-leb m k (omega arith)

pub lacks : (run : Run) (r m q : ℕ) (given : ℕ → List Letter) → q < run.ranks → length (given q) < named (scripts run) r m q → false ≡ has_all (scripts run) r given m
lacks run r m q given below short =
    sym (false_from_ne_true (has_all (scripts run) r given m) (λ all.
    let enough_there : named (scripts run) r m q ≤ length (given q) = leb-true _ _ (all_below_at run.ranks _ all q below) in
    omega arith))

pub has_all_from : (run : Run) (r m : ℕ) (given : ℕ → List Letter) → ((q : ℕ) → q < run.ranks → nat_le (named (scripts run) r m q) (length (given q)) ≡ true) → true ≡ has_all (scripts run) r given m
has_all_from run r m given each = sym (all_below_from run.ranks _ each)

-- the wait for the values of turn t, by those of the turn alone
pub has_turn : (run : Run) (r t : ℕ) (given : ℕ → List Letter) → r < run.ranks → HasAllBefore (scripts run) r given (suc t) →
    ((q : ℕ) → q < run.ranks → round_given (rounds (schedule run)) r given (suc t) q ≡ true) → true ≡ has_all (scripts run) r given (suc t)
has_turn run r t given there past each = sym (has_all-round run.ranks (rounds (schedule run)) r given (suc t) there past ∙ all_below_from run.ranks _ each)

pub lacks_turn : (run : Run) (r t q : ℕ) (given : ℕ → List Letter) → r < run.ranks → q < run.ranks → HasAllBefore (scripts run) r given (suc t) →
    round_given (rounds (schedule run)) r given (suc t) q ≡ false → false ≡ has_all (scripts run) r given (suc t)
lacks_turn run r t q given there below past lack =
    sym (false_from_ne_true (has_all (scripts run) r given (suc t)) (λ all.
    false≢true (sym lack ∙ all_below_at run.ranks _ (sym (has_all-round run.ranks (rounds (schedule run)) r given (suc t) there past) ∙ all) q below)))

-- the letter of the round of a turn
pub turn_letter : (run : Run) (t q r : ℕ) → t < turns_of run → round_letter (rounds (schedule run)) (suc t) q r ≡ due_values run t q r
turn_letter run t q r below =
    let values = turn_round (values_letter (schedule run)) in
    let place : slice_get (range_with_len 0 (turns_of run)) t ≡ Some t =
    slice_get-get_or (range_with_len 0 (turns_of run)) t 0 (let long = length-range_with_len 0 (turns_of run) in omega arith) ∙ ap Some (get_or-range_with_len 0 (turns_of run) t 0 below ∙ zero-add t) in
    let here : slice_get (map values (range_with_len 0 (turns_of run))) t ≡ Some (values t) = slice_get-map values (range_with_len 0 (turns_of run)) t ∙ ap (option_map values) place in
    ap (option_and_then (due_of q r)) here

-- after a turn its letter is used too, if one is due
pub used_next : (run : Run) (r t q : ℕ) → t < turns_of run → used run r (t + 1) q ≡ used run r t q + length (option_to_list (due_values run t q r))
used_next run r t q below =
    let more = letters_of-more (rounds (schedule run)) (suc t) q r in
    let same : suc (t + 1) ≡ suc (suc t) = omega arith in
    ap (λ k. length (letters_of q r (take k (rounds (schedule run))))) same ∙ ap length more ∙
    length-append (letters_of q r (take (suc t) (rounds (schedule run)))) (option_to_list (round_letter (rounds (schedule run)) (suc t) q r)) ∙
    ap (λ o. used run r t q + length (option_to_list o)) (turn_letter run t q r below)

-- the Request is always used
pub used_some : (run : Run) (r t q : ℕ) → (q ≡ r → ⊥) → 0 < used run r t q
used_some run r t q other = rw (ne_eqb q r other) (omega arith)

pub used_first : (run : Run) (r q : ℕ) → (q ≡ r → ⊥) → used run r 0 q ≡ 1
used_first run r q other = rw (ne_eqb q r other) refl

-- what was given is as long as was counted
pub given_long : (run : Run) (r : ℕ) (taken : List ℕ) (q : ℕ) → taken_at taken q ≤ length (book (scripts run) q r) → length (given_by run r taken q) ≡ taken_at taken q
given_long run r taken q within = length-take-le (taken_at taken q) (book (scripts run) q r) within

pub given_front : (run : Run) (r : ℕ) (taken : List ℕ) (q : ℕ) → taken_at taken q ≤ length (book (scripts run) q r) → IsFrontOf (given_by run r taken q) (book (scripts run) q r)
given_front run r taken q within = ap (λ k. take k (book (scripts run) q r)) (given_long run r taken q within)

-- the box of a sender is empty exactly where all that was given is used
dropped_none : {A : Type 0} (n : ℕ) (xs : List A) → drop n xs ≡ [] → length xs ≤ n
dropped_none n [] none = omega arith
dropped_none zero (x ∷ xs) none = absurd (cc)
dropped_none (suc n) (x ∷ xs) none = let rest = dropped_none n xs none in omega arith

pub empty_box : {A : Type 0} (box given : List A) (n : ℕ) → box ≡ drop n given → box ≡ [] → length given ≤ n
empty_box box given n is none = dropped_none n given (sym is ∙ none)

pub some_box : {A : Type 0} (box given : List A) (n : ℕ) → box ≡ drop n given → (box ≡ [] → ⊥) → n < length given
some_box {A} box given n is some =
    elim (cases_Bool (nat_lt n (length given))) [
      | inl more ↦ ltb-true n (length given) more
      | inr past ↦ absurd (some (is ∙ drop_all n given (ltb-false n (length given) past)))
    ]

-- a rank has the letter of a turn from a rank that owes it, if its box is not empty
pub came : (run : Run) (r t q : ℕ) (given : ℕ → List Letter) → used run r t q < length (given q) → round_given (rounds (schedule run)) r given (suc t) q ≡ true
came run r t q given more = by (is_none (round_letter (rounds (schedule run)) (suc t) q r))
  where
    by : (b : Bool) → cond b true (nat_lt (used run r t q) (length (given q))) ≡ true
    by true = refl
    by false = lt-ltb (used run r t q) (length (given q)) more

pub none_due : (run : Run) (r t q : ℕ) (given : ℕ → List Letter) → t < turns_of run → due_values run t q r ≡ None → round_given (rounds (schedule run)) r given (suc t) q ≡ true
none_due run r t q given below none =
    ap (λ (o : Option Letter). cond (is_none o) true (nat_lt (used run r t q) (length (given q)))) (turn_letter run t q r below ∙ none)

pub not_come : (run : Run) (r t q : ℕ) (given : ℕ → List Letter) (letter : Letter) → t < turns_of run → due_values run t q r ≡ Some letter → length (given q) ≤ used run r t q →
    round_given (rounds (schedule run)) r given (suc t) q ≡ false
not_come run r t q given letter below due short =
    ap (λ (o : Option Letter). cond (is_none o) true (nat_lt (used run r t q) (length (given q)))) (turn_letter run t q r below ∙ due) ∙
    le-ltb (used run r t q) (length (given q)) short

-- what holds below n and at n
pub below_next : (P : ℕ → Type 0) (n : ℕ) → ((q : ℕ) → q < n → P q) → P n → (q : ℕ) → q < n + 1 → P q
below_next P n each here q below =
    elim (cases_eq q n) [
      | inl same ↦ subst P (sym same) here
      | inr other ↦ each q (omega arith)
    ]
