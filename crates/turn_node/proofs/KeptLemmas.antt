-- What a rank keeps of its letters: as it takes one, and as it drops those of a turn.
use Rattle.std.proofs.Common.{◌≡◌, ℕ, zero, suc, ◌+◌, ◌<◌, ◌≤◌, Bool, true, false, List, [], ◌∷◌, ◌++◌, Option, Some, None, length, filter_map, take, drop, set, slice_get, option_to_list, ◌==◌, add-zero, refl, sym, ap, ◌∙◌, subst, inl, inr, arith}
use Rattle.std.specs.List.{range_with_len, cons_option}
use Rattle.std.proofs.Math.Path.{fun_ext}
use Rattle.std.proofs.lemmas.Bool.{cases_eq, eq-eqb, ne_eqb, cond-true, cond-false, leb-true}
use Rattle.std.proofs.lemmas.Option.{slice_get_within}
use Rattle.std.proofs.lemmas.List.{length-set, length_push, drop-append-le, drop-drop, drop_all, get_or-set_same, get_or-set_other}
use Rattle.std.proofs.lemmas.List.FromFn.{length-range_with_len}
use Rattle.bern_base.specs.declared.letter.Letter.{Letter}
use Rattle.bern_base.specs.declared.letter.Letter.TheVariants.{Request, Values}
use Rattle.bern_base.specs.declared.letter.Needs.{Needs}
use Rattle.rank_scripts.specs.Ranks.{put}
use Rattle.rank_scripts.specs.Scripts.{book, IsNextOf, named}
use Rattle.rank_scripts.specs.Nodes.{has_all, HasAllBefore}
use Rattle.rank_scripts.proofs.RankLemmas.{all_below_at}
use Rattle.rank_scripts.proofs.BookLemmas.{IsFrontOf-next}
use Rattle.rank_scripts.proofs.RoundLemmas.{book-own, book-turns}
use Rattle.turn_model.specs.Runs.{Run, nest_at, schedule, scripts, turns_of}
use Rattle.turn_model.specs.Schedules.{request, rounds, some_values, values_letter}
use Rattle.turn_node.specs.declared.progress.Progress.{Progress}
use Rattle.turn_node.specs.declared.stage.Stage.{Stage}
use Rattle.turn_node.specs.declared.stage.Stage.TheVariants as stage
use Rattle.turn_node.specs.Asks.{no_needs}
use Rattle.turn_node.specs.Drops.{HaveDropped}
use Rattle.turn_node.specs.Parts.{all_asks, needs_from}
use Rattle.turn_node.specs.Positions.{due_values, passed_of, turn_of}
use Rattle.turn_node.specs.Progresses.{asked_at, box_at, given_by, owes, taken_at, used, HasMail, Keeps}
use Rattle.turn_node.proofs.MailLemmas.{given_long, given_front, named_is, not_owed, owed, used_first, used_next, used_some}

-- a book is short
few_letters : (f : ℕ → Option Letter) (xs : List ℕ) → length (filter_map f xs) ≤ length xs
few_letters f [] = omega arith
few_letters f (x ∷ xs) = let rest = few_letters f xs in by (f x) rest
  where
    by : (o : Option Letter) → length (filter_map f xs) ≤ length xs → length (cons_option o (filter_map f xs)) ≤ suc (length xs)
    by None rest = omega arith
    by (Some letter) rest = omega arith

pub book_few : (run : Run) (p q : ℕ) → q < run.ranks → length (book (scripts run) p q) ≤ turns_of run + 1
book_few run p q there =
    elim (cases_eq p q) [
      | inl same ↦
          let none : length (book (scripts run) p q) ≡ 0 = subst (λ k. length (book (scripts run) p k) ≡ 0) same (ap length (book-own run.ranks p (rounds (schedule run)))) in
          omega arith
      | inr other ↦
          let f : ℕ → Option Letter = λ t. values_letter (schedule run) t p q in
          let whole : length (book (scripts run) p q) ≡ suc (length (filter_map f (range_with_len 0 (turns_of run)))) = ap length (book-turns run.ranks (turns_of run) (request (schedule run)) (values_letter (schedule run)) p q there other) in
          let few = few_letters f (range_with_len 0 (turns_of run)) in
          let long = length-range_with_len 0 (turns_of run) in
          omega arith
    ]

-- the letters of a book: the Request first, and values after it
abbrev is_values : Letter → Bool
is_values (Request needs) = false
is_values (Values turn values) = true

some_same : {A : Type 0} (x y : A) → Some x ≡ Some y → x ≡ y
some_same x y e = cc

values_only : (f : ℕ → List ℕ) (xs : List ℕ) (k : ℕ) (letter : Letter) → slice_get (filter_map (λ t. some_values t (f t)) xs) k ≡ Some letter → is_values letter ≡ true
values_only f [] k letter is = absurd (cc)
values_only f (x ∷ xs) k letter is = by (f x) k is (λ j. values_only f xs j letter)
  where
    by : (vs : List ℕ) (j : ℕ) → slice_get (cons_option (some_values x vs) (filter_map (λ t. some_values t (f t)) xs)) j ≡ Some letter →
        ((i : ℕ) → slice_get (filter_map (λ t. some_values t (f t)) xs) i ≡ Some letter → is_values letter ≡ true) → is_values letter ≡ true
    by [] j here later = later j here
    by (v ∷ vs) zero here later = ap is_values (sym (some_same (Values x (v ∷ vs)) letter here))
    by (v ∷ vs) (suc j) here later = later j here

book_is : (run : Run) (q r : ℕ) → r < run.ranks → (q ≡ r → ⊥) → book (scripts run) q r ≡ request (schedule run) q r ∷ filter_map (λ t. values_letter (schedule run) t q r) (range_with_len 0 (turns_of run))
book_is run q r there other = book-turns run.ranks (turns_of run) (request (schedule run)) (values_letter (schedule run)) q r there other

first_letter : (run : Run) (q r : ℕ) (letter : Letter) → r < run.ranks → (q ≡ r → ⊥) → slice_get (book (scripts run) q r) 0 ≡ Some letter → letter ≡ request (schedule run) q r
first_letter run q r letter there other is = sym (some_same (request (schedule run) q r) letter (sym (ap (λ xs. slice_get xs 0) (book_is run q r there other)) ∙ is))

later_letter : (run : Run) (q r k : ℕ) (letter : Letter) → r < run.ranks → (q ≡ r → ⊥) → slice_get (book (scripts run) q r) (suc k) ≡ Some letter → is_values letter ≡ true
later_letter run q r k letter there other is =
    values_only (λ t. (schedule run).values t q r) (range_with_len 0 (turns_of run)) k letter (sym (ap (λ xs. slice_get xs (suc k)) (book_is run q r there other)) ∙ is)

-- a letter that comes next is of another rank
pub next_other : (run : Run) (q r : ℕ) (before : List Letter) (letter : Letter) → IsNextOf (book (scripts run) q r) before letter → q ≡ r → ⊥
next_other run q r before letter next same =
    none (length before) (sym (ap (λ xs. slice_get xs (length before)) (subst (λ k. book (scripts run) q k ≡ []) same (book-own run.ranks q (rounds (schedule run))))) ∙ next)
  where
    none : (k : ℕ) → slice_get [] k ≡ Some letter → ⊥
    none k e = absurd (cc)

-- one letter more
pub taken_more : (run : Run) (r : ℕ) (taken : List ℕ) (from : ℕ) (letter : Letter) → from < length taken → taken_at taken from ≤ length (book (scripts run) from r) →
    IsNextOf (book (scripts run) from r) (given_by run r taken from) letter →
    given_by run r (set taken from (taken_at taken from + 1)) ≡ put (given_by run r taken) from (given_by run r taken from ++ letter ∷ [])
taken_more run r taken from letter below within next =
    let k = taken_at taken from in
    let long = given_long run r taken from within in
    let whole = book (scripts run) from r in
    fun_ext (λ q. elim (cases_eq q from) [
      | inl here ↦
          let now : taken_at (set taken from (k + 1)) from ≡ k + 1 = get_or-set_same taken from (k + 1) 0 below in
          let pushed : length (given_by run r taken from ++ letter ∷ []) ≡ k + 1 = length_push (given_by run r taken from) letter ∙ ap (λ j. j + 1) long in
          let more : take (k + 1) whole ≡ given_by run r taken from ++ letter ∷ [] =
          ap (λ j. take j whole) (sym pushed) ∙ IsFrontOf-next (given_by run r taken from) whole letter (given_front run r taken from within) next in
          ap (given_by run r (set taken from (k + 1))) here ∙ ap (λ j. take j whole) now ∙ more ∙
          sym (cond-true (q == from) (given_by run r taken from ++ letter ∷ []) (given_by run r taken q) (eq-eqb q from here))
      | inr other ↦
          ap (λ j. take j (book (scripts run) q r)) (get_or-set_other taken from q (k + 1) 0 other) ∙
          sym (cond-false (q == from) (given_by run r taken from ++ letter ∷ []) (given_by run r taken q) (ne_eqb q from other))
    ])

-- what a rank that took something of another one has used of it was given
pub used_given : (run : Run) (r q : ℕ) (here : Stage) (given : ℕ → List Letter) → r < run.ranks → q < run.ranks → (q ≡ r → ⊥) → HasAllBefore (scripts run) r given (passed_of run here) →
    0 < length (given q) → used run r (turn_of run here) q ≤ length (given q)
used_given run r q here given there q_there other past some = by here past
  where
    at_first : used run r 0 q ≤ length (given q)
    at_first = let one = used_first run r q other in omega arith

    passed : (m : ℕ) → has_all (scripts run) r given m ≡ true → used run r m q ≤ length (given q)
    passed m all =
        let known : named (scripts run) r m q ≤ length (given q) = leb-true _ _ (all_below_at run.ranks _ all q q_there) in
        let same = named_is run r m q there in
        omega arith

    by : (s : Stage) → HasAllBefore (scripts run) r given (passed_of run s) → used run r (turn_of run s) q ≤ length (given q)
    by stage.Inspect before = at_first
    by (stage.Request to) before = at_first
    by stage.AwaitRequests before = at_first
    by (stage.Values turn to) before = passed turn (before turn (omega arith))
    by (stage.Inner turn) before = passed turn (before turn (omega arith))
    by (stage.AwaitValues turn) before = passed turn (before turn (omega arith))
    by (stage.Outer turn) before = passed turn (before turn (omega arith))
    by stage.Done before = passed (turns_of run) (before (turns_of run) (omega arith))

-- a rank that keeps a letter, by its kind
kept_request : (run : Run) (r t from : ℕ) (turns : List ℕ) (asked : List Needs) (mail : List (List Letter)) (taken : List ℕ) (needs : Needs) → HasMail run r turns asked mail taken t → from < run.ranks →
    IsNextOf (book (scripts run) from r) (given_by run r taken from) (Request needs) →
    HasMail run r turns (set asked from needs) mail (set taken from (taken_at taken from + 1)) t
kept_request run r t from turns asked mail taken needs is below next =
    let k = taken_at taken from in
    let whole = book (scripts run) from r in
    let other = next_other run from r (given_by run r taken from) (Request needs) next in
    let long = given_long run r taken from (is.within from) in
    let there : from < length taken = rw is.taken_long below in
    let at_k : slice_get whole k ≡ Some (Request needs) = ap (slice_get whole) (sym long) ∙ next in
    let inside = slice_get_within whole k (Request needs) at_k in
    let first : (k ≡ 0) × (needs ≡ needs_from run from r) = at_first k at_k other is.rank in
    let more = taken_more run r taken from (Request needs) there (is.within from) next in
    record {
      run_is = is.run_is;
      rank = is.rank;
      turns_are = is.turns_are;
      asked_long = length-set asked from needs ∙ is.asked_long;
      mail_long = is.mail_long;
      taken_long = length-set taken from (k + 1) ∙ is.taken_long;
      within = λ q. elim (cases_eq q from) [
        | inl here ↦
            let P : ℕ → Type 0 = λ j. taken_at (set taken from (k + 1)) j ≤ length (book (scripts run) j r) in
            subst P (sym here) (rw (get_or-set_same taken from (k + 1) 0 there) (omega arith))
        | inr away ↦ rw (get_or-set_other taken from q (k + 1) 0 away) (is.within q)
      ];
      requests = λ q some. elim (cases_eq q from) [
        | inl here ↦
            let P : ℕ → Type 0 = λ j. asked_at (set asked from needs) j ≡ needs_from run j r in
            subst P (sym here) (get_or-set_same asked from needs no_needs (rw is.asked_long below) ∙ first.1)
        | inr away ↦ get_or-set_other asked from q needs no_needs away ∙ is.requests q (subst (λ (n : ℕ). 0 < n) (get_or-set_other taken from q (k + 1) 0 away) some)
      ];
      early = λ q. is.early q ∙ elim (cases_eq q from) [
        | inl here ↦
            let P : ℕ → Type 0 = λ j. drop (used run r t j) (given_by run r taken j) ≡ drop (used run r t j) (given_by run r (set taken from (k + 1)) j) in
            let some = used_some run r t from other in
            let pushed = length_push (given_by run r taken from) (Request needs) in
            let now : given_by run r (set taken from (k + 1)) from ≡ given_by run r taken from ++ Request needs ∷ [] = ap (λ (f : ℕ → List Letter). f from) more ∙ cond-true (from == from) (given_by run r taken from ++ Request needs ∷ []) (given_by run r taken from) (eq-eqb from from refl) in
            let zero_is = first.0 in
            subst P (sym here)
            (drop_all (used run r t from) (given_by run r taken from) (omega arith) ∙
            sym (ap (drop (used run r t from)) now ∙ drop_all (used run r t from) (given_by run r taken from ++ Request needs ∷ []) (omega arith)))
        | inr away ↦ ap (λ n. drop (used run r t q) (take n (book (scripts run) q r))) (sym (get_or-set_other taken from q (k + 1) 0 away))
      ];
    }
  where
    needs_same : Request needs ≡ request (schedule run) from r → needs ≡ needs_from run from r
    needs_same e = cc

    at_first : (j : ℕ) → slice_get (book (scripts run) from r) j ≡ Some (Request needs) → (from ≡ r → ⊥) → r < run.ranks → (j ≡ 0) × (needs ≡ needs_from run from r)
    at_first zero at other there = (refl, needs_same (first_letter run from r (Request needs) there other at))
    at_first (suc j) at other there = absurd (let values = later_letter run from r j (Request needs) there other at in cc)

kept_values : (run : Run) (r t from : ℕ) (turns : List ℕ) (asked : List Needs) (mail : List (List Letter)) (taken : List ℕ) (turn : ℕ) (values : List ℕ) → HasMail run r turns asked mail taken t → from < run.ranks →
    (0 < taken_at taken from → used run r t from ≤ length (given_by run r taken from)) →
    IsNextOf (book (scripts run) from r) (given_by run r taken from) (Values turn values) →
    HasMail run r turns asked (set mail from (box_at mail from ++ Values turn values ∷ [])) (set taken from (taken_at taken from + 1)) t
kept_values run r t from turns asked mail taken turn values is below used_there next =
    let k = taken_at taken from in
    let whole = book (scripts run) from r in
    let letter = Values turn values in
    let other = next_other run from r (given_by run r taken from) letter next in
    let long = given_long run r taken from (is.within from) in
    let there : from < length taken = rw is.taken_long below in
    let box_there : from < length mail = rw is.mail_long below in
    let at_k : slice_get whole k ≡ Some letter = ap (slice_get whole) (sym long) ∙ next in
    let inside = slice_get_within whole k letter at_k in
    let some_taken : 0 < k = later k at_k other is.rank in
    let more = taken_more run r taken from letter there (is.within from) next in
    record {
      run_is = is.run_is;
      rank = is.rank;
      turns_are = is.turns_are;
      asked_long = is.asked_long;
      mail_long = length-set mail from (box_at mail from ++ letter ∷ []) ∙ is.mail_long;
      taken_long = length-set taken from (k + 1) ∙ is.taken_long;
      within = λ q. elim (cases_eq q from) [
        | inl here ↦
            let P : ℕ → Type 0 = λ j. taken_at (set taken from (k + 1)) j ≤ length (book (scripts run) j r) in
            subst P (sym here) (rw (get_or-set_same taken from (k + 1) 0 there) (omega arith))
        | inr away ↦ rw (get_or-set_other taken from q (k + 1) 0 away) (is.within q)
      ];
      requests = λ q some. elim (cases_eq q from) [
        | inl here ↦ is.requests q (subst (λ j. 0 < taken_at taken j) (sym here) some_taken)
        | inr away ↦ is.requests q (subst (λ (n : ℕ). 0 < n) (get_or-set_other taken from q (k + 1) 0 away) some)
      ];
      early = λ q. elim (cases_eq q from) [
        | inl here ↦
            let P : ℕ → Type 0 = λ j. box_at (set mail from (box_at mail from ++ letter ∷ [])) j ≡ drop (used run r t j) (given_by run r (set taken from (k + 1)) j) in
            let now : given_by run r (set taken from (k + 1)) from ≡ given_by run r taken from ++ letter ∷ [] = ap (λ (f : ℕ → List Letter). f from) more ∙ cond-true (from == from) (given_by run r taken from ++ letter ∷ []) (given_by run r taken from) (eq-eqb from from refl) in
            subst P (sym here)
            (get_or-set_same mail from (box_at mail from ++ letter ∷ []) [] box_there ∙ ap (λ xs. xs ++ letter ∷ []) (is.early from) ∙
            sym (ap (drop (used run r t from)) now ∙ drop-append-le (used run r t from) (given_by run r taken from) (letter ∷ []) (used_there some_taken)))
        | inr away ↦
            get_or-set_other mail from q (box_at mail from ++ letter ∷ []) [] away ∙ is.early q ∙
            ap (λ n. drop (used run r t q) (take n (book (scripts run) q r))) (sym (get_or-set_other taken from q (k + 1) 0 away))
      ];
    }
  where
    later : (j : ℕ) → slice_get (book (scripts run) from r) j ≡ Some (Values turn values) → (from ≡ r → ⊥) → r < run.ranks → 0 < j
    later zero at other there = absurd (let same = first_letter run from r (Values turn values) there other at in cc)
    later (suc j) at other there = omega arith

-- whatever it keeps
pub kept_mail : (run : Run) (n m : Progress) (t from : ℕ) (letter : Letter) → HasMail run n.rank n.turns n.asked n.mail n.taken t → from < run.ranks →
    (0 < taken_at n.taken from → used run n.rank t from ≤ length (given_by run n.rank n.taken from)) →
    IsNextOf (book (scripts run) from n.rank) (given_by run n.rank n.taken from) letter → Keeps n m from letter →
    HasMail run n.rank n.turns m.asked m.mail (set n.taken from (taken_at n.taken from + 1)) t
kept_mail run n m t from (Request needs) is below used_there next keeps =
    let P : Progress → Type 0 = λ k. HasMail run n.rank n.turns k.asked k.mail (set n.taken from (taken_at n.taken from + 1)) t in
    subst P (sym keeps) (kept_request run n.rank t from n.turns n.asked n.mail n.taken needs is below next)
kept_mail run n m t from (Values turn values) is below used_there next keeps =
    let P : Progress → Type 0 = λ k. HasMail run n.rank n.turns k.asked k.mail (set n.taken from (taken_at n.taken from + 1)) t in
    subst P (sym keeps) (kept_values run n.rank t from n.turns n.asked n.mail n.taken turn values is below used_there next)

pub kept_rest : (n m : Progress) (from : ℕ) (letter : Letter) → Keeps n m from letter → m ≡ record n { asked = m.asked; mail = m.mail }
kept_rest n m from (Request needs) keeps =
    let P : Progress → Type 0 = λ k. k ≡ record n { asked = k.asked; mail = k.mail } in
    subst P (sym keeps) refl
kept_rest n m from (Values turn values) keeps =
    let P : Progress → Type 0 = λ k. k ≡ record n { asked = k.asked; mail = k.mail } in
    subst P (sym keeps) refl

-- the letters of a turn, dropped of one rank more
pub dropped_more : (run : Run) (n : Progress) (t q : ℕ) (letter : Letter) → t < turns_of run → box_at n.mail q ≡ drop (used run n.rank t q) (given_by run n.rank n.taken q) → due_values run t q n.rank ≡ Some letter →
    drop 1 (box_at n.mail q) ≡ drop (used run n.rank (t + 1) q) (given_by run n.rank n.taken q)
dropped_more run n t q letter below early due =
    let more : used run n.rank (t + 1) q ≡ used run n.rank t q + 1 = used_next run n.rank t q below ∙ ap (λ o. used run n.rank t q + length (option_to_list o)) due in
    ap (drop 1) early ∙ drop-drop 1 (used run n.rank t q) (given_by run n.rank n.taken q) ∙ ap (λ k. drop k (given_by run n.rank n.taken q)) (sym more)

pub dropped_same : (run : Run) (n : Progress) (t q : ℕ) → t < turns_of run → box_at n.mail q ≡ drop (used run n.rank t q) (given_by run n.rank n.taken q) → due_values run t q n.rank ≡ None →
    box_at n.mail q ≡ drop (used run n.rank (t + 1) q) (given_by run n.rank n.taken q)
dropped_same run n t q below early none =
    let same : used run n.rank (t + 1) q ≡ used run n.rank t q = used_next run n.rank t q below ∙ ap (λ o. used run n.rank t q + length (option_to_list o)) none ∙ add-zero (used run n.rank t q) in
    early ∙ ap (λ k. drop k (given_by run n.rank n.taken q)) (sym same)

-- one rank more, by what it owes
pub drops_one : (run : Run) (n m : Progress) (t q nest : ℕ) (mail : List (List Letter)) → t < turns_of run → HasMail run n.rank n.turns n.asked n.mail n.taken t → n.asks ≡ all_asks run n.rank → q < run.ranks → nest ≡ nest_at run t →
    HaveDropped run n m t q → owes n.rank q nest n.asks ≡ true → mail ≡ set m.mail q (drop 1 (box_at m.mail q)) → HaveDropped run n (record m { mail = mail }) t (q + 1)
drops_one run n m t q nest mail below is asks there nest_is had owing mail_is =
    let letter = owed run t n.rank q nest n.asks nest_is asks there owing in
    let long : q < length m.mail = rw (had.long, is.mail_long) there in
    record {
      same = ap (λ (k : Progress). record k { mail = mail }) had.same;
      long = ap length mail_is ∙ length-set m.mail q (drop 1 (box_at m.mail q)) ∙ had.long;
      before = λ k k_below. elim (cases_eq k q) [
        | inl here ↦
            let P : ℕ → Type 0 = λ j. box_at mail j ≡ drop (used run n.rank (t + 1) j) (given_by run n.rank n.taken j) in
            subst P (sym here)
            (ap (λ (b : List (List Letter)). box_at b q) mail_is ∙ get_or-set_same m.mail q (drop 1 (box_at m.mail q)) [] long ∙ ap (drop 1) (had.after q (omega arith)) ∙ dropped_more run n t q letter.0 below (is.early q) letter.1)
        | inr away ↦ ap (λ (b : List (List Letter)). box_at b k) mail_is ∙ get_or-set_other m.mail q k (drop 1 (box_at m.mail q)) [] away ∙ had.before k (omega arith)
      ];
      after = λ k past. ap (λ (b : List (List Letter)). box_at b k) mail_is ∙ get_or-set_other m.mail q k (drop 1 (box_at m.mail q)) [] (λ e. omega arith) ∙ had.after k (omega arith);
    }

pub drops_none : (run : Run) (n m : Progress) (t q nest : ℕ) → t < turns_of run → HasMail run n.rank n.turns n.asked n.mail n.taken t → n.asks ≡ all_asks run n.rank → q < run.ranks → nest ≡ nest_at run t →
    HaveDropped run n m t q → owes n.rank q nest n.asks ≡ false → HaveDropped run n m t (q + 1)
drops_none run n m t q nest below is asks there nest_is had free =
    let none = not_owed run t n.rank q nest n.asks nest_is asks there free in
    record {
      same = had.same;
      long = had.long;
      before = λ k k_below. elim (cases_eq k q) [
        | inl here ↦
            let P : ℕ → Type 0 = λ j. box_at m.mail j ≡ drop (used run n.rank (t + 1) j) (given_by run n.rank n.taken j) in
            subst P (sym here) (had.after q (omega arith) ∙ dropped_same run n t q below (is.early q) none)
        | inr away ↦ had.before k (omega arith)
      ];
      after = λ k past. had.after k (omega arith);
    }
