-- How a rank goes on: by its works, its posts and its takes.
use Rattle.std.proofs.Common.{◌≡◌, ℕ, suc, ◌+◌, ◌^◌, ◌<◌, ◌≤◌, Bool, true, false, List, [], ◌∷◌, ◌++◌, Some, length, take, drop, get_or, set, slice_get, filter, replicate, sum_by, add-zero, refl, sym, ap, ◌∙◌, subst, inl, inr, arith}
use Rattle.std.proofs.Math.Path.{fun_ext}
use Rattle.std.proofs.Math.Seq.{drop-nil}
use Rattle.std.proofs.lemmas.Bool.{cases_eq, cases_lt, false≢true, leb-true}
use Rattle.std.proofs.lemmas.Option.{get_or_from_slice_get, slice_get_within}
use Rattle.std.proofs.lemmas.List.{length-set, length_push, length-replicate, get_or-replicate, get_or_past}
use Rattle.bern_base.specs.declared.letter.Letter.{Letter}
use Rattle.bern_base.specs.declared.letter.Letter.TheVariants as letter
use Rattle.bern_base.specs.declared.letter.NeedSet.{NeedSet}
use Rattle.bern_base.specs.declared.letter.Needs.{Needs}
use Rattle.rank_scripts.specs.Acts.{Work, at_work, at_post}
use Rattle.rank_scripts.specs.Ranks.{put}
use Rattle.rank_scripts.specs.Scripts.{book, named, IsNextOf}
use Rattle.rank_scripts.specs.Nodes.{has_all, HasAllBefore, worked, posted, took, sent, fresh, NodeFit}
use Rattle.rank_scripts.specs.Nodes as scripted
use Rattle.rank_scripts.proofs.RankLemmas.{all_below_at, put_same, put_other}
use Rattle.rank_scripts.proofs.NodeLemmas.{fresh_fit, worked_fit, posted_fit, took_fit, has_all-more}
use Rattle.rank_scripts.proofs.BookLemmas.{sent-fresh, drop-next}
use Rattle.rank_scripts.proofs.WaitLemmas.{given-letter}
use Rattle.turn_model.specs.Runs.{IsRun, Run, all_values, asked, asked_for, is_for, nest_at, schedule, scripts, some_due, turns_of}
use Rattle.turn_model.specs.Schedules.{request, rounds, some_values, values_in, values_letter}
use Rattle.turn_node.specs.declared.progress.Progress.{Progress}
use Rattle.turn_node.specs.declared.stage.Stage.{Stage}
use Rattle.turn_node.specs.declared.stage.Stage.TheVariants.{Inspect, Request, Values, Inner, AwaitValues, Outer}
use Rattle.turn_node.specs.declared.stage.Stage.TheVariants as stage
use Rattle.turn_node.specs.declared.stage.Tally.{Tally}
use Rattle.turn_node.specs.Asks.{elements_in, no_needs}
use Rattle.turn_node.specs.Drops.{HaveDropped}
use Rattle.turn_node.specs.Parts.{At, HaveArrived, MayApply, MaySend, all_asks, needs_from}
use Rattle.turn_node.specs.Positions.{Phase, Ready, Summed, begin, is_inspected, passed_of, phase_of, steps_left, todo_of, turn_of, GoesTo, IsComing, IsStage}
use Rattle.turn_node.specs.Progresses.{asked_at, box_at, given_by, given_of, node_of, taken_at, used, AreTallied, Goes, HasMail, HasMailAt, IsProgress, IsTallied, Keeps, Posts, Stays, Uses}
use Rattle.turn_node.proofs.PositionLemmas.{begins, budget_first, post_request, post_values}
use Rattle.turn_node.proofs.MailLemmas.{given_long, given_front, is_due, named_request, nest_is, turn_letter}
use Rattle.turn_node.proofs.NodeLemmas.{node_at, new_same, posted_same, post_small, posted_tallied, took_same, worked_same}
use Rattle.turn_node.proofs.KeptLemmas.{book_few, kept_mail, kept_rest, next_other, taken_more, used_given}

-- the waits that a rank has passed
pub passed_all : (run : Run) (n : Progress) → IsProgress run n → HasAllBefore (scripts run) n.rank (given_of run n) (passed_of run n.stage)
passed_all run n is = is.fit.past

-- a rank that has passed the wait for Requests knows what it is asked for
pub passed_first : (run : Run) (r : ℕ) (given : ℕ → List Letter) (m : ℕ) → HasAllBefore (scripts run) r given (suc m) → has_all (scripts run) r given 0 ≡ true
passed_first run r given m past = past 0 (omega arith)

-- after a work that leads to the next stage, and on to another
pub worked_goes : (run : Run) (n : Progress) (asks : List Needs) (mail : List (List Letter)) (next stop : Stage) (turn : ℕ) (phase : Phase) (cost : ℕ) → IsProgress run n →
    HasMail run n.rank n.turns n.asked mail n.taken turn → (is_inspected stop ≡ true → asks ≡ all_asks run n.rank) →
    todo_of run n.rank n.stage ≡ Work ∷ todo_of run n.rank next → passed_of run next ≡ passed_of run n.stage → turn_of run next ≡ turn → phase_of next ≡ phase →
    steps_left run n.rank next + cost ≡ steps_left run n.rank n.stage → GoesTo run n.rank (given_of run n) next stop →
    Goes run n (record n { asks = asks; mail = mail; stage = stop }) turn phase cost (worked (scripts run) n.rank (node_of run n))
worked_goes run n asks mail next stop turn phase cost is mailed asked todo passed turn_is phase_same steps goes =
    let same = worked_same run n.rank n.stage next stop (given_of run n) is.fit todo passed goes in
    let P : scripted.Node Letter → Type 0 = λ node. AreTallied run n.rank node n.sent in
    let Q : ℕ → Type 0 = λ t. HasMail run n.rank n.turns n.asked mail n.taken t in
    record {
      progress = record {
        mail = subst Q (sym (goes.turn ∙ turn_is)) mailed;
        asks = asked;
        sent_long = is.sent_long;
        tallied = subst P (sym same) is.tallied;
        stage = goes.stage;
        fit = subst (NodeFit (scripts run) n.rank) (sym same) (worked_fit (scripts run) n.rank (node_of run n) (ap at_work todo) is.fit);
      };
      rank = refl;
      moved = same;
      turn_is = goes.turn ∙ turn_is;
      phase_is = goes.phase ∙ phase_same;
      cost_is = ap (λ k. k + cost) goes.steps ∙ steps;
    }

-- the inspection
pub inspected_goes : (run : Run) (n : Progress) (asks : List Needs) (stop : Stage) → IsProgress run n → n.stage ≡ Inspect → asks ≡ all_asks run n.rank → GoesTo run n.rank (given_of run n) (Request 0) stop →
    Goes run n (record n { asks = asks; stage = stop }) 0 Ready (run.budget.inspect n.rank) (worked (scripts run) n.rank (node_of run n))
inspected_goes run n asks stop is at_it are goes =
    worked_goes run n asks n.mail (Request 0) stop 0 Ready (run.budget.inspect n.rank) is
    (subst (HasMailAt run n) (ap (turn_of run) at_it) is.mail) (λ e. are)
    (ap (todo_of run n.rank) at_it) (sym (ap (passed_of run) at_it)) refl refl
    (let left = ap (steps_left run n.rank) at_it in omega arith) goes

-- the inner points
pub summed_goes : (run : Run) (n : Progress) (turn : ℕ) (stop : Stage) → IsProgress run n → n.stage ≡ Inner turn → GoesTo run n.rank (given_of run n) (AwaitValues turn) stop →
    Goes run n (record n { stage = stop }) turn Summed (run.budget.inner turn n.rank) (worked (scripts run) n.rank (node_of run n))
summed_goes run n turn stop is at_it goes =
    let below : turn < turns_of run = subst (IsStage run n.rank) at_it is.stage in
    worked_goes run n n.asks n.mail (AwaitValues turn) stop turn Summed (run.budget.inner turn n.rank) is
    (subst (HasMailAt run n) (ap (turn_of run) at_it) is.mail) (λ e. is.asks (ap is_inspected at_it))
    (ap (todo_of run n.rank) at_it) (sym (ap (passed_of run) at_it)) refl refl
    (let left = ap (steps_left run n.rank) at_it in let first = budget_first run n.rank turn below in omega arith) goes

-- the outer points: the letters of the turn are used
pub dropped_uses : (run : Run) (n m : Progress) (t count : ℕ) → HasMailAt run n t → count ≡ run.ranks → HaveDropped run n m t count → Uses run n m t
dropped_uses run n m t count is counted had =
    let early : (q : ℕ) → box_at m.mail q ≡ drop (used run n.rank (t + 1) q) (given_by run n.rank n.taken q) =
    λ q. elim (cases_lt q count) [
      | inl below ↦ had.before q below
      | inr past ↦
          let none : given_by run n.rank n.taken q ≡ [] = ap (λ k. take k (book (scripts run) q n.rank)) (get_or_past n.taken q 0 (let long = is.taken_long in omega arith)) in
          get_or_past m.mail q [] (let long = had.long in let same = is.mail_long in omega arith) ∙ sym (ap (drop (used run n.rank (t + 1) q)) none ∙ drop-nil (used run n.rank (t + 1) q))
    ] in
    let P : Progress → Type 0 = λ k. HasMail run k.rank k.turns k.asked m.mail k.taken (t + 1) in
    record {
      same = had.same;
      mail = subst P (sym had.same) (record {
        run_is = is.run_is;
        rank = is.rank;
        turns_are = is.turns_are;
        asked_long = is.asked_long;
        mail_long = had.long ∙ is.mail_long;
        taken_long = is.taken_long;
        within = is.within;
        requests = is.requests;
        early = early;
      });
    }

pub applied_goes : (run : Run) (n m : Progress) (turn : ℕ) (stop : Stage) → IsProgress run n → n.stage ≡ Outer turn → Uses run n m turn → GoesTo run m.rank (given_of run m) (begin run (turn + 1)) stop →
    Goes run n (record m { stage = stop }) (turn + 1) Ready (run.budget.outer turn n.rank) (worked (scripts run) n.rank (node_of run n))
applied_goes run n m turn stop is at_it uses goes =
    let below : turn < turns_of run = subst (IsStage run n.rank) at_it is.stage in
    let first = begins run n.rank (turn + 1) (omega arith) in
    let P : Progress → Type 0 = λ k. Goes run n (record k { stage = stop }) (turn + 1) Ready (run.budget.outer turn n.rank) (worked (scripts run) n.rank (node_of run n)) in
    let Q : Progress → Type 0 = λ k. GoesTo run k.rank (given_of run k) (begin run (turn + 1)) stop in
    let R : Progress → Type 0 = λ k. HasMail run k.rank k.turns k.asked m.mail k.taken (turn + 1) in
    subst P (sym uses.same)
    (worked_goes run n n.asks m.mail (begin run (turn + 1)) stop (turn + 1) Ready (run.budget.outer turn n.rank) is
    (subst R uses.same uses.mail) (λ e. is.asks (ap is_inspected at_it))
    (ap (todo_of run n.rank) at_it ∙ ap (λ acts. Work ∷ acts) (sym first.todo)) (first.passed ∙ (let same : suc (turn + 1) ≡ suc (suc turn) = omega arith in same) ∙ sym (ap (passed_of run) at_it)) first.turn first.phase
    (let left = ap (steps_left run n.rank) at_it in let more = first.steps in omega arith) (subst Q uses.same goes))

-- a post
pub posted_goes : (run : Run) (n : Progress) (to values : ℕ) (next stop : Stage) (tally : Tally) (tallies : List Tally) → IsProgress run n → to < run.ranks → Posts run n.rank to n.stage next values →
    slice_get n.sent to ≡ Some tally → tallies ≡ set n.sent to (record { letters = tally.letters + 1; values = tally.values + values }) →
    GoesTo run n.rank (given_of run n) next stop → Stays run n (record n { sent = tallies; stage = stop }) (posted (scripts run) n.rank (node_of run n))
posted_goes run n to values next stop tally tallies is below p at_it new goes =
    let same = posted_same run n.rank n.stage next stop (given_of run n) to p.letter is.fit p.todo p.passed goes in
    let P : scripted.Node Letter → Type 0 = λ node. AreTallied run n.rank node tallies in
    record {
      progress = record {
        mail = subst (HasMailAt run n) (sym (goes.turn ∙ p.turn)) is.mail;
        asks = λ e. is.asks (sym (goes.inspected ∙ p.inspected) ∙ e);
        sent_long = ap length new ∙ length-set n.sent to _ ∙ is.sent_long;
        tallied = subst P (sym same) (posted_tallied run n.rank to (node_of run n) p.letter (todo_of run n.rank next) is.fit p.todo n.sent tallies tally values is.sent_long below p.size is.tallied at_it new);
        stage = goes.stage;
        fit = subst (NodeFit (scripts run) n.rank) (sym same) (posted_fit (scripts run) n.rank (node_of run n) (ap at_post p.todo) is.fit);
      };
      rank = refl;
      moved = same;
      turn_is = goes.turn ∙ p.turn;
      phase_is = goes.phase ∙ p.phase;
      cost_is = add-zero (steps_left run n.rank stop) ∙ goes.steps ∙ p.steps;
    }

-- the counts of a post fit
pub post_counts : (run : Run) (n : Progress) (to values : ℕ) (next : Stage) (tally : Tally) → IsProgress run n → to < run.ranks → Posts run n.rank to n.stage next values →
    slice_get n.sent to ≡ Some tally → (tally.letters + 1 ≤ length (book (scripts run) n.rank to)) × (tally.values + values < 2 ^ 64)
post_counts run n to values next tally is below p at_it =
    let P : Tally → Type 0 = λ t. IsTallied (sent (scripts run) n.rank (node_of run n) to) t in
    let tallied : IsTallied (sent (scripts run) n.rank (node_of run n) to) tally = subst P (get_or_from_slice_get n.sent to tally tally at_it) (is.tallied to tally below) in
    let small = post_small run n.rank to (node_of run n) p.letter (todo_of run n.rank next) tally is.fit p.todo tallied in
    let size = p.size in
    let most = is.mail.run_is.values n.rank to is.mail.rank below in
    (small.0, fits tally.values values (values_in p.letter) (sum_by values_in (book (scripts run) n.rank to)) (2 ^ 64) small.1 size most)
  where
    fits : (a b c total most : ℕ) → a + c ≤ total → c ≡ b → total < most → a + b < most
    fits a b c total most h e k = omega arith

-- a Request is a letter without values
pub posts_request : (run : Run) (n : Progress) (to : ℕ) → n.stage ≡ Request to → IsProgress run n → Posts run n.rank to n.stage (Request (to + 1)) 0
posts_request run n to at_it is =
    record {
      letter = request (schedule run) n.rank to;
      todo = post_request run n.rank to n.stage at_it is.stage;
      size = refl;
      coming = tt;
      passed = sym (ap (passed_of run) at_it);
      inspected = sym (ap is_inspected at_it);
      phase = sym (ap phase_of at_it);
      turn = sym (ap (turn_of run) at_it);
      steps = sym (ap (steps_left run n.rank) at_it);
    }

pub posts_values : (run : Run) (n : Progress) (turn to count : ℕ) → n.stage ≡ Values turn to → IsProgress run n → count ≡ sum_by elements_in (asked_for run (nest_at run turn) to n.rank) → Posts run n.rank to n.stage (Values turn (to + 1)) count
posts_values run n turn to count at_it is counted =
    let first = post_values run n.rank turn to n.stage at_it is.stage in
    record {
      letter = first.letter;
      todo = first.todo;
      size = (is_due run turn n.rank to first.letter first.is).size ∙ sym counted;
      coming = first.turns;
      passed = sym (ap (passed_of run) at_it);
      inspected = sym (ap is_inspected at_it);
      phase = sym (ap phase_of at_it);
      turn = sym (ap (turn_of run) at_it);
      steps = sym (ap (steps_left run n.rank) at_it);
    }

-- a take
pub took_goes : (run : Run) (n : Progress) (asked : List Needs) (mail : List (List Letter)) (from : ℕ) (letter : Letter) (stop : Stage) → IsProgress run n → from < run.ranks →
    IsNextOf (book (scripts run) from n.rank) (given_of run n from) letter → HasMail run n.rank n.turns asked mail (set n.taken from (taken_at n.taken from + 1)) (turn_of run n.stage) →
    GoesTo run n.rank (given_by run n.rank (set n.taken from (taken_at n.taken from + 1))) n.stage stop →
    Stays run n (record n { asked = asked; mail = mail; taken = set n.taken from (taken_at n.taken from + 1); stage = stop }) (took (scripts run) n.rank (node_of run n) from (letter ∷ []))
took_goes run n asked mail from letter stop is below next mailed goes =
    let more = taken_more run n.rank n.taken from letter (rw is.mail.taken_long below) (is.mail.within from) next in
    let P : (ℕ → List Letter) → Type 0 = λ given. GoesTo run n.rank given n.stage stop in
    let same = ap (node_at run n.rank stop) more ∙ took_same run n.rank n.stage stop (given_of run n) from (letter ∷ []) is.fit (subst P more goes) in
    let Q : scripted.Node Letter → Type 0 = λ node. AreTallied run n.rank node n.sent in
    let R : ℕ → Type 0 = λ t. HasMail run n.rank n.turns asked mail (set n.taken from (taken_at n.taken from + 1)) t in
    record {
      progress = record {
        mail = subst R (sym goes.turn) mailed;
        asks = λ e. is.asks (sym goes.inspected ∙ e);
        sent_long = is.sent_long;
        tallied = subst Q (sym same) is.tallied;
        stage = goes.stage;
        fit = subst (NodeFit (scripts run) n.rank) (sym same) (took_fit (scripts run) n.rank (node_of run n) from (letter ∷ []) is.fit);
      };
      rank = refl;
      moved = same;
      turn_is = goes.turn;
      phase_is = goes.phase;
      cost_is = add-zero (steps_left run n.rank stop) ∙ goes.steps;
    }

-- with one more letter a rank has still passed what it has passed
pub past_more : (run : Run) (n : Progress) (from : ℕ) (letter : Letter) → IsProgress run n → from < run.ranks → IsNextOf (book (scripts run) from n.rank) (given_of run n from) letter →
    HasAllBefore (scripts run) n.rank (given_by run n.rank (set n.taken from (taken_at n.taken from + 1))) (passed_of run n.stage)
past_more run n from letter is below next k k_below =
    let more = taken_more run n.rank n.taken from letter (rw is.mail.taken_long below) (is.mail.within from) next in
    let P : (ℕ → List Letter) → Type 0 = λ given. has_all (scripts run) n.rank given k ≡ true in
    subst P (sym more)
    (has_all-more (scripts run) n.rank (given_of run n) (put (given_of run n) from (given_of run n from ++ letter ∷ [])) k longer (is.fit.past k k_below))
  where
    longer : (q : ℕ) → length (given_of run n q) ≤ length (put (given_of run n) from (given_of run n from ++ letter ∷ []) q)
    longer q =
        elim (cases_eq q from) [
          | inl here ↦
              let P : ℕ → Type 0 = λ j. length (given_of run n j) ≤ length (put (given_of run n) from (given_of run n from ++ letter ∷ []) j) in
              subst P (sym here) (rw (put_same (given_of run n) from (given_of run n from ++ letter ∷ [])) (let long = length_push (given_of run n from) letter in omega arith))
          | inr other ↦ rw (put_other (given_of run n) from (given_of run n from ++ letter ∷ []) q other) (omega arith)
        ]

-- a rank that has passed the wait for Requests has the Request of each other one
pub has_request : (run : Run) (n : Progress) (to : ℕ) → (to ≡ n.rank → ⊥) → to < run.ranks → (t : ℕ) → HasMailAt run n t → has_all (scripts run) n.rank (given_of run n) 0 ≡ true → 0 < taken_at n.taken to
has_request run n to other there t mail all =
    let known : named (scripts run) n.rank 0 to ≤ length (given_of run n to) = leb-true _ _ (all_below_at run.ranks _ all to there) in
    let one = named_request run n.rank to mail.rank other in
    let long = given_long run n.rank n.taken to (mail.within to) in
    omega arith

-- what a node is asked for, where it posts values
pub asked_there : (run : Run) (n : Progress) (turn to : ℕ) → n.stage ≡ Values turn to → IsProgress run n → asked_at n.asked to ≡ needs_from run to n.rank
asked_there run n turn to at_it is =
    let first = post_values run n.rank turn to n.stage at_it is.stage in
    let other = (is_due run turn n.rank to first.letter first.is).other in
    let passed : passed_of run n.stage ≡ suc turn = ap (passed_of run) at_it in
    let all = is.fit.past 0 (omega arith) in
    is.mail.requests to (has_request run n to (λ e. other (sym e)) first.there (turn_of run n.stage) is.mail all)

-- a rank that goes on after its outer points has the letters that they read
pub arrived : (run : Run) (n : Progress) (turn : ℕ) → n.stage ≡ Outer turn → IsProgress run n → HaveArrived (record { run = run; rank = n.rank; turn = turn }) n.mail
arrived run n turn at_it is q letter there due =
    let below : turn < turns_of run = subst (IsStage run n.rank) at_it is.stage in
    let passed : passed_of run n.stage ≡ suc (suc turn) = ap (passed_of run) at_it in
    let all = is.fit.past (suc turn) (omega arith) in
    let at_used : slice_get (given_of run n q) (used run n.rank turn q) ≡ Some letter =
    given-letter run.ranks (rounds (schedule run)) n.rank (given_of run n) (suc turn) q letter is.mail.rank there all (given_front run n.rank n.taken q (is.mail.within q)) (turn_letter run turn q n.rank below ∙ due) in
    let early : box_at n.mail q ≡ drop (used run n.rank turn q) (given_of run n q) = subst (λ t. box_at n.mail q ≡ drop (used run n.rank t q) (given_of run n q)) (ap (turn_of run) at_it) (is.mail.early q) in
    ap (λ (xs : List Letter). slice_get xs 0) (early ∙ drop-next (given_of run n q) (used run n.rank turn q) letter at_used)

-- a new rank
pub new_is : (run : Run) (n : Progress) → IsRun run → n.rank < run.ranks → n.turns ≡ run.turns → n.asked ≡ replicate run.ranks no_needs → n.mail ≡ replicate run.ranks [] → n.taken ≡ replicate run.ranks 0 →
    n.sent ≡ replicate run.ranks (record { letters = 0; values = 0 }) → n.stage ≡ Inspect → (IsProgress run n) × (node_of run n ≡ fresh (scripts run) n.rank)
new_is run n run_is rank turns asked mail taken tallies at_it =
    let none : given_of run n ≡ (λ q. []) = fun_ext (λ q. ap (λ k. take k (book (scripts run) q n.rank)) (none_taken q)) in
    let same : node_of run n ≡ fresh (scripts run) n.rank = ap (λ s. node_at run n.rank s (given_of run n)) at_it ∙ new_same run n.rank (given_of run n) none in
    let P : scripted.Node Letter → Type 0 = λ node. AreTallied run n.rank node n.sent in (
      record {
        mail = subst (HasMailAt run n) (sym (ap (turn_of run) at_it)) (record {
          run_is = run_is;
          rank = rank;
          turns_are = turns;
          asked_long = ap length asked ∙ length-replicate run.ranks no_needs;
          mail_long = ap length mail ∙ length-replicate run.ranks no_letters;
          taken_long = ap length taken ∙ length-replicate run.ranks no_count;
          within = λ q. rw (none_taken q) (omega arith);
          requests = λ q some. absurd (let zero_is = none_taken q in omega arith);
          early = λ q. no_box q ∙ sym (ap (λ (f : ℕ → List Letter). drop (used run n.rank 0 q) (f q)) none ∙ drop-nil (used run n.rank 0 q));
        });
        asks = λ e. absurd (false≢true (sym (ap is_inspected at_it) ∙ e));
        sent_long = ap length tallies ∙ length-replicate run.ranks no_tally;
        tallied = subst P (sym same) (λ q d below.
            let here : get_or n.sent q d ≡ no_tally = ap (λ xs. get_or xs q d) tallies ∙ get_or-replicate run.ranks q no_tally d below in
            rw (sent-fresh (scripts run) n.rank q, here) (record { letters = refl; values = refl }));
        stage = subst (IsStage run n.rank) (sym at_it) tt;
        fit = subst (NodeFit (scripts run) n.rank) (sym same) (fresh_fit (scripts run) n.rank);
      },
      same,
    )
  where
    no_letters : List Letter
    no_letters = []

    no_tally : Tally
    no_tally = record { letters = 0; values = 0 }

    no_count : ℕ
    no_count = 0

    none_taken : (q : ℕ) → taken_at n.taken q ≡ 0
    none_taken q =
        ap (λ xs. get_or xs q 0) taken ∙ elim (cases_lt q run.ranks) [
          | inl within ↦ get_or-replicate run.ranks q 0 0 within
          | inr past ↦ get_or_past (replicate run.ranks 0) q 0 (rw (length-replicate run.ranks no_count) past)
        ]

    no_box : (q : ℕ) → box_at n.mail q ≡ []
    no_box q =
        ap (λ (xs : List (List Letter)). box_at xs q) mail ∙ elim (cases_lt q run.ranks) [
          | inl within ↦ get_or-replicate run.ranks q no_letters [] within
          | inr past ↦ get_or_past (replicate run.ranks no_letters) q [] (rw (length-replicate run.ranks no_letters) past)
        ]

-- a rank that stands at a stage comes to it
pub coming : (run : Run) (r : ℕ) (here : Stage) → IsStage run r here → IsComing run here
coming run r stage.Inspect is = tt
coming run r (stage.Request to) is = tt
coming run r stage.AwaitRequests is = tt
coming run r (stage.Values turn to) is = is.turns
coming run r (stage.Inner turn) is = is
coming run r (stage.AwaitValues turn) is = is
coming run r (stage.Outer turn) is = is
coming run r stage.Done is = tt

-- what a rank is asked for, as its code reads it
pub asked_reads : (run : Run) (n : Progress) (t nest to : ℕ) (needs : Needs) (sets : List NeedSet) → HasMailAt run n t → has_all (scripts run) n.rank (given_of run n) 0 ≡ true → to < run.ranks → (to ≡ n.rank → ⊥) →
    slice_get n.asked to ≡ Some needs → sets ≡ needs.sets → nest ≡ nest_at run t → some_due nest sets ≡ some_due (nest_at run t) (asked run to n.rank)
asked_reads run n t nest to needs sets is all below other at_it reads nest_is =
    let asks : asked_at n.asked to ≡ needs_from run to n.rank = is.requests to (has_request run n to other below t is all) in
    let read : asked_at n.asked to ≡ needs = get_or_from_slice_get n.asked to needs no_needs at_it in
    ap (some_due nest) (reads ∙ ap (λ (k : Needs). k.sets) (sym read ∙ asks)) ∙ ap (λ k. some_due k (asked run to n.rank)) nest_is

-- a letter that is taken, by what the code keeps and counts
pub taken_is : (n m : Progress) (from count : ℕ) (taken : List ℕ) → m ≡ record n { asked = m.asked; mail = m.mail } → slice_get m.taken from ≡ Some count → taken ≡ set m.taken from (count + 1) →
    taken ≡ set n.taken from (taken_at n.taken from + 1)
taken_is n m from count taken rest at_it is =
    let same : m.taken ≡ n.taken = ap (λ (k : Progress). k.taken) rest in
    let counted : count ≡ taken_at n.taken from = sym (get_or_from_slice_get n.taken from count 0 (ap (λ xs. slice_get xs from) (sym same) ∙ at_it)) in
    is ∙ ap (λ xs. set xs from (count + 1)) same ∙ ap (λ k. set n.taken from (k + 1)) counted

pub taken_mail : (run : Run) (n m : Progress) (from : ℕ) (letter : Letter) → IsProgress run n → from < run.ranks → IsNextOf (book (scripts run) from n.rank) (given_of run n from) letter → Keeps n m from letter →
    HasMail run n.rank n.turns m.asked m.mail (set n.taken from (taken_at n.taken from + 1)) (turn_of run n.stage)
taken_mail run n m from letter is below next keeps =
    let other = next_other run from n.rank (given_of run n from) letter next in
    let long = given_long run n.rank n.taken from (is.mail.within from) in
    kept_mail run n m (turn_of run n.stage) from letter is.mail below
    (λ some. used_given run n.rank from n.stage (given_of run n) is.mail.rank below other is.fit.past (omega arith)) next keeps

pub taken_few : (run : Run) (n m : Progress) (from count : ℕ) (letter : Letter) → IsProgress run n → from < run.ranks → IsNextOf (book (scripts run) from n.rank) (given_of run n from) letter → Keeps n m from letter →
    slice_get m.taken from ≡ Some count → count ≤ 10000
taken_few run n m from count letter is below next keeps at_it =
    let same : m.taken ≡ n.taken = ap (λ (k : Progress). k.taken) (kept_rest n m from letter keeps) in
    let counted : taken_at n.taken from ≡ count = get_or_from_slice_get n.taken from count 0 (ap (λ xs. slice_get xs from) (sym same) ∙ at_it) in
    let long = given_long run n.rank n.taken from (is.mail.within from) in
    let inside = slice_get_within (book (scripts run) from n.rank) (length (given_of run n from)) letter next in
    let few = book_few run from n.rank is.mail.rank in
    let turns = is.mail.run_is.turns in
    omega arith

abbrev pub Settles : Run → Progress → List ℕ → Type 0
Settles run m taken =
    HasMail run m.rank m.turns m.asked m.mail taken (turn_of run m.stage) × ((is_inspected m.stage ≡ true → m.asks ≡ all_asks run m.rank) ×
    (IsComing run m.stage × HasAllBefore (scripts run) m.rank (given_by run m.rank taken) (passed_of run m.stage)))

pub taken_settles : (run : Run) (n m : Progress) (from count : ℕ) (letter : Letter) (taken : List ℕ) → IsProgress run n → from < run.ranks → IsNextOf (book (scripts run) from n.rank) (given_of run n from) letter → Keeps n m from letter →
    slice_get m.taken from ≡ Some count → taken ≡ set m.taken from (count + 1) → Settles run m taken
taken_settles run n m from count letter taken is below next keeps at_it new =
    let rest = kept_rest n m from letter keeps in
    let more = taken_is n m from count taken rest at_it new in
    let P : Progress → Type 0 = λ k. Settles run k taken in
    let Q : List ℕ → Type 0 = λ xs. HasMail run n.rank n.turns m.asked m.mail xs (turn_of run n.stage) in
    let R : List ℕ → Type 0 = λ xs. HasAllBefore (scripts run) n.rank (given_by run n.rank xs) (passed_of run n.stage) in
    subst P (sym rest) (subst Q (sym more) (taken_mail run n m from letter is below next keeps), (is.asks, (coming run n.rank n.stage is.stage, subst R (sym more) (past_more run n from letter is below next))))

pub taken_goes : (run : Run) (n m : Progress) (from count : ℕ) (letter : Letter) (taken : List ℕ) (stop : Stage) → IsProgress run n → from < run.ranks → IsNextOf (book (scripts run) from n.rank) (given_of run n from) letter → Keeps n m from letter →
    slice_get m.taken from ≡ Some count → taken ≡ set m.taken from (count + 1) → GoesTo run m.rank (given_by run m.rank taken) m.stage stop →
    Stays run n (record m { taken = taken; stage = stop }) (took (scripts run) n.rank (node_of run n) from (letter ∷ []))
taken_goes run n m from count letter taken stop is below next keeps at_it new goes =
    let rest = kept_rest n m from letter keeps in
    let more = taken_is n m from count taken rest at_it new in
    let P : Progress → Type 0 = λ k. GoesTo run k.rank (given_by run k.rank taken) k.stage stop in
    let Q : Progress → Type 0 = λ k. Stays run n (record k { taken = taken; stage = stop }) (took (scripts run) n.rank (node_of run n) from (letter ∷ [])) in
    let R : List ℕ → Type 0 = λ xs. GoesTo run n.rank (given_by run n.rank xs) n.stage stop in
    let S : List ℕ → Type 0 = λ xs. Stays run n (record n { asked = m.asked; mail = m.mail; taken = xs; stage = stop }) (took (scripts run) n.rank (node_of run n) from (letter ∷ [])) in
    subst Q (sym rest) (subst S (sym more)
    (took_goes run n m.asked m.mail from letter stop is below next (taken_mail run n m from letter is below next keeps) (subst R more (subst P rest goes))))

-- a rank before a turn
abbrev pub before : Run → Progress → ℕ → At
before run n t = record { run = run; rank = n.rank; turn = t }

turns_nest : (run : Run) (n : Progress) (turn nest : ℕ) → IsProgress run n → slice_get n.turns turn ≡ Some nest → slice_get run.turns turn ≡ Some nest
turns_nest run n turn nest is at_it = ap (λ ts. slice_get ts turn) (sym is.mail.turns_are) ∙ at_it

-- a rank that posts values may send them
pub may_send : (run : Run) (n : Progress) (turn to nest : ℕ) (needs : Needs) → n.stage ≡ Values turn to → IsProgress run n → slice_get n.turns turn ≡ Some nest → slice_get n.asked to ≡ Some needs →
    MaySend (before run n turn) nest needs
may_send run n turn to nest needs at_it is nest_at_it read =
    let first = post_values run n.rank turn to n.stage at_it is.stage in
    let other = (is_due run turn n.rank to first.letter first.is).other in
    record {
      nest_is = turns_nest run n turn nest is nest_at_it;
      asker = to;
      there = first.there;
      other = λ e. other (sym e);
      asks = sym (get_or_from_slice_get n.asked to needs no_needs read) ∙ asked_there run n turn to at_it is;
    }

some_values_is : (t : ℕ) (xs : List ℕ) (due : Letter) → some_values t xs ≡ Some due → some_values t xs ≡ Some (letter.Values t xs)
some_values_is t [] due is = absurd (cc)
some_values_is t (x ∷ xs) due is = refl

pub sends : (run : Run) (n : Progress) (turn to nest : ℕ) (needs : Needs) (values : List ℕ) → n.stage ≡ Values turn to → IsProgress run n → slice_get n.turns turn ≡ Some nest → slice_get n.asked to ≡ Some needs →
    values ≡ all_values (run.state turn) (filter (is_for nest) needs.sets) → values_letter (schedule run) turn n.rank to ≡ Some (letter.Values turn values)
sends run n turn to nest needs values at_it is nest_at_it read values_are =
    let first = post_values run n.rank turn to n.stage at_it is.stage in
    let due = is_due run turn n.rank to first.letter first.is in
    let nest_same : nest ≡ nest_at run turn = nest_is run n.turns turn nest is.mail.turns_are nest_at_it in
    let asks : needs ≡ needs_from run to n.rank = sym (get_or_from_slice_get n.asked to needs no_needs read) ∙ asked_there run n turn to at_it is in
    let same : values ≡ all_values (run.state turn) (asked_for run (nest_at run turn) to n.rank) =
    values_are ∙ ap (λ (k : Needs). all_values (run.state turn) (filter (is_for nest) k.sets)) asks ∙ ap (λ k. all_values (run.state turn) (asked_for run k to n.rank)) nest_same in
    some_values_is turn (all_values (run.state turn) (asked_for run (nest_at run turn) to n.rank)) first.letter due.letter_is ∙ ap (λ xs. Some (letter.Values turn xs)) (sym same)

-- how many elements a rank is asked for, as its code counts them
pub elements_are : (run : Run) (n : Progress) (turn to nest : ℕ) (needs : Needs) (sets : List NeedSet) → n.stage ≡ Values turn to → IsProgress run n → slice_get n.turns turn ≡ Some nest → slice_get n.asked to ≡ Some needs → sets ≡ needs.sets →
    sum_by elements_in (filter (is_for nest) sets) ≡ sum_by elements_in (asked_for run (nest_at run turn) to n.rank)
elements_are run n turn to nest needs sets at_it is nest_at_it read reads =
    let nest_same : nest ≡ nest_at run turn = nest_is run n.turns turn nest is.mail.turns_are nest_at_it in
    let asks : needs ≡ needs_from run to n.rank = sym (get_or_from_slice_get n.asked to needs no_needs read) ∙ asked_there run n turn to at_it is in
    ap (λ xs. sum_by elements_in (filter (is_for nest) xs)) (reads ∙ ap (λ (k : Needs). k.sets) asks) ∙ ap (λ k. sum_by elements_in (asked_for run k to n.rank)) nest_same

-- and that they are few
pub elements_few : (run : Run) (n : Progress) (turn to : ℕ) → n.stage ≡ Values turn to → IsProgress run n → sum_by elements_in (asked_for run (nest_at run turn) to n.rank) < 2 ^ 64
elements_few run n turn to at_it is =
    let first = post_values run n.rank turn to n.stage at_it is.stage in
    let size = (is_due run turn n.rank to first.letter first.is).size in
    let small = post_small run n.rank to (node_of run n) first.letter (todo_of run n.rank (Values turn (to + 1))) _ is.fit first.todo (is.tallied to (record { letters = 0; values = 0 }) first.there) in
    let most = is.mail.run_is.values n.rank to is.mail.rank first.there in
    fits (get_or n.sent to (record { letters = 0; values = 0 })).values (values_in first.letter) _ (sum_by values_in (book (scripts run) n.rank to)) (2 ^ 64) small.1 size most
  where
    fits : (a c b total most : ℕ) → a + c ≤ total → c ≡ b → total < most → b < most
    fits a c b total most h e k = omega arith

-- a rank that goes on to its outer points may apply
pub may_apply : (run : Run) (n : Progress) (turn nest : ℕ) → n.stage ≡ Outer turn → IsProgress run n → slice_get n.turns turn ≡ Some nest → MayApply (before run n turn) nest n.asks n.mail
may_apply run n turn nest at_it is nest_at_it = record {
  nest_is = turns_nest run n turn nest is nest_at_it;
  asks_are = is.asks (ap is_inspected at_it);
  arrived = arrived run n turn at_it is;
}
