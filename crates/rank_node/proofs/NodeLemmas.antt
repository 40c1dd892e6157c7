-- A node that works, posts or takes is the rank that its scripts say.
use Rattle.std.proofs.Common.{slice_get, ◌≡◌, ℕ, ◌+◌, ◌<◌, ◌≤◌, true, ◌==◌, List, [], ◌∷◌, ◌++◌, Option, Some, None, length, length-append, map, take, drop, get_or, set, sum_by, refl, sym, ap, ◌∙◌, subst, inl, inr, arith}
use Rattle.std.proofs.lemmas.Option.{get_or_from_slice_get}
use Rattle.std.specs.List.{range_with_len, cons_option}
use Rattle.std.proofs.Math.Path.{fun_ext}
use Rattle.std.proofs.lemmas.Bool.{cases_eq, eq-eqb, ne_eqb, cond-true, cond-false}
use Rattle.std.proofs.lemmas.List.{get_or-set_same, get_or-set_other, length-map, length_push}
use Rattle.std.proofs.lemmas.List.Sums.{sum_by-append, sum_by-cons, sum_by_push, length-filter, count_by-le-length}
use Rattle.std.proofs.lemmas.List.FromFn.{length-range_with_len}
use Rattle.bern_base.specs.declared.limits.TheConstants.{MOST_SIDE}
use Rattle.bern_base.specs.declared.letter.Letter.{Letter}
use Rattle.job_model.specs.State.{read}
use Rattle.rank_scripts.specs.Acts.{Act, Work, Post, posts_to, at_work, at_post, receiver}
use Rattle.rank_scripts.specs.Ranks.{put}
use Rattle.rank_scripts.specs.Scripts.{book}
use Rattle.rank_scripts.specs.Nodes.{has_all, past_waits, settle, fresh, worked, posted, took, sent, NodeFit}
use Rattle.rank_scripts.specs.Nodes as scripted
use Rattle.rank_scripts.proofs.RankLemmas.{put_same}
use Rattle.rank_scripts.proofs.NodeLemmas.{worked_fit, posted_fit, took_fit, rest-at_post}
use Rattle.rank_scripts.proofs.BookLemmas.{sent-posted, sent-posted_other, sent-split, next-at_post}
use Rattle.rank_scripts.proofs.RoundLemmas.{book-turns, book-own}
use Rattle.rank_model.specs.Products.{IsRun, Run, answer, is_received, scripts, send, schedule}
use Rattle.turn_model.specs.Schedules.{request, rounds, some_values, values_in, values_letter}
use Rattle.rank_node.specs.declared.stage.Stage.{Stage}
use Rattle.rank_node.specs.declared.stage.Tally.{Tally}
use Rattle.rank_node.specs.Positions.{todo_of, passed_of, position_of, GoesTo}
use Rattle.rank_node.specs.Waits.{letters_from}
use Rattle.rank_node.specs.NodeStates.{IsTallied, IsFirstOfRest, IsNextToPost}

-- a rank at a stage
abbrev pub node_at : Run → ℕ → Stage → (ℕ → List Letter) → scripted.Node Letter
node_at run r stage given = record {
  passed = passed_of stage;
  todo = todo_of run r stage;
  given = given;
  rest = λ q. posts_to q (todo_of run r stage);
}

node_same : (p p' : ℕ) (t t' : List (Act Letter)) (g g' s s' : ℕ → List Letter) → p ≡ p' → t ≡ t' → g ≡ g' → s ≡ s' →
    let a : scripted.Node Letter = record { passed = p; todo = t; given = g; rest = s } in
    let b : scripted.Node Letter = record { passed = p'; todo = t'; given = g'; rest = s' } in
    a ≡ b
node_same p p' t t' g g' s s' e f h k = cc

-- what stops where the settled rank stops is that rank
pub settled_same : (run : Run) (r m : ℕ) (acts : List (Act Letter)) (given rest : ℕ → List Letter) (stage : Stage) →
    NodeFit (scripts run) r (settle (scripts run) r m acts given rest) →
    past_waits (has_all (scripts run) r given) m acts ≡ position_of run r stage →
    node_at run r stage given ≡ settle (scripts run) r m acts given rest
settled_same run r m acts given rest stage fit at =
    let todo : todo_of run r stage ≡ (past_waits (has_all (scripts run) r given) m acts).todo = sym (ap (λ (p : scripted.Position Letter). p.todo) at) in
    node_same _ _ _ _ _ _ _ _ (sym (ap (λ (p : scripted.Position Letter). p.passed) at)) todo refl
    (fun_ext (λ q. ap (posts_to q) todo ∙ sym (fit.rests q)))

-- a rank that works
pub worked_same : (run : Run) (r : ℕ) (stage next stop : Stage) (given : ℕ → List Letter) →
    NodeFit (scripts run) r (node_at run r stage given) → todo_of run r stage ≡ Work ∷ todo_of run r next → passed_of next ≡ passed_of stage →
    GoesTo run r given next stop → node_at run r stop given ≡ worked (scripts run) r (node_at run r stage given)
worked_same run r stage next stop given fit todo passed goes =
    let at : at_work (todo_of run r stage) ≡ true = ap at_work todo in
    settled_same run r (passed_of stage) (drop 1 (todo_of run r stage)) given _ stop (worked_fit (scripts run) r (node_at run r stage given) at fit)
    (ap (λ acts. past_waits (has_all (scripts run) r given) (passed_of stage) (drop 1 acts)) todo ∙ ap (λ m. past_waits (has_all (scripts run) r given) m (todo_of run r next)) (sym passed) ∙ goes.position)

-- a rank that posts
pub posted_same : (run : Run) (r : ℕ) (stage next stop : Stage) (given : ℕ → List Letter) (to : ℕ) (letter : Letter) →
    NodeFit (scripts run) r (node_at run r stage given) → todo_of run r stage ≡ Post to letter ∷ todo_of run r next → passed_of next ≡ passed_of stage →
    GoesTo run r given next stop → node_at run r stop given ≡ posted (scripts run) r (node_at run r stage given)
posted_same run r stage next stop given to letter fit todo passed goes =
    let at : at_post (todo_of run r stage) ≡ true = ap at_post todo in
    settled_same run r (passed_of stage) (drop 1 (todo_of run r stage)) given _ stop (posted_fit (scripts run) r (node_at run r stage given) at fit)
    (ap (λ acts. past_waits (has_all (scripts run) r given) (passed_of stage) (drop 1 acts)) todo ∙ ap (λ m. past_waits (has_all (scripts run) r given) m (todo_of run r next)) (sym passed) ∙ goes.position)

-- a rank that takes
pub took_same : (run : Run) (r : ℕ) (stage stop : Stage) (given : ℕ → List Letter) (from : ℕ) (letters : List Letter) →
    NodeFit (scripts run) r (node_at run r stage given) → GoesTo run r (put given from (given from ++ letters)) stage stop →
    node_at run r stop (put given from (given from ++ letters)) ≡ took (scripts run) r (node_at run r stage given) from letters
took_same run r stage stop given from letters fit goes =
    settled_same run r (passed_of stage) (todo_of run r stage) (put given from (given from ++ letters)) _ stop (took_fit (scripts run) r (node_at run r stage given) from letters fit) goes.position

-- the letters of one rank changed
pub letters_from-set : (given : List (List Letter)) (from : ℕ) (letters : List Letter) → from < length given →
    letters_from (set given from letters) ≡ put (letters_from given) from letters
letters_from-set given from letters within =
    fun_ext (λ q. elim (cases_eq q from) [
      | inl here ↦ ap (λ j. get_or (set given from letters) j []) here ∙ get_or-set_same given from letters [] within ∙ sym (cond-true (q == from) letters (get_or given q []) (eq-eqb q from here))
      | inr other ↦ get_or-set_other given from q letters [] other ∙ sym (cond-false (q == from) letters (get_or given q []) (ne_eqb q from other))
    ])

-- books are small
sum_values : (f : ℕ → ℕ) (ws : List ℕ) → sum_by values_in (cons_option (some_values 0 (map f ws)) []) ≤ length ws
sum_values f [] = omega arith
sum_values f (w ∷ ws) = let long = length-map ws f in omega arith

few_letters : (o : Option Letter) → length (cons_option o []) ≤ 1
few_letters None = omega arith
few_letters (Some letter) = omega arith

pub book_small : (run : Run) (r q : ℕ) → IsRun run → q < run.ranks → (length (book (scripts run) r q) ≤ 2) × (sum_by values_in (book (scripts run) r q) ≤ MOST_SIDE)
book_small run r q is below =
    elim (cases_eq r q) [
      | inl same ↦
          let P : ℕ → Type 0 = λ k. (length (book (scripts run) r k) ≤ 2) × (sum_by values_in (book (scripts run) r k) ≤ MOST_SIDE) in
          subst P same (rw (book-own run.ranks r (rounds (schedule run))) (omega arith, omega arith))
      | inr other ↦
          let long : length (send run r q) ≤ length run.place =
          let counted = length-filter (is_received run.place (answer run q) q r) (range_with_len 0 (length run.place)) in
          let most = count_by-le-length (is_received run.place (answer run q) q r) (range_with_len 0 (length run.place)) in
          let range = length-range_with_len 0 (length run.place) in
          omega arith in
          let extent = is.extent in
          let sum = sum_values (read run.first run.source) (send run r q) in
          let few = few_letters (values_letter (schedule run) 0 r q) in
          rw (book-turns run.ranks 1 (request (schedule run)) (values_letter (schedule run)) r q below other) (omega arith, omega arith)
    ]

-- the letter that a rank posts is the first of its rest
pub rest_first : (run : Run) (r to : ℕ) (node : scripted.Node Letter) (letter : Letter) (acts : List (Act Letter)) → NodeFit (scripts run) r node → node.todo ≡ Post to letter ∷ acts →
    node.rest (receiver node.todo) ≡ letter ∷ (posted (scripts run) r node).rest (receiver node.todo)
rest_first run r to node letter acts fit todo =
    let there : receiver node.todo ≡ to = ap receiver todo in
    let P : ℕ → Type 0 = λ k. node.rest k ≡ letter ∷ put node.rest k (drop 1 (node.rest k)) k in
    let rest = rest-at_post (scripts run) r node to letter acts todo fit in
    subst P (sym there) (rest ∙ ap (λ xs. letter ∷ xs) (ap (λ xs. drop 1 xs) (sym rest) ∙ sym (put_same node.rest to (drop 1 (node.rest to)))))

-- the counts of what was posted are small
pub sent_small : (run : Run) (r q : ℕ) (node : scripted.Node Letter) → NodeFit (scripts run) r node → IsRun run → q < run.ranks → (tally : Tally) →
    IsTallied (sent (scripts run) r node q) tally → (tally.letters + length (node.rest q) ≤ 2) × (tally.values + sum_by values_in (node.rest q) ≤ MOST_SIDE)
sent_small run r q node fit is below tally tallied =
    let small = book_small run r q is below in
    let whole = sent-split (scripts run) r node fit q in
    let lengths = sym (length-append (sent (scripts run) r node q) (node.rest q)) ∙ ap length whole in
    let sums = sym (sum_by-append values_in (sent (scripts run) r node q) (node.rest q)) ∙ ap (sum_by values_in) whole in
    let count = tallied.letters in
    let size = tallied.values in
    (omega arith, omega arith)

-- a letter that is to be posted now fits into the counts
pub post_small : (run : Run) (r to : ℕ) (node : scripted.Node Letter) (letter : Letter) (acts : List (Act Letter)) → NodeFit (scripts run) r node → node.todo ≡ Post to letter ∷ acts → IsRun run → to < run.ranks →
    (tally : Tally) → IsTallied (sent (scripts run) r node to) tally → (tally.letters + 1 ≤ 2) × (tally.values + values_in letter ≤ MOST_SIDE)
post_small run r to node letter acts fit todo is below tally tallied =
    let small = sent_small run r to node fit is below tally tallied in
    let rest = rest-at_post (scripts run) r node to letter acts todo fit in
    let first = sum_by-cons values_in letter (posts_to to acts) in
    let lengths = ap length rest in
    let sums = ap (sum_by values_in) rest in
    (omega arith, omega arith)

pub posted_tallied : (run : Run) (r to : ℕ) (node : scripted.Node Letter) (letter : Letter) (acts : List (Act Letter)) → NodeFit (scripts run) r node → node.todo ≡ Post to letter ∷ acts →
    (tallies new : List Tally) (tally : Tally) (values : ℕ) → length tallies ≡ run.ranks → to < run.ranks → values_in letter ≡ values →
    ((q : ℕ) (d : Tally) → q < run.ranks → IsTallied (sent (scripts run) r node q) (get_or tallies q d)) → slice_get tallies to ≡ Some tally →
    new ≡ set tallies to (record { letters = tally.letters + 1; values = tally.values + values }) →
    (q : ℕ) (d : Tally) → q < run.ranks → IsTallied (sent (scripts run) r (posted (scripts run) r node) q) (get_or new q d)
posted_tallied run r to node letter acts fit todo tallies new tally values long below size tallied at is q d there =
    let after : Tally = record { letters = tally.letters + 1; values = tally.values + values } in
    let receives : receiver node.todo ≡ to = ap receiver todo in
    elim (cases_eq q to) [
      | inl here ↦
          let read : get_or tallies to tally ≡ tally = get_or_from_slice_get tallies to tally tally at in
          let before : IsTallied (sent (scripts run) r node to) tally = subst (λ t. IsTallied (sent (scripts run) r node to) t) read (tallied to tally below) in
          let more : sent (scripts run) r (posted (scripts run) r node) to ≡ sent (scripts run) r node to ++ letter ∷ [] =
          (let P : ℕ → Type 0 = λ k. sent (scripts run) r (posted (scripts run) r node) k ≡ sent (scripts run) r node k ++ letter ∷ [] in
          subst P receives (sent-posted (scripts run) r node fit (ap at_post todo) letter (rest_first run r to node letter acts fit todo))) in
          let now : get_or new to d ≡ after = ap (λ xs. get_or xs to d) is ∙ get_or-set_same tallies to after d (rw long below) in
          let whole : IsTallied (sent (scripts run) r node to ++ letter ∷ []) after =
          record {
            letters = let pushed = length_push (sent (scripts run) r node to) letter in let count = before.letters in omega arith;
            values = let pushed = sum_by_push values_in (sent (scripts run) r node to) letter in let sum = before.values in omega arith;
          } in
          let Q : ℕ → Type 0 = λ k. IsTallied (sent (scripts run) r (posted (scripts run) r node) k) (get_or new k d) in
          subst Q (sym here) (rw (more, now) whole)
      | inr other ↦
          let same : sent (scripts run) r (posted (scripts run) r node) q ≡ sent (scripts run) r node q = sent-posted_other (scripts run) r node q (λ e. other (e ∙ receives)) in
          let kept : get_or new q d ≡ get_or tallies q d = ap (λ xs. get_or xs q d) is ∙ get_or-set_other tallies to q after d other in
          rw (same, kept) (tallied q d there)
    ]

-- the letter of a post
pub letter_fits : (run : Run) (r to : ℕ) (node : scripted.Node Letter) (letter : Letter) (acts : List (Act Letter)) → NodeFit (scripts run) r node → node.todo ≡ Post to letter ∷ acts →
    (IsFirstOfRest (scripts run) r node letter) × (IsNextToPost (scripts run) r node letter)
letter_fits run r to node letter acts fit todo =
    let rest = rest_first run r to node letter acts fit todo in
    (ap (λ xs. take 1 xs) rest, next-at_post (scripts run) r node fit (receiver node.todo) letter _ rest)
