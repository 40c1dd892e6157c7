-- A rank that works, posts or takes is the one that its scripts say.
use Rattle.std.proofs.Common.{slice_get, ◌≡◌, ℕ, ◌+◌, ◌<◌, ◌≤◌, true, List, [], ◌∷◌, ◌++◌, Some, length, length-append, take, drop, get_or, set, sum_by, refl, sym, ap, ◌∙◌, subst, inl, inr, arith}
use Rattle.std.proofs.Math.Path.{fun_ext}
use Rattle.std.proofs.lemmas.Option.{get_or_from_slice_get}
use Rattle.std.proofs.lemmas.Bool.{cases_eq}
use Rattle.std.proofs.lemmas.List.{get_or-set_same, get_or-set_other, length_push}
use Rattle.std.proofs.lemmas.List.Sums.{sum_by-append, sum_by-cons, sum_by_push}
use Rattle.bern_base.specs.declared.letter.Letter.{Letter}
use Rattle.rank_scripts.specs.Acts.{Act, Work, Post, posts_to, at_work, at_post, receiver}
use Rattle.rank_scripts.specs.Ranks.{put}
use Rattle.rank_scripts.specs.Scripts.{book}
use Rattle.rank_scripts.specs.Nodes.{has_all, past_waits, settle, fresh, worked, posted, took, sent, NodeFit}
use Rattle.rank_scripts.specs.Nodes as scripted
use Rattle.rank_scripts.proofs.RankLemmas.{put_same}
use Rattle.rank_scripts.proofs.NodeLemmas.{fresh_fit, worked_fit, posted_fit, took_fit, rest-at_post}
use Rattle.rank_scripts.proofs.BookLemmas.{sent-posted, sent-posted_other, sent-split, next-at_post}
use Rattle.turn_model.specs.Runs.{Run, scripts}
use Rattle.turn_model.specs.Schedules.{values_in}
use Rattle.turn_node.specs.declared.stage.Stage.{Stage}
use Rattle.turn_node.specs.declared.stage.Stage.TheVariants.{Inspect}
use Rattle.turn_node.specs.declared.stage.Tally.{Tally}
use Rattle.turn_node.specs.Positions.{todo_of, passed_of, position_of, GoesTo}
use Rattle.turn_node.specs.Progresses.{IsTallied, IsFirstOfRest, IsNextToPost}
use Rattle.turn_node.proofs.PositionLemmas.{script_is}

-- a rank at a stage
abbrev pub node_at : Run → ℕ → Stage → (ℕ → List Letter) → scripted.Node Letter
node_at run r stage given = record {
  passed = passed_of run stage;
  todo = todo_of run r stage;
  given = given;
  rest = λ q. posts_to q (todo_of run r stage);
}

node_same : (p p' : ℕ) (t t' : List (Act Letter)) (g g' s s' : ℕ → List Letter) → p ≡ p' → t ≡ t' → g ≡ g' → s ≡ s' →
    let a : scripted.Node Letter = record { passed = p; todo = t; given = g; rest = s } in
    let b : scripted.Node Letter = record { passed = p'; todo = t'; given = g'; rest = s' } in
    a ≡ b
node_same p p' t t' g g' s s' e f h k = cc

-- what stops where the settled rank stops is that rank
pub settled_same : (run : Run) (r m : ℕ) (acts : List (Act Letter)) (given rest : ℕ → List Letter) (stage : Stage) →
    NodeFit (scripts run) r (settle (scripts run) r m acts given rest) →
    past_waits (has_all (scripts run) r given) m acts ≡ position_of run r stage →
    node_at run r stage given ≡ settle (scripts run) r m acts given rest
settled_same run r m acts given rest stage fit at =
    let todo : todo_of run r stage ≡ (past_waits (has_all (scripts run) r given) m acts).todo = sym (ap (λ (p : scripted.Position Letter). p.todo) at) in
    node_same _ _ _ _ _ _ _ _ (sym (ap (λ (p : scripted.Position Letter). p.passed) at)) todo refl
    (fun_ext (λ q. ap (posts_to q) todo ∙ sym (fit.rests q)))

-- a rank that works
pub worked_same : (run : Run) (r : ℕ) (stage next stop : Stage) (given : ℕ → List Letter) →
    NodeFit (scripts run) r (node_at run r stage given) → todo_of run r stage ≡ Work ∷ todo_of run r next → passed_of run next ≡ passed_of run stage →
    GoesTo run r given next stop → node_at run r stop given ≡ worked (scripts run) r (node_at run r stage given)
worked_same run r stage next stop given fit todo passed goes =
    let at : at_work (todo_of run r stage) ≡ true = ap at_work todo in
    settled_same run r (passed_of run stage) (drop 1 (todo_of run r stage)) given _ stop (worked_fit (scripts run) r (node_at run r stage given) at fit)
    (ap (λ acts. past_waits (has_all (scripts run) r given) (passed_of run stage) (drop 1 acts)) todo ∙ ap (λ m. past_waits (has_all (scripts run) r given) m (todo_of run r next)) (sym passed) ∙ goes.position)

-- a rank that posts
pub posted_same : (run : Run) (r : ℕ) (stage next stop : Stage) (given : ℕ → List Letter) (to : ℕ) (letter : Letter) →
    NodeFit (scripts run) r (node_at run r stage given) → todo_of run r stage ≡ Post to letter ∷ todo_of run r next → passed_of run next ≡ passed_of run stage →
    GoesTo run r given next stop → node_at run r stop given ≡ posted (scripts run) r (node_at run r stage given)
posted_same run r stage next stop given to letter fit todo passed goes =
    let at : at_post (todo_of run r stage) ≡ true = ap at_post todo in
    settled_same run r (passed_of run stage) (drop 1 (todo_of run r stage)) given _ stop (posted_fit (scripts run) r (node_at run r stage given) at fit)
    (ap (λ acts. past_waits (has_all (scripts run) r given) (passed_of run stage) (drop 1 acts)) todo ∙ ap (λ m. past_waits (has_all (scripts run) r given) m (todo_of run r next)) (sym passed) ∙ goes.position)

-- a rank that takes
pub took_same : (run : Run) (r : ℕ) (stage stop : Stage) (given : ℕ → List Letter) (from : ℕ) (letters : List Letter) →
    NodeFit (scripts run) r (node_at run r stage given) → GoesTo run r (put given from (given from ++ letters)) stage stop →
    node_at run r stop (put given from (given from ++ letters)) ≡ took (scripts run) r (node_at run r stage given) from letters
took_same run r stage stop given from letters fit goes =
    settled_same run r (passed_of run stage) (todo_of run r stage) (put given from (given from ++ letters)) _ stop (took_fit (scripts run) r (node_at run r stage given) from letters fit) goes.position

-- a new rank
pub new_same : (run : Run) (r : ℕ) (given : ℕ → List Letter) → given ≡ (λ q. []) → node_at run r Inspect given ≡ fresh (scripts run) r
new_same run r given none =
    ap (node_at run r Inspect) none ∙
    settled_same run r 0 ((scripts run).script r) (λ q. []) (λ q. book (scripts run) r q) Inspect (fresh_fit (scripts run) r)
    (ap start (script_is run r))
  where
    start : List (Act Letter) → scripted.Position Letter
    start acts = record { passed = 0; todo = Work ∷ acts }

-- the letter that a rank posts is the first of its rest
pub rest_first : (run : Run) (r to : ℕ) (node : scripted.Node Letter) (letter : Letter) (acts : List (Act Letter)) → NodeFit (scripts run) r node → node.todo ≡ Post to letter ∷ acts →
    node.rest (receiver node.todo) ≡ letter ∷ (posted (scripts run) r node).rest (receiver node.todo)
rest_first run r to node letter acts fit todo =
    let there : receiver node.todo ≡ to = ap receiver todo in
    let P : ℕ → Type 0 = λ k. node.rest k ≡ letter ∷ put node.rest k (drop 1 (node.rest k)) k in
    let rest = rest-at_post (scripts run) r node to letter acts todo fit in
    subst P (sym there) (rest ∙ ap (λ xs. letter ∷ xs) (ap (λ xs. drop 1 xs) (sym rest) ∙ sym (put_same node.rest to (drop 1 (node.rest to)))))

-- a letter that is to be posted now fits into the counts of its book
pub post_small : (run : Run) (r to : ℕ) (node : scripted.Node Letter) (letter : Letter) (acts : List (Act Letter)) (tally : Tally) → NodeFit (scripts run) r node → node.todo ≡ Post to letter ∷ acts →
    IsTallied (sent (scripts run) r node to) tally →
    (tally.letters + 1 ≤ length (book (scripts run) r to)) × (tally.values + values_in letter ≤ sum_by values_in (book (scripts run) r to))
post_small run r to node letter acts tally fit todo tallied =
    let whole = sent-split (scripts run) r node fit to in
    let rest = rest-at_post (scripts run) r node to letter acts todo fit in
    let lengths = sym (length-append (sent (scripts run) r node to) (node.rest to)) ∙ ap length whole in
    let sums = sym (sum_by-append values_in (sent (scripts run) r node to) (node.rest to)) ∙ ap (sum_by values_in) whole in
    let long = ap length rest in
    let first = ap (sum_by values_in) rest ∙ sum_by-cons values_in letter (posts_to to acts) in
    let count = tallied.letters in
    let size = tallied.values in
    (omega arith, omega arith)

pub posted_tallied : (run : Run) (r to : ℕ) (node : scripted.Node Letter) (letter : Letter) (acts : List (Act Letter)) → NodeFit (scripts run) r node → node.todo ≡ Post to letter ∷ acts →
    (tallies new : List Tally) (tally : Tally) (values : ℕ) → length tallies ≡ run.ranks → to < run.ranks → values_in letter ≡ values →
    ((q : ℕ) (d : Tally) → q < run.ranks → IsTallied (sent (scripts run) r node q) (get_or tallies q d)) → slice_get tallies to ≡ Some tally →
    new ≡ set tallies to (record { letters = tally.letters + 1; values = tally.values + values }) →
    (q : ℕ) (d : Tally) → q < run.ranks → IsTallied (sent (scripts run) r (posted (scripts run) r node) q) (get_or new q d)
posted_tallied run r to node letter acts fit todo tallies new tally values long below size tallied at is q d there =
    let after : Tally = record { letters = tally.letters + 1; values = tally.values + values } in
    let receives : receiver node.todo ≡ to = ap receiver todo in
    elim (cases_eq q to) [
      | inl here ↦
          let read : get_or tallies to tally ≡ tally = get_or_from_slice_get tallies to tally tally at in
          let before : IsTallied (sent (scripts run) r node to) tally = subst (λ t. IsTallied (sent (scripts run) r node to) t) read (tallied to tally below) in
          let more : sent (scripts run) r (posted (scripts run) r node) to ≡ sent (scripts run) r node to ++ letter ∷ [] =
          (let P : ℕ → Type 0 = λ k. sent (scripts run) r (posted (scripts run) r node) k ≡ sent (scripts run) r node k ++ letter ∷ [] in
          subst P receives (sent-posted (scripts run) r node fit (ap at_post todo) letter (rest_first run r to node letter acts fit todo))) in
          let now : get_or new to d ≡ after = ap (λ xs. get_or xs to d) is ∙ get_or-set_same tallies to after d (rw long below) in
          let whole : IsTallied (sent (scripts run) r node to ++ letter ∷ []) after =
          record {
            letters = let pushed = length_push (sent (scripts run) r node to) letter in let count = before.letters in omega arith;
            values = let pushed = sum_by_push values_in (sent (scripts run) r node to) letter in let sum = before.values in omega arith;
          } in
          let Q : ℕ → Type 0 = λ k. IsTallied (sent (scripts run) r (posted (scripts run) r node) k) (get_or new k d) in
          subst Q (sym here) (rw (more, now) whole)
      | inr other ↦
          let same : sent (scripts run) r (posted (scripts run) r node) q ≡ sent (scripts run) r node q = sent-posted_other (scripts run) r node q (λ e. other (e ∙ receives)) in
          let kept : get_or new q d ≡ get_or tallies q d = ap (λ xs. get_or xs q d) is ∙ get_or-set_other tallies to q after d other in
          rw (same, kept) (tallied q d there)
    ]

-- the letter of a post
pub letter_fits : (run : Run) (r to : ℕ) (node : scripted.Node Letter) (letter : Letter) (acts : List (Act Letter)) → NodeFit (scripts run) r node → node.todo ≡ Post to letter ∷ acts →
    (IsFirstOfRest (scripts run) r node letter) × (IsNextToPost (scripts run) r node letter)
letter_fits run r to node letter acts fit todo =
    let rest = rest_first run r to node letter acts fit todo in
    (ap (λ xs. take 1 xs) rest, next-at_post (scripts run) r node fit (receiver node.todo) letter _ rest)
