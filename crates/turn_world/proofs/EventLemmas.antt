-- The enabled events of a world, and how many there are in all.
use Rattle.std.proofs.Common.{◌≡◌, ℕ, zero, suc, ◌+◌, ◌*◌, ◌<◌, ◌≤◌, Bool, true, false, ◌&&◌, nat_lt, List, [], ◌∷◌, ◌++◌, Some, length, map, filter, slice_get, append_assoc, append-nil, refl, sym, ap, ◌∙◌, inl, inr, arith, length-append, get_or, subst}
use Rattle.std.specs.List.{flat_map, range_with_len}
use Rattle.std.specs.Option.{option_map}
use Rattle.std.proofs.Math.Nat.{zero-add}
use Rattle.std.proofs.lemmas.Bool.{cases_eq, cases_lt, cond-true, and_parts, ltb-true}
use Rattle.std.proofs.lemmas.Option.{slice_get-map, get_or_from_slice_get, slice_get_within}
use Rattle.std.proofs.lemmas.Nat.{mul-le}
use Rattle.std.proofs.lemmas.List.{nil_from_length, get_or_past}
use Rattle.std.proofs.lemmas.List.Concat.{flat_map-append}
use Rattle.std.proofs.lemmas.List.Elements.{filter-append, filter_passes}
use Rattle.std.proofs.lemmas.List.FromFn.{map-range_with_len_more}
use Rattle.bern_base.specs.declared.letter.Letter.{Letter}
use Rattle.rank_scripts.specs.Acts.{at_work, at_post, at_end}
use Rattle.rank_scripts.specs.Nodes as scripted
use Rattle.rank_scripts.specs.Ranks.{sum_below}
use Rattle.rank_scripts.specs.Scripts.{book, letters, total}
use Rattle.rank_scripts.specs.Worlds.{Works, Posts, Takes, has_some, can, done, start, left, Fit}
use Rattle.rank_scripts.specs.Worlds as worlds
use Rattle.rank_scripts.proofs.RankLemmas.{all_below_at}
use Rattle.rank_scripts.proofs.RoundLemmas.{IsClosed-turns, total-turns}
use Rattle.rank_scripts.proofs.CountLemmas.{start_count}
use Rattle.rank_scripts.proofs.ProgressLemmas.{goes_on, done_none, done_delivered}
use Rattle.turn_model.specs.Runs.{IsRun, Run, events, schedule, scripts, turns_of}
use Rattle.turn_model.specs.Schedules.{request, values_letter}
use Rattle.turn_node.specs.declared.node.Node.{Node}
use Rattle.turn_node.specs.NodeStates.{rank_in}
use Rattle.turn_node.specs.Parts.{At}
use Rattle.turn_node.specs.Positions.{Phase, phase_of, turn_of}
use Rattle.turn_node.proofs.KeptLemmas.{book_few}
use Rattle.turn_node.proofs.PositionLemmas.{end_phase, end_turn}
use Rattle.turn_world.specs.declared.event.Event.{Event}
use Rattle.turn_world.specs.Worlds.{event_of, events_of, all_events, enabled_events, node_or, node_in, world_in, IsAmong, IsFit, AreAtEnd}

-- one more number in a range
range_more : (n : ℕ) → range_with_len 0 (n + 1) ≡ range_with_len 0 n ++ n ∷ []
range_more n = sym (map-id (range_with_len 0 (n + 1))) ∙ map-range_with_len_more (λ k. k) 0 n n (zero-add n) ∙ ap (λ xs. xs ++ n ∷ []) (map-id (range_with_len 0 n))
  where
    map-id : (xs : List ℕ) → map (λ k. k) xs ≡ xs
    map-id [] = refl
    map-id (x ∷ xs) = ap (λ ys. x ∷ ys) (map-id xs)

-- one more take of a rank
pub take_more_event : (p : worlds.Event → Bool) (r n : ℕ) (old before after : List worlds.Event) →
    before ≡ old ++ filter p (Works r ∷ Posts r ∷ map (Takes r) (range_with_len 0 n)) → after ≡ before ++ filter p (Takes r n ∷ []) →
    after ≡ old ++ filter p (Works r ∷ Posts r ∷ map (Takes r) (range_with_len 0 (n + 1)))
take_more_event p r n old before after so more =
    let xs = Works r ∷ Posts r ∷ map (Takes r) (range_with_len 0 n) in
    more ∙ ap (λ ys. ys ++ filter p (Takes r n ∷ [])) so ∙ append_assoc old (filter p xs) (filter p (Takes r n ∷ [])) ∙
    ap (λ ys. old ++ ys) (sym (filter-append p xs (Takes r n ∷ []))) ∙
    ap (λ ys. old ++ filter p (Works r ∷ Posts r ∷ ys)) (sym (map-range_with_len_more (Takes r) 0 n n (zero-add n)))

-- the events of one more rank
pub rank_more_events : (p : worlds.Event → Bool) (ranks n : ℕ) (before after : List worlds.Event) → before ≡ filter p (flat_map (events_of ranks) (range_with_len 0 n)) →
    after ≡ before ++ filter p (events_of ranks n) → after ≡ filter p (flat_map (events_of ranks) (range_with_len 0 (n + 1)))
rank_more_events p ranks n before after so more =
    let xs = flat_map (events_of ranks) (range_with_len 0 n) in
    let whole : flat_map (events_of ranks) (range_with_len 0 (n + 1)) ≡ xs ++ events_of ranks n =
    ap (flat_map (events_of ranks)) (range_more n) ∙ flat_map-append (events_of ranks) (range_with_len 0 n) (n ∷ []) ∙ ap (λ ys. xs ++ ys) (append-nil (events_of ranks n)) in
    more ∙ ap (λ ys. ys ++ filter p (events_of ranks n)) so ∙ sym (filter-append p xs (events_of ranks n)) ∙ ap (filter p) (sym whole)

-- where nothing passes, no part has something that passes
nil_parts : {A : Type 0} (xs ys : List A) → xs ++ ys ≡ [] → (xs ≡ []) × (ys ≡ [])
nil_parts xs ys none =
    let long = sym (length-append xs ys) ∙ ap length none in
    (nil_from_length xs (omega arith), nil_from_length ys (omega arith))

none_at : (p : worlds.Event → Bool) (f : ℕ → List worlds.Event) (a n r : ℕ) → filter p (flat_map f (range_with_len a n)) ≡ [] → a ≤ r → r < a + n → filter p (f r) ≡ []
none_at p f a zero r none low high = absurd (omega arith)
none_at p f a (suc n) r none low high =
    let parts = nil_parts (filter p (f a)) (filter p (flat_map f (range_with_len (a + 1) n))) (sym (filter-append p (f a) (flat_map f (range_with_len (a + 1) n))) ∙ none) in
    elim (cases_eq r a) [
      | inl here ↦ ap (λ k. filter p (f k)) here ∙ parts.0
      | inr other ↦ none_at p f (a + 1) n r parts.1 (omega arith) (omega arith)
    ]

none_first : (p : worlds.Event → Bool) (e : worlds.Event) (es : List worlds.Event) → filter p (e ∷ es) ≡ [] → p e ≡ true → ⊥
none_first p e es none passes = absurd (let some = sym (cond-true (p e) (e ∷ filter p es) (filter p es) passes) ∙ none in cc)

none_later : (p : worlds.Event → Bool) (e : worlds.Event) (es : List worlds.Event) → filter p (e ∷ es) ≡ [] → filter p es ≡ []
none_later p e es none = (nil_parts (filter p (e ∷ [])) (filter p es) (sym (filter-append p (e ∷ []) es) ∙ none)).1

none_map : (p : worlds.Event → Bool) (f : ℕ → worlds.Event) (a n k : ℕ) → filter p (map f (range_with_len a n)) ≡ [] → a ≤ k → k < a + n → p (f k) ≡ true → ⊥
none_map p f a zero k none low high passes = omega arith
none_map p f a (suc n) k none low high passes =
    elim (cases_eq k a) [
      | inl here ↦ none_first p (f a) (map f (range_with_len (a + 1) n)) none (ap (λ j. p (f j)) (sym here) ∙ passes)
      | inr other ↦ none_map p f (a + 1) n k (none_later p (f a) (map f (range_with_len (a + 1) n)) none) (omega arith) (omega arith) passes
    ]

-- the takes of a rank, and what stands after its work
abbrev takes_of : ℕ → ℕ → List worlds.Event
takes_of ranks r = map (Takes r) (range_with_len 0 ranks)

-- an enabled event is among them
enabled_listed : (run : Run) (w : worlds.World Letter) (e : worlds.Event) → can (scripts run) w e ≡ true → enabled_events run w ≡ [] → ⊥
enabled_listed run w (Works r) enabled none =
    let below : r < run.ranks = ltb-true r run.ranks (and_parts (nat_lt r run.ranks) (at_work (w.node r).todo) enabled).0 in
    let here = none_at (can (scripts run) w) (events_of run.ranks) 0 run.ranks r none (omega arith) (omega arith) in
    none_first (can (scripts run) w) (Works r) (Posts r ∷ takes_of run.ranks r) here enabled
enabled_listed run w (Posts r) enabled none =
    let below : r < run.ranks = ltb-true r run.ranks (and_parts (nat_lt r run.ranks) (at_post (w.node r).todo) enabled).0 in
    let here = none_at (can (scripts run) w) (events_of run.ranks) 0 run.ranks r none (omega arith) (omega arith) in
    none_first (can (scripts run) w) (Posts r) (takes_of run.ranks r) (none_later (can (scripts run) w) (Works r) (Posts r ∷ takes_of run.ranks r) here) enabled
enabled_listed run w (Takes r from) enabled none =
    let parts = and_parts (nat_lt r run.ranks) (nat_lt from run.ranks && has_some (w.flight from r)) enabled in
    let below : r < run.ranks = ltb-true r run.ranks parts.0 in
    let from_below : from < run.ranks = ltb-true from run.ranks (and_parts (nat_lt from run.ranks) (has_some (w.flight from r)) parts.1).0 in
    let here = none_at (can (scripts run) w) (events_of run.ranks) 0 run.ranks r none (omega arith) (omega arith) in
    none_map (can (scripts run) w) (Takes r) 0 run.ranks from
    (none_later (can (scripts run) w) (Posts r) (takes_of run.ranks r) (none_later (can (scripts run) w) (Works r) (Posts r ∷ takes_of run.ranks r) here)) (omega arith) (omega arith) enabled

some_long : {A : Type 0} (xs : List A) → (xs ≡ [] → ⊥) → 0 < length xs
some_long [] some = absurd (some refl)
some_long (x ∷ xs) some = omega arith

pub some_event : (run : Run) (w : worlds.World Letter) (events : List Event) → map event_of events ≡ enabled_events run w → Fit (scripts run) w → done (scripts run) w ≡ false → 0 < length events
some_event run w events are fit not_done =
    let next = goes_on (scripts run) w fit not_done in
    some_long events (λ none. enabled_listed run w next.event next.enabled (sym are ∙ ap (map event_of) none))

-- one of them is enabled
pub chosen_enabled : (run : Run) (w : worlds.World Letter) (events : List Event) (event : Event) → map event_of events ≡ enabled_events run w → IsAmong event events → can (scripts run) w (event_of event) ≡ true
chosen_enabled run w events event are among =
    let p = can (scripts run) w in
    let at : slice_get (enabled_events run w) among.place ≡ Some (event_of event) = ap (λ xs. slice_get xs among.place) (sym are) ∙ slice_get-map event_of events among.place ∙ ap (option_map event_of) among.at in
    let below = slice_get_within (enabled_events run w) among.place (event_of event) at in
    let read = get_or_from_slice_get (enabled_events run w) among.place (event_of event) (event_of event) at in
    ap p (sym read) ∙ filter_passes p (all_events run.ranks) among.place (event_of event) below

-- the number of events is small
sum_most : (n c : ℕ) (f : ℕ → ℕ) → ((j : ℕ) → j < n → f j ≤ c) → sum_below n f ≤ n * c
sum_most zero c f most = omega arith
sum_most (suc n) c f most =
    let here = most n (omega arith) in
    let below = sum_most n c f (λ j h. most j (omega arith)) in
    omega arith

pub events_small : (run : Run) → IsRun run → events run ≤ 100000000
events_small run is =
    let most = is.ranks in
    let turns = is.turns in
    let row : (p : ℕ) → p < run.ranks → sum_below run.ranks (λ q. length (book (scripts run) p q)) ≤ 640064 =
    λ p h. let s = sum_most run.ranks 10001 (λ q. length (book (scripts run) p q)) (λ q k. let few = book_few run p q k in omega arith) in omega arith in
    let all : letters (scripts run) ≤ run.ranks * 640064 = sum_most run.ranks 640064 (λ p. sum_below run.ranks (λ q. length (book (scripts run) p q))) row in
    let works : run.ranks * (1 + 2 * turns_of run) ≤ 64 * 20001 = mul-le run.ranks (1 + 2 * turns_of run) 64 20001 (omega arith) (omega arith) in
    omega arith

pub total_is : (run : Run) → total (scripts run) ≡ events run
total_is run = total-turns run.ranks (turns_of run) (request (schedule run)) (values_letter (schedule run))

-- a new world has all events before it, a done one none
pub start_left : (run : Run) (w : worlds.World Letter) → w ≡ start (scripts run) → left (scripts run) w ≡ total (scripts run)
start_left run w is = ap (left (scripts run)) is ∙ start_count (scripts run)

pub done_left : (run : Run) (w : worlds.World Letter) → Fit (scripts run) w → done (scripts run) w ≡ true → left (scripts run) w ≡ 0
done_left run w fit over = done_none (scripts run) w (IsClosed-turns run.ranks (turns_of run) (request (schedule run)) (values_letter (schedule run))) fit over

-- what the nodes of a done world hold
pub all_at_end : {A : Type 0} (stands : A → At → Phase → Type 0) (run : Run) (nodes : List (Node A)) (boxes : List (List (List Letter))) → IsFit stands run nodes boxes → done (scripts run) (world_in run nodes boxes) ≡ true → AreAtEnd stands run nodes boxes
all_at_end {A} stands run nodes boxes is over =
    let w = world_in run nodes boxes in
    let ended : (r : ℕ) (n : Node A) → slice_get nodes r ≡ Some n → at_end (rank_in run n).todo ≡ true =
    λ r n at.
    let below : r < run.ranks = rw (← is.count) (slice_get_within nodes r n at) in
    ap (λ (m : scripted.Node Letter). at_end m.todo) (sym (ap (node_or run r) at)) ∙ all_below_at run.ranks (λ k. at_end (node_in run nodes k).todo) over r below in
    record {
      done = ended;
      parts = λ r n at.
          let rank = is.nodes_are r n at in
          let turn = end_turn run n.progress.rank n.progress.stage rank.node.progress.stage (ended r n at) in
          let phase = end_phase run n.progress.rank n.progress.stage rank.node.progress.stage (ended r n at) in
          subst (λ (b : Phase). stands n.part (record { run = run; rank = r; turn = turns_of run }) b) phase
          (subst (λ (t : ℕ). stands n.part (record { run = run; rank = r; turn = t }) (phase_of n.progress.stage)) turn
          (subst (λ (k : ℕ). stands n.part (record { run = run; rank = k; turn = turn_of run n.progress.stage }) (phase_of n.progress.stage)) rank.rank rank.node.part));
      empty = λ p q. elim (cases_lt p run.ranks) [
        | inl p_below ↦ elim (cases_lt q run.ranks) [
          | inl q_below ↦ (done_delivered (scripts run) w p q (IsClosed-turns run.ranks (turns_of run) (request (schedule run)) (values_letter (schedule run))) is.fit over p_below q_below).flight
          | inr q_past ↦ get_or_past (get_or boxes p []) q [] (let row = is.row p [] (rw is.rows p_below) in omega arith)
        ]
        | inr p_past ↦ ap (λ (row : List (List Letter)). get_or row q []) (get_or_past boxes p [] (let rows = is.rows in omega arith))
      ];
    }
