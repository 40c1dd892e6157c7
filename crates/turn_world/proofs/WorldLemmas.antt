-- Nodes and boxes of a world, one of them changed.
use Rattle.std.specs.List.{All}
use Rattle.std.proofs.Common.{◌≡◌, ℕ, zero, suc, ◌<◌, ◌==◌, true, List, [], ◌∷◌, ◌++◌, Option, Some, None, Result, Ok, Err, OnOk, OnErr, Bool, false, ◌≤◌, ◌&&◌, nat_lt, replicate, length, take, drop, get_or, set, slice_get, subst, sym, ap, ◌∙◌, ◌+◌, refl, inl, inr, arith}
use Rattle.std.proofs.lemmas.Option.{slice_get_read, slice_get_within}
use Rattle.std.proofs.Math.Path.{fun_ext}
use Rattle.std.proofs.lemmas.Bool.{cases_eq, cases_lt, cond-true, cond-false, eq-eqb, ne_eqb, lt-ltb, le-ltb, and_parts, ltb-true}
use Rattle.std.proofs.lemmas.List.{length-set, get_or-set_same, get_or-set_other, length-replicate, get_or-replicate, get_or_past, same_from_push, set-get_or}
use Rattle.std.proofs.lemmas.List.Elements.{All-replicate, All-set}
use Rattle.std.proofs.lemmas.List.Sums.{sum_by-cons}
use Rattle.bern_base.specs.declared.letter.Letter.{Letter}
use Rattle.rank_scripts.specs.Ranks.{put}
use Rattle.turn_model.specs.Runs.{IsRun, Run, scripts}
use Rattle.turn_node.specs.declared.node.Node.{Node}
use Rattle.turn_node.specs.NodeStates.{allowance, rank_in, HasPosted, HasTaken, HasWorked}
use Rattle.rank_scripts.specs.Acts.{Act, Work, Post, Wait, at_work, at_post, at_end, receiver}
use Rattle.rank_scripts.specs.Nodes.{fresh, worked, posted, took}
use Rattle.rank_scripts.specs.Nodes as scripted
use Rattle.rank_scripts.specs.Worlds.{Works, Posts, Takes, Fit, has_some, can, happens, start}
use Rattle.rank_scripts.specs.Worlds as worlds
use Rattle.rank_scripts.proofs.WorldLemmas.{happens_fit, start_fit, takes_next}
use Rattle.rank_scripts.specs.Scripts.{IsNextOf, book}
use Rattle.rank_scripts.proofs.RankLemmas.{put_same}
use Rattle.turn_node.specs.Parts.{At}
use Rattle.turn_node.proofs.PositionLemmas.{receiver_below}
use Rattle.turn_node.specs.declared.stage.Want.TheVariants as want
use Rattle.turn_node.specs.Positions.{Phase, want_of}
use Rattle.turn_world.specs.declared.world.World.{World}
use Rattle.turn_world.specs.Worlds.{node_or, node_in, flight_in, world_in, is_work, is_post, is_end, steps_left, Happened, IsRank, IsFit, IsStart, IsPosted}

pub slice_get-set_same : {A : Type 0} (xs : List A) (i : ℕ) (x : A) → i < length xs → slice_get (set xs i x) i ≡ Some x
slice_get-set_same [] i x h = absurd (omega arith)
slice_get-set_same (y ∷ xs) zero x h = refl
slice_get-set_same (y ∷ xs) (suc i) x h = slice_get-set_same xs i x (omega arith)

pub slice_get-set_other : {A : Type 0} (xs : List A) (i j : ℕ) (x : A) → (j ≡ i → ⊥) → slice_get (set xs i x) j ≡ slice_get xs j
slice_get-set_other [] i j x h = refl
slice_get-set_other (y ∷ xs) zero zero x h = absurd (h refl)
slice_get-set_other (y ∷ xs) zero (suc j) x h = refl
slice_get-set_other (y ∷ xs) (suc i) zero x h = refl
slice_get-set_other (y ∷ xs) (suc i) (suc j) x h = slice_get-set_other xs i j x (λ e. h (ap suc e))

pub nodes_set : {A : Type 0} (run : Run) (nodes : List (Node A)) (r : ℕ) (n : Node A) → r < length nodes → node_in run (set nodes r n) ≡ put (node_in run nodes) r (rank_in run n)
nodes_set run nodes r n below =
    fun_ext (λ k. elim (cases_eq k r) [
      | inl here ↦ ap (λ j. node_in run (set nodes r n) j) here ∙ ap (node_or run r) (slice_get-set_same nodes r n below) ∙ sym (cond-true (k == r) (rank_in run n) (node_in run nodes k) (eq-eqb k r here))
      | inr other ↦ ap (node_or run k) (slice_get-set_other nodes r k n other) ∙ sym (cond-false (k == r) (rank_in run n) (node_in run nodes k) (ne_eqb k r other))
    ])

pub boxes_set : (boxes : List (List (List Letter))) (p q : ℕ) (letters : List Letter) → p < length boxes → q < length (get_or boxes p []) →
    flight_in (set boxes p (set (get_or boxes p []) q letters)) ≡ put (flight_in boxes) p (put (flight_in boxes p) q letters)
boxes_set boxes p q letters p_below q_below =
    let row = set (get_or boxes p []) q letters in
    fun_ext (λ k. elim (cases_eq k p) [
      | inl here ↦
          ap (λ (r : List (List Letter)). in_row r) (ap (λ j. get_or (set boxes p row) j []) here ∙ get_or-set_same boxes p row [] p_below) ∙ row_set (get_or boxes p []) q letters q_below ∙
          sym (cond-true (k == p) (put (flight_in boxes p) q letters) (flight_in boxes k) (eq-eqb k p here))
      | inr other ↦
          ap (λ (r : List (List Letter)). in_row r) (get_or-set_other boxes p k row [] other) ∙ sym (cond-false (k == p) (put (flight_in boxes p) q letters) (flight_in boxes k) (ne_eqb k p other))
    ])
  where
    in_row : List (List Letter) → ℕ → List Letter
    in_row r j = get_or r j []

    row_set : (r : List (List Letter)) (q : ℕ) (letters : List Letter) → q < length r → in_row (set r q letters) ≡ put (in_row r) q letters
    row_set r q letters below =
        fun_ext (λ j. elim (cases_eq j q) [
          | inl here ↦ ap (λ i. get_or (set r q letters) i []) here ∙ get_or-set_same r q letters [] below ∙ sym (cond-true (j == q) letters (get_or r j []) (eq-eqb j q here))
          | inr other ↦ get_or-set_other r q j letters [] other ∙ sym (cond-false (j == q) letters (get_or r j []) (ne_eqb j q other))
        ])

-- a node of a fit world
pub rank_at : {A : Type 0} (stands : A → At → Phase → Type 0) (run : Run) (nodes : List (Node A)) (boxes : List (List (List Letter))) (r : ℕ) (n : Node A) → IsFit stands run nodes boxes → slice_get nodes r ≡ Some n → node_in run nodes r ≡ rank_in run n
rank_at stands run nodes boxes r n fit at = ap (node_or run r) at

some_same : {X : Type 0} (x y : X) → Some x ≡ Some y → x ≡ y
some_same x y same = cc

-- the world after an event that changes one node
pub nodes_are-set : {A : Type 0} (stands : A → At → Phase → Type 0) (run : Run) (nodes : List (Node A)) (r : ℕ) (n : Node A) → r < length nodes → ((k : ℕ) (m : Node A) → slice_get nodes k ≡ Some m → IsRank stands run k m) → IsRank stands run r n →
    (k : ℕ) (m : Node A) → slice_get (set nodes r n) k ≡ Some m → IsRank stands run k m
nodes_are-set stands run nodes r n below are is k m at =
    elim (cases_eq k r) [
      | inl here ↦
          let P : ℕ → Type 0 = λ j. slice_get (set nodes r n) j ≡ Some m in
          let same : n ≡ m = some_same n m (sym (slice_get-set_same nodes r n below) ∙ subst P here at) in
          let Q : ℕ → Type 0 = λ j. IsRank stands run j m in
          subst Q (sym here) (subst (IsRank stands run r) same is)
      | inr other ↦ are k m (sym (slice_get-set_other nodes r k n other) ∙ at)
    ]

world_same : (f f' : ℕ → scripted.Node Letter) (b b' : ℕ → ℕ → List Letter) → f ≡ f' → b ≡ b' →
    let w : worlds.World Letter = record { node = f; flight = b } in
    let v : worlds.World Letter = record { node = f'; flight = b' } in
    w ≡ v
world_same f f' b b' e h = cc

-- a work
pub works_same : {A : Type 0} (run : Run) (nodes : List (Node A)) (boxes : List (List (List Letter))) (r : ℕ) (n new : Node A) → r < length nodes → slice_get nodes r ≡ Some n → rank_in run new ≡ worked (scripts run) r (rank_in run n) →
    world_in run (set nodes r new) boxes ≡ happens (scripts run) (world_in run nodes boxes) (Works r)
works_same run nodes boxes r n new below at moved =
    world_same _ _ _ _ (nodes_set run nodes r new below ∙ ap (put (node_in run nodes) r) (moved ∙ ap (worked (scripts run) r) (sym (ap (node_or run r) at)))) refl

-- a fit world stays fit
pub stays_fit : {A : Type 0} (stands : A → At → Phase → Type 0) (run : Run) (nodes : List (Node A)) (boxes new_boxes : List (List (List Letter))) (r : ℕ) (new : Node A) (event : worlds.Event) → IsFit stands run nodes boxes → r < length nodes → IsRank stands run r new →
    length new_boxes ≡ run.ranks → All (λ row. length row ≡ run.ranks) new_boxes → can (scripts run) (world_in run nodes boxes) event ≡ true →
    world_in run (set nodes r new) new_boxes ≡ happens (scripts run) (world_in run nodes boxes) event → IsFit stands run (set nodes r new) new_boxes
stays_fit stands run nodes boxes new_boxes r new event is below rank rows row enabled same =
    record {
      run_is = is.run_is;
      count = length-set nodes r new ∙ is.count;
      nodes_are = nodes_are-set stands run nodes r new below is.nodes_are rank;
      rows = rows;
      row = row;
      fit = subst (Fit (scripts run)) (sym same) (happens_fit (scripts run) (world_in run nodes boxes) event enabled is.fit);
    }

-- a post
pub posts_same : {A : Type 0} (run : Run) (nodes : List (Node A)) (boxes : List (List (List Letter))) (r to : ℕ) (n new : Node A) (letter : Letter) → r < length nodes → slice_get nodes r ≡ Some n → rank_in run new ≡ posted (scripts run) r (rank_in run n) →
    receiver (rank_in run n).todo ≡ to → take 1 ((rank_in run n).rest (receiver (rank_in run n).todo)) ≡ letter ∷ [] → r < length boxes → to < length (get_or boxes r []) →
    world_in run (set nodes r new) (set boxes r (set (get_or boxes r []) to (get_or (get_or boxes r []) to [] ++ letter ∷ []))) ≡ happens (scripts run) (world_in run nodes boxes) (Posts r)
posts_same run nodes boxes r to n new letter below at moved receives first row column =
    let node = rank_in run n in
    let f = flight_in boxes in
    let same : node_in run nodes r ≡ node = ap (node_or run r) at in
    let P : ℕ → Type 0 = λ k. put f r (put (f r) to (f r to ++ letter ∷ [])) ≡ put f r (put (f r) k (f r k ++ take 1 (node.rest k))) in
    let Q : ℕ → Type 0 = λ k. take 1 (node.rest k) ≡ letter ∷ [] in
    let there : P to = ap (λ xs. put f r (put (f r) to (f r to ++ xs))) (sym (subst Q receives first)) in
    let flight : flight_in (set boxes r (set (get_or boxes r []) to (f r to ++ letter ∷ []))) ≡ put f r (put (f r) (receiver node.todo) (f r (receiver node.todo) ++ take 1 (node.rest (receiver node.todo)))) =
    boxes_set boxes r to (f r to ++ letter ∷ []) row column ∙ subst P (sym receives) there in
    let G : scripted.Node Letter → Type 0 = λ m.
    world_in run (set nodes r new) (set boxes r (set (get_or boxes r []) to (f r to ++ letter ∷ []))) ≡
    record { node = put (node_in run nodes) r (posted (scripts run) r m); flight = put f r (put (f r) (receiver m.todo) (f r (receiver m.todo) ++ take 1 (m.rest (receiver m.todo)))) } in
    subst G (sym same) (world_same _ _ _ _ (nodes_set run nodes r new below ∙ ap (put (node_in run nodes) r) moved) flight)

-- a take
pub takes_same : {A : Type 0} (run : Run) (nodes : List (Node A)) (boxes : List (List (List Letter))) (r from : ℕ) (n new : Node A) → r < length nodes → slice_get nodes r ≡ Some n →
    rank_in run new ≡ took (scripts run) r (rank_in run n) from (take 1 (flight_in boxes from r)) → from < length boxes → r < length (get_or boxes from []) →
    world_in run (set nodes r new) (set boxes from (set (get_or boxes from []) r (drop 1 (flight_in boxes from r)))) ≡ happens (scripts run) (world_in run nodes boxes) (Takes r from)
takes_same run nodes boxes r from n new below at moved row column =
    world_same _ _ _ _
    (nodes_set run nodes r new below ∙ ap (put (node_in run nodes) r) (moved ∙ ap (λ m. took (scripts run) r m from (take 1 (flight_in boxes from r))) (sym (ap (node_or run r) at))))
    (boxes_set boxes from r (drop 1 (flight_in boxes from r)) row column)

-- what is wanted, by what there is to do
pub is_work-want : (acts : List (Act Letter)) → is_work (want_of acts) ≡ at_work acts
is_work-want [] = refl
is_work-want (Work ∷ acts) = refl
is_work-want (Post to letter ∷ acts) = refl
is_work-want (Wait ∷ acts) = refl

pub is_post-want : (acts : List (Act Letter)) → is_post (want_of acts) ≡ at_post acts
is_post-want [] = refl
is_post-want (Work ∷ acts) = refl
is_post-want (Post to letter ∷ acts) = refl
is_post-want (Wait ∷ acts) = refl

pub past_end : {A : Type 0} (xs : List A) (i : ℕ) → slice_get xs i ≡ None → length xs ≤ i
past_end [] i none = omega arith
past_end (x ∷ xs) zero none = absurd (cc)
past_end (x ∷ xs) (suc i) none = let rest = past_end xs i none in omega arith

-- a test of a rank, by its node
pub test_there : {A : Type 0} (run : Run) (nodes : List (Node A)) (r : ℕ) (n : Node A) (test : List (Act Letter) → Bool) → length nodes ≡ run.ranks → slice_get nodes r ≡ Some n →
    test (rank_in run n).todo ≡ (nat_lt r run.ranks && test (node_in run nodes r).todo)
test_there run nodes r n test count at =
    let below : r < run.ranks = rw (← count) (slice_get_within nodes r n at) in
    let same : (node_in run nodes r).todo ≡ (rank_in run n).todo = ap (λ (m : scripted.Node Letter). m.todo) (ap (node_or run r) at) in
    rw (lt-ltb r run.ranks below, same) refl

pub test_past : {A : Type 0} (run : Run) (nodes : List (Node A)) (r : ℕ) (b : Bool) → length nodes ≡ run.ranks → slice_get nodes r ≡ None → false ≡ (nat_lt r run.ranks && b)
test_past run nodes r b count none =
    let past : run.ranks ≤ r = rw (← count) (past_end nodes r none) in
    rw (le-ltb r run.ranks past) refl

-- a new world
pub new_same : {A : Type 0} (stands : A → At → Phase → Type 0) (run : Run) (nodes : List (Node A)) (count : ℕ) (boxes : List (List (List Letter))) → IsStart stands run nodes → boxes ≡ replicate count (replicate count []) → world_in run nodes boxes ≡ start (scripts run)
new_same {A} stands run nodes count boxes is are =
    world_same _ _ _ _
    (fun_ext (λ r. by_get r (slice_get nodes r) refl))
    (fun_ext (λ p. fun_ext (λ q. ap (λ (b : List (List (List Letter))). flight_in b p q) are ∙ elim (cases_lt p count) [
      | inl p_below ↦ ap (λ (row : List (List Letter)). get_or row q []) (get_or-replicate count p (replicate count empty) [] p_below) ∙ empty_row q
      | inr p_past ↦ ap (λ (row : List (List Letter)). get_or row q []) (get_or_past (replicate count (replicate count empty)) p [] (rw (length-replicate count (replicate count empty)) p_past))
    ])))
  where
    by_get : (r : ℕ) (o : Option (Node A)) → slice_get nodes r ≡ o → node_or run r (slice_get nodes r) ≡ fresh (scripts run) r
    by_get r None at = ap (node_or run r) at
    by_get r (Some n) at = ap (node_or run r) at ∙ is.fresh_are r n at

    empty : List Letter
    empty = []

    empty_row : (q : ℕ) → get_or (replicate count empty) q [] ≡ []
    empty_row q =
        elim (cases_lt q count) [
          | inl below ↦ get_or-replicate count q [] [] below
          | inr past ↦ get_or_past (replicate count empty) q [] (rw (length-replicate count empty) past)
        ]

pub new_fit : {A : Type 0} (stands : A → At → Phase → Type 0) (run : Run) (nodes : List (Node A)) (count : ℕ) (boxes : List (List (List Letter))) → IsRun run → IsStart stands run nodes → boxes ≡ replicate count (replicate count []) → count ≡ run.ranks → IsFit stands run nodes boxes
new_fit stands run nodes count boxes run_is is are counted =
    let empty : List Letter = [] in
    record {
      run_is = run_is;
      count = is.count;
      nodes_are = is.nodes_are;
      rows = ap length are ∙ length-replicate count (replicate count empty) ∙ counted;
      row = subst (All (λ row. length row ≡ run.ranks)) (sym are) (All-replicate (λ row. length row ≡ run.ranks) count (replicate count empty) (length-replicate count empty ∙ counted));
      fit = subst (Fit (scripts run)) (sym (new_same stands run nodes count boxes is are)) (start_fit (scripts run));
    }

-- what clauses of one call say together
pub ok_then : {T E : Type 0} (result : Result T E) (A B : Type 0) → OnOk result A → (A → B) → OnOk result B
ok_then (Ok x) A B a f = f a
ok_then (Err e) A B a f = tt

pub ok_two : {T E : Type 0} (result : Result T E) (A B C : Type 0) → OnOk result A → OnOk result B → (A → B → C) → OnOk result C
ok_two (Ok x) A B C a b f = f a b
ok_two (Err e) A B C a b f = tt

pub works_done : {A : Type 0} (stands : A → At → Phase → Type 0) (run : Run) (nodes new_nodes : List (Node A)) (boxes : List (List (List Letter))) (r : ℕ) (n new : Node A) → IsFit stands run nodes boxes → can (scripts run) (world_in run nodes boxes) (Works r) ≡ true →
    slice_get nodes r ≡ Some n → new_nodes ≡ set nodes r new → HasWorked stands run n new →
    Happened stands run nodes boxes (Works r) new_nodes boxes
works_done {A} stands run nodes new_nodes boxes r n new is enabled at nodes_are has =
    let below = slice_get_within nodes r n at in
    let old = is.nodes_are r n at in
    let same = works_same run nodes boxes r n new below at (has.moved ∙ ap (λ k. worked (scripts run) k (rank_in run n)) old.rank) in
    let P : List (Node A) → Type 0 = λ ns. Happened stands run nodes boxes (Works r) ns boxes in
    subst P (sym nodes_are)
    (record { fit = stays_fit stands run nodes boxes boxes r new (Works r) is below (record { rank = has.rank ∙ old.rank; node = has.node }) is.rows is.row enabled same; same = same })

row_kept : (run : Run) (boxes : List (List (List Letter))) (p q : ℕ) (letters : List Letter) → All (λ row. length row ≡ run.ranks) boxes → p < length boxes →
    All (λ row. length row ≡ run.ranks) (set boxes p (set (get_or boxes p []) q letters))
row_kept run boxes p q letters row below = All-set (λ row. length row ≡ run.ranks) boxes p (set (get_or boxes p []) q letters) (length-set (get_or boxes p []) q letters ∙ row p [] below) row

pub posts_done : {A : Type 0} (stands : A → At → Phase → Type 0) (run : Run) (nodes new_nodes : List (Node A)) (boxes new_boxes : List (List (List Letter))) (r : ℕ) (n new : Node A) → IsFit stands run nodes boxes → can (scripts run) (world_in run nodes boxes) (Posts r) ≡ true →
    slice_get nodes r ≡ Some n → new_nodes ≡ set nodes r new → HasPosted stands run n new → IsPosted run r n boxes new_boxes →
    Happened stands run nodes boxes (Posts r) new_nodes new_boxes
posts_done {A} stands run nodes new_nodes boxes new_boxes r n new is enabled at nodes_are has put_in =
    let below = slice_get_within nodes r n at in
    let old = is.nodes_are r n at in
    let moved = has.moved ∙ ap (λ k. posted (scripts run) k (rank_in run n)) old.rank in
    let rank : IsRank stands run r new = record { rank = has.rank ∙ old.rank; node = has.node } in
    let row : r < length boxes = rw (is.rows, ← is.count) below in
    let column : put_in.to < length (get_or boxes r []) = rw (is.row r [] row) put_in.within in
    let same = posts_same run nodes boxes r put_in.to n new put_in.letter below at moved put_in.receives put_in.first row column in
    let P : List (Node A) → Type 0 = λ ns. Happened stands run nodes boxes (Posts r) ns new_boxes in
    let Q : List (List (List Letter)) → Type 0 = λ bs. Happened stands run nodes boxes (Posts r) (set nodes r new) bs in
    subst P (sym nodes_are) (subst Q (sym put_in.boxes)
    (record { fit = stays_fit stands run nodes boxes _ r new (Posts r) is below rank (length-set boxes r _ ∙ is.rows) (row_kept run boxes r put_in.to _ is.row row) enabled same; same = same }))

pub takes_done : {A : Type 0} (stands : A → At → Phase → Type 0) (run : Run) (nodes new_nodes : List (Node A)) (boxes new_boxes : List (List (List Letter))) (r from : ℕ) (n new : Node A) → IsFit stands run nodes boxes → can (scripts run) (world_in run nodes boxes) (Takes r from) ≡ true →
    slice_get nodes r ≡ Some n → new_nodes ≡ set nodes r new → IsRank stands run r new → rank_in run new ≡ took (scripts run) r (rank_in run n) from (take 1 (flight_in boxes from r)) →
    from < run.ranks → new_boxes ≡ set boxes from (set (get_or boxes from []) r (drop 1 (flight_in boxes from r))) →
    Happened stands run nodes boxes (Takes r from) new_nodes new_boxes
takes_done {A} stands run nodes new_nodes boxes new_boxes r from n new is enabled at nodes_are rank moved from_below boxes_are =
    let below = slice_get_within nodes r n at in
    let row : from < length boxes = rw is.rows from_below in
    let column : r < length (get_or boxes from []) = rw (is.row from [] row, ← is.count) below in
    let same = takes_same run nodes boxes r from n new below at moved row column in
    let P : List (Node A) → Type 0 = λ ns. Happened stands run nodes boxes (Takes r from) ns new_boxes in
    let Q : List (List (List Letter)) → Type 0 = λ bs. Happened stands run nodes boxes (Takes r from) (set nodes r new) bs in
    subst P (sym nodes_are) (subst Q (sym boxes_are)
    (record { fit = stays_fit stands run nodes boxes _ r new (Takes r from) is below rank (length-set boxes from _ ∙ is.rows) (row_kept run boxes from r _ is.row row) enabled same; same = same }))

-- what an enabled event says of its rank
pub enabled_rank : (ranks r : ℕ) (b : Bool) → (nat_lt r ranks && b) ≡ true → (r < ranks) × (b ≡ true)
enabled_rank ranks r b enabled = let parts = and_parts (nat_lt r ranks) b enabled in (ltb-true r ranks parts.0, parts.1)

pub todo_at : {A : Type 0} (run : Run) (nodes : List (Node A)) (r : ℕ) (n : Node A) (test : List (Act Letter) → Bool) → slice_get nodes r ≡ Some n → test (node_in run nodes r).todo ≡ true → test (rank_in run n).todo ≡ true
todo_at run nodes r n test at passes = ap (λ (m : scripted.Node Letter). test m.todo) (sym (ap (node_or run r) at)) ∙ passes

-- the post that is wanted
pub want_post : (acts : List (Act Letter)) (to : ℕ) → want.Post to ≡ want_of acts → receiver acts ≡ to
want_post [] to wanted = absurd (cc)
want_post (Work ∷ acts) to wanted = absurd (cc)
want_post (Post k letter ∷ acts) to wanted = cc
want_post (Wait ∷ acts) to wanted = absurd (cc)

-- a node by its index in the list that the world gave away
pub lent_node : {A : Type 0} (stands : A → At → Phase → Type 0) (run : Run) (nodes items : List (Node A)) (boxes : List (List (List Letter))) (r : ℕ) (n : Node A) → IsFit stands run nodes boxes → items ≡ nodes → r < run.ranks → n ≡ get_or items r n → slice_get nodes r ≡ Some n
lent_node stands run nodes items boxes r n is are below read =
    ap (λ xs. slice_get xs r) (sym are) ∙ slice_get_read items (length items) r n refl (rw (are, is.count) below) read

pub takes_done_of : {A : Type 0} (stands : A → At → Phase → Type 0) (run : Run) (nodes new_nodes : List (Node A)) (boxes new_boxes : List (List (List Letter))) (r from : ℕ) (n new : Node A) → IsFit stands run nodes boxes → can (scripts run) (world_in run nodes boxes) (Takes r from) ≡ true →
    slice_get nodes r ≡ Some n → new_nodes ≡ set nodes r new → HasTaken stands run from (take 1 (flight_in boxes from r)) n new →
    from < run.ranks → new_boxes ≡ set boxes from (set (get_or boxes from []) r (drop 1 (flight_in boxes from r))) →
    Happened stands run nodes boxes (Takes r from) new_nodes new_boxes
takes_done_of stands run nodes new_nodes boxes new_boxes r from n new is enabled at nodes_are has from_below boxes_are =
    let old = is.nodes_are r n at in
    takes_done stands run nodes new_nodes boxes new_boxes r from n new is enabled at nodes_are (record { rank = has.rank ∙ old.rank; node = has.node }) (has.moved ∙ ap (λ k. took (scripts run) k (rank_in run n) from (take 1 (flight_in boxes from r))) old.rank) from_below boxes_are

pub some_in : (letters : List Letter) → has_some letters ≡ true → letters ≡ [] → ⊥
some_in [] some none = absurd (cc)
some_in (x ∷ xs) some none = absurd (cc)

-- the letter that is taken is the next one of its book
pub next_taken : {A : Type 0} (stands : A → At → Phase → Type 0) (run : Run) (nodes : List (Node A)) (boxes : List (List (List Letter))) (r from : ℕ) (n : Node A) (letter : Letter) → IsFit stands run nodes boxes → can (scripts run) (world_in run nodes boxes) (Takes r from) ≡ true →
    slice_get nodes r ≡ Some n → take 1 (flight_in boxes from r) ≡ letter ∷ [] → IsNextOf (book (scripts run) from n.progress.rank) ((rank_in run n).given from) letter
next_taken stands run nodes boxes r from n letter is enabled at first =
    let w = world_in run nodes boxes in
    let next = takes_next (scripts run) w r from is.fit enabled in
    let given : (w.node r).given from ≡ (rank_in run n).given from = ap (λ (m : scripted.Node Letter). m.given from) (ap (node_or run r) at) in
    let taken : ((happens (scripts run) w (Takes r from)).node r).given from ≡ (w.node r).given from ++ letter ∷ [] =
    ap (λ (m : scripted.Node Letter). m.given from) (put_same w.node r _) ∙ put_same (w.node r).given from _ ∙ ap (λ xs. (w.node r).given from ++ xs) first in
    let same : next.letter ≡ letter = (same_from_push ((w.node r).given from) ((w.node r).given from) next.letter letter (sym next.given ∙ taken)).1 in
    let P : Letter → Type 0 = λ l. IsNextOf (book (scripts run) from r) ((w.node r).given from) l in
    let Q : List Letter → Type 0 = λ g. IsNextOf (book (scripts run) from r) g letter in
    let R : ℕ → Type 0 = λ k. IsNextOf (book (scripts run) from k) ((rank_in run n).given from) letter in
    subst R (sym (is.nodes_are r n at).rank) (subst Q given (subst P same next.next))

pub post_below : {A : Type 0} (stands : A → At → Phase → Type 0) (run : Run) (r : ℕ) (n : Node A) → IsRank stands run r n → at_post (rank_in run n).todo ≡ true → receiver (rank_in run n).todo < run.ranks
post_below stands run r n is at = receiver_below run n.progress.rank n.progress.stage is.node.progress.stage at

pub err_two : {T E : Type 0} (result : Result T E) (A B C : Type 0) → OnErr result A → OnErr result B → (A → B → C) → OnErr result C
err_two (Ok x) A B C a b f = tt
err_two (Err e) A B C a b f = f a b

pub world_kept : {A : Type 0} (w : World A) (items nodes : List (Node A)) (boxes : List (List (List Letter))) (r : ℕ) (n new : Node A) → items ≡ w.nodes → n ≡ get_or items r n → nodes ≡ set items r new → new ≡ n → boxes ≡ w.boxes →
    let v : World A = record { nodes = nodes; boxes = boxes } in
    v ≡ w
world_kept {A} w items nodes boxes r n new are read put_in kept same =
    let back : nodes ≡ w.nodes = put_in ∙ ap (set items r) (kept ∙ read) ∙ set-get_or items r n ∙ are in
    ap (λ (ns : List (Node A)). of_parts ns boxes) back ∙ ap (of_parts w.nodes) same
  where
    of_parts : List (Node A) → List (List (List Letter)) → World A
    of_parts ns bs = record { nodes = ns; boxes = bs }

pub is_end-want : (acts : List (Act Letter)) → is_end (want_of acts) ≡ at_end acts
is_end-want [] = refl
is_end-want (Work ∷ acts) = refl
is_end-want (Post to letter ∷ acts) = refl
is_end-want (Wait ∷ acts) = refl

-- the steps that all nodes may still take, where one of them goes on
pub steps_set : {A : Type 0} (run : Run) (nodes : List (Node A)) (r : ℕ) (old new : Node A) → slice_get nodes r ≡ Some old → steps_left run (set nodes r new) + allowance run old ≡ steps_left run nodes + allowance run new
steps_set run [] r old new at = absurd (cc)
steps_set run (n ∷ nodes) zero old new at =
    let same : n ≡ old = cc in
    let before = sum_by-cons (allowance run) n nodes in
    let after = sum_by-cons (allowance run) new nodes in
    let here : allowance run n ≡ allowance run old = ap (allowance run) same in
    omega arith
steps_set run (n ∷ nodes) (suc r) old new at =
    let rest = steps_set run nodes r old new at in
    let before = sum_by-cons (allowance run) n nodes in
    let after = sum_by-cons (allowance run) n (set nodes r new) in
    omega arith

pub steps_spent : {A : Type 0} (run : Run) (nodes new_nodes : List (Node A)) (r : ℕ) (old new : Node A) (before after : ℕ) → slice_get nodes r ≡ Some old → new_nodes ≡ set nodes r new →
    after + allowance run new ≤ before + allowance run old → after + steps_left run new_nodes ≤ before + steps_left run nodes
steps_spent run nodes new_nodes r old new before after at are spent =
    let one = steps_set run nodes r old new at in
    let same : steps_left run new_nodes ≡ steps_left run (set nodes r new) = ap (steps_left run) are in
    omega arith

pub steps_same : {A : Type 0} (run : Run) (nodes new_nodes : List (Node A)) (r : ℕ) (old new : Node A) → slice_get nodes r ≡ Some old → new_nodes ≡ set nodes r new →
    allowance run new ≡ allowance run old → steps_left run new_nodes ≡ steps_left run nodes
steps_same run nodes new_nodes r old new at are kept =
    let one = steps_set run nodes r old new at in
    let same : steps_left run new_nodes ≡ steps_left run (set nodes r new) = ap (steps_left run) are in
    omega arith
