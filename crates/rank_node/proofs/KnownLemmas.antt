-- What a rank knows of D from the letters that it was given.
use Rattle.std.proofs.Common.{◌≡◌, ℕ, ◌+◌, ◌<◌, ◌≤◌, true, false, ◌==◌, not, List, [], ◌∷◌, length, take, map, filter, get_or, refl, sym, ap, ◌∙◌, subst, inl, inr, arith}
use Rattle.std.specs.List.{range_with_len, cons_option}
use Rattle.std.proofs.Math.Nat.{zero-add}
use Rattle.std.proofs.lemmas.Bool.{cases_eq, leb-true, and_right, eq-eqb, ne_eqb}
use Rattle.std.proofs.lemmas.List.{get_or-map}
use Rattle.std.proofs.lemmas.List.FromFn.{length-range_with_len, get_or-range_with_len}
use Rattle.bern_base.specs.declared.letter.Letter.{Letter}
use Rattle.bern_base.specs.declared.letter.Letter.TheVariants as letter
use Rattle.job_model.specs.State.{read}
use Rattle.placement.specs.Placement.{owner_of}
use Rattle.placement.specs.PlacementLaws.{kept}
use Rattle.rank_scripts.specs.Scripts.{named}
use Rattle.rank_scripts.specs.Nodes.{has_all}
use Rattle.rank_scripts.proofs.RankLemmas.{all_below_at}
use Rattle.rank_scripts.proofs.RoundLemmas.{book-turns, book-own}
use Rattle.rank_model.specs.Products.{Run, answer, is_received, reads, receive, scripts, schedule}
use Rattle.turn_model.specs.Schedules.{request, rounds, some_values, values_letter}
use Rattle.rank_node.specs.declared.stage.Stage.TheVariants.{Outer}
use Rattle.rank_node.specs.declared.node.Node.{Node}
use Rattle.rank_node.specs.Letters.{letter_values, turn_values}
use Rattle.rank_node.specs.Positions.{passed_of}
use Rattle.rank_node.specs.Waits.{letters_from, due_for, AreKnown}
use Rattle.rank_node.specs.Sets.{ArePut}
use Rattle.rank_node.specs.NodeStates.{IsNode}
use Rattle.rank_node.proofs.PositionLemmas.{named_values}

-- the values in a front of a book that is long enough
turn_front : (given : List Letter) (request : Letter) (f : ℕ → ℕ) (ws : List ℕ) → take (length given) (request ∷ cons_option (some_values 0 (map f ws)) []) ≡ given → due_for ws ≤ length given →
    turn_values given ≡ map f ws
turn_front [] request f [] front due = absurd (omega arith)
turn_front (l ∷ []) request f [] front due = refl
turn_front (l ∷ m ∷ given) request f [] front due = absurd (cc)
turn_front [] request f (w ∷ ws) front due = absurd (omega arith)
turn_front (l ∷ []) request f (w ∷ ws) front due = absurd (omega arith)
turn_front (l ∷ m ∷ given) request f (w ∷ ws) front due =
    let second : letter.Values 0 (f w ∷ map f ws) ≡ m = cc in
    ap letter_values (sym second)

-- a rank receives nothing from itself
receive_own : (run : Run) (r : ℕ) (ws : List ℕ) → filter (is_received run.place (answer run r) r r) ws ≡ []
receive_own run r [] = refl
receive_own run r (w ∷ ws) =
    let fails : is_received run.place (answer run r) r r w ≡ false = and_right _ _ (and_right (owner_of run.place w == r) (not (r == r)) (rw (eq-eqb r r refl) refl)) in
    rw fails (receive_own run r ws)

nothing_own : (given : List Letter) → take (length given) [] ≡ given → turn_values given ≡ []
nothing_own [] front = refl
nothing_own (l ∷ given) front = absurd (cc)

-- the values that a rank which has passed its last wait was sent
pub received_values : (run : Run) (n : Node) (q : ℕ) → IsNode run n → n.stage ≡ Outer → q < run.ranks →
    turn_values (letters_from n.given q) ≡ map (read run.first run.source) (receive run n.rank q)
received_values run n q is at below =
    let r = n.rank in
    let passed : passed_of n.stage ≡ 2 = ap passed_of at in
    elim (cases_eq q r) [
      | inl own ↦
          let P : ℕ → Type 0 = λ k. k < run.ranks → turn_values (letters_from n.given k) ≡ map (read run.first run.source) (receive run r k) in
          let here : P r = λ there.
          rw (receive_own run r (range_with_len 0 (length run.place)))
          (nothing_own (letters_from n.given r) (ap (take (length (letters_from n.given r))) (sym (book-own run.ranks r (rounds (schedule run)))) ∙ is.fronts r there)) in
          subst P (sym own) here below
      | inr other ↦
          let all : has_all (scripts run) r (letters_from n.given) 1 ≡ true = is.fit.past 1 (omega arith) in
          let enough : named (scripts run) r 1 q ≤ length (letters_from n.given q) = leb-true _ _ (all_below_at run.ranks _ all q below) in
          let due = named_values run r q is.of_run.rank other in
          turn_front (letters_from n.given q) (request (schedule run) q r) (read run.first run.source) (receive run r q)
          (ap (take (length (letters_from n.given q))) (sym (book-turns run.ranks 1 (request (schedule run)) (values_letter (schedule run)) q r is.of_run.rank other)) ∙ is.fronts q below)
          (omega arith)
    ]

received_stands : (run : Run) (r q w : ℕ) → is_received run.place (answer run r) r q w ≡ true → w < length run.place →
    (j : ℕ) × (j < length (receive run r q)) × (get_or (receive run r q) j 0 ≡ w)
received_stands run r q w passes below =
    let p = is_received run.place (answer run r) r q in
    let at : get_or (range_with_len 0 (length run.place)) w 0 ≡ w = get_or-range_with_len 0 (length run.place) w 0 below ∙ zero-add w in
    let found = kept p (range_with_len 0 (length run.place)) w 0 (rw (length-range_with_len 0 (length run.place)) below) (ap p at ∙ passes) in
    (found.0, found.1, found.2 ∙ at)

pub known_none : (run : Run) (r count : ℕ) (known : List ℕ) → length known ≡ count → count ≡ length run.place → AreKnown run r 0 known
known_none run r count known long extent = record { long = long ∙ extent; each = λ q w below. absurd (omega arith) }

-- the values of one more rank
pub known_more : (run : Run) (r n : ℕ) (elements values known new : List ℕ) → AreKnown run r n known → elements ≡ receive run r n → values ≡ map (read run.first run.source) (receive run r n) →
    ArePut elements values (length elements) known new → AreKnown run r (n + 1) new
known_more run r n elements values known new so elements_are values_are put =
    let f : ℕ → ℕ = read run.first run.source in
    let same : (k : ℕ) → k < length elements → get_or values k 0 ≡ f (get_or elements k 0) =
    λ k below.
    ap (λ xs. get_or xs k 0) values_are ∙ get_or-map f (receive run r n) k 0 0 (rw (← elements_are) below) ∙ ap (λ (xs : List ℕ). f (get_or xs k 0)) (sym elements_are) in
    record {
      long = put.long ∙ so.long;
      each = λ q w below passes inside.
          put.at f same w
          (elim (cases_eq q n) [
            | inl here ↦
                let found = received_stands run r n w (ap (λ k. is_received run.place (answer run r) r k w) (sym here) ∙ passes) inside in
                inr (found.0, rw elements_are found.1, ap (λ (xs : List ℕ). get_or xs found.0 0) elements_are ∙ found.2)
            | inr other ↦ inl (so.each q w (omega arith) passes inside)
          ]);
    }

-- an element that a point of the rank reads is received from its owner, where that is another rank
pub read_received : (run : Run) (r w : ℕ) → reads (answer run r) w ≡ true → (owner_of run.place w ≡ r → ⊥) → is_received run.place (answer run r) r (owner_of run.place w) w ≡ true
read_received run r w read other = rw (read, eq-eqb (owner_of run.place w) (owner_of run.place w) refl, ne_eqb (owner_of run.place w) r other) refl
