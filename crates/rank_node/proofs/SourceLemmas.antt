-- The values of elements that a rank owns, and of those that it is sent.
use Rattle.std.proofs.Common.{◌≡◌, ℕ, ◌<◌, ◌==◌, not, ◌&&◌, List, [], ◌∷◌, length, get_or, map, Some, refl, sym, ap, ◌∙◌, subst}
use Rattle.std.proofs.Math.Nat.{zero-add}
use Rattle.std.specs.List.{All, range_with_len}
use Rattle.std.proofs.lemmas.Bool.{and_parts, eqb-true}
use Rattle.std.proofs.lemmas.List.{get_or-map, length-map, same_lists}
use Rattle.std.proofs.lemmas.List.Elements.{All-filter, filter_passes}
use Rattle.std.proofs.lemmas.List.FromFn.{length-range_with_len, get_or-range_with_len}
use Rattle.bern_base.specs.declared.letter.Letter.TheVariants as letter
use Rattle.placement.specs.Placement.{Triple, IsPlacement, owner_of, local_of, owned_indices, owned_of, global_of}
use Rattle.placement.specs.PlacementLaws.{local-below, global-owner-local}
use Rattle.placement.proofs.IndexLemmas.{length-owned_indices, get_or-owned_indices}
use Rattle.rank_model.specs.Products.{Run, answer, is_received, receive}
use Rattle.turn_model.specs.Schedules.{some_values}
use Rattle.rank_node.specs.Sets.{own_values}

-- what is asked for lies within the extent
pub received_below : (run : Run) (p q : ℕ) → All (λ w. w < length run.place) (receive run p q)
received_below run p q =
    All-filter (is_received run.place (answer run p) p q) (λ w. w < length run.place) (range_with_len 0 (length run.place))
    (λ k d below.
    let inside : k < length run.place = rw (← length-range_with_len 0 (length run.place)) below in
    rw (get_or-range_with_len 0 (length run.place) k d inside, zero-add k) inside)

-- its owner is the rank that is asked
pub received_owner : (run : Run) (p q : ℕ) → All (λ w. owner_of run.place w ≡ q) (receive run p q)
received_owner run p q = λ k d below.
    let w = get_or (receive run p q) k d in
    let passes = filter_passes (is_received run.place (answer run p) p q) (range_with_len 0 (length run.place)) k d below in
    eqb-true (owner_of run.place w) q (and_parts (owner_of run.place w == q) (not (q == p)) (and_parts _ (owner_of run.place w == q && not (q == p)) passes).1).0

-- a rank's own value of an element that it owns
pub own_read : (ranks : ℕ) (place : List Triple) (r w : ℕ) (f : ℕ → ℕ) (own : List ℕ) → IsPlacement ranks place → own ≡ map f (owned_indices place r) → w < length place → owner_of place w ≡ r →
    get_or own (local_of place w) 0 ≡ f w
own_read ranks place r w f own is own_is below owner =
    let there : local_of place w < owned_of place r = subst (λ q. local_of place w < owned_of place q) owner (local-below is w below) in
    let inside : local_of place w < length (owned_indices place r) = rw (length-owned_indices place r) there in
    let back : global_of place r (local_of place w) ≡ w = ap (λ q. global_of place q (local_of place w)) (sym owner) ∙ global-owner-local is w below in
    ap (λ xs. get_or xs (local_of place w) 0) own_is ∙ get_or-map f (owned_indices place r) (local_of place w) 0 0 inside ∙ ap f (get_or-owned_indices place r (local_of place w) ∙ back)

-- so for all elements of a set
pub own_values_are : (ranks : ℕ) (place : List Triple) (r : ℕ) (f : ℕ → ℕ) (own ws : List ℕ) → IsPlacement ranks place → own ≡ map f (owned_indices place r) →
    All (λ w. w < length place) ws → All (λ w. owner_of place w ≡ r) ws → own_values place own ws ≡ map f ws
own_values_are ranks place r f own ws is own_is below owned =
    same_lists (own_values place own ws) (map f ws) (length-map ws _ ∙ sym (length-map ws f))
    (λ k d inside.
    let there : k < length ws = rw (← length-map ws (λ w. get_or own (local_of place w) 0)) inside in
    get_or-map _ ws k 0 d there ∙ own_read ranks place r (get_or ws k 0) f own is own_is (below k 0 there) (owned k 0 there) ∙ sym (get_or-map f ws k 0 d there))

pub some_values_is : (nest : ℕ) (xs : List ℕ) → (xs ≡ [] → ⊥) → some_values nest xs ≡ Some (letter.Values nest xs)
some_values_is nest [] some = absurd (some refl)
some_values_is nest (x ∷ xs) some = refl

pub map_nil : {A B : Type 0} (f : A → B) (xs : List A) → map f xs ≡ [] → xs ≡ []
map_nil f [] none = refl
map_nil f (x ∷ xs) none = absurd (cc)
