-- Blocks dealt to the ranks in turn are a placement.
use Rattle.std.proofs.Common.{◌≡◌, ℕ, zero, suc, ◌+◌, ◌-◌, ◌*◌, ◌/◌, ◌%◌, ◌<◌, ◌≤◌, min, ⊎_elim, ◌⊎◌, cond, ◌==◌, List, [], ◌∷◌, ◌++◌, map, length, get_or, sym, ap, ◌∙◌, subst, refl, arith}
use Rattle.std.proofs.Math.Nat.{zero-add, zero-mul, div-add-mod', mod-lt, mul_comm, mul_assoc, div-div-eq-div-mul, add-mul, one-mul, add_assoc, mul-le-mul_left}
use Rattle.std.specs.List.{range_with_len}
use Rattle.std.proofs.lemmas.Bool.{cond-true, cond-false, eq-eqb, ne_eqb, cases_eq, cases_lt, cases_order}
use Rattle.std.proofs.lemmas.List.{append-nil, map_push, length_push}
use Rattle.std.proofs.lemmas.List.FromFn.{length-map-range_with_len, get_or-map-range_with_len, filter_of_map_range_with_len_more}
use Rattle.std.proofs.lemmas.Nat.{row_fits, div-mul-add, mod-mul-add}
use Rattle.placement.specs.Placement.{Triple, IsPlacement, at_rank, no_triple, owner_of, local_of, owned_of, global_of}
use Rattle.placement.specs.PlacementLaws.{range_more, global-below, owner-global, local-global}
use Rattle.placement.specs.Cyclic.{cyclic_triple, cyclic_triples, BlocksAreDealtInTurn}

-- how many of the indices below n go to rank p
abbrev pub dealt : ℕ → ℕ → ℕ → ℕ → ℕ
dealt ranks block p n = n / (block * ranks) * block + min (n % (block * ranks) - p * block) block

-- an index by its turn, the rank of its block, and its place in the block
pub record IsDealt (ranks block n turn rank place : ℕ) : Type 0 where
  pub is : n ≡ turn * (block * ranks) + (rank * block + place)
  pub rank_below : rank < ranks
  pub place_below : place < block

place_of : (ranks block n : ℕ) → n ≡ n / (block * ranks) * (block * ranks) + (n / block % ranks * block + n % block)
place_of ranks block n =
    let q : ℕ = n / block in
    let turn : ℕ = n / (block * ranks) in
    let inner : q / ranks * ranks + q % ranks ≡ q = div-add-mod' q ranks in
    let outer : q * block + n % block ≡ n = div-add-mod' n block in
    let turns : q / ranks ≡ turn = div-div-eq-div-mul n block ranks in
    let whole : turn * ranks * block ≡ turn * (block * ranks) = mul_assoc turn ranks block ∙ ap (λ w. turn * w) (mul_comm ranks block) in
    let spread : (turn * ranks + q % ranks) * block ≡ turn * ranks * block + q % ranks * block = add-mul (turn * ranks) (q % ranks) block in
    let same : (turn * ranks + q % ranks) * block ≡ q * block = ap (λ t. (t * ranks + q % ranks) * block) (sym turns) ∙ ap (λ w. w * block) inner in
    omega (arith, outer, whole, spread, same)

pub is_dealt : (ranks block n : ℕ) → 0 < ranks → 0 < block → IsDealt ranks block n (n / (block * ranks)) (n / block % ranks) (n % block)
is_dealt ranks block n some_rank some_block = record {
  is = place_of ranks block n;
  rank_below = mod-lt (n / block) some_rank;
  place_below = mod-lt n some_block;
}

-- a block ends before the next begins, and the last before the turn ends
next_block : (p r block : ℕ) → p < r → p * block + block ≤ r * block
next_block p r block up = row_fits p block r block up (omega arith)

last_block : (ranks block p : ℕ) → p < ranks → p * block + block ≤ block * ranks
last_block ranks block p below = subst (λ w. p * block + block ≤ w) (mul_comm ranks block) (next_block p ranks block below)

in_turn : (ranks block r o : ℕ) → r < ranks → o < block → r * block + o < block * ranks
in_turn ranks block r o below inside = omega (arith, last_block ranks block r below, inside)

dealt_at : (ranks block p turn rest : ℕ) → rest < block * ranks → dealt ranks block p (turn * (block * ranks) + rest) ≡ turn * block + min (rest - p * block) block
dealt_at ranks block p turn rest below = rw (div-mul-add turn (block * ranks) rest below, mod-mul-add turn (block * ranks) rest below) refl

next_turn : (ranks block p turn rest : ℕ) → p < ranks → 0 < block → rest + 1 ≡ block * ranks → dealt ranks block p (turn * (block * ranks) + rest + 1) ≡ turn * block + min (rest + 1 - p * block) block
next_turn ranks block p turn rest below some last =
    let whole : (turn + 1) * (block * ranks) ≡ turn * (block * ranks) + 1 * (block * ranks) = add-mul turn 1 (block * ranks) in
    let one : 1 * (block * ranks) ≡ block * ranks = one-mul (block * ranks) in
    let place : turn * (block * ranks) + rest + 1 ≡ (turn + 1) * (block * ranks) + 0 = omega (arith, whole, one, last) in
    let end : p * block + block ≤ block * ranks = last_block ranks block p below in
    let more : (turn + 1) * block ≡ turn * block + 1 * block = add-mul turn 1 block in
    let once : 1 * block ≡ block = one-mul block in
    let count : (turn + 1) * block + min (0 - p * block) block ≡ turn * block + min (rest + 1 - p * block) block = omega (arith, more, once, last, end) in
    ap (dealt ranks block p) place ∙ dealt_at ranks block p (turn + 1) 0 (omega (arith, last)) ∙ count

dealt_next : (ranks block p turn rest : ℕ) → p < ranks → 0 < block → rest < block * ranks → dealt ranks block p (turn * (block * ranks) + rest + 1) ≡ turn * block + min (rest + 1 - p * block) block
dealt_next ranks block p turn rest below some inside = ⊎_elim
    (λ more. ap (dealt ranks block p) (omega arith) ∙ dealt_at ranks block p turn (rest + 1) more)
    (λ end. next_turn ranks block p turn rest below some (omega (arith, end, inside)))
    (cases_lt (rest + 1) (block * ranks))

-- the next index goes to the rank, or to another
own_before : (ranks block p turn place : ℕ) → p < ranks → place < block → dealt ranks block p (turn * (block * ranks) + (p * block + place)) ≡ turn * block + place
own_before ranks block p turn place below inside =
    let count : turn * block + min (p * block + place - p * block) block ≡ turn * block + place = omega (arith, inside) in
    dealt_at ranks block p turn (p * block + place) (in_turn ranks block p place below inside) ∙ count

own_after : (ranks block p turn place : ℕ) → p < ranks → place < block → dealt ranks block p (turn * (block * ranks) + (p * block + place) + 1) ≡ turn * block + place + 1
own_after ranks block p turn place below inside =
    let count : turn * block + min (p * block + place + 1 - p * block) block ≡ turn * block + place + 1 = omega (arith, inside) in
    dealt_next ranks block p turn (p * block + place) below (omega (arith, inside)) (in_turn ranks block p place below inside) ∙ count

other_min : (block p r place : ℕ) → place < block → (r < p) ⊎ (p < r) → min (r * block + place + 1 - p * block) block ≡ min (r * block + place - p * block) block
other_min block p r place inside apart = ⊎_elim
    (λ down. let step = next_block r p block down in omega (arith, step, inside))
    (λ up. let step = next_block p r block up in omega (arith, step, inside))
    apart

apart : (r p : ℕ) → (r ≡ p → ⊥) → (r < p) ⊎ (p < r)
apart r p differ = ⊎_elim (λ same. absurd (differ same)) (λ either. either) (cases_order r p)

other_after : (ranks block p turn r place : ℕ) → p < ranks → r < ranks → place < block → (r ≡ p → ⊥) →
    dealt ranks block p (turn * (block * ranks) + (r * block + place) + 1) ≡ dealt ranks block p (turn * (block * ranks) + (r * block + place))
other_after ranks block p turn r place below rank inside differ =
    let within : r * block + place < block * ranks = in_turn ranks block r place rank inside in
    dealt_next ranks block p turn (r * block + place) below (omega (arith, inside)) within ∙ ap (λ m. turn * block + m) (other_min block p r place inside (apart r p differ)) ∙ sym (dealt_at ranks block p turn (r * block + place) within)

dealt_own : (ranks block p n : ℕ) → 0 < ranks → 0 < block → p < ranks → n / block % ranks ≡ p →
    (dealt ranks block p n ≡ n / (block * ranks) * block + n % block) × (dealt ranks block p (n + 1) ≡ n / (block * ranks) * block + n % block + 1)
dealt_own ranks block p n some_rank some_block below own =
    let d = is_dealt ranks block n some_rank some_block in
    let place : n ≡ n / (block * ranks) * (block * ranks) + (p * block + n % block) = d.is ∙ ap (λ r. n / (block * ranks) * (block * ranks) + (r * block + n % block)) own in (
      ap (dealt ranks block p) place ∙ own_before ranks block p (n / (block * ranks)) (n % block) below d.place_below,
      ap (λ m. dealt ranks block p (m + 1)) place ∙ own_after ranks block p (n / (block * ranks)) (n % block) below d.place_below,
    )

dealt_other : (ranks block p n : ℕ) → 0 < ranks → 0 < block → p < ranks → (n / block % ranks ≡ p → ⊥) → dealt ranks block p (n + 1) ≡ dealt ranks block p n
dealt_other ranks block p n some_rank some_block below other =
    let d = is_dealt ranks block n some_rank some_block in
    ap (λ m. dealt ranks block p (m + 1)) d.is ∙ other_after ranks block p (n / (block * ranks)) (n / block % ranks) (n % block) below d.rank_below d.place_below other ∙ ap (dealt ranks block p) (sym d.is)

-- the triples of a rank among the first n
pub record IsCounted (ranks block p n : ℕ) : Type 0 where
  pub long : length (at_rank p (cyclic_triples n ranks block)) ≡ dealt ranks block p n
  pub locals : map (λ t. t.local) (at_rank p (cyclic_triples n ranks block)) ≡ range_with_len 0 (dealt ranks block p n)

dealt_more : (ranks block p n : ℕ) → at_rank p (cyclic_triples (n + 1) ranks block) ≡ at_rank p (cyclic_triples n ranks block) ++ cond (n / block % ranks == p) (cyclic_triple ranks block n ∷ []) []
dealt_more ranks block p n = filter_of_map_range_with_len_more (λ t. t.rank == p) (cyclic_triple ranks block) 0 n n (zero-add n)

count_own : (ranks block p n : ℕ) → 0 < ranks → 0 < block → p < ranks → n / block % ranks ≡ p → IsCounted ranks block p n → IsCounted ranks block p (n + 1)
count_own ranks block p n some_rank some_block below own counted =
    let t : Triple = cyclic_triple ranks block n in
    let before : List Triple = at_rank p (cyclic_triples n ranks block) in
    let local : ℕ = n / (block * ranks) * block + n % block in
    let grown : at_rank p (cyclic_triples (n + 1) ranks block) ≡ before ++ t ∷ [] =
    dealt_more ranks block p n ∙ ap (λ ts. before ++ ts) (cond-true (n / block % ranks == p) (t ∷ []) [] (eq-eqb (n / block % ranks) p own)) in
    let counts = dealt_own ranks block p n some_rank some_block below own in record {
      long = ap length grown ∙ length_push before t ∙ ap (λ m. m + 1) (counted.long ∙ counts.0) ∙ sym counts.1;
      locals = ap (map (λ u. u.local)) grown ∙ map_push (λ u. u.local) before t ∙ ap (λ xs. xs ++ local ∷ []) (counted.locals ∙ ap (range_with_len 0) counts.0) ∙ sym (range_more local) ∙ ap (range_with_len 0) (sym counts.1);
    }

count_other : (ranks block p n : ℕ) → 0 < ranks → 0 < block → p < ranks → (n / block % ranks ≡ p → ⊥) → IsCounted ranks block p n → IsCounted ranks block p (n + 1)
count_other ranks block p n some_rank some_block below other counted =
    let t : Triple = cyclic_triple ranks block n in
    let before : List Triple = at_rank p (cyclic_triples n ranks block) in
    let stays : at_rank p (cyclic_triples (n + 1) ranks block) ≡ before =
    dealt_more ranks block p n ∙ ap (λ ts. before ++ ts) (cond-false (n / block % ranks == p) (t ∷ []) [] (ne_eqb (n / block % ranks) p other)) ∙ append-nil before in
    let count : dealt ranks block p (n + 1) ≡ dealt ranks block p n = dealt_other ranks block p n some_rank some_block below other in record {
      long = ap length stays ∙ counted.long ∙ sym count;
      locals = ap (map (λ u. u.local)) stays ∙ counted.locals ∙ ap (range_with_len 0) (sym count);
    }

dealt_none : (ranks block p : ℕ) → 0 < block * ranks → dealt ranks block p 0 ≡ 0
dealt_none ranks block p some =
    let none : 0 * (block * ranks) ≡ 0 = zero-mul (block * ranks) in
    let start : 0 * block ≡ 0 = zero-mul block in
    let count : 0 * block + min (0 - p * block) block ≡ 0 = omega (arith, start) in
    ap (dealt ranks block p) (omega (arith, none)) ∙ dealt_at ranks block p 0 0 some ∙ count

some_turn : (ranks block : ℕ) → 0 < ranks → 0 < block → 0 < block * ranks
some_turn ranks block some_rank some_block = omega (arith, last_block ranks block 0 some_rank, some_block)

pub counted : (ranks block p : ℕ) → 0 < ranks → 0 < block → p < ranks → (n : ℕ) → IsCounted ranks block p n
counted ranks block p some_rank some_block below zero =
    let none : dealt ranks block p 0 ≡ 0 = dealt_none ranks block p (some_turn ranks block some_rank some_block) in
    record { long = sym none; locals = ap (range_with_len 0) (sym none) }
counted ranks block p some_rank some_block below (suc n) =
    let before = counted ranks block p some_rank some_block below n in
    subst (IsCounted ranks block p) (omega arith) (⊎_elim
    (λ own. count_own ranks block p n some_rank some_block below own before)
    (λ other. count_other ranks block p n some_rank some_block below other before)
    (cases_eq (n / block % ranks) p))

pub length-cyclic : (extent ranks block : ℕ) → length (cyclic_triples extent ranks block) ≡ extent
length-cyclic extent ranks block = length-map-range_with_len (cyclic_triple ranks block) 0 extent

pub cyclic_at : (extent ranks block i : ℕ) (d : Triple) → i < extent → get_or (cyclic_triples extent ranks block) i d ≡ cyclic_triple ranks block i
cyclic_at extent ranks block i d below = get_or-map-range_with_len (cyclic_triple ranks block) 0 extent i i d below (zero-add i)

indices_of : (ranks block : ℕ) (is : List ℕ) → map (λ t. t.index) (map (cyclic_triple ranks block) is) ≡ is
indices_of ranks block [] = refl
indices_of ranks block (i ∷ is) = ap (λ js. i ∷ js) (indices_of ranks block is)

pub is_placement : (extent ranks block : ℕ) → 0 < ranks → 0 < block → IsPlacement ranks (cyclic_triples extent ranks block)
is_placement extent ranks block some_rank some_block = record {
  indices = indices_of ranks block (range_with_len 0 extent) ∙ ap (range_with_len 0) (sym (length-cyclic extent ranks block));
  owners = λ k d below. rw (cyclic_at extent ranks block k d (subst (λ n. k < n) (length-cyclic extent ranks block) below)) (mod-lt (k / block) some_rank);
  locals = λ p below. let c = counted ranks block p some_rank some_block below extent in c.locals ∙ ap (range_with_len 0) (sym c.long);
}

-- owners, locals, counts and the way back by their formulas
pub owner-cyclic : (extent ranks block i : ℕ) → i < extent → owner_of (cyclic_triples extent ranks block) i ≡ i / block % ranks
unfolding owner_of
owner-cyclic extent ranks block i below = ap (λ t. t.rank) (cyclic_at extent ranks block i no_triple below)

pub local-cyclic : (extent ranks block i : ℕ) → i < extent → local_of (cyclic_triples extent ranks block) i ≡ i / (block * ranks) * block + i % block
unfolding local_of
local-cyclic extent ranks block i below = ap (λ t. t.local) (cyclic_at extent ranks block i no_triple below)

pub owned-cyclic : (extent ranks block p : ℕ) → 0 < ranks → 0 < block → p < ranks → owned_of (cyclic_triples extent ranks block) p ≡ dealt ranks block p extent
unfolding owned_of
owned-cyclic extent ranks block p some_rank some_block below = (counted ranks block p some_rank some_block below extent).long

pub global-cyclic : (extent ranks block p l : ℕ) → 0 < ranks → 0 < block → l < owned_of (cyclic_triples extent ranks block) p →
    global_of (cyclic_triples extent ranks block) p l ≡ l / block * (block * ranks) + p * block + l % block
global-cyclic extent ranks block p l some_rank some_block below =
    let ts : List Triple = cyclic_triples extent ranks block in
    let is : IsPlacement ranks ts = is_placement extent ranks block some_rank some_block in
    let i : ℕ = global_of ts p l in
    let inside : i < extent = subst (λ n. i < n) (length-cyclic extent ranks block) (global-below is p l below) in
    let owner : i / block % ranks ≡ p = sym (owner-cyclic extent ranks block i inside) ∙ owner-global is p l below in
    let local : i / (block * ranks) * block + i % block ≡ l = sym (local-cyclic extent ranks block i inside) ∙ local-global is p l below in
    let in_block : i % block < block = mod-lt i some_block in
    let turn : i / (block * ranks) ≡ l / block = sym (div-mul-add (i / (block * ranks)) block (i % block) in_block) ∙ ap (λ n. n / block) local in
    let place : i % block ≡ l % block = sym (mod-mul-add (i / (block * ranks)) block (i % block) in_block) ∙ ap (λ n. n % block) local in
    place_of ranks block i ∙ ap (λ t. t * (block * ranks) + (i / block % ranks * block + i % block)) turn
    ∙ ap (λ r. l / block * (block * ranks) + (r * block + i % block)) owner ∙ ap (λ o. l / block * (block * ranks) + (p * block + o)) place
    ∙ sym (add_assoc (l / block * (block * ranks)) (p * block) (l % block))

-- a rank owns no more than there is, and no local number lies above its index
block_in_turn : (ranks block : ℕ) → 0 < ranks → block ≤ block * ranks
block_in_turn ranks block some = omega (arith, last_block ranks block 0 some)

pub dealt-le : (ranks block p n : ℕ) → 0 < ranks → dealt ranks block p n ≤ n
dealt-le ranks block p n some =
    let turns : n / (block * ranks) * block ≤ n / (block * ranks) * (block * ranks) = mul-le-mul_left (n / (block * ranks)) (block_in_turn ranks block some) in
    let whole : n / (block * ranks) * (block * ranks) + n % (block * ranks) ≡ n = div-add-mod' n (block * ranks) in
    omega (arith, turns, whole)

pub local-le : (ranks block i : ℕ) → 0 < ranks → i / (block * ranks) * block + i % block ≤ i
local-le ranks block i some =
    let turns : i / (block * ranks) * block ≤ i / (block * ranks) * (block * ranks) = mul-le-mul_left (i / (block * ranks)) (block_in_turn ranks block some) in
    omega (arith, turns, place_of ranks block i)

pub blocks-are-dealt-in-turn : BlocksAreDealtInTurn
blocks-are-dealt-in-turn extent ranks block some_rank some_block = record {
  owner = owner-cyclic extent ranks block;
  local = local-cyclic extent ranks block;
  global = λ p l below. global-cyclic extent ranks block p l some_rank some_block below;
}
