-- Sets of elements, marks and values put at their elements.
use Rattle.std.proofs.Common.{◌≡◌, ℕ, ◌+◌, ◌<◌, ◌⊎◌, Bool, true, false, ◌==◌, not, ◌&&◌, cond, List, [], ◌∷◌, ◌++◌, length, get_or, set, filter, replicate, sym, ap, ◌∙◌, refl, inl, inr, arith}
use Rattle.std.specs.List.{range_with_len}
use Rattle.std.proofs.Math.Nat.{zero-add}
use Rattle.std.proofs.lemmas.Bool.{cases_eq, eq-eqb, ne_eqb, and_left, and_right}
use Rattle.std.proofs.lemmas.List.{length-set, get_or-set_same, get_or-set_other, get_or_read, map-id, same_lists, append-nil, length-replicate, get_or-replicate}
use Rattle.std.proofs.lemmas.List.FromFn.{filter_of_map_range_with_len_more, length-map-range_with_len, get_or-map-range_with_len}
use Rattle.bern_base.specs.declared.matrix.Entry.{Entry}
use Rattle.placement.specs.Placement.{Triple, owner_of}
use Rattle.rank_model.specs.Products.{is_received, reads}
use Rattle.rank_node.specs.Sets.{asked_of, all_asked, ArePut}

-- one more value is put
pub ArePut-more : (elements values : List ℕ) (n : ℕ) (old new : List ℕ) (x : ℕ) → ArePut elements values n old new →
    n < length values → x ≡ get_or values n x → get_or elements n 0 < length new →
    ArePut elements values (n + 1) old (set new (get_or elements n 0) x)
ArePut-more elements values n old new x so there is within =
    let e = get_or elements n 0 in
    record {
      long = length-set new e x ∙ so.long;
      at = λ value same w where_it_is.
          elim (cases_eq w e) [
            | inl here ↦
                ap (λ j. get_or (set new e x) j 0) here ∙ get_or-set_same new e x 0 within ∙ get_or_read values n x there is 0 ∙ same n (omega arith) ∙ ap value (sym here)
            | inr other ↦
                get_or-set_other new e w x 0 other ∙
                so.at value (λ k h. same k (omega arith)) w (earlier w other where_it_is)
          ];
    }
  where
    earlier : {P : Type 0} (w : ℕ) → (w ≡ get_or elements n 0 → ⊥) → P ⊎ ((k : ℕ) × (k < n + 1) × (get_or elements k 0 ≡ w)) → P ⊎ ((k : ℕ) × (k < n) × (get_or elements k 0 ≡ w))
    earlier w other (inl p) = inl p
    earlier w other (inr (k, h, at)) =
        elim (cases_eq k n) [
          | inl last ↦ absurd (other (sym at ∙ ap (λ j. get_or elements j 0) last))
          | inr before ↦ inr (k, omega arith, at)
        ]

-- one more element in a set, if it passes
pub asked_more : (place : List Triple) (entries : List Entry) (n rank q : ℕ) →
    asked_of place entries (n + 1) rank q ≡ asked_of place entries n rank q ++ cond (is_received place entries rank q n) (n ∷ []) []
asked_more place entries n rank q =
    let p : ℕ → Bool = is_received place entries rank q in
    ap (filter p) (sym (map-id (range_with_len 0 (n + 1)))) ∙ filter_of_map_range_with_len_more p (λ x. x) 0 n n (zero-add n) ∙
    ap (λ xs. filter p xs ++ cond (p n) (n ∷ []) []) (map-id (range_with_len 0 n))

-- it passes at its owner alone
pub asked_skip : (place : List Triple) (entries : List Entry) (n rank q : ℕ) → is_received place entries rank q n ≡ false →
    asked_of place entries (n + 1) rank q ≡ asked_of place entries n rank q
asked_skip place entries n rank q fails =
    asked_more place entries n rank q ∙ ap (λ b. asked_of place entries n rank q ++ cond b (n ∷ []) []) fails ∙ append-nil (asked_of place entries n rank q)

pub asked_push : (place : List Triple) (entries : List Entry) (n rank q : ℕ) → is_received place entries rank q n ≡ true →
    asked_of place entries (n + 1) rank q ≡ asked_of place entries n rank q ++ n ∷ []
asked_push place entries n rank q passes =
    asked_more place entries n rank q ∙ ap (λ b. asked_of place entries n rank q ++ cond b (n ∷ []) []) passes

-- sets by rank
pub all_from_each : (place : List Triple) (entries : List Entry) (extent rank ranks : ℕ) (sets : List (List ℕ)) → length sets ≡ ranks →
    ((q : ℕ) (d : List ℕ) → q < ranks → get_or sets q d ≡ asked_of place entries extent rank q) → sets ≡ all_asked place entries extent rank ranks
all_from_each place entries extent rank ranks sets long each =
    same_lists sets (all_asked place entries extent rank ranks) (long ∙ sym (length-map-range_with_len (asked_of place entries extent rank) 0 ranks))
    (λ k d below.
    let there : k < ranks = rw (sym long) below in
    each k d there ∙ sym (get_or-map-range_with_len (asked_of place entries extent rank) 0 ranks k k d there (zero-add k)))

-- the sets with the elements below n
pub record AreAsked (place : List Triple) (entries : List Entry) (n rank ranks : ℕ) (sets : List (List ℕ)) : Type 0 where
  pub long : length sets ≡ ranks
  pub each : (q : ℕ) (d : List ℕ) → q < ranks → get_or sets q d ≡ asked_of place entries n rank q

pub AreAsked-none : (place : List Triple) (entries : List Entry) (rank ranks : ℕ) (sets : List (List ℕ)) → sets ≡ replicate ranks [] →
    AreAsked place entries 0 rank ranks sets
AreAsked-none place entries rank ranks sets are =
    record {
      long = ap length are ∙ length-replicate ranks [];
      each = λ q d below. ap (λ xs. get_or xs q d) are ∙ get_or-replicate ranks q [] d below;
    }

-- an element that no rank gets
pub AreAsked-skip : (place : List Triple) (entries : List Entry) (n rank ranks : ℕ) (sets : List (List ℕ)) → AreAsked place entries n rank ranks sets →
    ((q : ℕ) → is_received place entries rank q n ≡ false) → AreAsked place entries (n + 1) rank ranks sets
AreAsked-skip place entries n rank ranks sets so none =
    record {
      long = so.long;
      each = λ q d below. so.each q d below ∙ sym (asked_skip place entries n rank q (none q));
    }

-- one that its owner gets
pub AreAsked-push : (place : List Triple) (entries : List Entry) (n rank ranks owner : ℕ) (sets : List (List ℕ)) (old new : List ℕ) → AreAsked place entries n rank ranks sets →
    owner < ranks → owner ≡ owner_of place n → (owner ≡ rank → ⊥) → reads entries n ≡ true →
    ((d : List ℕ) → old ≡ get_or sets owner d) → new ≡ old ++ n ∷ [] → AreAsked place entries (n + 1) rank ranks (set sets owner new)
AreAsked-push place entries n rank ranks owner sets old new so there is other read old_is new_is =
    record {
      long = length-set sets owner new ∙ so.long;
      each = λ q d below.
          elim (cases_eq q owner) [
            | inl here ↦
                let passes : is_received place entries rank q n ≡ true = rw (read, ← is, eq-eqb owner q (sym here), here, ne_eqb owner rank other) refl in
                ap (λ j. get_or (set sets owner new) j d) here ∙ get_or-set_same sets owner new d (rw so.long there) ∙ new_is ∙ ap (λ xs. xs ++ n ∷ []) (old_is d ∙ ap (λ j. get_or sets j d) (sym here) ∙ so.each q d below) ∙
                sym (asked_push place entries n rank q passes)
            | inr apart ↦
                let fails : is_received place entries rank q n ≡ false = rw (read, ← is, ne_eqb owner q (λ e. apart (sym e))) refl in
                get_or-set_other sets owner q new d apart ∙ so.each q d below ∙ sym (asked_skip place entries n rank q fails)
          ];
    }

-- what the rank owns itself, no set gets
pub own_fails : (place : List Triple) (entries : List Entry) (n rank : ℕ) → owner_of place n ≡ rank → (q : ℕ) → is_received place entries rank q n ≡ false
own_fails place entries n rank own q =
    and_right (reads entries n) (owner_of place n == q && not (q == rank))
    (elim (cases_eq q rank) [
      | inl same ↦ and_right (owner_of place n == q) (not (q == rank)) (rw (eq-eqb q rank same) refl)
      | inr other ↦ and_left (owner_of place n == q) (not (q == rank)) (ne_eqb (owner_of place n) q (λ e. other (sym e ∙ own)))
    ])

-- nor what no entry reads
pub unread_fails : (place : List Triple) (entries : List Entry) (n rank : ℕ) → reads entries n ≡ false → (q : ℕ) → is_received place entries rank q n ≡ false
unread_fails place entries n rank unread q = and_left (reads entries n) (owner_of place n == q && not (q == rank)) unread
