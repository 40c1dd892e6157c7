-- The views of each rank, one array and one rank more.
use Rattle.std.proofs.Common.{◌≡◌, ℕ, zero, suc, ◌+◌, ◌<◌, ◌≤◌, nat_lt, cond, List, [], ◌∷◌, ◌++◌, Some, length, map, slice_get, refl, sym, ap, ◌∙◌, subst, ⊎_elim, arith}
use Rattle.std.specs.Prelude.{if◌then◌else◌, slice_index_or, slice_set}
use Rattle.std.specs.List.{range_with_len}
use Rattle.std.proofs.lemmas.Bool.{cases_eq, cases_lt, cond-false, cond-true, le-ltb, lt-ltb}
use Rattle.std.proofs.lemmas.List.{length-append, length-map, length-set}
use Rattle.std.proofs.lemmas.List.FromFn.{length-map-range_with_len}
use Rattle.whole_laws.proofs.ChangeLemmas.{set_other, set_same}
use Rattle.whole_runs.proofs.ListLemmas.{each_more, some_same}
use Rattle.whole_turns.proofs.PlaceLemmas.{below}
use Rattle.rank_parts.specs.Dealing.{AreRows, IsRow}

empty_at : {X : Type 0} (a n k : ℕ) (row : List X) → slice_get (map (λ _. []) (range_with_len a n)) k ≡ Some row → row ≡ []
empty_at a zero k row at = absurd cc
empty_at a (suc n) zero row at = let same : [] ≡ row = cc in sym same
empty_at a (suc n) (suc k) row at = empty_at (a + 1) n k row at

index_at : {X : Type 0} (xs : List (List X)) (k : ℕ) (row : List X) → slice_get xs k ≡ Some row → slice_index_or xs k [] ≡ row
index_at [] k row at = absurd cc
index_at (x ∷ xs) zero row at = cc
index_at (x ∷ xs) (suc k) row at = index_at xs k row at

row_there : {X : Type 0} (xs : List (List X)) (k : ℕ) → k < length xs → slice_get xs k ≡ Some (slice_index_or xs k [])
row_there [] k low = absurd (omega (arith, low))
row_there (x ∷ xs) zero low = refl
row_there (x ∷ xs) (suc k) low = row_there xs k (omega (arith, low))

-- how many views a rank has
abbrev pub many : ℕ → ℕ → ℕ → ℕ
many number upto rank = if nat_lt rank upto then number + 1 else number

many_more : (number upto rank : ℕ) → rank < upto → many number upto rank ≡ number + 1
many_more number upto rank low = cond-true (nat_lt rank upto) (number + 1) number (lt-ltb rank upto low)

pub many_same : (number upto rank : ℕ) → upto ≤ rank → many number upto rank ≡ number
many_same number upto rank high = cond-false (nat_lt rank upto) (number + 1) number (le-ltb rank upto high)

many_other : (number upto rank : ℕ) → (rank ≡ upto → ⊥) → many number upto rank ≡ many number (upto + 1) rank
many_other number upto rank other = ⊎_elim
    (λ (low : rank < upto). many_more number upto rank low ∙ sym (many_more number (upto + 1) rank (omega (arith, low))))
    (λ (high : upto ≤ rank). many_same number upto rank high ∙ sym (many_same number (upto + 1) rank (omega (arith, high, other))))
    (cases_lt rank upto)

module _ {V : Type 0} (P : ℕ → ℕ → V → Type 0) where
  pub no_rows : (ranks : ℕ) (rows : List (List V)) → rows ≡ map (λ _. []) (range_with_len 0 ranks) → AreRows rows P ranks 0 0
  no_rows ranks rows none = record {
    count = ap length none ∙ length-map-range_with_len (λ _. []) 0 ranks;
    each = λ rank row at. subst (λ n. IsRow (P rank) n row) (sym (many_same 0 0 rank (omega arith)))
        (subst (IsRow (P rank) 0) (sym (empty_at 0 ranks rank row (ap (λ rs. slice_get rs rank) (sym none) ∙ at))) (record { long = refl; each = λ number view there. absurd cc }));
  }

  view_more : (rank number : ℕ) (row : List V) (view : V) → IsRow (P rank) number row → P rank number view → IsRow (P rank) (number + 1) (row ++ view ∷ [])
  view_more rank number row view is holds = record {
    long = length-append row (view ∷ []) ∙ ap (λ n. n + 1) is.long;
    each = each_more (P rank) row view is.each (subst (λ n. P rank n view) (sym is.long) holds);
  }

  row_more : (ranks number upto : ℕ) (rows : List (List V)) (view : V) → AreRows rows P ranks number upto → upto < ranks → P upto number view →
      AreRows (slice_set rows upto (slice_index_or rows upto [] ++ view ∷ [])) P ranks number (upto + 1)
  row_more ranks number upto rows view are low holds =
      let old : List V = slice_index_or rows upto [] in
      let there : slice_get rows upto ≡ Some old = row_there rows upto (omega (arith, low, are.count)) in
      let before : IsRow (P upto) number old = subst (λ n. IsRow (P upto) n old) (many_same number upto upto (omega arith)) (are.each upto old there) in
      let after : IsRow (P upto) (many number (upto + 1) upto) (old ++ view ∷ []) =
      subst (λ n. IsRow (P upto) n (old ++ view ∷ [])) (sym (many_more number (upto + 1) upto (omega arith))) (view_more upto number old view before holds) in record {
        count = length-set rows upto (old ++ view ∷ []) ∙ are.count;
        each = λ rank row at. ⊎_elim
            (λ (same : rank ≡ upto).
            let is : (old ++ view ∷ []) ≡ row = some_same (sym (set_same rows upto (old ++ view ∷ []) old there) ∙ ap (slice_get (slice_set rows upto (old ++ view ∷ []))) (sym same) ∙ at) in
            subst (λ r. IsRow (P r) (many number (upto + 1) r) row) (sym same) (subst (IsRow (P upto) (many number (upto + 1) upto)) is after))
            (λ (other : rank ≡ upto → ⊥).
            subst (λ n. IsRow (P rank) n row) (many_other number upto rank other)
            (are.each rank row (sym (set_other rows upto rank (old ++ view ∷ []) other) ∙ at)))
            (cases_eq rank upto);
      }

  pub next_row : (ranks number upto : ℕ) (rows after : List (List V)) (view : V) → AreRows rows P ranks number upto → upto < ranks → P upto number view →
      after ≡ slice_set rows upto (slice_index_or rows upto [] ++ view ∷ []) → AreRows after P ranks number (upto + 1)
  next_row ranks number upto rows after view are low holds is = subst (λ rs. AreRows rs P ranks number (upto + 1)) (sym is) (row_more ranks number upto rows view are low holds)

  -- once all ranks have theirs
  pub all_rows : (ranks number upto : ℕ) (rows : List (List V)) → upto ≡ ranks → AreRows rows P ranks number upto → AreRows rows P ranks (number + 1) 0
  all_rows ranks number upto rows all are = record {
    count = are.count;
    each = λ rank row at.
        let low : rank < ranks = omega (arith, are.count, below rows rank row at) in
        subst (λ n. IsRow (P rank) n row) (many_more number upto rank (omega (arith, low, all)) ∙ sym (many_same (number + 1) 0 rank (omega arith))) (are.each rank row at);
  }
