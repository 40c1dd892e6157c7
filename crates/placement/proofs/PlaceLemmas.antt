-- A matrix that breaks no rule lists its places.
use Rattle.std.proofs.Common.{◌≡◌, ℕ, zero, suc, ◌+◌, ◌<◌, ◌≤◌, Bool, true, false, cond, ◌&&◌, ◌==◌, List, map, length, get_or, All, Some, None, sym, ap, ◌∙◌, subst, refl, ⊎_elim, arith}
use Rattle.std.specs.List.{list_any, range_with_len}
use Rattle.std.proofs.lemmas.Bool.{cases_lt, cases_order, eqb-true, ltb-false, true≢false}
use Rattle.std.proofs.lemmas.List.{get_or-map}
use Rattle.std.proofs.lemmas.List.Elements.{All-weaker}
use Rattle.std.proofs.lemmas.Option.{none-some}
use Rattle.bern_base.specs.declared.matrix.Entry.{Entry}
use Rattle.bern_base.specs.declared.matrix.Matrix.{Matrix}
use Rattle.bern_base.specs.declared.refusal.Rule.TheVariants.{F4, F5, F6}
use Rattle.bern_base.specs.Matrix.{IsInside, IsMatrix}
use Rattle.placement.specs.Listed.{IsSeating, PlacesAreListed, has_no_rank, has_two_ranks, is_sized, listed_triple, listed_triples}
use Rattle.placement.specs.Placement.{no_triple, owner_of}
use Rattle.placement.proofs.ListedLemmas.{length-listed_triples, listed-is_placement, no_entry, row_at, seating-length, seating-rows}
use Rattle.placement.proofs.RanksLemmas.{IsReached, all_single, crowd, gap_found, gap_left, reached_next, reached_none, reached_same, rows-rise}

-- no rule of a chain is broken
pub record IsNoneBroken (sized none two : Bool) : Type 0 where
  pub sized_is : sized ≡ true
  pub none_is : none ≡ false
  pub two_is : two ≡ false

none_broken : (sized none two : Bool) → cond sized (cond none (Some F4) (cond two (Some F5) None)) (Some F6) ≡ None → IsNoneBroken sized none two
none_broken false none two is = absurd (none-some F6 (sym is))
none_broken true true two is = absurd (none-some F4 (sym is))
none_broken true false true is = absurd (none-some F5 (sym is))
none_broken true false false is = record { sized_is = refl; none_is = refl; two_is = refl }

both_true : (a b : Bool) → (a && b) ≡ true → (a ≡ true) × (b ≡ true)
both_true true true is = (refl, refl)
both_true true false is = absurd (true≢false (sym is))
both_true false b is = absurd (true≢false (sym is))

module _ (m : Matrix) (extent : ℕ) (inside : All (λ e. e.row < extent) m.entries) (is : IsMatrix m) (whole : list_any (has_no_rank m.entries) (range_with_len 0 extent) ≡ false) where
  -- where each index has a rank, the entries reach one index after another
  reach : (k : ℕ) → k ≤ length m.entries → (next : ℕ) × IsReached m.entries k next
  reach zero within = (0, reached_none m.entries)
  reach (suc k) within =
      let early : k < length m.entries = omega (arith, within) in
      let now = reach k (omega (arith, within)) in
      let e : Entry = get_or m.entries k no_entry in
      let more : k + 1 ≡ suc k = omega arith in
      ⊎_elim
      (λ same. (now.0 + 1, subst (λ n. IsReached m.entries n (now.0 + 1)) more (reached_next m.entries k now.0 no_entry now.1 early same)))
      (λ apart. ⊎_elim
      (λ low. (now.0, subst (λ n. IsReached m.entries n now.0) more (reached_same m.entries k now.0 no_entry now.1 early low)))
      (λ up. absurd (true≢false (sym (gap_found m.entries extent k now.0 no_entry inside (rows-rise m is) now.1 early up) ∙ whole)))
      apart)
      (cases_order e.row now.0)

  indices : length m.entries ≤ extent → map (λ e. e.row) m.entries ≡ range_with_len 0 extent
  indices few =
      let all = reach (length m.entries) (omega arith) in
      ⊎_elim
      (λ left. absurd (true≢false (sym (gap_left m.entries extent all.0 all.1 left) ∙ whole)))
      (λ past. all_single m.entries extent all.0 all.1 past few)
      (cases_lt all.0 extent)

inside_extent : (extent : ℕ) (m : Matrix) → IsMatrix m → m.rows ≡ extent → All (λ e. e.row < extent) m.entries
inside_extent extent m is rows = All-weaker (IsInside m.rows m.cols) (λ e. e.row < extent) (λ e in_. subst (λ n. e.row < n) rows in_.0) m.entries is.inside

inside_ranks : (ranks : ℕ) (m : Matrix) → IsMatrix m → m.cols ≡ ranks → All (λ e. e.col < ranks) m.entries
inside_ranks ranks m is cols = All-weaker (IsInside m.rows m.cols) (λ e. e.col < ranks) (λ e in_. subst (λ n. e.col < n) cols in_.1) m.entries is.inside

seating : (extent ranks : ℕ) (m : Matrix) → IsMatrix m → IsNoneBroken (is_sized extent ranks m) (list_any (has_no_rank m.entries) (range_with_len 0 extent)) (list_any (has_two_ranks m.entries) (range_with_len 0 extent)) →
    IsSeating extent ranks m
seating extent ranks m is fine =
    let sizes = both_true (m.rows == extent) (m.cols == ranks) fine.sized_is in
    let rows : m.rows ≡ extent = eqb-true m.rows extent sizes.0 in
    let inside = inside_extent extent m is rows in
    let few : length m.entries ≤ extent = ltb-false extent (length m.entries) (crowd m.entries extent inside fine.none_is ∙ fine.two_is) in record {
      rows = rows;
      cols = eqb-true m.cols ranks sizes.1;
      indices = indices m extent inside is fine.none_is few;
    }

owner_at : (entries : List Entry) → map (λ e. e.row) entries ≡ range_with_len 0 (length entries) → All (λ e. owner_of (listed_triples entries) e.row ≡ e.col) entries
unfolding owner_of
owner_at entries rows k d within =
    ap (owner_of (listed_triples entries)) (row_at entries rows k d within) ∙ ap (λ t. t.rank) (get_or-map (listed_triple entries) entries k d no_triple within)

pub places-are-listed : PlacesAreListed
places-are-listed extent ranks m is fine =
    let sound : IsSeating extent ranks m =
    seating extent ranks m is
    (none_broken (is_sized extent ranks m) (list_any (has_no_rank m.entries) (range_with_len 0 extent)) (list_any (has_two_ranks m.entries) (range_with_len 0 extent)) fine) in
    let rows = seating-rows extent ranks m sound in record {
      extent_is = length-listed_triples m.entries ∙ seating-length extent ranks m sound;
      placement = listed-is_placement m.entries rows ranks (inside_ranks ranks m is sound.cols);
      owners = owner_at m.entries rows;
    }
