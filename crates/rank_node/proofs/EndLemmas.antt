-- The sums of a rank's inner and outer points are those of its rows.
use Rattle.std.proofs.Common.{◌≡◌, ℕ, ◌+◌, ◌%◌, ◌^◌, ◌<◌, true, false, ◌==◌, List, [], ◌∷◌, length, map, filter, get_or, replicate, sum_by, refl, sym, ap, ◌∙◌, inl, inr, arith}
use Rattle.std.specs.List.{All, range_with_len}
use Rattle.std.proofs.Math.Nat.{zero-add, add-mod-mod, mod-add-mod}
use Rattle.std.proofs.lemmas.Bool.{cases_eq, cases_Bool, eq-eqb, ne_eqb, eqb-true, eqb-false}
use Rattle.std.proofs.lemmas.List.{get_or-set_same, get_or-map, length-map, get_or-replicate, same_lists}
use Rattle.std.proofs.lemmas.List.Elements.{All-head, All-tail}
use Rattle.std.proofs.lemmas.List.Folds.{list_any_at}
use Rattle.std.proofs.lemmas.List.Sums.{sum_by-cons}
use Rattle.std.proofs.lemmas.List.FromFn.{get_or-map-range_with_len, length-map-range_with_len}
use Rattle.bern_base.specs.declared.axes.Axis.TheVariants.{Row}
use Rattle.bern_base.specs.declared.matrix.Entry.{Entry}
use Rattle.bern_base.specs.Ring.{ring_add}
use Rattle.job_model.specs.State.{read}
use Rattle.placement.specs.Placement.{owner_of, local_of, owned_indices, owned_of, global_of}
use Rattle.placement.specs.PlacementLaws.{kept, owner-below, global-below, global-owner-local, owner-global, local-global}
use Rattle.placement.specs.Part.{localized}
use Rattle.placement.proofs.IndexLemmas.{length-owned_indices, get_or-owned_indices}
use Rattle.rank_model.specs.Products.{IsRun, Run, answer, answer_part, end_state, end_value, is_home, part_values, reads, term_at}
use Rattle.rank_node.specs.Waits.{AreKnown}
use Rattle.rank_node.specs.Sums.{is_inner, inner_term, outer_term, HaveGrown, sums_of}
use Rattle.rank_node.proofs.ListLemmas.{length-zeros}
use Rattle.rank_node.proofs.SourceLemmas.{own_read}
use Rattle.rank_node.proofs.KnownLemmas.{read_received}

-- a stored element of the run, and that its rank reads it where it has its home there
pub record IsReady (run : Run) (r : ℕ) (e : Entry) : Type 0 where
  row : e.row < length run.place
  col : e.col < length run.place
  read : is_home run r e ≡ true → reads (answer run r) e.col ≡ true

pub all_ready : (run : Run) (r : ℕ) → IsRun run → All (IsReady run r) run.entries
all_ready run r is k d below =
    let e = get_or run.entries k d in
    let inside = is.inside k d below in
    record {
      row = inside.0;
      col = inside.1;
      read = λ home.
          let found = kept (is_home run r) run.entries k d below home in
          list_any_at (λ x. x.col == e.col) (answer run r) found.0 d found.1 (ap (λ x. x.col == e.col) found.2 ∙ eq-eqb e.col e.col refl);
    }

-- a row by the rank's own number
row_test : (run : Run) (r l : ℕ) (e : Entry) → IsRun run → e.row < length run.place → owner_of run.place e.row ≡ r → l < owned_of run.place r →
    (local_of run.place e.row == l) ≡ (e.row == global_of run.place r l)
row_test run r l e is below owner owned =
    elim (cases_eq (local_of run.place e.row) l) [
      | inl same ↦
          let row : e.row ≡ global_of run.place r l = sym (global-owner-local is.placed e.row below) ∙ ap (λ q. global_of run.place q (local_of run.place e.row)) owner ∙ ap (global_of run.place r) same in
          eq-eqb (local_of run.place e.row) l same ∙ sym (eq-eqb e.row (global_of run.place r l) row)
      | inr other ↦
          let apart : e.row ≡ global_of run.place r l → ⊥ = λ row. other (ap (local_of run.place) row ∙ local-global is.placed r l owned) in
          ne_eqb (local_of run.place e.row) l other ∙ sym (ne_eqb e.row (global_of run.place r l) apart)
    ]

-- a stored element with its home at the rank
term_home : (run : Run) (r l : ℕ) (own known : List ℕ) (e : Entry) → IsRun run → own ≡ map (read run.first run.source) (owned_indices run.place r) → AreKnown run r run.ranks known →
    l < owned_of run.place r → IsReady run r e → is_home run r e ≡ true →
    inner_term run.place r own l (localized Row run.place e) + outer_term run.place r known l (localized Row run.place e) ≡ term_at run (global_of run.place r l) e
term_home run r l own known e is own_is are owned ready home =
    let f : ℕ → ℕ = read run.first run.source in
    let owner = eqb-true (owner_of run.place e.row) r home in
    let row = row_test run r l e is ready.row owner owned in
    elim (cases_Bool (is_inner run.place r e)) [
      | inl inner ↦
          let value : get_or own (local_of run.place e.col) 0 ≡ f e.col = own_read run.ranks run.place r e.col f own is.placed own_is ready.col (eqb-true (owner_of run.place e.col) r inner) in
          rw (inner, row, value) (omega arith)
      | inr outer ↦
          let other = eqb-false (owner_of run.place e.col) r outer in
          let value : get_or known e.col 0 ≡ f e.col = are.each (owner_of run.place e.col) e.col (owner-below is.placed e.col ready.col) (read_received run r e.col (ready.read home) other) ready.col in
          rw (outer, row, value) (omega arith)
    ]

-- one with its home elsewhere adds nothing to the rank's rows
term_away : (run : Run) (r l : ℕ) (e : Entry) → IsRun run → l < owned_of run.place r → is_home run r e ≡ false → term_at run (global_of run.place r l) e ≡ 0
term_away run r l e is owned away =
    let apart : e.row ≡ global_of run.place r l → ⊥ = λ row. eqb-false (owner_of run.place e.row) r away (ap (owner_of run.place) row ∙ owner-global is.placed r l owned) in
    rw (ne_eqb e.row (global_of run.place r l) apart) refl

-- over all stored elements
pub sums_split : (run : Run) (r l : ℕ) (own known : List ℕ) (es : List Entry) → IsRun run → own ≡ map (read run.first run.source) (owned_indices run.place r) → AreKnown run r run.ranks known →
    l < owned_of run.place r → All (IsReady run r) es →
    sum_by (inner_term run.place r own l) (map (localized Row run.place) (filter (is_home run r) es)) + sum_by (outer_term run.place r known l) (map (localized Row run.place) (filter (is_home run r) es))
    ≡ sum_by (term_at run (global_of run.place r l)) es
sums_split run r l own known [] is own_is are owned ready = refl
sums_split run r l own known (e ∷ es) is own_is are owned ready =
    let rest = sums_split run r l own known es is own_is are owned (All-tail (IsReady run r) e es ready) in
    let here = All-head (IsReady run r) e es ready in
    let whole = sum_by-cons (term_at run (global_of run.place r l)) e es in
    elim (cases_Bool (is_home run r e)) [
      | inl home ↦
          let first = term_home run r l own known e is own_is are owned here home in
          let inner = sum_by-cons (inner_term run.place r own l) (localized Row run.place e) (map (localized Row run.place) (filter (is_home run r) es)) in
          let outer = sum_by-cons (outer_term run.place r known l) (localized Row run.place e) (map (localized Row run.place) (filter (is_home run r) es)) in
          rw home (omega arith)
      | inr away ↦
          let first = term_away run r l e is owned away in
          rw away (omega arith)
    ]

-- the arithmetic of the two passes, over any modulus
passes : (m v s1 s2 a b : ℕ) → s1 % m ≡ (0 + a) % m → s2 % m ≡ (s1 + b) % m → (v + s2) % m ≡ (v + (a + b)) % m
passes m v s1 s2 a b first second =
    let both : s2 % m ≡ (a + b) % m = second ∙ sym (mod-add-mod s1 m b) ∙ ap (λ x. (x + b) % m) (first ∙ ap (λ x. x % m) (zero-add a)) ∙ mod-add-mod a m b in
    sym (add-mod-mod v s2 m) ∙ ap (λ x. (v + x) % m) both ∙ add-mod-mod v (a + b) m

-- the values of T at the end
pub end_part : (run : Run) (r : ℕ) (own known values s1 s2 : List ℕ) → IsRun run → own ≡ map (read run.first run.source) (owned_indices run.place r) → AreKnown run r run.ranks known →
    values ≡ map (read run.first run.target) (owned_indices run.place r) →
    HaveGrown (inner_term run.place r own) (answer_part run r) (replicate (owned_of run.place r) 0) s1 → HaveGrown (outer_term run.place r known) (answer_part run r) s1 s2 →
    sums_of values s2 ≡ part_values run (end_state run) run.target r
end_part run r own known values s1 s2 is own_is are values_are inner outer =
    let count = owned_of run.place r in
    let long : length values ≡ count = ap length values_are ∙ length-map (owned_indices run.place r) (read run.first run.target) ∙ length-owned_indices run.place r in
    let held : length (run.held run.target r) ≡ count = ap length (is.target_held r) ∙ length-owned_indices run.place r in
    same_lists (sums_of values s2) (part_values run (end_state run) run.target r)
    (length-map-range_with_len _ 0 (length values) ∙ long ∙ sym held ∙ sym (length-map (run.held run.target r) (read (end_state run) run.target)))
    (λ l d below.
    let inside : l < length values = rw (← length-map-range_with_len (λ k. ring_add (get_or values k 0) (get_or s2 k 0)) 0 (length values)) below in
    let owned : l < count = rw (← long) inside in
    let g = global_of run.place r l in
    let g_below : g < length run.place = global-below is.placed r l owned in
    let old : get_or values l 0 ≡ read run.first run.target g = ap (λ xs. get_or xs l 0) values_are ∙ get_or-map (read run.first run.target) (owned_indices run.place r) l 0 0 (rw (length-owned_indices run.place r) owned) ∙ ap (read run.first run.target) (get_or-owned_indices run.place r l) in
    let zeros : get_or (replicate count 0) l 0 ≡ 0 = get_or-replicate count l 0 0 owned in
    let at_first : l < length (replicate count 0) = rw (length-zeros count) owned in
    let first : get_or s1 l 0 % 2 ^ 64 ≡ (0 + sum_by (inner_term run.place r own l) (answer_part run r)) % 2 ^ 64 = inner.sums l at_first ∙ ap (λ a. (a + sum_by (inner_term run.place r own l) (answer_part run r)) % 2 ^ 64) zeros in
    let second = outer.sums l (rw inner.long at_first) in
    let sum = sums_split run r l own known run.entries is own_is are owned (all_ready run r is) in
    let new : get_or (end_state run) run.target [] ≡ map (end_value run) (range_with_len 0 (length run.place)) = get_or-set_same run.first run.target (map (end_value run) (range_with_len 0 (length run.place))) [] is.target in
    let end : read (end_state run) run.target g ≡ end_value run g = ap (λ (xs : List ℕ). get_or xs g 0) new ∙ get_or-map-range_with_len (end_value run) 0 (length run.place) g g 0 g_below (zero-add g) in
    let held_at : get_or (run.held run.target r) l 0 ≡ g = ap (λ xs. get_or xs l 0) (is.target_held r) ∙ get_or-owned_indices run.place r l in
    get_or-map-range_with_len (λ k. ring_add (get_or values k 0) (get_or s2 k 0)) 0 (length values) l l d inside (zero-add l) ∙
    passes (2 ^ 64) (get_or values l 0) (get_or s1 l 0) (get_or s2 l 0) (sum_by (inner_term run.place r own l) (answer_part run r)) (sum_by (outer_term run.place r known l) (answer_part run r)) first second ∙
    ap (λ v. (v + (sum_by (inner_term run.place r own l) (answer_part run r) + sum_by (outer_term run.place r known l) (answer_part run r))) % 2 ^ 64) old ∙
    ap (λ s. (read run.first run.target g + s) % 2 ^ 64) sum ∙ sym end ∙ ap (read (end_state run) run.target) (sym held_at) ∙
    sym (get_or-map (read (end_state run) run.target) (run.held run.target r) l 0 d (rw held owned)))
