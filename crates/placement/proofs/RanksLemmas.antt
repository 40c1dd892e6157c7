-- How many ranks the indices have, over the entries so far and over all.
use Rattle.std.proofs.Common.{◌≡◌, ◌≢◌, ℕ, zero, suc, ◌+◌, ◌<◌, ◌≤◌, Bool, true, false, cond, ◌==◌, ◌||◌, ltb, List, [], ◌∷◌, ◌++◌, map, filter, length, get_or, take, All, AllPairs, sym, ap, ◌∙◌, subst, refl, ⊎_elim, arith}
use Rattle.std.proofs.Math.Nat.{zero-add}
use Rattle.std.specs.List.{list_any, range_with_len}
use Rattle.std.proofs.lemmas.Bool.{cond-true, cond-false, cases_lt, cases_order, eq-eqb, ne_eqb, lt-ltb, le-ltb, eqb-false, true≢false}
use Rattle.std.proofs.lemmas.List.{length-append, map-append, take_all, take_more, get_or-take, get_or_default, get_or-map, length-map, length-take-le}
use Rattle.std.proofs.lemmas.List.Kept.{AllPairs-from_increasing}
use Rattle.std.proofs.lemmas.List.Elements.{All-get_or, All-more}
use Rattle.std.proofs.lemmas.List.Filters.{length-filter_more}
use Rattle.std.proofs.lemmas.List.Folds.{list_any-append, list_any_at, list_any_none}
use Rattle.std.proofs.lemmas.List.FromFn.{get_or-range_with_len, length-range_with_len}
use Rattle.std.proofs.lemmas.List.Sorted.{length_permutation}
use Rattle.bern_base.specs.declared.matrix.Entry.{Entry}
use Rattle.bern_base.specs.declared.matrix.Matrix.{Matrix}
use Rattle.bern_base.specs.Matrix.{number, IsInside, IsMatrix}
use Rattle.bern_base.proofs.SumLemmas.{All-range}
use Rattle.placement.specs.PlacementLaws.{range_more}
use Rattle.placement.specs.Listed.{ranks_of, has_no_rank, has_two_ranks}
use Rattle.placement.proofs.PartLemmas.{before}
use Rattle.placement.proofs.ShareLemmas.{by_key, by_key_more, by_key-permutation}

-- some index has no rank
none_at : (entries : List Entry) (extent i : ℕ) → i < extent → ranks_of entries i ≡ 0 → list_any (has_no_rank entries) (range_with_len 0 extent) ≡ true
none_at entries extent i below none =
    let at : get_or (range_with_len 0 extent) i 0 ≡ i = get_or-range_with_len 0 extent i 0 below ∙ zero-add i in
    list_any_at (has_no_rank entries) (range_with_len 0 extent) i 0 (rw (length-range_with_len 0 extent) below) (ap (has_no_rank entries) at ∙ eq-eqb (ranks_of entries i) 0 none)

-- no entry is of an index that none of them has
unranked : (i : ℕ) (entries : List Entry) → ((j : ℕ) (d : Entry) → j < length entries → (get_or entries j d).row ≢ i) → ranks_of entries i ≡ 0
unranked i [] other = refl
unranked i (e ∷ entries) other =
    let head : (e.row == i) ≡ false = ne_eqb e.row i (other 0 e (omega arith)) in
    ap (λ (es : List Entry). length es) (cond-false (e.row == i) (e ∷ filter (λ f. f.row == i) entries) (filter (λ f. f.row == i) entries) head)
    ∙ unranked i entries (λ j d below. other (suc j) d (omega (arith, below)))

-- after the first k entries: each index below `next` has a rank, and none from there on; as long as none has two, they are the first indices
pub record IsReached (entries : List Entry) (k next : ℕ) : Type 0 where
  pub covered : (i : ℕ) → i < next → 0 < ranks_of (take k entries) i
  pub below : All (λ e. e.row < next) (take k entries)
  pub most : next ≤ k
  pub single : next ≡ k → map (λ e. e.row) (take k entries) ≡ range_with_len 0 k

pub reached_none : (entries : List Entry) → IsReached entries 0 0
reached_none entries = record {
  covered = λ i low. absurd (omega (arith, low));
  below = λ j d low. absurd (omega (arith, low));
  most = omega arith;
  single = λ same. refl;
}

-- what has a rank keeps it
kept : (entries : List Entry) (k : ℕ) (d : Entry) → k < length entries → (i : ℕ) → 0 < ranks_of (take k entries) i → 0 < ranks_of (take (k + 1) entries) i
kept entries k d inside i some = omega (arith, length-filter_more (λ e. e.row == i) entries k d inside, some)

gained : (entries : List Entry) (k : ℕ) (d : Entry) → k < length entries → (i : ℕ) → (get_or entries k d).row ≡ i → 0 < ranks_of (take (k + 1) entries) i
gained entries k d inside i here =
    let some : ℕ = 1 in
    let one : cond ((get_or entries k d).row == i) some 0 ≡ some = cond-true ((get_or entries k d).row == i) some 0 (eq-eqb (get_or entries k d).row i here) in
    omega (arith, length-filter_more (λ e. e.row == i) entries k d inside, one)

pub reached_next : (entries : List Entry) (k next : ℕ) (d : Entry) → IsReached entries k next → k < length entries → (get_or entries k d).row ≡ next → IsReached entries (k + 1) (next + 1)
reached_next entries k next d so_far inside here = record {
  covered = λ i low. ⊎_elim
      (λ same. gained entries k d inside i (here ∙ sym same))
      (λ apart. kept entries k d inside i (so_far.covered i (omega (arith, low, ⊎_elim (λ (l : i < next). l) (λ (m : next < i). absurd (omega (arith, low, m))) apart))))
      (cases_order i next);
  below = All-more (λ e. e.row < next + 1) entries k d inside (λ j e low. let old = so_far.below j e low in omega (arith, old)) (omega (arith, here));
  most = omega (arith, so_far.most);
  single = λ same.
      let before : map (λ e. e.row) (take k entries) ≡ range_with_len 0 k = so_far.single (omega (arith, same)) in
      let last : (get_or entries k d).row ≡ k = here ∙ omega (arith, same) in
      ap (map (λ e. e.row)) (take_more entries k d inside) ∙ map-append (λ e. e.row) (take k entries) (get_or entries k d ∷ [])
      ∙ ap (λ is. is ++ (get_or entries k d).row ∷ []) before ∙ ap (λ i. range_with_len 0 k ++ i ∷ []) last ∙ sym (range_more k);
}

pub reached_same : (entries : List Entry) (k next : ℕ) (d : Entry) → IsReached entries k next → k < length entries → (get_or entries k d).row < next → IsReached entries (k + 1) next
reached_same entries k next d so_far inside low = record {
  covered = λ i less. kept entries k d inside i (so_far.covered i less);
  below = All-more (λ e. e.row < next) entries k d inside so_far.below low;
  most = omega (arith, so_far.most);
  single = λ same. absurd (omega (arith, so_far.most, same));
}

length_before : (entries : List Entry) (j k : ℕ) → j < k → k < length entries → j < length (take k entries)
length_before entries j k before inside = omega (arith, before, inside, length-take-le k entries (omega (arith, inside)))

-- an entry of a later index: none before it has the next index, and none after it
pub gap_found : (entries : List Entry) (extent k next : ℕ) (d : Entry) → All (λ e. e.row < extent) entries → AllPairs (λ e f. e.row ≤ f.row) entries →
    IsReached entries k next → k < length entries → next < (get_or entries k d).row → list_any (has_no_rank entries) (range_with_len 0 extent) ≡ true
gap_found entries extent k next d inside rising so_far within up =
    let low : (get_or entries k d).row < extent = All-get_or (λ e. e.row < extent) entries k d within inside in
    none_at entries extent next (omega (arith, low, up))
    (unranked next entries (λ j f place same. ⊎_elim
    (λ before. let early : (get_or (take k entries) j f).row < next = so_far.below j f (length_before entries j k before within) in
    let here : get_or (take k entries) j f ≡ get_or entries j f = get_or-take k entries j f before in omega (arith, early, ap (λ (e : Entry). e.row) here, same))
    (λ after. ⊎_elim
    (λ (one : j ≡ k). let at : get_or entries j f ≡ get_or entries k d = ap (λ n. get_or entries n f) one ∙ get_or_default entries k f d within in omega (arith, ap (λ (e : Entry). e.row) at, up, same))
    (λ apart. let later : (get_or entries k f).row ≤ (get_or entries j f).row = rising k j f (⊎_elim (λ (l : j < k). absurd (omega (arith, l, after))) (λ (m : k < j). m) apart) place in
    let at : get_or entries k f ≡ get_or entries k d = get_or_default entries k f d within in omega (arith, later, ap (λ (e : Entry). e.row) at, up, same))
    (cases_order j k))
    (cases_lt j k)))

-- the entries end before the last index
pub gap_left : (entries : List Entry) (extent next : ℕ) → IsReached entries (length entries) next → next < extent → list_any (has_no_rank entries) (range_with_len 0 extent) ≡ true
gap_left entries extent next so_far left =
    none_at entries extent next left
    (unranked next entries (λ j d within same.
    let all : take (length entries) entries ≡ entries = take_all (length entries) entries (omega arith) in
    let below : (get_or entries j d).row < next = subst (λ es. All (λ e. e.row < next) es) all so_far.below j d within in
    omega (arith, below, same)))

pub no_gap : (entries : List Entry) (extent next : ℕ) → IsReached entries (length entries) next → extent ≤ next → list_any (has_no_rank entries) (range_with_len 0 extent) ≡ false
no_gap entries extent next so_far past =
    list_any_none (has_no_rank entries) (range_with_len 0 extent)
    (All-range (λ i. has_no_rank entries i ≡ false) extent
    (λ i below.
    let some : 0 < ranks_of entries i = subst (λ es. 0 < ranks_of es i) (take_all (length entries) entries (omega arith)) (so_far.covered i (omega (arith, below, past))) in
    ne_eqb (ranks_of entries i) 0 (λ none. omega (arith, some, none))))

-- as many entries as indices, and each index has one: they are the indices
pub all_single : (entries : List Entry) (extent next : ℕ) → IsReached entries (length entries) next → extent ≤ next → length entries ≤ extent → map (λ e. e.row) entries ≡ range_with_len 0 extent
all_single entries extent next so_far past few =
    ap (map (λ e. e.row)) (sym (take_all (length entries) entries (omega arith))) ∙ so_far.single (omega (arith, so_far.most, past, few))
    ∙ ap (range_with_len 0) (omega (arith, so_far.most, past, few))

-- the entries of the indices below n
counted : List Entry → ℕ → ℕ
counted entries n = length (by_key (λ e. e.row) n entries)

counted_more : (entries : List Entry) (n : ℕ) → counted entries (n + 1) ≡ counted entries n + ranks_of entries n
unfolding counted
counted_more entries n =
    ap (λ (es : List Entry). length es) (sym (by_key_more (λ e. e.row) n entries)) ∙ length-append (by_key (λ e. e.row) n entries) (filter (λ e. e.row == n) entries)

any_more : (p : ℕ → Bool) (n : ℕ) → list_any p (range_with_len 0 (n + 1)) ≡ (list_any p (range_with_len 0 n) || (p n || false))
any_more p n = ap (list_any p) (range_more n) ∙ list_any-append p (range_with_len 0 n) (n ∷ [])

both_false : (a b : Bool) → (a || (b || false)) ≡ false → (a ≡ false) × (b ≡ false)
both_false true b none = absurd (true≢false none)
both_false false true none = absurd (true≢false none)
both_false false false none = (refl, refl)

-- at least one entry for each of them; and more than one for each exactly where some index has two
record IsCrowdedSoFar (entries : List Entry) (n : ℕ) : Type 0 where
  least : n ≤ counted entries n
  two : ltb n (counted entries n) ≡ list_any (has_two_ranks entries) (range_with_len 0 n)

positive : (n : ℕ) → (n ≡ 0 → ⊥) → 0 < n
positive zero some = absurd (some refl)
positive (suc n) some = omega arith

-- n is below a sum of n or more and one or more: the first is more than n, or the second more than one
either : (n most here sum : ℕ) → n ≤ most → 0 < here → sum ≡ most + here → (ltb n most || (ltb 1 here || false)) ≡ ltb (n + 1) sum
either n most here sum least some is = ⊎_elim
    (λ above. ap (λ b. b || (ltb 1 here || false)) (lt-ltb n most above) ∙ sym (lt-ltb (n + 1) sum (omega (arith, above, some, is))))
    (λ equal. ap (λ b. b || (ltb 1 here || false)) (le-ltb n most equal) ∙ ⊎_elim
    (λ two. ap (λ b. b || false) (lt-ltb 1 here two) ∙ sym (lt-ltb (n + 1) sum (omega (arith, two, is, least))))
    (λ one. ap (λ b. b || false) (le-ltb 1 here one) ∙ sym (le-ltb (n + 1) sum (omega (arith, one, is, equal))))
    (cases_lt 1 here))
    (cases_lt n most)

crowded_more : (entries : List Entry) (n : ℕ) → IsCrowdedSoFar entries n → 0 < ranks_of entries n → IsCrowdedSoFar entries (n + 1)
crowded_more entries n so_far some = record {
  least = omega (arith, so_far.least, counted_more entries n, some);
  two = sym (any_more (has_two_ranks entries) n ∙ ap (λ b. b || (ltb 1 (ranks_of entries n) || false)) (sym so_far.two)
      ∙ either n (counted entries n) (ranks_of entries n) (counted entries (n + 1)) so_far.least some (counted_more entries n));
}

crowded : (entries : List Entry) (n : ℕ) → list_any (has_no_rank entries) (range_with_len 0 n) ≡ false → IsCrowdedSoFar entries n
unfolding counted
crowded entries zero whole = record { least = omega arith; two = refl }
crowded entries (suc n) whole =
    let same : n + 1 ≡ suc n = omega arith in
    let parts = both_false (list_any (has_no_rank entries) (range_with_len 0 n)) (has_no_rank entries n) (sym (any_more (has_no_rank entries) n) ∙ ap (λ m. list_any (has_no_rank entries) (range_with_len 0 m)) same ∙ whole) in
    let some : 0 < ranks_of entries n = positive (ranks_of entries n) (eqb-false (ranks_of entries n) 0 parts.1) in
    subst (IsCrowdedSoFar entries) same (crowded_more entries n (crowded entries n parts.0) some)

pub crowd : (entries : List Entry) (extent : ℕ) → All (λ e. e.row < extent) entries → list_any (has_no_rank entries) (range_with_len 0 extent) ≡ false →
    ltb extent (length entries) ≡ list_any (has_two_ranks entries) (range_with_len 0 extent)
unfolding counted
crowd entries extent inside whole =
    let all : counted entries extent ≡ length entries = length_permutation entries (by_key (λ e. e.row) extent entries) (by_key-permutation (λ e. e.row) extent entries inside) in
    ap (ltb extent) (sym all) ∙ (crowded entries extent whole).two

-- the rows of a matrix' entries rise, not strictly
pub rows-rise : (m : Matrix) → IsMatrix m → AllPairs (λ e f. e.row ≤ f.row) m.entries
rows-rise m is i j d up within =
    let early : i < length m.entries = omega (arith, up, within) in
    let first = All-get_or (IsInside m.rows m.cols) m.entries i d early is.inside in
    let second = All-get_or (IsInside m.rows m.cols) m.entries j d within is.inside in
    let e : Entry = get_or m.entries i d in
    let f : Entry = get_or m.entries j d in
    let numbers : get_or (map (number m.cols) m.entries) i 0 < get_or (map (number m.cols) m.entries) j 0 =
    AllPairs-from_increasing (map (number m.cols) m.entries) is.rising i j 0 up (rw (length-map m.entries (number m.cols)) within) in
    let rise : number m.cols e < number m.cols f = omega (arith, numbers, get_or-map (number m.cols) m.entries i d 0 early, get_or-map (number m.cols) m.entries j d 0 within) in
    ⊎_elim (λ less. omega (arith, less)) (λ (same, less). omega (arith, same)) (before e.row e.col f.row f.col m.cols first.1 second.1 rise)
