-- Lists that name each of so many rows once, by numbers from 1.
use Rattle.std.proofs.Common.{◌≡◌, ◌≢◌, ℕ, zero, suc, ◌+◌, ◌-◌, ◌*◌, ◌<◌, ◌≤◌, Bool, true, false, cond, ◌==◌, List, [], ◌∷◌, ◌++◌, length, take, drop, get_or, set, Some, None, ⊎_elim, refl, sym, ap, ◌∙◌, subst, arith, get_or-set_same, get_or-set_other}
use Rattle.std.specs.Prelude.{if◌then◌else◌}
use Rattle.std.specs.List.{All, count_by, range_with_len, remove, sum_by}
use Rattle.std.specs.List.Sorted.{IsPermutation}
use Rattle.std.proofs.lemmas.Bool.{and_parts, cases_eq, cases_lt, eq-eqb, false_from_ne_true, ne_eqb}
use Rattle.std.proofs.lemmas.Bool.Decides.{Decides-eqb, same_from_decides}
use Rattle.std.proofs.lemmas.List.{get_or_read, map_more, take-append-drop}
use Rattle.std.proofs.lemmas.List.Elements.{All-cons, All-head, All-nil, All-tail}
use Rattle.std.proofs.lemmas.List.Folds.{list_all_at}
use Rattle.std.proofs.lemmas.List.FromFn.{get_or-range_with_len, length-map-range_with_len, length-range_with_len}
use Rattle.std.proofs.lemmas.List.Sorted.{IsPermutation-cons, IsPermutation-refl, IsPermutation-remove, IsPermutation-sym, IsPermutation-trans, sum_by-IsPermutation}
use Rattle.std.proofs.lemmas.List.Sums.{AllPass-from_list_all, count_by_more_no, count_by_more_yes, list_all-from_AllPass, sum_by-append, sum_by-cons}
use Rattle.bern_base.specs.Matrix.{element, values_of}
use Rattle.bern_base.specs.declared.matrix.Matrix.{Matrix}
use Rattle.bern_base.specs.declared.refusal.Rule.TheVariants.{F1, F3}
use Rattle.bern_base.proofs.SumLemmas.{All-range, sum_by-map, sum_by-swap, sum_by_agree, sum_by_none, sum_by_one}
use Rattle.format_model.specs.Checks.{has_sizes, sizes_rule}
use Rattle.formats.specs.FileRules.{is_listed_once, lists_each_row, listing_rule, order_in}

-- a value names a row
abbrev pub IsNumber : ℕ → ℕ → Type 0
IsNumber rows v = (1 ≤ v) × (v ≤ rows)

-- 1 where a value names this row
abbrev named : ℕ → ℕ → ℕ
named row v = cond (v == row + 1) 1 0

-- how many positions name a row
abbrev pub times : List ℕ → ℕ → ℕ
times values row = count_by (λ v. v == row + 1) values

-- how many rows a value names
abbrev names : ℕ → ℕ → ℕ
names rows v = sum_by (λ row. named row v) (range_with_len 0 rows)

named_not : (row v : ℕ) → v ≢ row + 1 → named row v ≡ 0
named_not row v apart = ap (λ b. cond b 1 0) (ne_eqb v (row + 1) apart)

names_one : (rows v : ℕ) → IsNumber rows v → names rows v ≡ 1
names_one rows v is =
    sum_by_one (λ row. named row v) rows (v - 1) (omega (arith, is.0, is.1)) (λ row below apart. named_not row v (λ same. apart (omega (arith, same, is.0))))
    ∙ ap (λ b. cond b 1 0) (eq-eqb v (v - 1 + 1) (omega (arith, is.0)))

names_none : (rows v : ℕ) → (IsNumber rows v → ⊥) → names rows v ≡ 0
names_none rows v out =
    sum_by_none (λ row. named row v) (range_with_len 0 rows)
    (All-range (λ row. named row v ≡ 0) rows (λ row below. named_not row v (λ same. out (omega (arith, same), omega (arith, same, below)))))

names_few : (rows v : ℕ) → names rows v ≤ 1
names_few rows v = ⊎_elim
    (λ some. ⊎_elim (λ past. none (λ is. omega (arith, is.1, past))) (λ within. let one = names_one rows v (omega (arith, some), within) in omega (arith, one)) (cases_lt rows v))
    (λ zero. none (λ is. omega (arith, is.0, zero)))
    (cases_lt 0 v)
  where
    none : (IsNumber rows v → ⊥) → names rows v ≤ 1
    none out = let no = names_none rows v out in omega (arith, no)

-- what all rows have is what all positions give
both_ways : (rows : ℕ) (values : List ℕ) → sum_by (times values) (range_with_len 0 rows) ≡ sum_by (names rows) values
both_ways rows values = sum_by-swap named (range_with_len 0 rows) values

ones : {X : Type 0} (xs : List X) → sum_by (λ x. 1) xs ≡ length xs
ones [] = refl
ones (x ∷ xs) = sum_by-cons (λ y. 1) x xs ∙ ap (λ n. 1 + n) (ones xs) ∙ omega arith

at_most : (f : ℕ → ℕ) (xs : List ℕ) → ((x : ℕ) → f x ≤ 1) → sum_by f xs ≤ length xs
at_most f [] few = omega arith
at_most f (x ∷ xs) few =
    let one = few x in let more = at_most f xs few in let sum = sum_by-cons f x xs in omega (arith, one, more, sum)

-- a sum of as many ones or zeros as it comes to is of ones
full : (f : ℕ → ℕ) (xs : List ℕ) → All (λ x. f x ≤ 1) xs → length xs ≤ sum_by f xs → (sum_by f xs ≤ length xs) × All (λ x. f x ≡ 1) xs
full f [] few long = (omega arith, All-nil (λ x. f x ≡ 1))
full f (x ∷ xs) few long =
    let one = All-head (λ y. f y ≤ 1) x xs few in
    let sum = sum_by-cons f x xs in
    let within : sum_by f xs ≤ length xs = bound xs (All-tail (λ y. f y ≤ 1) x xs few) in
    let rest = full f xs (All-tail (λ y. f y ≤ 1) x xs few) (omega (arith, one, sum, long)) in
    (omega (arith, one, sum, within), All-cons (λ y. f y ≡ 1) x xs (omega (arith, one, sum, long, within)) rest.1)
  where
    bound : (ys : List ℕ) → All (λ y. f y ≤ 1) ys → sum_by f ys ≤ length ys
    bound [] few = omega arith
    bound (y ∷ ys) few =
        let one = All-head (λ z. f z ≤ 1) y ys few in
        let more = bound ys (All-tail (λ z. f z ≤ 1) y ys few) in
        let sum = sum_by-cons f y ys in omega (arith, one, more, sum)

-- a sum with a zero does not come to as much
short : (f : ℕ → ℕ) (xs : List ℕ) (i d : ℕ) → ((x : ℕ) → f x ≤ 1) → i < length xs → f (get_or xs i d) ≡ 0 → sum_by f xs < length xs
short f [] i d few below none = absurd (omega (arith, below))
short f (x ∷ xs) zero d few below none = let more = at_most f xs few in let sum = sum_by-cons f x xs in omega (arith, more, sum, none)
short f (x ∷ xs) (suc i) d few below none =
    let one = few x in let more = short f xs i d few (omega (arith, below)) none in let sum = sum_by-cons f x xs in omega (arith, one, more, sum)

-- each row is named once
abbrev NamesEachOnce : ℕ → List ℕ → Type 0
NamesEachOnce rows values = All (λ row. times values row ≡ 1) (range_with_len 0 rows)

each_once : (rows : ℕ) (values : List ℕ) → length values ≡ rows → All (IsNumber rows) values → ((row : ℕ) → row < rows → times values row ≤ 1) → NamesEachOnce rows values
each_once rows values long are few =
    let sum : sum_by (times values) (range_with_len 0 rows) ≡ length values =
    both_ways rows values ∙ sum_by_agree (names rows) (λ v. 1) values (λ k d below. names_one rows (get_or values k d) (are k d below)) ∙ ones values in
    (full (times values) (range_with_len 0 rows) (All-range (λ row. times values row ≤ 1) rows few) (omega (arith, sum, long, length-range_with_len 0 rows))).1

rule_none : (rows : ℕ) (values : List ℕ) → NamesEachOnce rows values → listing_rule rows values ≡ None
rule_none rows values each =
    ap (λ b. if b then None else Some F3)
    (list_all-from_AllPass (is_listed_once values) (range_with_len 0 rows) (λ k d below. eq-eqb (times values (get_or (range_with_len 0 rows) k d)) 1 (each k d below)))

rule_broken : (rows : ℕ) (values : List ℕ) → lists_each_row rows values ≡ false → listing_rule rows values ≡ Some F3
rule_broken rows values broken = ap (λ b. if b then None else Some F3) broken

-- a value that names no row
pub no_number : (rows : ℕ) (values : List ℕ) (i v : ℕ) → length values ≡ rows → i < length values → v ≡ get_or values i v → (IsNumber rows v → ⊥) → listing_rule rows values ≡ Some F3
no_number rows values i v long below is out = rule_broken rows values (false_from_ne_true (lists_each_row rows values) (λ each. no each))
  where
    no : lists_each_row rows values ≡ true → ⊥
    no each =
        let all : NamesEachOnce rows values = λ k d under. (Decides-eqb (times values (get_or (range_with_len 0 rows) k d)) 1).0 (AllPass-from_list_all (is_listed_once values) (range_with_len 0 rows) each k d under) in
        let sum : sum_by (times values) (range_with_len 0 rows) ≡ length (range_with_len 0 rows) = sum_by_agree (times values) (λ row. 1) (range_with_len 0 rows) all ∙ ones (range_with_len 0 rows) in
        let none : names rows (get_or values i v) ≡ 0 = ap (names rows) (sym is) ∙ names_none rows v out in
        let less = short (names rows) values i v (names_few rows) below none in
        let same = both_ways rows values in
        omega (arith, sum, less, same, long, length-range_with_len 0 rows)

count_front : (p : ℕ → Bool) (n : ℕ) (xs : List ℕ) → count_by p (take n xs) ≤ count_by p xs
count_front p n xs =
    let parts : count_by p xs ≡ count_by p (take n xs) + count_by p (drop n xs) =
    ap (count_by p) (sym (take-append-drop n xs)) ∙ sum_by-append (λ x. cond (p x) 1 0) (take n xs) (drop n xs) in
    omega (arith, parts)

-- the marks tell which rows these values name, and none is named twice
abbrev pub AreListed : ℕ → List ℕ → List Bool → Type 0
AreListed rows values marks = (row : ℕ) → row < rows → times values row ≡ cond (get_or marks row false) 1 0

-- a row that was named before is named again
pub named_twice : (rows : ℕ) (values : List ℕ) (marks : List Bool) (i v row : ℕ) → i < length values → v ≡ get_or values i v → v ≡ row + 1 → row + 1 ≤ rows →
    AreListed rows (take i values) marks → get_or marks row false ≡ true → listing_rule rows values ≡ Some F3
named_twice rows values marks i v row below is named_as within listed marked =
    let first : times (take i values) row ≡ 1 = listed row (omega (arith, within)) ∙ ap (λ b. cond b 1 0) marked in
    let again : times (take (i + 1) values) row ≡ times (take i values) row + 1 =
    count_by_more_yes (λ x. x == row + 1) values i v below (eq-eqb (get_or values i v) (row + 1) (sym is ∙ named_as)) in
    let all = count_front (λ x. x == row + 1) (i + 1) values in
    rule_broken rows values
    (list_all_at (is_listed_once values) (range_with_len 0 rows) row 0 (omega (arith, length-range_with_len 0 rows, within))
    (ap (is_listed_once values) (get_or-range_with_len 0 rows row 0 (omega (arith, within)) ∙ omega arith) ∙ ne_eqb (times values row) 1 (λ one. omega (arith, one, all, again, first))))

-- one more row is named
pub listed_more : (rows : ℕ) (values : List ℕ) (marks : List Bool) (i v row : ℕ) → i < length values → v ≡ get_or values i v → v ≡ row + 1 → row + 1 ≤ rows → length marks ≡ rows →
    AreListed rows (take i values) marks → get_or marks row false ≡ false → AreListed rows (take (i + 1) values) (set marks row true)
listed_more rows values marks i v row below is named_as within long listed new other under = ⊎_elim
    (λ (here : other ≡ row).
    let more : times (take (i + 1) values) other ≡ times (take i values) other + 1 =
    count_by_more_yes (λ x. x == other + 1) values i v below (eq-eqb (get_or values i v) (other + 1) (sym is ∙ named_as ∙ ap (λ r. r + 1) (sym here))) in
    let none : times (take i values) other ≡ 0 = listed other under ∙ ap (λ r. cond (get_or marks r false) 1 0) here ∙ ap (λ b. cond b 1 0) new in
    (more ∙ ap (λ n. n + 1) none ∙ omega arith) ∙ sym (ap (λ b. cond b 1 0) (ap (λ r. get_or (set marks row true) r false) here ∙ get_or-set_same marks row true false (omega (arith, long, within)))))
    (λ (apart : other ≡ row → ⊥).
    count_by_more_no (λ x. x == other + 1) values i v below (ne_eqb (get_or values i v) (other + 1) (λ same. apart (let next : v ≡ other + 1 = is ∙ same in omega (arith, next, named_as))))
    ∙ listed other under ∙ ap (λ b. cond b 1 0) (sym (get_or-set_other marks row other true false apart)))
    (cases_eq other row)

-- one more row in the order
pub order_more : (values order : List ℕ) (i v row : ℕ) → i < length values → v ≡ get_or values i v → v ≡ row + 1 → order ≡ order_in (take i values) → order ++ row ∷ [] ≡ order_in (take (i + 1) values)
order_more values order i v row below is named_as so_far =
    let here : row ≡ get_or values i v - 1 = omega (arith, named_as, is) in
    ap (λ rs. rs ++ row ∷ []) so_far ∙ ap (λ r. order_in (take i values) ++ r ∷ []) here ∙ sym (map_more (λ x. x - 1) values i v below)

-- one more value names a row
pub numbers_more : (rows : ℕ) (values : List ℕ) (i v row : ℕ) → i < length values → v ≡ get_or values i v → v ≡ row + 1 → row + 1 ≤ rows → ((k d : ℕ) → k < i → IsNumber rows (get_or values k d)) →
    (k d : ℕ) → k < i + 1 → IsNumber rows (get_or values k d)
numbers_more rows values i v row below is named_as within before k d under = ⊎_elim
    (λ less. before k d less)
    (λ most.
    let here : k ≡ i = omega (arith, most, under) in
    let same : v ≡ get_or values k d = get_or_read values i v below is d ∙ ap (λ j. get_or values j d) (sym here) in
    subst (IsNumber rows) same (omega (arith, named_as), omega (arith, named_as, within)))
    (cases_lt k i)

-- how many numbers of a list are this one
abbrev count : ℕ → List ℕ → ℕ
count n xs = count_by (λ x. x == n) xs

-- a number that is counted stands somewhere
stands : (n : ℕ) (xs : List ℕ) → 0 < count n xs → (i : ℕ) × (i < length xs) × (n ≡ get_or xs i n)
stands n [] some = absurd (omega (arith, some))
stands n (x ∷ xs) some = at (x == n) refl (stands n xs)
  where
    at : (b : Bool) → (x == n) ≡ b → (0 < count n xs → (i : ℕ) × (i < length xs) × (n ≡ get_or xs i n)) → (i : ℕ) × (i < length (x ∷ xs)) × (n ≡ get_or (x ∷ xs) i n)
    at true same later = (0, omega arith, sym ((Decides-eqb x n).0 same))
    at false other later =
        let rest : count n (x ∷ xs) ≡ 0 + count n xs = sum_by-cons (λ y. cond (y == n) 1 0) x xs ∙ ap (λ b. cond b 1 0 + count n xs) other in
        let there = later (omega (arith, some, rest)) in (suc there.0, omega (arith, there.1), there.2)

-- lists that have each number as often are orders of one another
same_counts : (xs ys : List ℕ) → ((n : ℕ) → count n xs ≡ count n ys) → IsPermutation xs ys
same_counts [] [] same = IsPermutation-refl []
same_counts [] (y ∷ ys) same =
    let some : count y (y ∷ ys) ≡ 1 + count y ys = sum_by-cons (λ x. cond (x == y) 1 0) y ys ∙ ap (λ b. cond b 1 0 + count y ys) (eq-eqb y y refl) in
    let none = same y in absurd (omega (arith, some, none))
same_counts (x ∷ xs) ys same =
    let some : count x (x ∷ xs) ≡ 1 + count x xs = sum_by-cons (λ y. cond (y == x) 1 0) x xs ∙ ap (λ b. cond b 1 0 + count x xs) (eq-eqb x x refl) in
    let first = same x in
    let there = stands x ys (omega (arith, some, first)) in
    let rest : List ℕ = remove ys there.0 in
    let moved : IsPermutation ys (x ∷ rest) = IsPermutation-remove ys there.0 x there.1 there.2 in
    let counts : (n : ℕ) → count n xs ≡ count n rest = λ n.
    let all = sum_by-IsPermutation (λ y. cond (y == n) 1 0) ys (x ∷ rest) moved in
    let left = sum_by-cons (λ y. cond (y == n) 1 0) x xs in
    let right = sum_by-cons (λ y. cond (y == n) 1 0) x rest in
    let both = same n in omega (arith, all, left, right, both) in
    IsPermutation-trans (x ∷ xs) (x ∷ rest) ys (IsPermutation-cons x xs rest (same_counts xs rest counts)) (IsPermutation-sym ys (x ∷ rest) moved)

one_less : (v n : ℕ) → 1 ≤ v → (v - 1 == n) ≡ (v == n + 1)
one_less v n some = same_from_decides (v - 1 == n) (v == n + 1) (Decides-eqb (v - 1) n) (λ same. let is = (Decides-eqb v (n + 1)).0 same in omega (arith, is), λ same. eq-eqb v (n + 1) (omega (arith, same, some)))

-- how often a row stands in an order, and among all rows
order_count : (rows : ℕ) (values : List ℕ) (n : ℕ) → All (IsNumber rows) values → count n (order_in values) ≡ times values n
order_count rows values n are =
    sum_by-map (λ x. cond (x == n) 1 0) (λ v. v - 1) values
    ∙ sum_by_agree (λ v. cond (v - 1 == n) 1 0) (λ v. cond (v == n + 1) 1 0) values (λ k d below. ap (λ b. cond b 1 0) (one_less (get_or values k d) n (are k d below).0))

row_count : (rows n : ℕ) → n < rows → count n (range_with_len 0 rows) ≡ 1
row_count rows n below =
    sum_by_one (λ x. cond (x == n) 1 0) rows n below (λ j under apart. ap (λ b. cond b 1 0) (ne_eqb j n apart)) ∙ ap (λ b. cond b 1 0) (eq-eqb n n refl)

no_row_count : (rows n : ℕ) → rows ≤ n → count n (range_with_len 0 rows) ≡ 0
no_row_count rows n past =
    let f : ℕ → ℕ = λ x. cond (x == n) 1 0 in
    sum_by_none f (range_with_len 0 rows) (All-range (λ x. f x ≡ 0) rows (λ j under. ap (λ b. cond b 1 0) (ne_eqb j n (λ same. omega (arith, same, under, past)))))

no_times : (rows : ℕ) (values : List ℕ) (n : ℕ) → All (IsNumber rows) values → rows ≤ n → times values n ≡ 0
no_times rows values n are past =
    sum_by_none (λ v. cond (v == n + 1) 1 0) values (λ k d below. ap (λ b. cond b 1 0) (ne_eqb (get_or values k d) (n + 1) (λ same. let most = (are k d below).1 in omega (arith, same, most, past))))

-- all values name rows, and none is named twice
pub all_listed : (rows : ℕ) (values : List ℕ) (marks : List Bool) → length values ≡ rows → All (IsNumber rows) values → AreListed rows values marks →
    (listing_rule rows values ≡ None) × IsPermutation (range_with_len 0 rows) (order_in values)
all_listed rows values marks long are listed =
    let each : NamesEachOnce rows values = each_once rows values long are (λ row below. few (get_or marks row false) (times values row) (listed row below)) in
    let once : (row : ℕ) → row < rows → times values row ≡ 1 = λ row below.
    sym (ap (times values) (get_or-range_with_len 0 rows row 0 below ∙ omega arith)) ∙ each row 0 (omega (arith, length-range_with_len 0 rows, below)) in (
      rule_none rows values each,
      same_counts (range_with_len 0 rows) (order_in values) (λ n. ⊎_elim
          (λ below. row_count rows n below ∙ sym (order_count rows values n are ∙ once n below))
          (λ past. no_row_count rows n past ∙ sym (order_count rows values n are ∙ no_times rows values n are past))
          (cases_lt n rows)),
    )
  where
    few : (b : Bool) (n : ℕ) → n ≡ cond b 1 0 → n ≤ 1
    few true n is = omega (arith, is)
    few false n is = omega (arith, is)

-- a matrix of the sizes that are wanted
pub sizes_kept : (rows cols : ℕ) (m : Matrix) → None ≡ sizes_rule rows cols m → (m.rows ≡ rows) × (m.cols ≡ cols)
sizes_kept rows cols m is = at (has_sizes rows cols m) refl is
  where
    at : (same : Bool) → has_sizes rows cols m ≡ same → None ≡ (if same then None else Some F1) → (m.rows ≡ rows) × (m.cols ≡ cols)
    at true both is = let parts = and_parts (m.rows == rows) (m.cols == cols) both in ((Decides-eqb m.rows rows).0 parts.0, (Decides-eqb m.cols cols).0 parts.1)
    at false both is = absurd cc

-- a column has as many values as rows
pub values_long : (rows : ℕ) (m : Matrix) → None ≡ sizes_rule rows 1 m → length (values_of m) ≡ rows
values_long rows m is =
    let sizes = sizes_kept rows 1 m is in
    length-map-range_with_len (element m.cols m.entries) 0 (m.rows * m.cols) ∙ ap (λ r. r * m.cols) sizes.0 ∙ ap (λ c. rows * c) sizes.1 ∙ omega arith
