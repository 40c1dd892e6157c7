-- The plans of the tests are ways, over any trees with their levels.
use Rattle.std.proofs.Common.{◌≡◌, ℕ, zero, suc, ◌+◌, ◌*◌, ◌/◌, ◌%◌, div-add-mod', mod-lt, ◌<◌, ◌≤◌, ◌==◌, true, false, cond, List, [], ◌∷◌, length, Some, None, refl, sym, ap, ◌∙◌, arith}
use Rattle.std.specs.Prelude.{ℤ, pos, negsuc, ◌≤ℤ◌, ◌<ℤ◌, ◌+ℤ◌, ◌-ℤ◌, ◌*ℤ◌, int_div, int_rem, unsigned_abs, slice_set}
use Rattle.std.specs.Ordering.{int_eq}
use Rattle.std.proofs.lemmas.Bool.{cond-true, ne_eqb}
use Rattle.std.proofs.lemmas.Bool.Decides.{Decides-int_eq}
use Rattle.std.proofs.lemmas.Int.{ints, quot-rem, rem_below}
use Rattle.bern_base.specs.Affine.{IsWithin, number_of}
use Rattle.format_model.specs.Trees.{IsTree, Tree, depth_of, ordered_at}
use Rattle.walks.specs.Conditions.{IsInLoops, IsSettled, IsSolver, IsStep, IsUnused, after_step, is_among, known_at, same, stride_at}
use Rattle.walks.specs.Courses.{Course, node_of}
use Rattle.walks.proofs.Points.{among_every, number-same, or_second, same-at}
use Rattle.walks.proofs.Spans.{between-in_loop}
use Rattle.visits.specs.Ways.{AreNear, HasSlope, IsWay, quotient, seen, stride_in, zero_hit}
use Rattle.visit_cases.specs.Plans.{entries_way, grid_way, pair_way, rows_way}

-- ---- a factor of 1

over_one : (n : ℤ) → int_div n (pos 1) ≡ n
over_one n =
    let whole : int_div n (pos 1) *ℤ pos 1 +ℤ int_rem n (pos 1) ≡ n = quot-rem n (pos 1) in
    let small : unsigned_abs (int_rem n (pos 1)) < 1 = rem_below n (pos 1) (omega arith) in
    omega (arith, ints, whole, small)

quotient_one : (n : ℤ) → quotient (pos 1) n ≡ Some n
quotient_one n =
    ap (λ m. cond (int_eq (pos 1 *ℤ m) n) (Some m) None) (over_one n)
    ∙ cond-true (int_eq (pos 1 *ℤ n) n) (Some n) None ((Decides-int_eq (pos 1 *ℤ n) n).1 (let itself : (pos 1 *ℤ n) ≡ n = omega (arith, ints) in itself))

solved : (p : List ℤ) (v index : ℕ) (x z : ℤ) → v < length p → quotient (pos 1) (pos index -ℤ z) ≡ Some x → (number_of (slice_set p v x) v +ℤ z) ≡ pos index
solved p v index x z inside is =
    let some : Some (pos index -ℤ z) ≡ Some x = sym (quotient_one (pos index -ℤ z)) ∙ is in
    let value : (pos index -ℤ z) ≡ x = cc in
    let read = number-same p v x inside in omega (arith, ints, value, read)

solves : (p : List ℤ) (v index : ℕ) (x z : ℤ) → v < length p → (number_of (slice_set p v x) v +ℤ z) ≡ pos index → quotient (pos 1) (pos index -ℤ z) ≡ Some x
solves p v index x z inside is =
    let read = number-same p v x inside in
    quotient_one (pos index -ℤ z) ∙ ap (λ y. Some y) (let value : (pos index -ℤ z) ≡ x = omega (arith, ints, read, is) in value)

-- ---- unused variables

unused_after : (c : Course) (vs : List ℕ) → c.low 1 ≡ pos 0 → c.low 2 ≡ pos 0 → c.low 3 ≡ pos 0 → c.high 2 ≡ pos 1 → c.high 3 ≡ pos 1 → (is_among 1 vs ≡ true → c.high 1 ≡ pos 1) → is_among 0 vs ≡ false →
    ((v : ℕ) → is_among (suc (suc (suc (suc v)))) vs ≡ false) → (v : ℕ) → is_among v vs ≡ true → IsUnused c zero_hit v
unused_after c vs low_1 low_2 low_3 high_2 high_3 high_1 none past zero among = absurd (let no : true ≡ false = sym among ∙ none in cc)
unused_after c vs low_1 low_2 low_3 high_2 high_3 high_1 none past (suc zero) among = record { low = low_1; high = high_1 among; value = refl }
unused_after c vs low_1 low_2 low_3 high_2 high_3 high_1 none past (suc (suc zero)) among = record { low = low_2; high = high_2; value = refl }
unused_after c vs low_1 low_2 low_3 high_2 high_3 high_1 none past (suc (suc (suc zero))) among = record { low = low_3; high = high_3; value = refl }
unused_after c vs low_1 low_2 low_3 high_2 high_3 high_1 none past (suc (suc (suc (suc v)))) among = absurd (let no : true ≡ false = sym among ∙ past v in cc)

none_past : (v : ℕ) → is_among (suc (suc (suc (suc v)))) (2 ∷ 3 ∷ []) ≡ false
none_past v =
    or_second (2 == suc (suc (suc (suc v)))) (is_among (suc (suc (suc (suc v)))) (3 ∷ [])) (ne_eqb 2 (suc (suc (suc (suc v)))) (λ is. omega (arith, is)))
    ∙ or_second (3 == suc (suc (suc (suc v)))) false (ne_eqb 3 (suc (suc (suc (suc v)))) (λ is. omega (arith, is)))

none_past-1 : (v : ℕ) → is_among (suc (suc (suc (suc v)))) (1 ∷ 2 ∷ 3 ∷ []) ≡ false
none_past-1 v = or_second (1 == suc (suc (suc (suc v)))) (is_among (suc (suc (suc (suc v)))) (2 ∷ 3 ∷ [])) (ne_eqb 1 (suc (suc (suc (suc v)))) (λ is. omega (arith, is))) ∙ none_past v

within_small : (n : ℕ) → n ≤ 6 → IsWithin 4194303 (pos n)
within_small n low = (omega (arith, ints), omega (arith, ints, low))

-- ---- all rows, each searched

abbrev pub rows_course : Tree → Course
rows_course t = seen rows_way (t ∷ [])

rows_solver : (t : Tree) → IsSolver (rows_course t) 0 1 1
rows_solver t = record {
  sound = (λ p index x long is. let whole = solved p 1 index x (pos 0) (omega (arith, long)) is in omega (arith, ints, whole));
  complete = (λ p index x long inside is. solves p 1 index x (pos 0) (omega (arith, long)) (omega (arith, ints, is)));
}

rows_steps : (t : Tree) → depth_of t ≡ 2 → (d : ℕ) → d < 2 → IsStep (rows_course t) (known_at (rows_course t) (2 ∷ 3 ∷ []) d) (stride_at (rows_course t) d)
rows_steps t two zero low = (omega arith, refl)
rows_steps t two (suc zero) low = record {
  variable = omega arith;
  free = refl;
  next = record { reference = omega arith; located = refl; there = omega (arith, two) };
  depends = (λ x y agree. same-at (1 ∷ 0 ∷ 2 ∷ 3 ∷ []) x y agree 1 refl);
  solver = rows_solver t;
}
rows_steps t two (suc (suc d)) low = absurd (omega (arith, low))

rows_due : (t : Tree) → depth_of t ≡ 2 → (d : ℕ) → d < 2 → IsSettled (rows_course t) (suc d) (after_step (known_at (rows_course t) (2 ∷ 3 ∷ []) d) (stride_at (rows_course t) d))
rows_due t two zero low = record {
  tests = (λ x y agree. refl);
  ready = (record { reference = omega arith; located = refl; there = omega (arith, two) }, (λ x y agree. same-at (0 ∷ 2 ∷ 3 ∷ []) x y agree 0 refl), tt);
}
rows_due t two (suc zero) low = record { tests = (λ x y agree. refl); ready = tt }
rows_due t two (suc (suc d)) low = absurd (omega (arith, low))

one_tree : (t : Tree) → IsTree t → (r : ℕ) → r < 1 → IsTree ((rows_course t).tree r)
one_tree t is r low = is

one_located : (t : Tree) → depth_of t ≡ 2 → (r : ℕ) → r < 1 → (known_at (rows_course t) (2 ∷ 3 ∷ []) 2).located r ≡ depth_of ((rows_course t).tree r)
one_located t two zero low = sym two
one_located t two (suc r) low = absurd (omega (arith, low))

all_roots : (r : ℕ) → r < 4 → node_of zero_hit r ≡ 0
all_roots zero low = refl
all_roots (suc zero) low = refl
all_roots (suc (suc zero)) low = refl
all_roots (suc (suc (suc zero))) low = refl
all_roots (suc (suc (suc (suc r)))) low = absurd (omega (arith, low))

rows_near : AreNear rows_way.low rows_way.high
rows_near zero low = (within_small 0 (omega arith), within_small 3 (omega arith))
rows_near (suc zero) low = (within_small 0 (omega arith), within_small 3 (omega arith))
rows_near (suc (suc zero)) low = (within_small 0 (omega arith), within_small 1 (omega arith))
rows_near (suc (suc (suc zero))) low = (within_small 0 (omega arith), within_small 1 (omega arith))
rows_near (suc (suc (suc (suc v)))) low = absurd (omega (arith, low))

rows_slopes : (d : ℕ) → d < 2 → HasSlope rows_way (stride_in rows_way d)
rows_slopes zero low = tt
rows_slopes (suc zero) low = λ is. absurd cc
rows_slopes (suc (suc d)) low = absurd (omega (arith, low))

rows_bound : (v : ℕ) → v < 4 → is_among v (1 ∷ 0 ∷ 2 ∷ 3 ∷ []) ≡ true
rows_bound zero low = refl
rows_bound (suc zero) low = refl
rows_bound (suc (suc zero)) low = refl
rows_bound (suc (suc (suc zero))) low = refl
rows_bound (suc (suc (suc (suc v)))) low = absurd (omega (arith, low))

pub rows_is_way : (t : Tree) → IsTree t → depth_of t ≡ 2 → IsWay rows_way (t ∷ [])
rows_is_way t is two = record {
  course = record {
    references = omega arith;
    trees = one_tree t is;
    starts = record {
      point = refl;
      leaves = refl;
      idle = unused_after (rows_course t) (2 ∷ 3 ∷ []) refl refl refl refl refl (λ among. absurd cc) refl none_past;
      roots = (λ r low. all_roots r (omega (arith, low)));
    };
    settled = record { tests = (λ x y agree. refl); ready = tt };
    steps = rows_steps t two;
    due = rows_due t two;
    done = record { bound = rows_bound; located = one_located t two };
    few = omega arith;
  };
  near = rows_near;
  slopes = rows_slopes;
  some = omega arith;
}

-- ---- the entries, row by row

abbrev pub entries_course : Tree → Course
entries_course t = seen entries_way (t ∷ [])

entries_solver : (t : Tree) (v : ℕ) → v < 4 → IsSolver (entries_course t) 0 v v
entries_solver t v low = record {
  sound = (λ p index x long is. let whole = solved p v index x (pos 0) (omega (arith, long, low)) is in omega (arith, ints, whole));
  complete = (λ p index x long inside is. solves p v index x (pos 0) (omega (arith, long, low)) (omega (arith, ints, is)));
}

entries_steps : (t : Tree) → depth_of t ≡ 2 → (d : ℕ) → d < 2 → IsStep (entries_course t) (known_at (entries_course t) (2 ∷ 3 ∷ []) d) (stride_at (entries_course t) d)
entries_steps t two zero low = record {
  variable = omega arith;
  free = refl;
  next = record { reference = omega arith; located = refl; there = omega (arith, two) };
  depends = (λ x y agree. same-at (0 ∷ 2 ∷ 3 ∷ []) x y agree 0 refl);
  solver = entries_solver t 0 (omega arith);
}
entries_steps t two (suc zero) low = record {
  variable = omega arith;
  free = refl;
  next = record { reference = omega arith; located = refl; there = omega (arith, two) };
  depends = (λ x y agree. same-at (1 ∷ 0 ∷ 2 ∷ 3 ∷ []) x y agree 1 refl);
  solver = entries_solver t 1 (omega arith);
}
entries_steps t two (suc (suc d)) low = absurd (omega (arith, low))

entries_tree : (t : Tree) → IsTree t → (r : ℕ) → r < 1 → IsTree ((entries_course t).tree r)
entries_tree t is r low = is

entries_located : (t : Tree) → depth_of t ≡ 2 → (r : ℕ) → r < 1 → (known_at (entries_course t) (2 ∷ 3 ∷ []) 2).located r ≡ depth_of ((entries_course t).tree r)
entries_located t two zero low = sym two
entries_located t two (suc r) low = absurd (omega (arith, low))

entries_slopes : (d : ℕ) → d < 2 → HasSlope entries_way (stride_in entries_way d)
entries_slopes zero low = λ is. absurd cc
entries_slopes (suc zero) low = λ is. absurd cc
entries_slopes (suc (suc d)) low = absurd (omega (arith, low))

pub entries_is_way : (t : Tree) → IsTree t → depth_of t ≡ 2 → IsWay entries_way (t ∷ [])
entries_is_way t is two = record {
  course = record {
    references = omega arith;
    trees = entries_tree t is;
    starts = record {
      point = refl;
      leaves = refl;
      idle = unused_after (entries_course t) (2 ∷ 3 ∷ []) refl refl refl refl refl (λ among. absurd cc) refl none_past;
      roots = (λ r low. all_roots r (omega (arith, low)));
    };
    settled = record { tests = (λ x y agree. refl); ready = tt };
    steps = entries_steps t two;
    due = (λ d low. record { tests = (λ x y agree. refl); ready = tt });
    done = record { bound = rows_bound; located = entries_located t two };
    few = omega arith;
  };
  near = rows_near;
  slopes = entries_slopes;
  some = omega arith;
}

-- ---- two vectors merged

abbrev pub pair_course : Tree → Tree → Course
pair_course t u = seen pair_way (t ∷ u ∷ [])

pair_trees : (t u : Tree) → IsTree t → IsTree u → (r : ℕ) → r < 2 → IsTree ((pair_course t u).tree r)
pair_trees t u is_t is_u zero low = is_t
pair_trees t u is_t is_u (suc zero) low = is_u
pair_trees t u is_t is_u (suc (suc r)) low = absurd (omega (arith, low))

pair_steps : (t u : Tree) → depth_of t ≡ 1 → depth_of u ≡ 1 → ordered_at t 0 ≡ true → ordered_at u 0 ≡ true → (d : ℕ) → d < 1 →
    IsStep (pair_course t u) (known_at (pair_course t u) (1 ∷ 2 ∷ 3 ∷ []) d) (stride_at (pair_course t u) d)
pair_steps t u one_t one_u up_t up_u zero low = record {
  drive = record {
    variable = omega arith;
    free = refl;
    next = record { reference = omega arith; located = refl; there = omega (arith, one_t) };
    depends = (λ x y agree. ap (λ z. z +ℤ pos 0) (same-at (0 ∷ 1 ∷ 2 ∷ 3 ∷ []) x y agree 0 refl));
    solver = record {
      sound = (λ p index x long is. solved p 0 index x (pos 0) (omega (arith, long)) is);
      complete = (λ p index x long inside is. solves p 0 index x (pos 0) (omega (arith, long)) is);
    };
  };
  two = (λ is. omega (arith, is));
  ready = (record { reference = omega arith; located = refl; there = omega (arith, one_u) }, (λ x y agree. ap (λ z. z +ℤ pos 1) (same-at (0 ∷ 1 ∷ 2 ∷ 3 ∷ []) x y agree 0 refl)), tt);
  can = record {
    left_rises = up_t;
    right_rises = up_u;
    apart = (λ p index x long is. let whole = solved p 0 index x (pos 0) (omega (arith, long)) is in omega (arith, ints, whole));
  };
}
pair_steps t u one_t one_u up_t up_u (suc d) low = absurd (omega (arith, low))

pair_located : (t u : Tree) → depth_of t ≡ 1 → depth_of u ≡ 1 → (r : ℕ) → r < 2 → (known_at (pair_course t u) (1 ∷ 2 ∷ 3 ∷ []) 1).located r ≡ depth_of ((pair_course t u).tree r)
pair_located t u one_t one_u zero low = sym one_t
pair_located t u one_t one_u (suc zero) low = sym one_u
pair_located t u one_t one_u (suc (suc r)) low = absurd (omega (arith, low))

pair_near : AreNear pair_way.low pair_way.high
pair_near zero low = (within_small 0 (omega arith), within_small 6 (omega arith))
pair_near (suc zero) low = (within_small 0 (omega arith), within_small 1 (omega arith))
pair_near (suc (suc zero)) low = (within_small 0 (omega arith), within_small 1 (omega arith))
pair_near (suc (suc (suc zero))) low = (within_small 0 (omega arith), within_small 1 (omega arith))
pair_near (suc (suc (suc (suc v)))) low = absurd (omega (arith, low))

pair_slopes : (d : ℕ) → d < 1 → HasSlope pair_way (stride_in pair_way d)
pair_slopes zero low = λ is. absurd cc
pair_slopes (suc d) low = absurd (omega (arith, low))

pub pair_is_way : (t u : Tree) → IsTree t → IsTree u → depth_of t ≡ 1 → depth_of u ≡ 1 → ordered_at t 0 ≡ true → ordered_at u 0 ≡ true → IsWay pair_way (t ∷ u ∷ [])
pair_is_way t u is_t is_u one_t one_u up_t up_u = record {
  course = record {
    references = omega arith;
    trees = pair_trees t u is_t is_u;
    starts = record {
      point = refl;
      leaves = refl;
      idle = unused_after (pair_course t u) (1 ∷ 2 ∷ 3 ∷ []) refl refl refl refl refl (λ among. refl) refl none_past-1;
      roots = (λ r low. all_roots r (omega (arith, low)));
    };
    settled = record { tests = (λ x y agree. refl); ready = tt };
    steps = pair_steps t u one_t one_u up_t up_u;
    due = (λ d low. record { tests = (λ x y agree. refl); ready = tt });
    done = record { bound = among_every; located = pair_located t u one_t one_u };
    few = omega arith;
  };
  near = pair_near;
  slopes = pair_slopes;
  some = omega arith;
}

-- ---- one packed level that gives two variables

abbrev pub grid_course : Tree → Course
grid_course t = seen grid_way (t ∷ [])

-- the parts of an index whose second part is below 3
parts_are : (a b e : ℕ) → b < 3 → a + a + a + b ≡ e → (e / 3 ≡ a) × (e % 3 ≡ b)
parts_are a b e low is =
    let whole : e / 3 * 3 + e % 3 ≡ e = div-add-mod' e 3 in
    let below : e % 3 < 3 = mod-lt e (omega arith) in
    (omega (arith, whole, below, low, is), omega (arith, whole, below, low, is))

grid_parts : (x y : ℤ) (e : ℕ) → pos 0 ≤ℤ x → pos 0 ≤ℤ y → y <ℤ pos 3 → (x +ℤ x +ℤ x +ℤ y) ≡ pos e → (pos (e / 3) ≡ x) × (pos (e % 3) ≡ y)
grid_parts (pos a) (pos b) e x_low y_low y_high is = let parts = parts_are a b e (omega (arith, ints, y_high)) (omega (arith, ints, is)) in (ap (λ n. pos n) parts.0, ap (λ n. pos n) parts.1)
grid_parts (negsuc a) y e x_low y_low y_high is = absurd (omega (arith, ints, x_low))
grid_parts (pos a) (negsuc b) e x_low y_low y_high is = absurd (omega (arith, ints, y_low))

grid_depends : (t : Tree) (x y : List ℤ) → same (1 ∷ 0 ∷ 2 ∷ 3 ∷ []) x y ≡ true → (grid_course t).index 0 0 x ≡ (grid_course t).index 0 0 y
grid_depends t x y agree =
    let first : number_of x 0 ≡ number_of y 0 = same-at (1 ∷ 0 ∷ 2 ∷ 3 ∷ []) x y agree 0 refl in
    let second : number_of x 1 ≡ number_of y 1 = same-at (1 ∷ 0 ∷ 2 ∷ 3 ∷ []) x y agree 1 refl in
    ap (λ z. z +ℤ z +ℤ z +ℤ number_of x 1) first ∙ ap (λ z. number_of y 0 +ℤ number_of y 0 +ℤ number_of y 0 +ℤ z) second

-- both parts of an index of the box
box_parts : (t : Tree) (x : List ℤ) (e : ℕ) → IsInLoops (grid_course t) x → (grid_course t).index 0 0 x ≡ pos e → (pos (e / 3) ≡ number_of x 0) × (pos (e % 3) ≡ number_of x 1)
box_parts t x e box is =
    let first = between-in_loop (grid_course t) 0 (number_of x 0) (box 0 (omega arith)) in
    let second = between-in_loop (grid_course t) 1 (number_of x 1) (box 1 (omega arith)) in
    grid_parts (number_of x 0) (number_of x 1) e first.low second.low second.high is

grid_steps : (t : Tree) → depth_of t ≡ 1 → (d : ℕ) → d < 1 → IsStep (grid_course t) (known_at (grid_course t) (2 ∷ 3 ∷ []) d) (stride_at (grid_course t) d)
grid_steps t one zero low = (
  record { reference = omega arith; located = refl; there = omega (arith, one) },
  (
    omega arith,
    refl,
    (λ p x e long wide agree box is. ap (λ z. Some z) (box_parts t x e box is).0),
    (omega arith, refl, (λ p x e long wide agree box is. ap (λ z. Some z) (box_parts t x e box is).1), grid_depends t),
  ),
)
grid_steps t one (suc d) low = absurd (omega (arith, low))

grid_slopes : (d : ℕ) → d < 1 → HasSlope grid_way (stride_in grid_way d)
grid_slopes zero low = tt
grid_slopes (suc d) low = absurd (omega (arith, low))

grid_located : (t : Tree) → depth_of t ≡ 1 → (r : ℕ) → r < 1 → (known_at (grid_course t) (2 ∷ 3 ∷ []) 1).located r ≡ depth_of ((grid_course t).tree r)
grid_located t one zero low = sym one
grid_located t one (suc r) low = absurd (omega (arith, low))

pub grid_is_way : (t : Tree) → IsTree t → depth_of t ≡ 1 → IsWay grid_way (t ∷ [])
grid_is_way t is one = record {
  course = record {
    references = omega arith;
    trees = (λ r low. is);
    starts = record {
      point = refl;
      leaves = refl;
      idle = unused_after (grid_course t) (2 ∷ 3 ∷ []) refl refl refl refl refl (λ among. absurd cc) refl none_past;
      roots = (λ r low. all_roots r (omega (arith, low)));
    };
    settled = record { tests = (λ x y agree. refl); ready = tt };
    steps = grid_steps t one;
    due = (λ d low. record { tests = (λ x y agree. refl); ready = tt });
    done = record { bound = rows_bound; located = grid_located t one };
    few = omega arith;
  };
  near = rows_near;
  slopes = grid_slopes;
  some = omega arith;
}
