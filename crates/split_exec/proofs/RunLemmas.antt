-- The runs of a visit, their hits, and sums that grow by pieces.
use Rattle.std.proofs.Common.{◌≡◌, ◌∙◌, ℕ, zero, suc, ◌+◌, ◌-◌, ◌*◌, ◌%◌, ◌^◌, ◌<◌, ◌≤◌, ◌==◌, ◌&&◌, Bool, true, false, cond, List, [], ◌∷◌, ◌++◌, drop, get_or, length, map, Option, Some, None, ℤ, pos, ◌-ℤ◌, ◌≤ℤ◌, ◌<ℤ◌, refl, sym, ap, subst, arith}
use Rattle.std.specs.Prelude.{if◌then◌else◌, slice_get, slice_index, slice_index_or, slice_set}
use Rattle.std.specs.List.{All, cons_option, filter_map}
use Rattle.std.specs.Option.{option_and_then}
use Rattle.std.proofs.Math.Nat.{add-zero, add_assoc, add-mod-mod, mod-add-mod, zero-add}
use Rattle.std.proofs.lemmas.Bool.{cond-false, cond-true, eq-eqb, false_from_ne_true, ne_eqb}
use Rattle.std.proofs.lemmas.Int.{ints}
use Rattle.std.proofs.lemmas.List.{drop_all, get_or-set_other, get_or-set_same, length-map}
use Rattle.std.proofs.lemmas.List.Elements.{All-contains, All-head, All-tail, Contains-append_left, Contains-append_right, Contains-get_or}
use Rattle.std.proofs.lemmas.List.Sums.{sum_by-append, sum_by-cons}
use Rattle.std.proofs.lemmas.Option.{slice_get-get_or}
use Rattle.bern_base.proofs.SumLemmas.{sum_by_none}
use Rattle.bern_base.specs.Affine.{IsWithin}
use Rattle.bern_base.specs.Ring.{ring_add, ring_mul}
use Rattle.bern_base.specs.declared.job.ArrayDecl.{ArrayDecl}
use Rattle.bern_base.specs.declared.job.Checked.{Checked}
use Rattle.bern_base.specs.declared.job.Ref.{Ref}
use Rattle.format_model.specs.Grids.{value_of_element}
use Rattle.format_model.specs.Trees.{Tree, depth_of}
use Rattle.job_model.specs.Values.{product_of}
use Rattle.node_prog.specs.declared.run_line.RunLine.{RunLine}
use Rattle.node_prog.specs.declared.visit.Visit.{Visit}
use Rattle.node_prog.specs.JobWays.{job_way}
use Rattle.node_prog.specs.Visiting.{GoesAlong, IsRun, budget_in, course_in, left_in, way_at}
use Rattle.node_prog.proofs.CourseLemmas.{is_way}
use Rattle.pass_model.specs.Interior.{is_interior, is_own}
use Rattle.pass_model.specs.Local.{own_size}
use Rattle.placement.specs.Placement.{IsPlacement, Triple}
use Rattle.plan_courses.specs.JobCourses.{no_ref, ref_at}
use Rattle.plan_courses.specs.PlanCourses.{origin}
use Rattle.term_model.specs.declared.plan.PlannedTerm.{PlannedTerm}
use Rattle.term_model.specs.declared.term.Term.{Term}
use Rattle.term_model.specs.Answers.{home_of}
use Rattle.term_model.specs.Queries.{levels_in, sparse_ref}
use Rattle.visits.specs.declared.open_loop.OpenLoop.{OpenLoop}
use Rattle.visits.specs.Budgets.{run_budget}
use Rattle.visits.specs.Lines.{CanDrive, Fixed, IsDriven, IsDriving}
use Rattle.visits.specs.Loops.{IsLoop, run_left}
use Rattle.visits.specs.Ways.{IsWay, no_tree, quotient}
use Rattle.visits.proofs.Needs.{can_offer}
use Rattle.visits.proofs.Offering.{filter_map_child}
use Rattle.visits.proofs.Running.{run_pays, run_plain}
use Rattle.walks.specs.declared.hit.Hit.{Hit}
use Rattle.walks.specs.Conditions.{IsStep, known_at}
use Rattle.walks.specs.Courses.{Course, Drive, Stride, bind, bound_in, driven, in_loop, node_of, step_to}
use Rattle.walks.proofs.Spans.{between-in_loop, in_loop-between}
use Rattle.walks.proofs.Counting.{All-filter_map}
use Rattle.walks.proofs.Walking.{has_trees}
use Rattle.split_exec.specs.declared.piece.Piece.{Piece}
use Rattle.split_exec.specs.declared.still.Still.{Still}
use Rattle.split_exec.specs.Hits.{Grow, IsNamed, IsSound, cell_at, hit_adds, hit_value, hits_add, leaf_at, leaves_at, spot}
use Rattle.split_exec.specs.Passing.{CanPass, HasSums}
use Rattle.split_exec.specs.Runs.{GrowLeft, GrowWith, IsPieceAt, IsPieceOf, IsRunOf, IsStill, IsSum, LacksOne, OthersStay, OwnsAt, OwnsOthers, at_or_one, bound_of, cell_by, children_of, course_at, held_at, hit_at, hits_from, point_at, product_but, stays}
use Rattle.split_exec.specs.Settings.{IsAtRank, Setting, grid_in, scene_of, tree_in}
use Rattle.split_exec.proofs.LineLemmas.{but_alike, dense_by_number, lacks_one, one_at, own_stays, owns_all, split_product, spot_stays, taken_out}
use Rattle.split_exec.proofs.RankLemmas.{same_array, spot_low}
use Rattle.split_exec.proofs.SoundLemmas.{can_start, nest_is}
use Rattle.split_exec.proofs.SumLemmas.{grow_one}

-- ---- a run is a line of its term

-- the tree of a line is that of its array's view
pub tree_is : (s : Setting) (p : PlannedTerm) (rank r : ℕ) → (course_at s p rank).tree r ≡ tree_in s (ref_at p.term r).array
unfolding job_way
tree_is s p rank r = refl

reference_low : (s : Setting) (p : PlannedTerm) (rank r : ℕ) → r < (course_at s p rank).references → r < length p.term.sparse
unfolding job_way
reference_low s p rank r low = omega (arith, low, length-map p.term.sparse (sparse_ref (levels_in s.job)))

module _ (s : Setting) (rank : ℕ) (p : PlannedTerm) (can : CanPass s rank (p ∷ [])) (line : RunLine) (along : GoesAlong (scene_of s p) rank line) where
  abbrev c : Course
  c = course_at s p rank

  abbrev n : ℕ
  n = length c.strides

  abbrev unused : List ℕ
  unused = (way_at (scene_of s p) rank).unused

  way : IsWay (way_at (scene_of s p) rank) s.trees
  way = is_way s.job s.places s.ranks s.nest p rank s.trees (can_start s rank p can)

  count : n ≡ suc (n - 1)
  count = let some = way.some in omega (arith, some)

  step_is : IsStep c (known_at c unused (n - 1)) (Drive line.reference line.level line.var)
  step_is = subst (IsStep c (known_at c unused (n - 1))) along.last (way.course.steps (n - 1) (omega (arith, count)))

  -- its variable is one of the four
  pub line_low : line.var < 4
  line_low = step_is.variable

  module _ (run : OpenLoop) (loop : IsLoop c unused (n - 1) run) where
    -- what it has still to give is its hits
    pub run_hits : run_left c n run ≡ hits_from s p rank line run run.place
    run_hits = run_plain c n (n - 1) (Drive line.reference line.level line.var) run count along.last along.plain.tests along.plain.searches

    run_can : CanDrive c line.reference line.level line.var run.hit
    run_can = can_offer c (has_trees c unused origin way.course) (suc (n - 1)) (Drive line.reference line.level line.var) (known_at c unused (n - 1)) run.hit step_is loop.stands

    run_driving : IsDriving c line.reference line.level line.var run
    run_driving = subst (λ (stride : Stride). Fixed c stride run) along.last loop.fixed

    -- what it costs is set aside
    pub run_cost : run.end - run.place ≤ run_budget c n run
    run_cost =
        let pays = run_pays c n (n - 1) (Drive line.reference line.level line.var) run count along.last in
        let inside = run_driving.line in
        let to = inside.to in
        let order = inside.order in
        let within = inside.within in
        omega (arith, pays, to, order, within)

    pub run_order : run.place ≤ run.end
    run_order = run_driving.line.within

    pub run_is : All (IsSound s rank p.term) (hits_from s p rank line run run.place) → IsRunOf s p rank line run
    run_is sound = record {
      reference = reference_low s p rank line.reference run_can.node.reference;
      can = run_can;
      driving = run_driving;
      near = loop.near;
      low = subst (IsWithin 4194303) (sym run_driving.driven.low) (way.near line.var line_low).0;
      high = subst (IsWithin 4194303) (sym run_driving.driven.high) (way.near line.var line_low).1;
      long = loop.stands.long;
      wide = loop.stands.wide;
      sound = sound;
    }

-- ---- what a child binds

module _ (c : Course) (r level v node : ℕ) (o : OpenLoop) (index : ℕ) (is : IsDriven c r level v o) where
  binds_by : (b : Option ℤ) → quotient o.slope (pos index -ℤ o.base) ≡ b → driven c r level v o.hit (index, node) ≡ option_and_then (bound_in c v (step_to o.hit r node)) b
  binds_by b solved = ap (option_and_then (bound_in c v (step_to o.hit r node))) (sym (is.solves index) ∙ solved)

  pub binds_none : quotient o.slope (pos index -ℤ o.base) ≡ None → driven c r level v o.hit (index, node) ≡ None
  binds_none solved = binds_by None solved

  module _ (x : ℤ) (solved : quotient o.slope (pos index -ℤ o.base) ≡ Some x) where
    pub binds : o.low ≤ℤ x → x <ℤ o.high → driven c r level v o.hit (index, node) ≡ Some (bind (step_to o.hit r node) v x)
    binds low high =
        let inside : in_loop c v x ≡ true = in_loop-between c v x (record { low = subst (λ z. z ≤ℤ x) is.low low; high = subst (λ z. x <ℤ z) is.high high }) in
        binds_by (Some x) solved ∙ cond-true (in_loop c v x) (Some (bind (step_to o.hit r node) v x)) None inside

    pub binds_outside : (in_loop c v x ≡ true → ⊥) → driven c r level v o.hit (index, node) ≡ None
    binds_outside out = binds_by (Some x) solved ∙ cond-false (in_loop c v x) (Some (bind (step_to o.hit r node) v x)) None (false_from_ne_true (in_loop c v x) out)

    pub binds_below : x <ℤ o.low → driven c r level v o.hit (index, node) ≡ None
    binds_below low = binds_outside (λ inside. let between = (between-in_loop c v x inside).low in let same = is.low in omega (arith, ints, low, between, same))

    pub binds_above : o.high ≤ℤ x → driven c r level v o.hit (index, node) ≡ None
    binds_above high = binds_outside (λ inside. let between = (between-in_loop c v x inside).high in let same = is.high in omega (arith, ints, high, between, same))

-- the point that it binds is one of the line
pub bound_at : (c : Course) (r level v : ℕ) (h : Hit) (child : ℕ × ℕ) (g : Hit) → driven c r level v h child ≡ Some g → (x : ℤ) × (g.point ≡ slice_set h.point v x)
bound_at c r level v h child g is = by (c.solve r level v h.point child.0) is
  where
    inside : (x : ℤ) (b : Bool) → (if b then Some (bind (step_to h r child.1) v x) else None) ≡ Some g → g.point ≡ slice_set h.point v x
    inside x true some = let same : bind (step_to h r child.1) v x ≡ g = cc in sym (ap (λ (k : Hit). k.point) same)
    inside x false some = absurd cc

    by : (o : Option ℤ) → option_and_then (bound_in c v (step_to h r child.1)) o ≡ Some g → (x : ℤ) × (g.point ≡ slice_set h.point v x)
    by None some = absurd cc
    by (Some x) some = (x, inside x (in_loop c v x) some)

-- ---- the hits of a line, one child after another

module _ (s : Setting) (p : PlannedTerm) (rank : ℕ) (line : RunLine) (run : OpenLoop) (is : IsRunOf s p rank line run) (place index node : ℕ)
    (order : run.place ≤ place) (child : slice_get (children_of s p rank line run) (place - run.from) ≡ Some (index, node)) where
  next_place : place - run.from + 1 ≡ place + 1 - run.from
  next_place = let first = is.driving.line.order in omega (arith, first, order)

  pub one_child : hits_from s p rank line run place ≡ cons_option (bound_of s p rank line run (index, node)) (hits_from s p rank line run (place + 1))
  one_child =
      filter_map_child (bound_of s p rank line run) (children_of s p rank line run) (place - run.from) (index, node) child
      ∙ ap (λ n. cons_option (bound_of s p rank line run (index, node)) (filter_map (bound_of s p rank line run) (drop n (children_of s p rank line run)))) next_place

  -- it binds nothing
  pub child_passed : bound_of s p rank line run (index, node) ≡ None → hits_from s p rank line run place ≡ hits_from s p rank line run (place + 1)
  child_passed none = one_child ∙ ap (λ o. cons_option o (hits_from s p rank line run (place + 1))) none

  -- it gives a hit
  pub child_taken : (x : ℤ) → bound_of s p rank line run (index, node) ≡ Some (hit_at line run node x) →
      hits_from s p rank line run place ≡ hit_at line run node x ∷ hits_from s p rank line run (place + 1)
  child_taken x some = one_child ∙ ap (λ o. cons_option o (hits_from s p rank line run (place + 1))) some

  module _ (x : ℤ) (some : bound_of s p rank line run (index, node) ≡ Some (hit_at line run node x)) where
    pub child_adds : (k : ℕ) → hits_add s rank p.term (hits_from s p rank line run place) k
        ≡ hit_adds s rank p.term k (hit_at line run node x) + hits_add s rank p.term (hits_from s p rank line run (place + 1)) k
    child_adds k = ap (λ hs. hits_add s rank p.term hs k) (child_taken x some) ∙ sum_by-cons (hit_adds s rank p.term k) (hit_at line run node x) (hits_from s p rank line run (place + 1))

    pub child_sound : All (IsSound s rank p.term) (hits_from s p rank line run place) → IsSound s rank p.term (hit_at line run node x)
    child_sound sound = All-head (IsSound s rank p.term) (hit_at line run node x) (hits_from s p rank line run (place + 1)) (subst (All (IsSound s rank p.term)) (child_taken x some) sound)

    pub child_piece : (piece : Piece) → IsPieceOf s rank p.term (hit_at line run node x) piece → IsPieceAt s p rank line run place piece
    child_piece piece is_piece = record {
      sum = is_piece.sum;
      adds = λ k.
          let rest = hits_add s rank p.term (hits_from s p rank line run (place + 1)) k in
          ap (λ n. n % 2 ^ 64) (child_adds k)
          ∙ sym (mod-add-mod (hit_adds s rank p.term k (hit_at line run node x)) (2 ^ 64) rest)
          ∙ ap (λ n. (n + rest) % 2 ^ 64) (is_piece.adds k)
          ∙ mod-add-mod (held_at piece k) (2 ^ 64) rest;
    }

    pub child_idle : ((k : ℕ) → hit_adds s rank p.term k (hit_at line run node x) ≡ 0) → (k : ℕ) →
        hits_add s rank p.term (hits_from s p rank line run place) k ≡ hits_add s rank p.term (hits_from s p rank line run (place + 1)) k
    child_idle none k =
        child_adds k ∙ ap (λ n. n + hits_add s rank p.term (hits_from s p rank line run (place + 1)) k) (none k)
        ∙ zero-add (hits_add s rank p.term (hits_from s p rank line run (place + 1)) k)

-- what is left after a place can be read
pub rest_sound : (s : Setting) (p : PlannedTerm) (rank : ℕ) (line : RunLine) (run : OpenLoop) → IsRunOf s p rank line run → (place : ℕ) → run.place ≤ place → place < run.end →
    All (IsSound s rank p.term) (hits_from s p rank line run place) → All (IsSound s rank p.term) (hits_from s p rank line run (place + 1))
rest_sound s p rank line run is place order within sound =
    let children = children_of s p rank line run in
    let at : ℕ = place - run.from in
    let to = is.driving.line.to in
    let first = is.driving.line.order in
    let child = get_or children at (0, 0) in
    let there : slice_get children at ≡ Some child = slice_get-get_or children at (0, 0) (omega (arith, to, within, first, order)) in
    by (bound_of s p rank line run child) (hits_from s p rank line run (place + 1))
    (subst (All (IsSound s rank p.term)) (one_child s p rank line run is place child.0 child.1 order there) sound)
  where
    by : (o : Option Hit) (rest : List Hit) → All (IsSound s rank p.term) (cons_option o rest) → All (IsSound s rank p.term) rest
    by None rest all = all
    by (Some h) rest all = All-tail (IsSound s rank p.term) h rest all

-- after the last place nothing is left
pub none_left : (s : Setting) (p : PlannedTerm) (rank : ℕ) (line : RunLine) (run : OpenLoop) → IsRunOf s p rank line run → (place : ℕ) → run.end ≤ place → hits_from s p rank line run place ≡ []
none_left s p rank line run is place past =
    ap (λ children. filter_map (bound_of s p rank line run) children) (drop_all (place - run.from) (children_of s p rank line run) (let to = is.driving.line.to in omega (arith, to, past)))

-- ---- sums with a piece that is held

-- a piece is put to the held one
pub grow_same : (sums : List ℕ) (e a b : ℕ) → e < length sums →
    GrowWith sums (record { element = e; value = a }) sums (record { element = e; value = ring_add a b }) (held_at (record { element = e; value = b }))
grow_same sums e a b low = record {
  count = refl;
  sum = low;
  each = λ k within. by k (e == k);
}
  where
    by : (k : ℕ) (here : Bool) → (slice_index sums k + (if here then ring_add a b else 0)) % 2 ^ 64 ≡ (slice_index sums k + (if here then a else 0) + (if here then b else 0)) % 2 ^ 64
    by k true = add-mod-mod (slice_index sums k) (a + b) (2 ^ 64) ∙ ap (λ n. n % 2 ^ 64) (sym (add_assoc (slice_index sums k) a b))
    by k false = ap (λ n. n % 2 ^ 64) (sym (add-zero (slice_index sums k + 0)))

-- the held one is added
pub grow_held : (sums : List ℕ) (held : Piece) → held.element < length sums →
    Grow sums (slice_set sums held.element (ring_add (slice_index sums held.element) held.value)) (held_at held)
grow_held sums held low = grow_one sums held.element held.value (held_at held) low
    (ap (λ b. (if b then held.value else 0) % 2 ^ 64) (eq-eqb held.element held.element refl))
    (λ k apart. ap (λ b. if b then held.value else 0) (ne_eqb held.element k (λ is. apart (sym is))))

-- the held one is added, and the next one held
pub grow_other : (sums : List ℕ) (held next : Piece) → held.element < length sums → next.element < length sums →
    GrowWith sums held (slice_set sums held.element (ring_add (slice_index sums held.element) held.value)) next (held_at next)
grow_other sums held next low next_low =
    let new = slice_set sums held.element (ring_add (slice_index sums held.element) held.value) in
    let grow = grow_held sums held low in record {
      count = grow.count;
      sum = next_low;
      each = λ k within.
          sym (mod-add-mod (slice_index new k) (2 ^ 64) (held_at next k))
          ∙ ap (λ n. (n + held_at next k) % 2 ^ 64) (grow.each k within)
          ∙ mod-add-mod (slice_index sums k + held_at held k) (2 ^ 64) (held_at next k);
    }

-- one growth after another: what the first leaves to add is what the second adds and what is left after it
pub with_next : (first now next : List ℕ) (start held after : Piece) (left rest g all : ℕ → ℕ) → GrowLeft first start now held left all → GrowWith now held next after g →
    ((k : ℕ) → left k % 2 ^ 64 ≡ (g k + rest k) % 2 ^ 64) → GrowLeft first start next after rest all
with_next first now next start held after left rest g all owe grow parts = record {
  count = grow.count ∙ owe.count;
  sum = subst (λ n. after.element < n) owe.count grow.sum;
  each = λ k low.
      let now_k = slice_index now k + held_at held k in
      sym (mod-add-mod (slice_index next k + held_at after k) (2 ^ 64) (rest k))
      ∙ ap (λ n. (n + rest k) % 2 ^ 64) (grow.each k (subst (λ n. k < n) (sym owe.count) low))
      ∙ mod-add-mod (now_k + g k) (2 ^ 64) (rest k)
      ∙ ap (λ n. n % 2 ^ 64) (add_assoc now_k (g k) (rest k))
      ∙ sym (add-mod-mod now_k (g k + rest k) (2 ^ 64))
      ∙ ap (λ n. (now_k + n) % 2 ^ 64) (sym (parts k))
      ∙ add-mod-mod now_k (left k) (2 ^ 64)
      ∙ owe.each k low;
}

pub left_same : (first now : List ℕ) (start held : Piece) (left rest all : ℕ → ℕ) → GrowLeft first start now held left all → ((k : ℕ) → left k ≡ rest k) → GrowLeft first start now held rest all
left_same first now start held left rest all owe same = record {
  count = owe.count;
  sum = owe.sum;
  each = λ k low. ap (λ n. (slice_index now k + held_at held k + n) % 2 ^ 64) (sym (same k)) ∙ owe.each k low;
}

pub left_first : (sums : List ℕ) (start : Piece) (all : ℕ → ℕ) → start.element < length sums → GrowLeft sums start sums start all all
left_first sums start all low = record { count = refl; sum = low; each = λ k within. refl }

pub left_last : (first now : List ℕ) (start held : Piece) (left all : ℕ → ℕ) → GrowLeft first start now held left all → ((k : ℕ) → left k ≡ 0) → GrowWith first start now held all
left_last first now start held left all owe none = record {
  count = owe.count;
  sum = owe.sum;
  each = λ k low.
      ap (λ n. n % 2 ^ 64) (sym (add-zero (slice_index now k + held_at held k)) ∙ ap (λ n. slice_index now k + held_at held k + n) (sym (none k)))
      ∙ owe.each k low;
}

-- from a piece of nothing to one that is added at the end
pub grow_whole : (first now : List ℕ) (e : ℕ) (held : Piece) (all : ℕ → ℕ) → GrowWith first (record { element = e; value = 0 }) now held all →
    Grow first (slice_set now held.element (ring_add (slice_index now held.element) held.value)) all
grow_whole first now e held all with =
    let low : held.element < length now = subst (λ n. held.element < n) (sym with.count) with.sum in
    let last = grow_held now held low in record {
      count = last.count ∙ with.count;
      each = λ k within.
          last.each k (subst (λ n. k < n) (sym with.count) within)
          ∙ with.each k within
          ∙ ap (λ n. (slice_index first k + n + all k) % 2 ^ 64) (nothing (e == k))
          ∙ ap (λ n. (n + all k) % 2 ^ 64) (add-zero (slice_index first k));
    }
  where
    nothing : (b : Bool) → cond {A = ℕ} b 0 0 ≡ 0
    nothing true = refl
    nothing false = refl

-- a view that has levels is one of the views
pub deep_low : (trees : List Tree) (n level : ℕ) → level < depth_of (slice_index_or trees n no_tree) → n < length trees
deep_low [] n level deep = absurd (omega (arith, deep))
deep_low (t ∷ trees) zero level deep = omega arith
deep_low (t ∷ trees) (suc n) level deep = let rest = deep_low trees n level deep in omega (arith, rest)

-- ---- a piece is what a hit adds

-- the node of the line's reference is the child
pub leaf_along : (s : Setting) (p : PlannedTerm) (rank : ℕ) (line : RunLine) (run : OpenLoop) → IsRunOf s p rank line run → (node : ℕ) (x : ℤ) → node_of (hit_at line run node x) line.reference ≡ node
leaf_along s p rank line run is node x =
    get_or-set_same run.hit.leaves line.reference node 0 (let low = is.can.node.reference in let few = is.can.node.few in let wide = is.wide in omega (arith, low, few, wide))

-- the target of a point at home is the rank's own
pub home_own : (s : Setting) (rank : ℕ) (x : List ℤ) → home_of s.job s.places s.nest x ≡ rank → is_own s.job s.places rank x s.nest.target ≡ true
home_own s rank x home = eq-eqb (home_of s.job s.places s.nest x) rank home

pub not_interior : (s : Setting) (rank : ℕ) (t : Term) (h : Hit) → is_interior s.job s.places rank t h.point ≡ false → (k : ℕ) → hit_adds s rank t k h ≡ 0
not_interior s rank t h not_so k = ap (λ b. if b && (spot s.job s.places rank h.point s.nest.target == k) then hit_value s rank t h else 0) not_so

-- the number of an own element is that of a sum
pub target_low : {P : Type 0} (job : Checked) (triples : P → List Triple) (ranks : P → ℕ) (placed : (p : P) → IsPlacement (ranks p) (triples p)) (places : List P) (rank : ℕ) →
    IsAtRank job (map triples places) (map ranks places) rank → (ref : Ref) (x : List ℤ) (is : IsNamed job ref x) → is_own job (map triples places) rank x ref ≡ true →
    (element : ℕ) → element ≡ spot job (map triples places) rank x ref → (array : ArrayDecl) → slice_get job.arrays ref.array ≡ Some array → element < own_size (map triples places) array rank
target_low job triples ranks placed places rank at ref x is own element here array named =
    let low = spot_low job triples ranks placed places rank at ref x is own in
    subst (λ a. element < own_size (map triples places) a rank) (same_array job.arrays ref.array is.array array is.named named) (omega (arith, here, low))

module _ (s : Setting) (rank : ℕ) (t : Term) (line : RunLine) (run : OpenLoop) (still : Still) (is : IsStill s rank t line run still) (node : ℕ) (x : ℤ)
    (reference : line.reference < length t.sparse) (at : OwnsAt s rank t still.moving (point_at line run x))
    (v leaf element : ℕ) (value : v % 2 ^ 64 ≡ still.value * at_or_one still.moving (cell_by s rank t (point_at line run x)) (length t.dense) % 2 ^ 64)
    (leaf_is : leaf ≡ leaf_at s t (hit_at line run node x) line.reference) (here : element ≡ spot s.job s.places rank (point_at line run x) s.nest.target) where
  abbrev h : Hit
  h = hit_at line run node x

  interior : is_interior s.job s.places rank t h.point ≡ true
  interior = owns_all s rank t still.moving (point_at line run x) (is.owns x) at

  value_is : hit_value s rank t h % 2 ^ 64 ≡ ring_mul v leaf % 2 ^ 64
  value_is =
      let others = product_but still.moving (cell_by s rank t (point_at line run x)) (length t.dense) in
      let one = at_or_one still.moving (cell_by s rank t (point_at line run x)) (length t.dense) in
      let leaves = product_but line.reference (leaf_at s t h) (length t.sparse) in
      let dense : product_of (map (cell_at s rank h.point) t.dense) ≡ others * one =
      sym (dense_by_number s rank t (point_at line run x)) ∙ split_product still.moving (cell_by s rank t (point_at line run x)) (length t.dense) in
      let sparse : product_of (leaves_at s t h) ≡ leaves * leaf =
      split_product line.reference (leaf_at s t h) (length t.sparse) ∙ ap (λ n. leaves * n) (one_at line.reference (leaf_at s t h) (length t.sparse) reference ∙ sym leaf_is) in
      ap (λ n. t.factor * n * product_of (leaves_at s t h) % 2 ^ 64) dense
      ∙ ap (λ n. t.factor * (others * one) * n % 2 ^ 64) sparse
      ∙ sym (taken_out still.value v leaf t.factor others one leaves (is.value x node) value)

  pub piece_is : IsSum s rank element → IsPieceOf s rank t h (record { element = element; value = ring_mul v leaf })
  piece_is sum = record { sum = sum; adds = adds }
    where
      by : (b : Bool) → (if b then hit_value s rank t h else 0) % 2 ^ 64 ≡ (if b then ring_mul v leaf else 0) % 2 ^ 64
      by true = value_is
      by false = refl

      adds : (k : ℕ) → hit_adds s rank t k h % 2 ^ 64 ≡ (if element == k then ring_mul v leaf else 0) % 2 ^ 64
      adds k =
          ap (λ b. (if b && (spot s.job s.places rank h.point s.nest.target == k) then hit_value s rank t h else 0) % 2 ^ 64) interior
          ∙ ap (λ n. (if n == k then hit_value s rank t h else 0) % 2 ^ 64) (sym here)
          ∙ by (element == k)

-- ---- what is taken out

module _ (s : Setting) (p : PlannedTerm) (rank : ℕ) (line : RunLine) (run : OpenLoop) (run_of : IsRunOf s p rank line run) (moving : ℕ)
    (others : OthersStay p.term.dense moving line.var) (x : ℤ) where
  abbrev t : Term
  t = p.term

  low : line.var < 4
  low = run_of.can.variable

  owns_along : OwnsOthers s rank t moving (point_at line run x) → (y : ℤ) → OwnsOthers s rank t moving (point_at line run y)
  owns_along owns y k ref some apart =
      own_stays run.hit.point line.var run_of.long low ref (others k ref some apart) y x s.job s.places rank ∙ owns k ref some apart

  cells_along : (y : ℤ) → product_but moving (cell_by s rank t (point_at line run x)) (length t.dense) ≡ product_but moving (cell_by s rank t (point_at line run y)) (length t.dense)
  cells_along y = but_alike moving (cell_by s rank t (point_at line run x)) (cell_by s rank t (point_at line run y)) (length t.dense) (λ k under apart.
      let ref = slice_index_or t.dense k no_ref in
      ap (value_of_element (grid_in s ref.array))
      (spot_stays run.hit.point line.var run_of.long low ref (others k ref (slice_get-get_or t.dense k no_ref under) apart) x y s.job s.places rank))

  leaves_along : (node other : ℕ) (y : ℤ) →
      product_but line.reference (leaf_at s t (hit_at line run node x)) (length t.sparse) ≡ product_but line.reference (leaf_at s t (hit_at line run other y)) (length t.sparse)
  leaves_along node other y = but_alike line.reference (leaf_at s t (hit_at line run node x)) (leaf_at s t (hit_at line run other y)) (length t.sparse) (λ k under apart.
      ap (tree_in s (ref_at t k).array).value
      (get_or-set_other run.hit.leaves line.reference k node 0 apart ∙ sym (get_or-set_other run.hit.leaves line.reference k other 0 apart)))

  pub still_is : (node : ℕ) (still : Still) → still.moving ≡ moving → OwnsOthers s rank t moving (point_at line run x) →
      still.value % 2 ^ 64 ≡ t.factor * product_but moving (cell_by s rank t (point_at line run x)) (length t.dense)
      * product_but line.reference (leaf_at s t (hit_at line run node x)) (length t.sparse) % 2 ^ 64 →
      (still.goes ≡ false → stays line.var s.nest.target ≡ true) → still.start ≡ spot s.job s.places rank (point_at line run x) s.nest.target → IsStill s rank t line run still
  still_is node still moves owns value goes start = record {
    owns = λ y. subst (λ m. OwnsOthers s rank t m (point_at line run y)) (sym moves) (owns_along owns y);
    value = λ y other.
        value
        ∙ ap (λ n. t.factor * n * product_but line.reference (leaf_at s t (hit_at line run node x)) (length t.sparse) % 2 ^ 64) (cells_along y)
        ∙ ap (λ n. t.factor * product_but moving (cell_by s rank t (point_at line run y)) (length t.dense) * n % 2 ^ 64) (leaves_along node other y)
        ∙ ap (λ m. t.factor * product_but m (cell_by s rank t (point_at line run y)) (length t.dense) * product_but line.reference (leaf_at s t (hit_at line run other y)) (length t.sparse) % 2 ^ 64) (sym moves);
    target = λ stay y. start ∙ spot_stays run.hit.point line.var run_of.long low s.nest.target (goes stay) x y s.job s.places rank;
  }

  -- where another rank owns an element that stays, none of the line's hits adds anything
  pub lacks_along : LacksOne s rank t moving (point_at line run x) → (place k : ℕ) → hits_add s rank t (hits_from s p rank line run place) k ≡ 0
  lacks_along (n, ref, some, apart, not_own) place k = sum_by_none (hit_adds s rank t k) (hits_from s p rank line run place) (
      All-filter_map (λ child. Unit {0}) (λ h. hit_adds s rank t k h ≡ 0) (bound_of s p rank line run) (drop (place - run.from) (children_of s p rank line run))
      (λ child there h bound.
      let (y, is) = bound_at (course_at s p rank) line.reference line.level line.var run.hit child h bound in
      not_interior s rank t h (subst (λ q. is_interior s.job s.places rank t q ≡ false) (sym is)
      (lacks_one s rank t moving (point_at line run y) (n, ref, some, apart, own_stays run.hit.point line.var run_of.long low ref (others n ref some apart) y x s.job s.places rank ∙ not_own))) k)
      (λ i d below. tt))

-- ---- one run after another

pub front_sound : {X : Type 0} (P : X → Type 0) (xs ys : List X) → All P (xs ++ ys) → All P xs
front_sound P xs ys all k d below = All-contains P (xs ++ ys) (get_or xs k d) all (Contains-append_left xs ys (get_or xs k d) (Contains-get_or xs k d below))

pub back_sound : {X : Type 0} (P : X → Type 0) (xs ys : List X) → All P (xs ++ ys) → All P ys
back_sound P xs ys all k d below = All-contains P (xs ++ ys) (get_or ys k d) all (Contains-append_right xs ys (get_or ys k d) (Contains-get_or ys k d below))

-- what a visit had to give is the hits of the run and what it has still to give
module _ (s : Setting) (rank : ℕ) (p : PlannedTerm) (can : CanPass s rank (p ∷ [])) (line : RunLine) (along : GoesAlong (scene_of s p) rank line) (v w : Visit) (is_rank : w.rank ≡ rank)
    (given : left_in (scene_of s p) v ≡ run_left (course_in (scene_of s p) w) (length (course_in (scene_of s p) w).strides) w.visit.run ++ left_in (scene_of s p) w)
    (run : IsRun (scene_of s p) w w.visit.run) where
  loop_is : IsLoop (course_at s p rank) (way_at (scene_of s p) rank).unused (length (course_at s p rank).strides - 1) w.visit.run
  loop_is =
      subst (λ r. IsLoop (course_at s p r) (way_at (scene_of s p) r).unused (length (course_at s p r).strides - 1) w.visit.run) is_rank run

  pub gives_hits : left_in (scene_of s p) v ≡ hits_from s p rank line w.visit.run w.visit.run.place ++ left_in (scene_of s p) w
  gives_hits =
      given
      ∙ ap (λ hs. hs ++ left_in (scene_of s p) w)
      (ap (λ r. run_left (course_at s p r) (length (course_at s p r).strides) w.visit.run) is_rank ∙ run_hits s rank p can line along w.visit.run loop_is)

  pub is_run : All (IsSound s rank p.term) (left_in (scene_of s p) v) → IsRunOf s p rank line w.visit.run
  is_run sound =
      run_is s rank p can line along w.visit.run loop_is
      (front_sound (IsSound s rank p.term) (hits_from s p rank line w.visit.run w.visit.run.place) (left_in (scene_of s p) w) (subst (All (IsSound s rank p.term)) gives_hits sound))

  pub left_sound : All (IsSound s rank p.term) (left_in (scene_of s p) v) → All (IsSound s rank p.term) (left_in (scene_of s p) w)
  left_sound sound =
      back_sound (IsSound s rank p.term) (hits_from s p rank line w.visit.run w.visit.run.place) (left_in (scene_of s p) w) (subst (All (IsSound s rank p.term)) gives_hits sound)

  pub hits_both : (k : ℕ) → hits_add s rank p.term (left_in (scene_of s p) v) k
      ≡ hits_add s rank p.term (hits_from s p rank line w.visit.run w.visit.run.place) k + hits_add s rank p.term (left_in (scene_of s p) w) k
  hits_both k =
      ap (λ hs. hits_add s rank p.term hs k) gives_hits
      ∙ sum_by-append (hit_adds s rank p.term k) (hits_from s p rank line w.visit.run w.visit.run.place) (left_in (scene_of s p) w)

  -- going over its line is paid
  pub paid : (old before now : ℕ) →
      before + run_budget (course_in (scene_of s p) w) (length (course_in (scene_of s p) w).strides) w.visit.run + budget_in (scene_of s p) w ≤ old →
      now + w.visit.run.place ≤ before + w.visit.run.end → now + budget_in (scene_of s p) w ≤ old
  paid old before now cost spent =
      let same : run_budget (course_in (scene_of s p) w) (length (course_in (scene_of s p) w).strides) w.visit.run ≡ run_budget (course_at s p rank) (length (course_at s p rank).strides) w.visit.run =
      ap (λ r. run_budget (course_at s p r) (length (course_at s p r).strides) w.visit.run) is_rank in
      let pays = run_cost s rank p can line along w.visit.run loop_is in
      let order = run_order s rank p can line along w.visit.run loop_is in
      omega (arith, cost, spent, same, pays, order)

-- a sum's number is below the count of sums
pub sum_low : (s : Setting) (rank : ℕ) (p : PlannedTerm) → CanPass s rank (p ∷ []) → (count now element : ℕ) → HasSums s rank count → now ≡ count → IsSum s rank element → element < now
sum_low s rank p can count now element has same is =
    let array = (nest_is s rank p can).target.array in
    let named = (nest_is s rank p can).target.element.named in
    omega (arith, has array named, same, is array named)
