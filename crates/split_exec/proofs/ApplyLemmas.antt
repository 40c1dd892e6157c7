-- What points write, one after another.
use Rattle.std.proofs.Common.{◌≡◌, ◌∙◌, ℕ, ◌+◌, ◌<◌, ◌==◌, ◌||◌, ◌&&◌, Bool, true, false, cond, List, [], ◌∷◌, ◌++◌, ℤ, length, get_or, None, Some, refl, sym, ap, ⊎_elim, arith}
use Rattle.std.specs.Prelude.{Option, if◌then◌else◌, slice_get, slice_index, slice_set}
use Rattle.std.specs.List.{All, filter, list_any}
use Rattle.std.proofs.lemmas.Bool.{cases_eq, eq-eqb, eqb-true, ne_eqb}
use Rattle.std.proofs.lemmas.List.{get_or-set_other, get_or-set_same, length-set}
use Rattle.std.proofs.lemmas.List.Elements.{All-head, All-tail, filter-append}
use Rattle.std.proofs.lemmas.List.Folds.{list_any-append}
use Rattle.bern_base.specs.Affine.{IsInBox}
use Rattle.bern_base.specs.Ring.{ring_add}
use Rattle.bern_base.specs.declared.job.ArrayDecl.{ArrayDecl}
use Rattle.bern_base.specs.declared.job.Checked.{Checked}
use Rattle.bern_base.specs.declared.job.Nest.{Nest}
use Rattle.format_model.specs.Grids.{Grid, HasElement, SameBranches, value_of_element, with_element}
use Rattle.format_model.specs.Trees.{Tree}
use Rattle.job_model.specs.Accepted.{IsNestOf, split_size}
use Rattle.job_model.specs.Points.{box_of, meets, spans_of}
use Rattle.pass_model.specs.Local.{IsOwn, local_element, own_size, triples_in}
use Rattle.pass_model.specs.Sums.{applied, home_points, is_at, is_written}
use Rattle.placement.specs.Placement.{IsPlacement}
use Rattle.plan_courses.proofs.BoxLemmas.{box_long}
use Rattle.term_model.specs.Answers.{Places, home_of}
use Rattle.split_exec.specs.Applying.{CanApply, HasSize, IsAdded, IsApplied, with_values}
use Rattle.split_exec.specs.Boxes.{Replaces, counts, written_by}
use Rattle.split_exec.specs.Hits.{spot}
use Rattle.split_exec.proofs.MeaningLemmas.{spot_tells}

-- ---- parts

pub has_element : (g : Option Grid) (n k : ℕ) → HasSize g n → k < n → HasElement g k
has_element None n k size low = absurd size
has_element (Some g) n k size low = omega (arith, size, low)

pub element_low : (g : Option Grid) (n k : ℕ) → HasSize g n → HasElement g k → k < n
element_low None n k size has = absurd has
element_low (Some g) n k size has = omega (arith, size, has)

pub size_set : (g : Option Grid) (n k v : ℕ) → HasSize g n → HasSize (with_element g k v) n
size_set None n k v size = size
size_set (Some g) n k v size = length-set g.values k v ∙ size

pub value_set : (g : Option Grid) (k v : ℕ) → HasElement g k → value_of_element (with_element g k v) k ≡ v
value_set None k v has = absurd has
value_set (Some g) k v has = get_or-set_same g.values k v 0 has

pub value_kept : (g : Option Grid) (k j v : ℕ) → (j ≡ k → ⊥) → value_of_element (with_element g k v) j ≡ value_of_element g j
value_kept None k j v apart = refl
value_kept (Some g) k j v apart = get_or-set_other g.values k j v 0 apart

pub has_kept : (g : Option Grid) (k j v : ℕ) → HasElement g j → HasElement (with_element g k v) j
has_kept None k j v has = has
has_kept (Some g) k j v has = omega (arith, has, length-set g.values k v)

-- a part with other values
pub record IsAlike (old new : Option Grid) : Type 0 where
  pub values : List ℕ
  pub is : new ≡ with_values old values

pub alike_first : (g : Option Grid) → IsAlike g g
alike_first None = record { values = []; is = refl }
alike_first (Some g) = record { values = g.values; is = refl }

pub alike_set : (g : Option Grid) (k v : ℕ) → IsAlike g (with_element g k v)
alike_set None k v = record { values = []; is = refl }
alike_set (Some g) k v = record { values = slice_set g.values k v; is = refl }

with_twice : (g : Option Grid) (us vs : List ℕ) → with_values (with_values g us) vs ≡ with_values g vs
with_twice None us vs = refl
with_twice (Some g) us vs = refl

pub alike_both : (a b c : Option Grid) → IsAlike a b → IsAlike b c → IsAlike a c
alike_both a b c one two = record { values = two.values; is = two.is ∙ ap (λ g. with_values g two.values) one.is ∙ with_twice a one.values two.values }

pub branches_first : (t : Tree) → SameBranches t t
branches_first t = record { levels = refl; nodes = λ level. refl; start = λ level parent. refl; children = λ level parent. refl }

pub branches_both : (a b c : Tree) → SameBranches a b → SameBranches b c → SameBranches a c
branches_both a b c one two = record {
  levels = two.levels ∙ one.levels;
  nodes = λ level. two.nodes level ∙ one.nodes level;
  start = λ level parent. two.start level parent ∙ one.start level parent;
  children = λ level parent. two.children level parent ∙ one.children level parent;
}

-- ---- sums that are added

pub added_first : (sums : List ℕ) (g : Option Grid) → IsAdded 0 sums g g
added_first sums g =
    let alike = alike_first g in
    record { values = alike.values; alike = alike.is; done = λ k low has. absurd (omega (arith, low)); rest = λ k low. refl }

pub added_next : (sums : List ℕ) (old now : Option Grid) (n v : ℕ) → IsAdded n sums old now → HasElement now n → v ≡ ring_add (value_of_element now n) (slice_index sums n) → IsAdded (n + 1) sums old (with_element now n v)
added_next sums old now n v added has is =
    let alike = alike_both old now (with_element now n v) (record { values = added.values; is = added.alike }) (alike_set now n v) in record {
      values = alike.values;
      alike = alike.is;
      done = λ k low there. ⊎_elim
          (λ (same : k ≡ n).
          ap (value_of_element (with_element now n v)) same ∙ value_set now n v has ∙ is ∙ ap (λ m. ring_add m (slice_index sums n)) (added.rest n (omega arith))
          ∙ sym (ap (λ m. ring_add (value_of_element old m) (slice_index sums m)) same))
          (λ (apart : k ≡ n → ⊥). value_kept now n k v apart ∙ added.done k (omega (arith, low, apart)) there)
          (cases_eq k n);
      rest = λ k low. value_kept now n k v (λ same. omega (arith, low, same)) ∙ added.rest k (omega (arith, low));
    }

-- ---- points that write

module _ (job : Checked) (places : Places) (nest : Nest) (rank : ℕ) (sums : List ℕ) where
  pub writes_none : (old : Option Grid) (xs : List (List ℤ)) → ((k : ℕ) → written_by job places nest rank xs k ≡ false) → Replaces job places nest rank sums old old xs
  writes_none old xs none =
      let alike = alike_first old in
      record { values = alike.values; alike = alike.is; each = λ k has. ap (λ b. if b then slice_index sums k else value_of_element old k) (sym (none k)) }

  -- points that do not count write nothing
  pub none_written : (xs : List (List ℤ)) → All (λ x. counts job places nest rank x ≡ false) xs → (k : ℕ) → written_by job places nest rank xs k ≡ false
  none_written xs none k = ap (list_any (λ x. spot job places rank x nest.target == k)) (kept_none xs none)
    where
      kept_none : (xs : List (List ℤ)) → All (λ x. counts job places nest rank x ≡ false) xs → filter (counts job places nest rank) xs ≡ []
      kept_none [] none = refl
      kept_none (x ∷ xs) none =
          ap (λ b. cond b (x ∷ filter (counts job places nest rank) xs) (filter (counts job places nest rank) xs)) (All-head (λ x. counts job places nest rank x ≡ false) x xs none)
          ∙ kept_none xs (All-tail (λ x. counts job places nest rank x ≡ false) x xs none)

  -- one point that counts
  pub writes_one : (old : Option Grid) (x : List ℤ) (k v : ℕ) → counts job places nest rank x ≡ true → k ≡ spot job places rank x nest.target → HasElement old k → v ≡ slice_index sums k →
      Replaces job places nest rank sums old (with_element old k v) (x ∷ [])
  writes_one old x k v here is has value =
      let alike = alike_set old k v in
      let one : (j : ℕ) → written_by job places nest rank (x ∷ []) j ≡ ((spot job places rank x nest.target == j) || false) = λ j.
      ap (λ b. list_any (λ x. spot job places rank x nest.target == j) (cond b (x ∷ []) [])) here in record {
        values = alike.values;
        alike = alike.is;
        each = λ j there. ⊎_elim
            (λ (same : j ≡ k).
            ap (value_of_element (with_element old k v)) same ∙ value_set old k v has ∙ value ∙ ap (slice_index sums) (sym same)
            ∙ sym (ap (λ b. if b then slice_index sums j else value_of_element old j) (one j ∙ ap (λ b. b || false) (eq-eqb (spot job places rank x nest.target) j (sym is ∙ sym same)))))
            (λ (apart : j ≡ k → ⊥).
            value_kept old k j v apart
            ∙ sym (ap (λ b. if b then slice_index sums j else value_of_element old j) (one j ∙ ap (λ b. b || false) (ne_eqb (spot job places rank x nest.target) j (λ same. apart (sym same ∙ sym is))))))
            (cases_eq j k);
      }

  written_both : (xs ys : List (List ℤ)) (k : ℕ) → written_by job places nest rank (xs ++ ys) k ≡ (written_by job places nest rank xs k || written_by job places nest rank ys k)
  written_both xs ys k =
      ap (list_any (λ x. spot job places rank x nest.target == k)) (filter-append (counts job places nest rank) xs ys)
      ∙ list_any-append (λ x. spot job places rank x nest.target == k) (filter (counts job places nest rank) xs) (filter (counts job places nest rank) ys)

  either : (a b : Bool) (sum old : ℕ) → (if b then sum else (if a then sum else old)) ≡ (if a || b then sum else old)
  either true true sum old = refl
  either true false sum old = refl
  either false true sum old = refl
  either false false sum old = refl

  has_alike : (old new : Option Grid) (n k : ℕ) → HasSize old n → HasSize new n → HasElement old k → HasElement new k
  has_alike old new n k size same has = has_element new n k same (element_low old n k size has)

  -- some points, and then others
  pub writes_both : (old now new : Option Grid) (n : ℕ) (xs ys : List (List ℤ)) → HasSize old n → HasSize now n → Replaces job places nest rank sums old now xs → Replaces job places nest rank sums now new ys →
      Replaces job places nest rank sums old new (xs ++ ys)
  writes_both old now new n xs ys size same one two =
      let alike = alike_both old now new (record { values = one.values; is = one.alike }) (record { values = two.values; is = two.alike }) in record {
        values = alike.values;
        alike = alike.is;
        each = λ k has.
            let first = written_by job places nest rank xs k in
            let second = written_by job places nest rank ys k in
            two.each k (has_alike old now n k size same has)
            ∙ ap (λ v. if second then slice_index sums k else v) (one.each k has)
            ∙ either first second (slice_index sums k) (value_of_element old k)
            ∙ ap (λ b. if b then slice_index sums k else value_of_element old k) (sym (written_both xs ys k));
      }

-- ---- the whole box

any_filter : {X : Type 0} (p q : X → Bool) (xs : List X) → list_any p (filter q xs) ≡ list_any (λ x. q x && p x) xs
any_filter p q [] = refl
any_filter p q (x ∷ xs) = by (q x) (any_filter p q xs)
  where
    by : (b : Bool) → list_any p (filter q xs) ≡ list_any (λ x. q x && p x) xs → list_any p (cond b (x ∷ filter q xs) (filter q xs)) ≡ ((b && p x) || list_any (λ x. q x && p x) xs)
    by true rest = ap (λ b. p x || b) rest
    by false rest = rest

any_alike : {X : Type 0} (p q : X → Bool) (xs : List X) → All (λ x. p x ≡ q x) xs → list_any p xs ≡ list_any q xs
any_alike p q [] same = refl
any_alike p q (x ∷ xs) same = ap (λ b. b || list_any p xs) (All-head (λ x. p x ≡ q x) x xs same) ∙ ap (λ b. q x || b) (any_alike p q xs (All-tail (λ x. p x ≡ q x) x xs same))

-- the box writes what the points of the nest with this home write
pub box_writes : {ranks : ℕ} (job : Checked) (places : Places) (nest : Nest) (rank : ℕ) (array : ArrayDecl) (n : ℕ) → IsNestOf job nest → slice_get job.arrays nest.target.array ≡ Some array →
    IsPlacement ranks (triples_in places array) → length (triples_in places array) ≡ split_size array → IsOwn places array rank n →
    written_by job places nest rank (box_of nest) (local_element places array rank n) ≡ is_written job nest n (home_points job places nest rank)
box_writes job places nest rank array n is named dealt long own =
    let l = local_element places array rank n in
    let home : List ℤ → Bool = λ x. home_of job places nest x == rank in
    let there : List ℤ → Bool = λ x. spot job places rank x nest.target == l in
    any_filter there (counts job places nest rank) (box_of nest)
    ∙ any_alike (λ x. counts job places nest rank x && there x) (λ x. meets nest.guards x && (home x && is_at job nest n x)) (box_of nest)
    (λ k d below. let x = get_or (box_of nest) k d in by x (box_long nest k d below) (home x) (meets nest.guards x) refl)
    ∙ sym (any_filter (is_at job nest n) home (filter (meets nest.guards) (box_of nest)) ∙ any_filter (λ x. home x && is_at job nest n x) (meets nest.guards) (box_of nest))
  where
    by : (x : List ℤ) → IsInBox (spans_of nest.vars) x → (home met : Bool) → (home_of job places nest x == rank) ≡ home →
        ((home && met) && (spot job places rank x nest.target == local_element places array rank n)) ≡ (met && (home && is_at job nest n x))
    by x box true true at = spot_tells job places nest rank array n x is named dealt long own box (eqb-true (home_of job places nest x) rank at)
    by x box true false at = refl
    by x box false true at = refl
    by x box false false at = refl

-- ---- what is left in the target

pub added_applied : (job : Checked) (places : Places) (nest : Nest) (rank : ℕ) (sums : List ℕ) (old new : Option Grid) → nest.replace ≡ false → HasSize old (length sums) →
    ((array : ArrayDecl) → slice_get job.arrays nest.target.array ≡ Some array → (n : ℕ) → IsOwn places array rank n → local_element places array rank n < length sums) →
    IsAdded (length sums) sums old new → IsApplied job places nest rank sums old new
added_applied job places nest rank sums old new adds size low added = record {
  values = added.values;
  alike = added.alike;
  elements = λ array named n own.
      let l = local_element places array rank n in
      added.done l (low array named n own) (has_element old (length sums) l size (low array named n own))
      ∙ sym (ap (λ b. applied b (is_written job nest n (home_points job places nest rank)) (value_of_element old l) (slice_index sums l)) adds);
}

pub replaced_applied : (job : Checked) (places : Places) (nest : Nest) (rank : ℕ) (sums : List ℕ) (old new : Option Grid) → nest.replace ≡ true → HasSize old (length sums) →
    ((array : ArrayDecl) → slice_get job.arrays nest.target.array ≡ Some array → (n : ℕ) → IsOwn places array rank n → local_element places array rank n < length sums) →
    ((array : ArrayDecl) → slice_get job.arrays nest.target.array ≡ Some array → (n : ℕ) → IsOwn places array rank n →
    written_by job places nest rank (box_of nest) (local_element places array rank n) ≡ is_written job nest n (home_points job places nest rank)) →
    Replaces job places nest rank sums old new (box_of nest) → IsApplied job places nest rank sums old new
replaced_applied job places nest rank sums old new replaces size low writes done = record {
  values = done.values;
  alike = done.alike;
  elements = λ array named n own.
      let l = local_element places array rank n in
      done.each l (has_element old (length sums) l size (low array named n own))
      ∙ ap (λ b. if b then slice_index sums l else value_of_element old l) (writes array named n own)
      ∙ sym (ap (λ b. applied b (is_written job nest n (home_points job places nest rank)) (value_of_element old l) (slice_index sums l)) replaces);
}

-- the part of a target keeps its size
pub can_set : (job : Checked) (places : Places) (ranks : List ℕ) (nest : Nest) (rank count k v : ℕ) (g : Option Grid) → CanApply job places ranks nest rank count g → CanApply job places ranks nest rank count (with_element g k v)
can_set job places ranks nest rank count k v g can = record {
  at = can.at;
  nest_is = can.nest_is;
  count = can.count;
  elements = λ array named. size_set g (own_size places array rank) k v (can.elements array named);
}
