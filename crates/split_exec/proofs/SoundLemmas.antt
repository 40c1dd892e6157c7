-- The hits of a planned term can be read.
use Rattle.std.proofs.Common.{◌≡◌, ◌∙◌, ℕ, ◌<◌, ◌==◌, Bool, true, false, ◌&&◌, List, [], ◌∷◌, map, length, get_or, Some, ℤ, sym, ap, subst, arith}
use Rattle.std.specs.Prelude.{slice_get}
use Rattle.std.specs.List.{All, Contains}
use Rattle.std.specs.List.Sorted.{IsPermutation}
use Rattle.std.proofs.lemmas.Bool.{and_parts, eqb-true}
use Rattle.std.proofs.lemmas.List.{length-map}
use Rattle.std.proofs.lemmas.List.Elements.{All-contains, All-head, Contains-append_left, Contains-get_or}
use Rattle.std.proofs.lemmas.List.Sorted.{All-permutation}
use Rattle.bern_base.specs.Affine.{IsInBox}
use Rattle.bern_base.specs.declared.job.ArrayDecl.{ArrayDecl}
use Rattle.bern_base.specs.declared.job.Checked.{Checked}
use Rattle.bern_base.specs.declared.job.Nest.{Nest}
use Rattle.bern_base.specs.declared.job.Ref.{Ref}
use Rattle.format_model.specs.Trees.{IsLeaf, Tree}
use Rattle.job_model.specs.Accepted.{IsNestOf, IsReadOf}
use Rattle.job_model.specs.Points.{box_of, meets, points, spans_of}
use Rattle.job_model.specs.Runnable.{IsElementOf, is_dense}
use Rattle.loop_query.proofs.FreeLemmas.{contains_map, filtered_in, filtered_passes}
use Rattle.loop_query.proofs.ToldLemmas.{terms_are_told_apart, terms_read_the_body}
use Rattle.loop_query.specs.TermLaws.{IsToldApart}
use Rattle.node_prog.specs.Conditions.{IsViewIn, tree_of}
use Rattle.node_prog.specs.JobWays.{job_way}
use Rattle.node_prog.specs.Visiting.{CanStart, term_course}
use Rattle.node_prog.proofs.CourseLemmas.{are_the_answer, course_is, is_way}
use Rattle.plan_courses.specs.JobCourses.{AreViewsOf, IsPlanOf, IsView, ref_at}
use Rattle.plan_courses.specs.PlanCourses.{origin}
use Rattle.plan_courses.proofs.BoxLemmas.{box_long}
use Rattle.plan_courses.proofs.ReferenceLemmas.{nest_of, read_of, ref_in}
use Rattle.term_model.specs.declared.plan.PlannedTerm.{PlannedTerm}
use Rattle.term_model.specs.declared.term.Term.{Term}
use Rattle.term_model.specs.Activity.{Entries, is_active}
use Rattle.term_model.specs.Answers.{Places, answer, home_of}
use Rattle.term_model.specs.Queries.{levels_in, sparse_ref}
use Rattle.term_model.specs.Terms.{is_dense_in, is_whole, references_of, terms_of}
use Rattle.visits.specs.Ways.{seen}
use Rattle.walks.specs.declared.hit.Hit.{Hit}
use Rattle.walks.specs.Courses.{node_of, walk}
use Rattle.walks.proofs.Walking.{each-active_point-once}
use Rattle.split_exec.specs.Hits.{IsNamed, IsSound}
use Rattle.split_exec.specs.Passing.{CanPass}
use Rattle.split_exec.specs.Settings.{HaveParts, Setting, scene_of, tree_in}

-- ---- references

-- what a dense reference of the nest reads, at a point of the box
pub named_at : (job : Checked) (nest : Nest) (ref : Ref) (array : ArrayDecl) (x : List ℤ) → IsElementOf job.arrays (spans_of nest.vars) ref array → is_dense job.formats array ≡ true →
    IsInBox (spans_of nest.vars) x → IsNamed job ref x
named_at job nest ref array x element whole box =
    let row = element.row x box in
    let col = element.col x box in
    record { array = array; named = element.named; whole = whole; row_low = row.0; row_high = row.1; col_low = col.0; col_high = col.1 }

pub target_named : (job : Checked) (nest : Nest) (x : List ℤ) → IsNestOf job nest → IsInBox (spans_of nest.vars) x → IsNamed job nest.target x
target_named job nest x is box = named_at job nest nest.target is.target.array x is.target.element is.target.whole box

-- the references of a term of an accepted job's nest
module _ (job : Checked) (nest : Nest) (p : PlannedTerm) (is : IsPlanOf job nest p.term p.plan) where
  told : IsToldApart job p.term
  told = All-contains (IsToldApart job) (terms_of job nest.body) p.term (terms_are_told_apart job nest.body) is.term_is

  pub dense_read : (ref : Ref) → Contains p.term.dense ref → IsReadOf job nest ref
  dense_read ref within =
      let all = All-contains (λ (t : Term). All (IsReadOf job nest) (references_of t)) (terms_of job nest.body) p.term (terms_read_the_body job nest (nest_of job nest p.term p.plan is)) is.term_is in
      All-contains (IsReadOf job nest) (references_of p.term) ref all (Contains-append_left p.term.dense p.term.sparse ref within)

  pub dense_named : (ref : Ref) → Contains p.term.dense ref → (x : List ℤ) → IsInBox (spans_of nest.vars) x → IsNamed job ref x
  dense_named ref within x box =
      let (array, element) = (dense_read ref within).element in
      let dense : is_dense_in job ref ≡ true = All-contains (λ ref. is_dense_in job ref ≡ true) p.term.dense ref told.dense within in
      named_at job nest ref array x element (sym (ap (is_whole job.formats) element.named) ∙ dense) box

  -- the array of a sparse reference is not stored whole
  pub sparse_not_whole : (r : ℕ) → r < length p.term.sparse → (array : ArrayDecl) → slice_get job.arrays (ref_at p.term r).array ≡ Some array → is_dense job.formats array ≡ false
  sparse_not_whole r low array named =
      sym (ap (is_whole job.formats) named) ∙ All-contains (λ ref. is_dense_in job ref ≡ false) p.term.sparse (ref_at p.term r) told.sparse (ref_in p.term r low)

-- ---- views

view_in : (job : Checked) (number rank : ℕ) (entries : Entries) (places : Places) (t : Tree) → IsView job entries places rank number t → IsViewIn job number t
view_in job number rank entries places t is = record {
  array = is.array;
  format = is.format;
  array_is = is.array_is;
  format_is = is.format_is;
  lawful = is.lawful;
  levels = is.levels;
  outer = is.outer;
}

pub views_of : (s : Setting) (rank : ℕ) (p : PlannedTerm) (entries : Entries) → IsPlanOf s.job s.nest p.term p.plan → HaveParts s entries rank → AreViewsOf s.job entries s.places rank p.term (tree_of p.term s.trees)
views_of s rank p entries is parts r low =
    let (array, element) = (read_of s.job s.nest p.term p.plan is r low).element in
    parts.sparse (ref_at p.term r).array array element.named (sparse_not_whole s.job s.nest p is r low array element.named)

-- ---- hits

module _ (s : Setting) (rank : ℕ) (p : PlannedTerm) (can : CanPass s rank (p ∷ [])) where
  pub plan_is : IsPlanOf s.job s.nest p.term p.plan
  plan_is = All-head (λ p. IsPlanOf s.job s.nest p.term p.plan) p [] can.plans

  pub nest_is : IsNestOf s.job s.nest
  nest_is = nest_of s.job s.nest p.term p.plan plan_is

  pub can_start : CanStart (scene_of s p) rank
  can_start = record {
    plan = plan_is;
    some = can.some;
    placed = can.at.placed;
    views = λ r low. view_in s.job (ref_at p.term r).array rank can.entries s.places (tree_of p.term s.trees r) (views_of s rank p can.entries plan_is can.parts r low);
  }

  answer_sound : All (λ x. IsInBox (spans_of s.nest.vars) x × (home_of s.job s.places s.nest x ≡ rank)) (answer s.job can.entries s.places s.nest p.term rank)
  answer_sound k d below =
      let xs = answer s.job can.entries s.places s.nest p.term rank in
      let x = get_or xs k d in
      let at_home : List ℤ → Bool = λ x. home_of s.job s.places s.nest x == rank && is_active s.job can.entries x p.term in
      let within : Contains xs x = Contains-get_or xs k d below in
      let visited = filtered_in at_home (points s.nest) x within in (
        All-contains (IsInBox (spans_of s.nest.vars)) (box_of s.nest) x (box_long s.nest) (filtered_in (meets s.nest.guards) (box_of s.nest) x visited),
        eqb-true (home_of s.job s.places s.nest x) rank (and_parts (home_of s.job s.places s.nest x == rank) (is_active s.job can.entries x p.term) (filtered_passes at_home (points s.nest) x within)).0,
      )

  pub hits_are : IsPermutation (answer s.job can.entries s.places s.nest p.term rank) (map (λ h. h.point) (walk (term_course (scene_of s p) rank) origin))
  hits_are = are_the_answer (scene_of s p) rank can.entries can_start (views_of s rank p can.entries plan_is can.parts)

  all_leaves : All (λ h. (r : ℕ) → r < length p.term.sparse → IsLeaf (tree_in s (ref_at p.term r).array) (node_of h r)) (walk (term_course (scene_of s p) rank) origin)
  unfolding job_way
  all_leaves =
      let way = job_way s.job s.places s.nest p.term rank p.plan in
      let exact = each-active_point-once (seen way s.trees) way.unused origin (is_way s.job s.places s.ranks s.nest p rank s.trees can_start).course in
      subst (λ c. All (λ h. (r : ℕ) → r < length p.term.sparse → IsLeaf (tree_in s (ref_at p.term r).array) (node_of h r)) (walk c origin)) (course_is (scene_of s p) rank)
      (λ k d below r low. exact.valid k d below r (omega (arith, low, length-map p.term.sparse (sparse_ref (levels_in s.job)))))

  pub all_sound : All (IsSound s rank p.term) (walk (term_course (scene_of s p) rank) origin)
  all_sound k d below =
      let hs = walk (term_course (scene_of s p) rank) origin in
      let points : All (λ x. IsInBox (spans_of s.nest.vars) x × (home_of s.job s.places s.nest x ≡ rank)) (map (λ h. h.point) hs) =
      All-permutation (λ x. IsInBox (spans_of s.nest.vars) x × (home_of s.job s.places s.nest x ≡ rank)) (answer s.job can.entries s.places s.nest p.term rank) (map (λ h. h.point) hs) hits_are answer_sound in
      let here = All-contains (λ x. IsInBox (spans_of s.nest.vars) x × (home_of s.job s.places s.nest x ≡ rank)) (map (λ h. h.point) hs) (get_or hs k d).point points
      (contains_map (λ (h : Hit). h.point) hs (get_or hs k d) (Contains-get_or hs k d below)) in
      record { box = here.0; home = here.1; leaves = all_leaves k d below }
