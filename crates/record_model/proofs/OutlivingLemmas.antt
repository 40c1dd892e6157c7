-- Trees that are alike but for values lead to the same leaves.
use Rattle.std.proofs.Common.{◌≡◌, ◌∙◌, ◌<◌, ℕ, zero, suc, List, [], ◌∷◌, Option, Some, None, ℤ, length, refl, sym, ap, subst}
use Rattle.std.specs.Prelude.{slice_index_or}
use Rattle.std.specs.List.{AllZip}
use Rattle.std.specs.Option.{option_and_then}
use Rattle.bern_base.specs.declared.job.Checked.{Checked}
use Rattle.bern_base.specs.declared.job.Nest.{Nest}
use Rattle.bern_base.specs.declared.job.Ref.{Ref}
use Rattle.bern_base.specs.declared.letter.NeedSet.{NeedSet}
use Rattle.format_model.specs.Grids.{SameBranches}
use Rattle.format_model.specs.Laws.{reached}
use Rattle.format_model.specs.Trees.{Tree, child_at}
use Rattle.node_prog.specs.Conditions.{tree_of}
use Rattle.node_prog.specs.declared.record.Recorded.{Recorded}
use Rattle.pass_model.specs.Interior.{boundary_points}
use Rattle.plan_courses.specs.JobCourses.{path_at, ref_at}
use Rattle.term_model.specs.declared.plan.PlannedTerm.{PlannedTerm}
use Rattle.term_model.specs.declared.term.Term.{Term}
use Rattle.term_model.specs.Activity.{Entries}
use Rattle.term_model.specs.Answers.{Places}
use Rattle.visits.specs.Ways.{no_tree}
use Rattle.record_model.specs.Outliving.{RecordsOutliveValues}
use Rattle.record_model.specs.Records.{AreRecords, IsLeafAt, IsRecordOf, Records}

reached_alike : (old new : Tree) → SameBranches old new → (level node : ℕ) (path : List ℕ) → reached new level node path ≡ reached old level node path
reached_alike old new same level node [] = refl
reached_alike old new same level node (index ∷ path) =
    ap (λ children. option_and_then (λ child. reached new (suc level) child path) (child_at children index)) (same.children level node)
    ∙ by (λ child. reached_alike old new same (suc level) child path) (child_at (old.children level node) index)
  where
    by : ((child : ℕ) → reached new (suc level) child path ≡ reached old (suc level) child path) → (found : Option ℕ) → option_and_then (λ child. reached new (suc level) child path) found ≡ option_and_then (λ child. reached old (suc level) child path) found
    by rest None = refl
    by rest (Some child) = rest child

no_change : (t : Tree) → SameBranches t t
no_change t = record { levels = refl; nodes = λ level. refl; start = λ level parent. refl; children = λ level parent. refl }

tree_alike : (old new : List Tree) (n : ℕ) → AllZip SameBranches old new → SameBranches (slice_index_or old n no_tree) (slice_index_or new n no_tree)
tree_alike [] [] n all = no_change no_tree
tree_alike [] (t ∷ new) n all = absurd all
tree_alike (t ∷ old) [] n all = absurd all
tree_alike (t ∷ old) (u ∷ new) zero all = all.0
tree_alike (t ∷ old) (u ∷ new) (suc n) all = tree_alike old new n all.1

leaf_alike : (job : Checked) (point : List ℤ) (ref : Ref) (old new : Tree) (leaf : ℕ) → SameBranches old new → IsLeafAt job point ref old leaf → IsLeafAt job point ref new leaf
leaf_alike job point ref old new leaf same is = record {
  is_leaf = subst (λ n. leaf < n) (sym (same.nodes (length new.levels) ∙ ap (λ ls. old.nodes (length ls)) same.levels)) is.is_leaf;
  leads = reached_alike old new same 0 0 (path_at job ref point) ∙ is.leads;
}

zip_weaker : {A B : Type 0} (R S : A → B → Type 0) → ((x : A) (y : B) → R x y → S x y) → (xs : List A) (ys : List B) → AllZip R xs ys → AllZip S xs ys
zip_weaker R S f [] [] all = tt
zip_weaker R S f [] (y ∷ ys) all = absurd all
zip_weaker R S f (x ∷ xs) [] all = absurd all
zip_weaker R S f (x ∷ xs) (y ∷ ys) all = (f x y all.0, zip_weaker R S f xs ys all.1)

module _ (job : Checked) (entries : Entries) (places : Places) (rank : ℕ) (nest : Nest) (sets : List NeedSet) (old new : List Tree) (same : AllZip SameBranches old new) where
  record_alike : (t : Term) (point : List ℤ) (r : Recorded) → IsRecordOf job places rank nest sets t old point r → IsRecordOf job places rank nest sets t new point r
  record_alike t point r is = record {
    target = is.target;
    slots = is.slots;
    leaves = λ k low. leaf_alike job point (ref_at t k) (tree_of t old k) (tree_of t new k) (slice_index_or r.leaves k 0) (tree_alike old new (ref_at t k).array same) (is.leaves k low);
  }

  records_alike : (t : Term) (points : List (List ℤ)) (records : List Recorded) → AreRecords job places rank nest sets t old points records → AreRecords job places rank nest sets t new points records
  records_alike t points records are = record {
    listed = are.listed;
    once = are.once;
    each = zip_weaker (IsRecordOf job places rank nest sets t old) (IsRecordOf job places rank nest sets t new) (record_alike t) are.listed records are.each;
  }

  all_alike : (planned : List PlannedTerm) (records : List (List Recorded)) → Records job entries places rank nest sets old planned records → Records job entries places rank nest sets new planned records
  all_alike planned records are =
      zip_weaker
      (λ p rs. AreRecords job places rank nest sets p.term old (boundary_points job entries places nest p.term rank) rs)
      (λ p rs. AreRecords job places rank nest sets p.term new (boundary_points job entries places nest p.term rank) rs)
      (λ p rs is. records_alike p.term (boundary_points job entries places nest p.term rank) rs is) planned records are

pub records-outlive_values : RecordsOutliveValues
records-outlive_values job entries places rank nest sets old new planned records same are = all_alike job entries places rank nest sets old new same planned records are
