-- One view more.
use Rattle.std.proofs.Common.{◌≡◌, ◌∙◌, ℕ, List, [], ◌∷◌, ◌++◌, Some, length, map, sym, ap, subst}
use Rattle.std.specs.Prelude.{slice_get}
use Rattle.std.proofs.lemmas.List.{length-map, map-append}
use Rattle.bern_base.specs.declared.job.Checked.{Checked}
use Rattle.format_model.specs.Trees.{Tree}
use Rattle.node_prog.specs.Conditions.{IsViewIn}
use Rattle.whole_runs.proofs.ListLemmas.{each_more}

pub view_more : {V : Type 0} (tree : V → Tree) (job : Checked) (vs ws : List V) (v : V) (n : ℕ) → ws ≡ vs ++ v ∷ [] → length vs ≡ n →
    ((k : ℕ) (t : Tree) → slice_get (map tree vs) k ≡ Some t → IsViewIn job k t) → IsViewIn job n (tree v) → (k : ℕ) (t : Tree) → slice_get (map tree ws) k ≡ Some t → IsViewIn job k t
view_more tree job vs ws v n is count each here k t at =
    each_more (IsViewIn job) (map tree vs) (tree v) each (subst (λ i. IsViewIn job i (tree v)) (sym (length-map vs tree ∙ count)) here) k t
    (subst (λ ts. slice_get ts k ≡ Some t) (ap (map tree) is ∙ map-append tree vs (v ∷ [])) at)
