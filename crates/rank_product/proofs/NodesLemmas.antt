-- A list of new nodes that grows by one.
use Rattle.std.proofs.Common.{◌≡◌, ℕ, zero, suc, ◌+◌, List, [], ◌∷◌, ◌++◌, Some, length, slice_get, length-append, refl, sym, ap, ◌∙◌, subst}
use Rattle.rank_model.specs.Products.{Run, scripts}
use Rattle.rank_scripts.specs.Nodes.{fresh}
use Rattle.rank_node.specs.declared.node.Node.{Node}
use Rattle.rank_node.specs.NodeStates.{node_of}
use Rattle.rank_node.proofs.ListLemmas.{some_same}
use Rattle.interleave.specs.Worlds.{IsRank, IsStart}

-- what holds of each element at its place holds also with one more
pub each_more : {A : Type 0} (P : ℕ → A → Type 0) (xs : List A) (x : A) → ((r : ℕ) (y : A) → slice_get xs r ≡ Some y → P r y) → P (length xs) x → (r : ℕ) (y : A) → slice_get (xs ++ x ∷ []) r ≡ Some y → P r y
each_more P [] x each here zero y at = subst (P 0) (some_same at) here
each_more P [] x each here (suc r) y at = absurd (cc)
each_more P (z ∷ zs) x each here zero y at = each zero y at
each_more P (z ∷ zs) x each here (suc r) y at = each_more (λ k. P (suc k)) zs x (λ k w is. each (suc k) w is) here r y at

-- the node is the new one of rank r
pub record IsNew (run : Run) (r : ℕ) (n : Node) : Type 0 where
  pub rank : IsRank run r n
  pub fresh_is : node_of run n ≡ fresh (scripts run) r

-- new nodes of the ranks below a number
pub record AreNew (run : Run) (count : ℕ) (nodes : List Node) : Type 0 where
  pub long : length nodes ≡ count
  pub each : (r : ℕ) (n : Node) → slice_get nodes r ≡ Some n → IsNew run r n

pub new_none : (run : Run) → AreNew run 0 []
new_none run = record { long = refl; each = λ r n at. absurd (cc) }

pub new_more : (run : Run) (count : ℕ) (nodes after : List Node) (n : Node) → AreNew run count nodes → after ≡ nodes ++ n ∷ [] → IsNew run count n → AreNew run (count + 1) after
new_more run count nodes after n so pushed new =
    let long : length (nodes ++ n ∷ []) ≡ count + 1 = simp length-append (ap (λ k. k + 1) so.long) in
    subst (AreNew run (count + 1)) (sym pushed) (record {
      long = long;
      each = each_more (IsNew run) nodes n so.each (subst (λ k. IsNew run k n) (sym so.long) new);
    })

pub start_of : (run : Run) (count : ℕ) (nodes : List Node) → count ≡ run.ranks → AreNew run count nodes → IsStart run nodes
start_of run count nodes all are = record {
  count = are.long ∙ all;
  nodes_are = λ r n at. (are.each r n at).rank;
  fresh_are = λ r n at. (are.each r n at).fresh_is;
}
