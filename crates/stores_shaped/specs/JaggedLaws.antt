-- The arrays of a jagged store are a tree.
use Rattle.std.proofs.Common.{◌≡◌, ℕ, zero, suc, ◌<◌, ◌≤◌, true, List, length, get_or, refl, arith}
use Rattle.std.specs.List.{All, AllPairs, count_by}
use Rattle.std.specs.Prelude.{◌==◌}
use Rattle.std.proofs.lemmas.Bool.{false≢true}
use Rattle.format_model.specs.Made.{made_all, made_once, made_rises}
use Rattle.format_model.specs.Trees.{IsParent, IsTree, ordered_at}
use Rattle.format_model.specs.declared.limits.TheConstants.{MOST_INDEX}
use Rattle.stores_shaped.specs.Jagged.{IsJagged, jagged_children, jagged_index, jagged_leaf, jagged_nodes, jagged_tree}
use Rattle.stores_shaped.specs.PermutedLaws.{rows_apart}

within_at : (order inverse counts starts indices values : List ℕ) → IsJagged order inverse counts starts indices values → (level parent : ℕ)
    → IsParent (jagged_tree order counts starts indices values) level parent
    → All (λ c. c.1 < jagged_nodes (length order) (length indices) (suc level)) (jagged_children order counts starts indices level parent)
within_at order inverse counts starts indices values j zero parent is =
    made_all (λ c. c.1 < length order) (λ k. get_or order k 0) (λ k. k) 0 (length order) (λ k low high. omega arith)
within_at order inverse counts starts indices values j (suc zero) parent is =
    made_all (λ c. c.1 < length indices) (jagged_index starts indices parent) (jagged_leaf starts parent) 0 (get_or counts parent 0)
    (λ d low high. j.within parent d is.1 (omega arith))
within_at order inverse counts starts indices values j (suc (suc level)) parent is = absurd (omega (arith, is.0))

once_at : (order inverse counts starts indices values : List ℕ) → IsJagged order inverse counts starts indices values → (level parent : ℕ)
    → IsParent (jagged_tree order counts starts indices values) level parent
    → (index : ℕ) → count_by (λ c. c.0 == index) (jagged_children order counts starts indices level parent) ≤ 1
once_at order inverse counts starts indices values j zero parent is index =
    made_once (λ k. get_or order k 0) (λ k. k) 0 (length order) index (λ a b low up high. rows_apart order inverse j.undo a b up (omega arith))
once_at order inverse counts starts indices values j (suc zero) parent is index =
    made_once (jagged_index starts indices parent) (jagged_leaf starts parent) 0 (get_or counts parent 0) index
    (λ a b low up high same.
    let less : jagged_index starts indices parent a < jagged_index starts indices parent b = j.rises parent is.1 a b low up (omega arith) in omega arith)
once_at order inverse counts starts indices values j (suc (suc level)) parent is index = absurd (omega (arith, is.0))

rises_at : (order inverse counts starts indices values : List ℕ) → IsJagged order inverse counts starts indices values → (level parent : ℕ)
    → IsParent (jagged_tree order counts starts indices values) level parent → ordered_at (jagged_tree order counts starts indices values) level ≡ true
    → AllPairs (λ a b. a.0 < b.0) (jagged_children order counts starts indices level parent)
rises_at order inverse counts starts indices values j zero parent is up = absurd (false≢true up)
rises_at order inverse counts starts indices values j (suc zero) parent is up =
    made_rises (jagged_index starts indices parent) (jagged_leaf starts parent) 0 (get_or counts parent 0)
    (λ a b low more high. j.rises parent is.1 a b low more (omega arith))
rises_at order inverse counts starts indices values j (suc (suc level)) parent is up = absurd (omega (arith, is.0))

small_at : (order inverse counts starts indices values : List ℕ) → IsJagged order inverse counts starts indices values → (level parent : ℕ)
    → IsParent (jagged_tree order counts starts indices values) level parent
    → All (λ c. c.0 ≤ MOST_INDEX) (jagged_children order counts starts indices level parent)
small_at order inverse counts starts indices values j zero parent is =
    made_all (λ c. c.0 ≤ MOST_INDEX) (λ k. get_or order k 0) (λ k. k) 0 (length order)
    (λ k low high. let row = j.undo.rows k (omega arith) in omega (arith, row, j.few))
small_at order inverse counts starts indices values j (suc zero) parent is =
    made_all (λ c. c.0 ≤ MOST_INDEX) (jagged_index starts indices parent) (jagged_leaf starts parent) 0 (get_or counts parent 0)
    (λ d low high. let small = j.small parent d is.1 (omega arith) in omega (arith, small))
small_at order inverse counts starts indices values j (suc (suc level)) parent is = absurd (omega (arith, is.0))

pub jagged_is_tree : (order inverse counts starts indices values : List ℕ) → IsJagged order inverse counts starts indices values → IsTree (jagged_tree order counts starts indices values)
jagged_is_tree order inverse counts starts indices values j = record {
  some = omega arith;
  few = omega arith;
  root = refl;
  within = within_at order inverse counts starts indices values j;
  once = once_at order inverse counts starts indices values j;
  rises = rises_at order inverse counts starts indices values j;
  small = small_at order inverse counts starts indices values j;
}
