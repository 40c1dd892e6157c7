-- The law of lists, and what they list.
use Rattle.std.proofs.Common.{◌≡◌, ◌≢◌, ℕ, zero, suc, ◌<◌, ◌≤◌, true, List, [], ◌∷◌, length, refl, arith}
use Rattle.std.specs.Prelude.{slice_index}
use Rattle.std.specs.List.{All, AllPairs}
use Rattle.bern_base.specs.declared.axes.Axis.{Axis}
use Rattle.format_model.specs.declared.limits.TheConstants.{MOST_INDEX}
use Rattle.format_model.specs.Levels.{level_at, list_level}
use Rattle.format_model.specs.Made.{made_all, made_once}
use Rattle.format_model.specs.Trees.{IsTree}
use Rattle.stores_flat.specs.Lists.{list_tree}

-- no level of a list rises
unordered : (a : Axis) (level : ℕ) → (level_at (list_level a ∷ []) level).ordered ≡ true → ⊥
unordered a zero is = cc
unordered a (suc level) is = cc

-- no index stands twice, and none is past the largest
pub list_is_tree : (a : Axis) (indices values : List ℕ) → AllPairs (λ i j. i ≢ j) indices → All (λ i. i ≤ MOST_INDEX) indices → IsTree (list_tree a indices values)
list_is_tree a indices values apart small =
    let at : ℕ → ℕ = slice_index indices in
    let leaf : ℕ → ℕ = λ place. place in
    let n : ℕ = length indices in
    record {
      some = omega arith;
      few = omega arith;
      root = refl;
      within = λ level parent is. made_all (λ c. c.1 < n) at leaf 0 n (λ k low high. omega arith);
      once = λ level parent is index. made_once at leaf 0 n index (λ i j low up high same. apart i j 0 up (omega arith) same);
      rises = λ level parent is ordered. absurd (unordered a level ordered);
      small = λ level parent is. made_all (λ c. c.0 ≤ MOST_INDEX) at leaf 0 n (λ k low high. small k 0 (omega arith));
    }
