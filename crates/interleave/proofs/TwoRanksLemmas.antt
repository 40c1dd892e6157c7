-- The run of two ranks by hand is a run, and its job and its parts are those of its nodes.
use Rattle.std.proofs.Common.{◌≡◌, ℕ, zero, suc, ◌<◌, true, List, [], ◌∷◌, Some, slice_get, lit<, lit≤, refl, sym, ap, subst, arith}
use Rattle.std.specs.List.{All}
use Rattle.std.proofs.lemmas.Bool.{false≢true}
use Rattle.std.proofs.lemmas.List.Elements.{All-nil, All-cons}
use Rattle.bern_base.specs.Matrix.{matrix_values, IsInside}
use Rattle.bern_base.specs.declared.job.Expr.{out-roll-Expr}
use Rattle.bern_base.specs.declared.job.PlaceKind.TheVariants.{Block}
use Rattle.bern_base.specs.declared.job.Product.{roll-Product}
use Rattle.bern_base.specs.declared.matrix.Entry.{Entry}
use Rattle.placement.specs.CyclicLaws.{is_placement}
use Rattle.placement.specs.Placement.{local_of, owned_indices, owner_of}
use Rattle.placement.specs.declared.part.Part.{Part}
use Rattle.rank_model.specs.Products.{IsRun, answer_part, part_values, scripts}
use Rattle.rank_scripts.specs.Nodes.{fresh}
use Rattle.rank_node.specs.declared.node.Node.{Node}
use Rattle.rank_node.specs.Jobs.{ArePartsOf, IsJobOf, is_whole}
use Rattle.rank_node.specs.NodeStates.{node_of}
use Rattle.rank_node.proofs.ListLemmas.{some_same}
use Rattle.interleave.specs.TwoRanks.{array_of_two, entry_at, factors_of_two, job_of_two, nest_of_two, parts_of_two, run_of_two}
use Rattle.interleave.specs.Worlds.{IsRank, IsStart}

dense_within : (array : ℕ) → is_whole job_of_two array ≡ true → array < 3
dense_within zero whole = lit< tt
dense_within (suc zero) whole = lit< tt
dense_within (suc (suc zero)) whole = lit< tt
dense_within (suc (suc (suc k))) whole = absurd (false≢true whole)

pub run_is : IsRun run_of_two
run_is =
    let inside : Entry → Type 0 = IsInside 2 2 in record {
      some = lit< tt;
      most = lit≤ tt;
      placed = is_placement 2 2 1 (lit< tt) (lit< tt);
      extent = lit≤ tt;
      inside = All-cons inside (entry_at 0 1 3) (entry_at 1 1 2 ∷ []) (lit< tt, lit< tt) (All-cons inside (entry_at 1 1 2) [] (lit< tt, lit< tt) (All-nil inside));
      apart = λ e. omega arith;
      target = lit< tt;
      source = lit< tt;
      dense_within = dense_within;
      target_dense = refl;
      source_dense = refl;
      target_long = refl;
      target_held = λ p. refl;
      source_held = λ p. refl;
    }

pub job_is : IsJobOf run_of_two job_of_two
job_is = record {
  nest = nest_of_two;
  nests = refl;
  product = record {
    box = refl;
    guards = refl;
    target = refl;
    grows = refl;
    body = ap (λ e. e.sums) (out-roll-Expr (record { sums = roll-Product (record { minus = nest_of_two.replace; factors = factors_of_two }) ∷ [] }));
  };
  array = array_of_two 1 1 0;
  array_is = refl;
  place = record { name = []; extent = 0; kind = Block; arrays_before = 0 };
  place_is = refl;
  extent = record { name = []; size = 2 };
  extent_is = refl;
  size = refl;
  block = 1;
  some_block = lit< tt;
  block_is = refl;
  dealt = refl;
  whole = λ number. refl;
}

-- the entries of each part lie inside
parts_inside : (rank array : ℕ) (part : Part) → slice_get (parts_of_two rank) array ≡ Some part → All (IsInside part.matrix.rows part.matrix.cols) part.matrix.entries
parts_inside rank zero part at =
    subst (λ (p : Part). All (IsInside p.matrix.rows p.matrix.cols) p.matrix.entries) (some_same at) (All-cons (IsInside 1 1) _ [] (lit< tt, lit< tt) (All-nil (IsInside 1 1)))
parts_inside rank (suc zero) part at =
    subst (λ (p : Part). All (IsInside p.matrix.rows p.matrix.cols) p.matrix.entries) (some_same at) (All-cons (IsInside 1 1) _ [] (lit< tt, lit< tt) (All-nil (IsInside 1 1)))
parts_inside rank (suc (suc zero)) part at =
    subst (λ (p : Part). All (IsInside p.matrix.rows p.matrix.cols) p.matrix.entries) (some_same at) (All-cons (IsInside 1 2) _ [] (lit< tt, lit< tt) (All-nil (IsInside 1 2)))
parts_inside rank (suc (suc (suc k))) part at = absurd (cc)

-- the values of a part that is stored whole are those of its rank
abbrev HasValues : ℕ → ℕ → Part → Type 0
HasValues rank array part = matrix_values part.matrix.rows part.matrix.cols part.matrix.entries ≡ part_values run_of_two run_of_two.first array rank

parts_whole : (rank array : ℕ) (part : Part) → rank < 2 → slice_get (parts_of_two rank) array ≡ Some part → is_whole job_of_two array ≡ true → HasValues rank array part
unfolding owned_indices
parts_whole zero zero part below at whole = subst (HasValues 0 0) (some_same at) refl
parts_whole (suc zero) zero part below at whole = subst (HasValues 1 0) (some_same at) refl
parts_whole zero (suc zero) part below at whole = subst (HasValues 0 1) (some_same at) refl
parts_whole (suc zero) (suc zero) part below at whole = subst (HasValues 1 1) (some_same at) refl
parts_whole zero (suc (suc zero)) part below at whole = absurd (false≢true whole)
parts_whole (suc zero) (suc (suc zero)) part below at whole = absurd (false≢true whole)
parts_whole zero (suc (suc (suc k))) part below at whole = absurd (cc)
parts_whole (suc zero) (suc (suc (suc k))) part below at whole = absurd (cc)
parts_whole (suc (suc rank)) array part below at whole = absurd (omega arith)

parts_stored : (rank : ℕ) (part : Part) → rank < 2 → slice_get (parts_of_two rank) 2 ≡ Some part → part.matrix.entries ≡ answer_part run_of_two rank
unfolding owner_of local_of
parts_stored zero part below at = ap (λ (p : Part). p.matrix.entries) (sym (some_same at))
parts_stored (suc zero) part below at = ap (λ (p : Part). p.matrix.entries) (sym (some_same at))
parts_stored (suc (suc rank)) part below at = absurd (omega arith)

pub parts_are : (rank : ℕ) → rank < 2 → ArePartsOf run_of_two rank (parts_of_two rank)
parts_are rank below = record {
  long = refl;
  inside = λ array part at whole. parts_inside rank array part at;
  whole = λ array part at whole. parts_whole rank array part below at whole;
  stored = lit< tt;
  entries = λ part at. parts_stored rank part below at;
}

-- two new nodes are a start
at_two : (P : ℕ → Node → Type 0) (zeroth first : Node) → P 0 zeroth → P 1 first → (r : ℕ) (n : Node) → slice_get (zeroth ∷ first ∷ []) r ≡ Some n → P r n
at_two P zeroth first a b zero n at = subst (P 0) (some_same at) a
at_two P zeroth first a b (suc zero) n at = subst (P 1) (some_same at) b
at_two P zeroth first a b (suc (suc r)) n at = absurd (cc)

pub start_is : (nodes : List Node) (zeroth first : Node) → nodes ≡ zeroth ∷ first ∷ [] → IsRank run_of_two 0 zeroth → IsRank run_of_two 1 first →
    node_of run_of_two zeroth ≡ fresh (scripts run_of_two) 0 → node_of run_of_two first ≡ fresh (scripts run_of_two) 1 → IsStart run_of_two nodes
start_is nodes zeroth first are a b c d =
    subst (IsStart run_of_two) (sym are) (record {
      count = refl;
      nodes_are = at_two (IsRank run_of_two) zeroth first a b;
      fresh_are = at_two (λ r n. node_of run_of_two n ≡ fresh (scripts run_of_two) r) zeroth first c d;
    })
