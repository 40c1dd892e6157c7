-- What the owners of the target hold at the end.
use Rattle.std.proofs.Common.{◌≡◌, ℕ, ◌<◌, true, List, [], Some, length, map, get_or, slice_get, sym, ap, ◌∙◌, arith}
use Rattle.std.proofs.lemmas.Option.{get_or_from_slice_get}
use Rattle.std.specs.Prelude.{slice_index}
use Rattle.std.specs.List.{range_with_len}
use Rattle.std.proofs.Math.Nat.{zero-add}
use Rattle.std.proofs.lemmas.List.{length-map, get_or-set_same}
use Rattle.std.proofs.lemmas.List.FromFn.{get_or-map-range_with_len}
use Rattle.bern_base.specs.declared.letter.Letter.{Letter}
use Rattle.job_model.specs.State.{read}
use Rattle.placement.specs.Placement.{Triple, owner_of, local_of, owned_indices, owned_of}
use Rattle.placement.specs.PlacementLaws.{owner-below, local-below}
use Rattle.placement.proofs.IndexLemmas.{length-owned_indices}
use Rattle.rank_model.specs.Products.{IsRun, Run, end_state, end_value, part_values}
use Rattle.rank_scripts.specs.Acts.{at_end}
use Rattle.rank_node.specs.declared.node.Node.{Node}
use Rattle.rank_node.specs.NodeStates.{node_of}
use Rattle.rank_node.proofs.SourceLemmas.{own_read}
use Rattle.interleave.specs.Worlds.{IsFit, AreAtEnd}

-- the target at the end
end_read : (run : Run) (i : ℕ) → IsRun run → i < length run.place → read (end_state run) run.target i ≡ end_value run i
end_read run i is below =
    let values : List ℕ = map (end_value run) (range_with_len 0 (length run.place)) in
    ap (λ vs. slice_index vs i) (get_or-set_same run.first run.target values [] is.target) ∙ get_or-map-range_with_len (end_value run) 0 (length run.place) i i 0 below (zero-add i)

-- the owner of an index is one of the nodes
pub owner_within : (run : Run) (nodes : List Node) (boxes : List (List (List Letter))) (place : List Triple) (i r : ℕ) → IsFit run nodes boxes → place ≡ run.place → i < length run.place → r ≡ owner_of place i → r < length nodes
owner_within run nodes boxes place i r fit same below owner =
    let within : owner_of run.place i < run.ranks = owner-below fit.run_is.placed i below in
    let at : r ≡ owner_of run.place i = owner ∙ ap (λ ts. owner_of ts i) same in
    omega (arith, within, at, fit.count)

-- the values of the target that the owner of an index holds
pub record HoldsEnd (run : Run) (place : List Triple) (i : ℕ) (held : List ℕ) : Type 0 where
  pub rank : ℕ
  pub same : place ≡ run.place
  pub below : i < length run.place
  pub owner : rank ≡ owner_of place i
  pub values : held ≡ part_values run (end_state run) run.target rank

pub holds_end : (run : Run) (nodes now : List Node) (boxes : List (List (List Letter))) (place : List Triple) (i r : ℕ) (n : Node) (held : List ℕ) → IsFit run nodes boxes → AreAtEnd run nodes → place ≡ run.place → i < length run.place →
    r ≡ owner_of place i → now ≡ nodes → slice_get now r ≡ Some n → (at_end (node_of run n).todo ≡ true → held ≡ part_values run (end_state run) run.target n.rank) → HoldsEnd run place i held
holds_end run nodes now boxes place i r n held fit end same below owner are at values =
    let here : slice_get nodes r ≡ Some n = ap (λ ns. slice_get ns r) (sym are) ∙ at in record {
      rank = r;
      same = same;
      below = below;
      owner = owner;
      values = values (end.done r n here) ∙ ap (part_values run (end_state run) run.target) (fit.nodes_are r n here).rank;
    }

held_values : (run : Run) (place : List Triple) (i : ℕ) (held : List ℕ) → IsRun run → (h : HoldsEnd run place i held) → held ≡ map (read (end_state run) run.target) (owned_indices run.place h.rank)
held_values run place i held is h =
    h.values ∙ ap (map (read (end_state run) run.target)) (is.target_held h.rank)

pub local_within : (run : Run) (place : List Triple) (i l : ℕ) (held : List ℕ) → IsRun run → HoldsEnd run place i held → l ≡ local_of place i → l < length held
local_within run place i l held is h local =
    let long : length held ≡ owned_of run.place h.rank =
    ap length (held_values run place i held is h) ∙ length-map (owned_indices run.place h.rank) (read (end_state run) run.target) ∙ length-owned_indices run.place h.rank in
    let owner : h.rank ≡ owner_of run.place i = h.owner ∙ ap (λ ts. owner_of ts i) h.same in
    let there : local_of run.place i < owned_of run.place (owner_of run.place i) = local-below is.placed i h.below in
    let at : l ≡ local_of run.place i = local ∙ ap (λ ts. local_of ts i) h.same in
    let owned : owned_of run.place h.rank ≡ owned_of run.place (owner_of run.place i) = ap (owned_of run.place) owner in
    omega (arith, long, there, at, owned)

pub end_read_at : (run : Run) (place : List Triple) (i l v : ℕ) (held : List ℕ) → IsRun run → HoldsEnd run place i held → l ≡ local_of place i → slice_get held l ≡ Some v → v ≡ end_value run i
end_read_at run place i l v held is h local read_is =
    let at : l ≡ local_of run.place i = local ∙ ap (λ ts. local_of ts i) h.same in
    let owner : owner_of run.place i ≡ h.rank = sym (h.owner ∙ ap (λ ts. owner_of ts i) h.same) in
    sym (get_or_from_slice_get held l v 0 read_is)
    ∙ ap (λ k. get_or held k 0) at
    ∙ own_read run.ranks run.place h.rank i (read (end_state run) run.target) held is.placed (held_values run place i held is h) h.below owner
    ∙ end_read run i is h.below
