-- A stored array as a tree of levels. Below the root stand the nodes of level 0, below each of these its children in level 1; the
-- children in the last level are leaves and have values.
use Rattle.std.specs.Prelude.{◌≡◌, ℕ, zero, suc, ◌<◌, ◌≤◌, ◌==◌, Bool, true, List, Option, length, map}
use Rattle.std.specs.Map.{lookup}
use Rattle.std.specs.List.{All, AllPairs, count_by}
use Rattle.bern_base.specs.declared.axes.Axis.{Axis}
use Rattle.bern_base.specs.declared.matrix.Matrix.{Matrix}
use Rattle.bern_base.specs.declared.shape.Shape.{Shape}
use Rattle.format_model.specs.declared.limits.TheConstants.{MOST_INDEX}
use Rattle.format_model.specs.Content.{Content, One, Two, content_of}
use Rattle.format_model.specs.Levels.{Level, level_at, levels_of, steps_of}

pub record Tree : Type 0 where
  -- the outer level first
  pub levels : List Level
  -- how many parents a level has, each by a number below this; at the number of levels, how many leaves
  pub nodes : ℕ → ℕ
  -- where the line of a parent's children begins in its level, for a level and a parent
  pub start : ℕ → ℕ → ℕ
  -- the children of a parent in their order: each index with its child
  pub children : ℕ → ℕ → List (ℕ × ℕ)
  -- the value at a leaf
  pub value : ℕ → ℕ

abbrev pub depth_of : Tree → ℕ
depth_of t = length t.levels

abbrev pub IsParent : Tree → ℕ → ℕ → Type 0
IsParent t level parent = (level < depth_of t) × (parent < t.nodes level)

abbrev pub IsLeaf : Tree → ℕ → Type 0
IsLeaf t leaf = leaf < t.nodes (depth_of t)

abbrev pub axis_at : Tree → ℕ → Axis
axis_at t level = (level_at t.levels level).axis

abbrev pub ordered_at : Tree → ℕ → Bool
ordered_at t level = (level_at t.levels level).ordered

-- the most steps of one search below a parent
abbrev pub weight_at : Tree → ℕ → ℕ → ℕ
weight_at t level parent = steps_of (level_at t.levels level).lookup (length (t.children level parent))

-- the child of an index, where one has it
abbrev pub child_at : List (ℕ × ℕ) → ℕ → Option ℕ
child_at children index = lookup (λ i. i == index) children

-- one or two levels and one root; children are nodes of the next level; no index stands twice below a parent; indices rise where a level is ordered; and
-- none is past the largest index
pub record IsTree (t : Tree) : Type 0 where
  pub some : 0 < depth_of t
  pub few : depth_of t ≤ 2
  pub root : t.nodes 0 ≡ 1
  pub within : (level parent : ℕ) → IsParent t level parent → All (λ c. c.1 < t.nodes (suc level)) (t.children level parent)
  pub once : (level parent : ℕ) → IsParent t level parent → (index : ℕ) → count_by (λ c. c.0 == index) (t.children level parent) ≤ 1
  pub rises : (level parent : ℕ) → IsParent t level parent → ordered_at t level ≡ true → AllPairs (λ a b. a.0 < b.0) (t.children level parent)
  pub small : (level parent : ℕ) → IsParent t level parent → All (λ c. c.0 ≤ MOST_INDEX) (t.children level parent)

-- the indices below a parent of the last level, with the values at their leaves
abbrev pub leaves_below : Tree → ℕ → ℕ → List (ℕ × ℕ)
leaves_below t level parent = map (λ c. (c.0, t.value c.1)) (t.children level parent)

abbrev pub content_by : ℕ → Tree → Content
content_by (suc zero) t = One (leaves_below t 0 0)
content_by other t = Two (map (λ c. (c.0, leaves_below t 1 c.1)) (t.children 0 0))

-- what a tree lists, without the numbers of its nodes
abbrev pub content : Tree → Content
content t = content_by (depth_of t) t

-- a tree describes a part in a format: it has the format's levels, and lists what the format lists of the part
pub record Describes (t : Tree) (s : Shape) (globals order : List ℕ) (m : Matrix) : Type 0 where
  pub levels : t.levels ≡ levels_of s
  pub content : content t ≡ content_of s globals order m
