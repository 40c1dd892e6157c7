use Rattle.std.proofs.Common.{◌≡◌, ℕ, suc, ◌<◌, ◌≤◌, ◌∙◌, Some, subst, sym, arith}
use Rattle.format_model.proofs.SearchLemmas.{child_within}
use Rattle.format_model.specs.Trees.{IsTree, Tree, child_at, depth_of}
use Rattle.store_cases.proofs.reading.found.Goals as goal

-- what a search in a level finds is a node of the next one
node_within : (t : Tree) → IsTree t → (level parent index node : ℕ) → level < depth_of t → parent < t.nodes level → Some node ≡ child_at (t.children level parent) index → node < t.nodes (suc level)
node_within t is level parent index node below inside found = child_within (t.children level parent) index (t.nodes (suc level)) node (is.within level parent (below, inside)) (sym found)

outer_within : (t : Tree) → IsTree t → (index node : ℕ) → Some node ≡ child_at (t.children 0 0) index → node < t.nodes 1
outer_within t is index node found = node_within t is 0 0 index node is.some (let one : t.nodes 0 ≡ 1 = is.root in omega (arith, one)) found

-- one level is not the only one, so there are two
second : (t : Tree) → IsTree t → (levels : ℕ) → levels ≡ depth_of t → (levels ≡ 1 → ⊥) → depth_of t ≡ 2
second t is levels same other = let low : 0 < depth_of t = is.some in let high : depth_of t ≤ 2 = is.few in omega (arith, same, other, low, high)

pub value-requires : goal.value-requires
value-requires g c =
    let t : Tree = g.A.Access.tree c.args.store.now in
    let inside : c.in_ok-node.node < t.nodes 1 = outer_within t (g.met.A.Access.lawful c.args.store.now) c.index_on-outer.result c.in_ok-node.node c.in_ok-node.ensures.found in
    subst (λ d. c.in_ok-node.node < t.nodes d) (sym c.if-levels-eq1.true ∙ c.levels.ensures) inside

pub find-requires-2 : goal.find-requires-2
find-requires-2 g c =
    let t : Tree = g.A.Access.tree c.args.store.now in
    let is : IsTree t = g.met.A.Access.lawful c.args.store.now in
    let two : depth_of t ≡ 2 = second t is c.levels.result c.levels.ensures c.if-levels-eq1.false in
    (omega (arith, two), outer_within t is c.index_on-outer.result c.in_ok-node.node c.in_ok-node.ensures.found)

pub value-requires-2 : goal.value-requires-2
value-requires-2 g c =
    let t : Tree = g.A.Access.tree c.args.store.now in
    let is : IsTree t = g.met.A.Access.lawful c.args.store.now in
    let two : depth_of t ≡ 2 = second t is c.levels.result c.levels.ensures c.if-levels-eq1.false in
    let outer : c.in_ok-node.node < t.nodes 1 = outer_within t is c.index_on-outer.result c.in_ok-node.node c.in_ok-node.ensures.found in
    let inside : c.in_ok-leaf.leaf < t.nodes 2 = node_within t is 1 c.in_ok-node.node c.index_on-inner.result c.in_ok-leaf.leaf (omega (arith, two)) outer c.in_ok-leaf.ensures.found in
    subst (λ d. c.in_ok-leaf.leaf < t.nodes d) (sym two) inside
