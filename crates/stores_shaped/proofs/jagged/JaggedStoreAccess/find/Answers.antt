use Rattle.std.proofs.Common.{◌≡◌, ℕ, ◌-◌, Some, get_or, sym, ap, ◌∙◌, arith}
use Rattle.std.specs.Option.{option_map}
use Rattle.format_model.specs.Trees.{child_at}
use Rattle.stores_packed.specs.Packed.{placed}
use Rattle.stores_shaped.specs.Jagged.{jagged_index, jagged_leaf}
use Rattle.stores_shaped.proofs.JaggedLemmas.{found_of_place, line_of_place, root_found, root_none}
use Rattle.stores_shaped.proofs.jagged.JaggedStoreAccess.find.Goals as goal

pub search-requires-clause-to : goal.search-requires-clause-to
search-requires-clause-to g c =
    let s = c.args.self.now in
    let line = line_of_place s.order s.counts.items s.starts.items s.indices.items s.values.items c.args.level c.args.parent c.if-level-gt0.true c.requires in
    omega (arith, line.count, c.line.ensures.from, c.line.ensures.to)

pub leaf-requires-clause-within : goal.leaf-requires-clause-within
leaf-requires-clause-within g c =
    let s = c.args.self.now in
    let line = line_of_place s.order s.counts.items s.starts.items s.indices.items s.values.items c.args.level c.args.parent c.if-level-gt0.true c.requires in
    omega (arith, line.count, c.line.ensures.from, c.line.ensures.to, c.in-Some.ensures.within)

pub returns-in-Some-clause-found : goal.returns-in-Some-clause-found
returns-in-Some-clause-found g c =
    let s = c.args.self.now in
    let line = line_of_place s.order s.counts.items s.starts.items s.indices.items s.values.items c.args.level c.args.parent c.if-level-gt0.true c.requires in
    let f : ℕ → ℕ = jagged_index s.starts.items s.indices.items c.args.parent in
    let n : ℕ = get_or s.counts.items c.args.parent 0 in
    let count : c.line.result.to - c.line.result.from ≡ n = omega (arith, line.count, c.line.ensures.from, c.line.ensures.to) in
    ap Some c.leaf.ensures.leaf
    ∙ ap (option_map (jagged_leaf s.starts.items c.args.parent))
    (c.in-Some.ensures.found
    ∙ ap (λ k. child_at (placed f c.line.result.from k) c.args.index) count
    ∙ ap (λ a. child_at (placed f a n) c.args.index) c.line.ensures.from)
    ∙ sym (found_of_place s.order s.counts.items s.starts.items s.indices.items s.values.items c.args.level c.args.parent c.args.index line)

pub returns-in-None-clause-found : goal.returns-in-None-clause-found
returns-in-None-clause-found g c =
    let s = c.args.self.now in
    let line = line_of_place s.order s.counts.items s.starts.items s.indices.items s.values.items c.args.level c.args.parent c.if-level-gt0.true c.requires in
    let f : ℕ → ℕ = jagged_index s.starts.items s.indices.items c.args.parent in
    let n : ℕ = get_or s.counts.items c.args.parent 0 in
    let count : c.line.result.to - c.line.result.from ≡ n = omega (arith, line.count, c.line.ensures.from, c.line.ensures.to) in
    ap (option_map (jagged_leaf s.starts.items c.args.parent))
    (c.in-None.ensures.found
    ∙ ap (λ k. child_at (placed f c.line.result.from k) c.args.index) count
    ∙ ap (λ a. child_at (placed f a n) c.args.index) c.line.ensures.from)
    ∙ sym (found_of_place s.order s.counts.items s.starts.items s.indices.items s.values.items c.args.level c.args.parent c.args.index line)

pub returns-then-index-len-clause-found : goal.returns-then-index-len-clause-found
returns-then-index-len-clause-found g c =
    let s = c.args.self.now in
    root_found s.order s.inverse s.counts.items s.starts.items s.indices.items c.args.level c.args.parent c.args.index c.at.result.now s.jagged.undo c.if-level-gt0.false (omega (arith, c.len.ensures)) c.at.ensures

pub returns-else-index-len-clause-found : goal.returns-else-index-len-clause-found
returns-else-index-len-clause-found g c =
    let s = c.args.self.now in root_none s.order s.inverse s.counts.items s.starts.items s.indices.items c.args.level c.args.parent c.args.index s.jagged.undo c.if-level-gt0.false (omega (arith, c.len.ensures))
