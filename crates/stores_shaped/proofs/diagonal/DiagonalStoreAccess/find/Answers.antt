use Rattle.std.proofs.Common.{◌≡◌, ℕ, ◌+◌, ◌-◌, get_or, sym, ap, ◌∙◌, arith}
use Rattle.format_model.specs.Trees.{child_at}
use Rattle.stores_packed.specs.Packed.{placed}
use Rattle.stores_shaped.specs.Diagonals.{diagonal_index}
use Rattle.stores_shaped.proofs.DiagonalLemmas.{line_of_row, root_found, root_none}
use Rattle.stores_shaped.proofs.diagonal.DiagonalStoreAccess.find.Goals as goal

pub search-requires-clause-to : goal.search-requires-clause-to
search-requires-clause-to g c =
    let s = c.args.self.now in
    let line = line_of_row s.cols s.offsets s.globals s.firsts.items s.starts.items s.values.items c.args.level c.args.parent s.diagonal c.if-level-gt0.true c.requires in
    omega (arith, line.count, line.begin, line.order, c.line.ensures.from, c.line.ensures.to)

pub returns-then-level-gt0-clause-found : goal.returns-then-level-gt0-clause-found
returns-then-level-gt0-clause-found g c =
    let s = c.args.self.now in
    let line = line_of_row s.cols s.offsets s.globals s.firsts.items s.starts.items s.values.items c.args.level c.args.parent s.diagonal c.if-level-gt0.true c.requires in
    let f : ℕ → ℕ = diagonal_index s.offsets s.globals s.firsts.items s.starts.items c.args.parent in
    let start : ℕ = get_or s.starts.items c.args.parent 0 in
    let end : ℕ = get_or s.starts.items (c.args.parent + 1) 0 in
    let from : c.line.result.from ≡ start = c.line.ensures.from ∙ line.begin in
    let count : c.line.result.to - c.line.result.from ≡ end - start = omega (arith, line.count, c.line.ensures.to) in
    c.search.ensures.found
    ∙ ap (λ n. child_at (placed f c.line.result.from n) c.args.index) count
    ∙ ap (λ a. child_at (placed f a (end - start)) c.args.index) from
    ∙ ap (λ cs. child_at cs c.args.index) (sym line.children)

pub returns-then-index-len-clause-found : goal.returns-then-index-len-clause-found
returns-then-index-len-clause-found g c =
    let s = c.args.self.now in root_found s.offsets s.globals s.firsts.items s.starts.items c.args.level c.args.parent c.args.index c.if-level-gt0.false (omega (arith, c.len.ensures))

pub returns-else-index-len-clause-found : goal.returns-else-index-len-clause-found
returns-else-index-len-clause-found g c =
    let s = c.args.self.now in root_none s.offsets s.globals s.firsts.items s.starts.items c.args.level c.args.parent c.args.index c.if-level-gt0.false (omega (arith, c.len.ensures))
