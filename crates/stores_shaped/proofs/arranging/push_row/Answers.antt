use Rattle.std.proofs.Common.{◌≡◌, ◌++◌, ◌∷◌, [], ◌+◌, ◌<◌, get_or, length, ap, ◌∙◌, arith}
use Rattle.format_model.specs.Elements.{entry_at}
use Rattle.stores_packed.proofs.TreeLemmas.{read_at}
use Rattle.stores_shaped.proofs.ArrangeLemmas.{copied_more}
use Rattle.stores_shaped.proofs.arranging.push_row.Goals as goal

pub copying-preserved : goal.copying-preserved
copying-preserved c =
    let f = c.args.filled.now in
    let k = c.copying.k in
    let to : c.index-to.result.now ≡ get_or f.starts.items (c.args.row + 1) 0 = read_at f.starts.items (c.args.row + 1) (length f.starts.items) c.index-to.result.now c.requires.row (omega arith) c.index-to.ensures in
    let low : k < length f.indices.items = omega (arith, to) in
    let col : c.index.result.now ≡ get_or f.indices.items k 0 = read_at f.indices.items k (length f.indices.items) c.index.result.now low (omega arith) c.index.ensures in
    let value : c.index-in-copying.result.now ≡ get_or f.values.items k 0 = read_at f.values.items k (length f.indices.items) c.index-in-copying.result.now low (omega arith) c.index-in-copying.ensures in
    c.in_ok-push.ensures.items
    ∙ ap (λ x. c.copying.entries.items ++ entry_at c.args.place x c.index-in-copying.result.now ∷ []) col
    ∙ ap (λ x. c.copying.entries.items ++ entry_at c.args.place (get_or f.indices.items k 0) x ∷ []) value
    ∙ copied_more f.indices.items f.values.items c.index-from.result.now k c.args.place c.args.entries.now.items c.copying.entries.items c.copying.auto.k c.copying.invariant
